-- The spelling of a tree in front of what follows it, which computes, and that it is the text of the grammar.
use Rattle.std.proofs.Common.{◌≡◌, ℕ, ◌+◌, List, [], ◌∷◌, ◌++◌, Bool, true, false, Option, Some, None, refl, sym, ap, ◌∙◌, append_assoc}
use Rattle.std.specs.Prelude.{flat_map, if◌then◌else◌}
use Rattle.json_scalar.specs.Text.{Piece, plain, escape, unit, pair, escape_letter, piece_text, string_text}
use Rattle.json_scalar.specs.Number.{Digit, Digits, Whole, nought, counted, Sign, unsigned, plus, minus, Exponent, Literal, digits_text, whole_digits, all_digits, sign_text, fraction_text, exponent_text, literal_text}
use Rattle.json_span.specs.Grammar as json
use Rattle.json_span.specs.Grammar.{Space, space_byte, space_text, Value, Items, Members, value_text, items_text, members_text}

abbrev pub blanks : List Space → List ℕ → List ℕ
blanks [] rest = rest
blanks (s ∷ ss) rest = space_byte s ∷ blanks ss rest

abbrev pub digits_then : List Digit → List ℕ → List ℕ
digits_then [] rest = rest
digits_then (d ∷ ds) rest = (48 + d.value) ∷ digits_then ds rest

abbrev pub minus_then : Bool → List ℕ → List ℕ
minus_then true rest = 45 ∷ rest
minus_then false rest = rest

abbrev pub whole_then : Whole → List ℕ → List ℕ
whole_then nought rest = 48 ∷ rest
whole_then (counted first above others) rest = (48 + first.value) ∷ digits_then others rest

abbrev pub fraction_then : Option Digits → List ℕ → List ℕ
fraction_then None rest = rest
fraction_then (Some d) rest = 46 ∷ (48 + d.first.value) ∷ digits_then d.others rest

abbrev pub sign_then : Sign → List ℕ → List ℕ
sign_then unsigned rest = rest
sign_then plus rest = 43 ∷ rest
sign_then minus rest = 45 ∷ rest

abbrev pub mark_byte : Bool → ℕ
mark_byte true = 69
mark_byte false = 101

abbrev pub exponent_then : Option Exponent → List ℕ → List ℕ
exponent_then None rest = rest
exponent_then (Some e) rest = mark_byte e.is_capital ∷ sign_then e.sign ((48 + e.digits.first.value) ∷ digits_then e.digits.others rest)

abbrev pub literal_then : Literal → List ℕ → List ℕ
literal_then l rest = minus_then l.is_negative (whole_then l.whole (fraction_then l.fraction (exponent_then l.exponent rest)))

abbrev pub piece_then : Piece → List ℕ → List ℕ
piece_then (plain b is) rest = b ∷ rest
piece_then (escape e) rest = 92 ∷ escape_letter e ∷ rest
piece_then (unit a b c d is) rest = 92 ∷ 117 ∷ a ∷ b ∷ c ∷ d ∷ rest
piece_then (pair a b c d high e f g h low) rest = 92 ∷ 117 ∷ a ∷ b ∷ c ∷ d ∷ 92 ∷ 117 ∷ e ∷ f ∷ g ∷ h ∷ rest

abbrev pub pieces_then : List Piece → List ℕ → List ℕ
pieces_then [] rest = rest
pieces_then (p ∷ ps) rest = piece_then p (pieces_then ps rest)

abbrev pub string_then : List Piece → List ℕ → List ℕ
string_then ps rest = 34 ∷ pieces_then ps (34 ∷ rest)

-- a key and a value, from the white space before the key
abbrev pub member_then : List Space → List Piece → List Space → List Space → (List ℕ → List ℕ) → List Space → List ℕ → List ℕ
member_then before key behind ahead value after rest = blanks before (string_then key (blanks behind (58 ∷ blanks ahead (value (blanks after rest)))))

abbrev mutual
  pub value_then : Value → List ℕ → List ℕ
  value_then json.null rest = 110 ∷ 117 ∷ 108 ∷ 108 ∷ rest
  value_then json.yes rest = 116 ∷ 114 ∷ 117 ∷ 101 ∷ rest
  value_then json.no rest = 102 ∷ 97 ∷ 108 ∷ 115 ∷ 101 ∷ rest
  value_then (json.number l) rest = literal_then l rest
  value_then (json.string ps) rest = string_then ps rest
  value_then (json.empty_array ss) rest = 91 ∷ blanks ss (93 ∷ rest)
  value_then (json.array before v after items) rest = 91 ∷ blanks before (value_then v (blanks after (items_then items rest)))
  value_then (json.empty_object ss) rest = 123 ∷ blanks ss (125 ∷ rest)
  value_then (json.object before key behind ahead v after members) rest = 123 ∷ blanks before (string_then key (blanks behind (58 ∷ blanks ahead (value_then v (blanks after (members_then members rest))))))

  pub items_then : Items → List ℕ → List ℕ
  items_then json.end_array rest = 93 ∷ rest
  items_then (json.item before v after items) rest = 44 ∷ blanks before (value_then v (blanks after (items_then items rest)))

  pub members_then : Members → List ℕ → List ℕ
  members_then json.end_object rest = 125 ∷ rest
  members_then (json.member before key behind ahead v after members) rest = 44 ∷ blanks before (string_then key (blanks behind (58 ∷ blanks ahead (value_then v (blanks after (members_then members rest))))))

-- a front before a tail
pub joined : (f : List ℕ → List ℕ) (front : List ℕ) → ((r : List ℕ) → f r ≡ front ++ r) → (tail text rest : List ℕ) → tail ≡ text ++ rest → f tail ≡ (front ++ text) ++ rest
joined f front h tail text rest e = h tail ∙ ap (λ (x : List ℕ). front ++ x) e ∙ sym (append_assoc front text rest)

pub blanks-is : (ss : List Space) (rest : List ℕ) → blanks ss rest ≡ space_text ss ++ rest
blanks-is [] rest = refl
blanks-is (s ∷ ss) rest = ap (λ (x : List ℕ). space_byte s ∷ x) (blanks-is ss rest)

digits_then-is : (ds : List Digit) (rest : List ℕ) → digits_then ds rest ≡ digits_text ds ++ rest
digits_then-is [] rest = refl
digits_then-is (d ∷ ds) rest = ap (λ (x : List ℕ). (48 + d.value) ∷ x) (digits_then-is ds rest)

minus_then-is : (b : Bool) (rest : List ℕ) → minus_then b rest ≡ (if b then 45 ∷ [] else []) ++ rest
minus_then-is true rest = refl
minus_then-is false rest = refl

whole_then-is : (w : Whole) (rest : List ℕ) → whole_then w rest ≡ digits_text (whole_digits w) ++ rest
whole_then-is nought rest = refl
whole_then-is (counted first above others) rest = ap (λ (x : List ℕ). (48 + first.value) ∷ x) (digits_then-is others rest)

fraction_then-is : (f : Option Digits) (rest : List ℕ) → fraction_then f rest ≡ fraction_text f ++ rest
fraction_then-is None rest = refl
fraction_then-is (Some d) rest = ap (λ (x : List ℕ). 46 ∷ (48 + d.first.value) ∷ x) (digits_then-is d.others rest)

sign_then-is : (s : Sign) (rest : List ℕ) → sign_then s rest ≡ sign_text s ++ rest
sign_then-is unsigned rest = refl
sign_then-is plus rest = refl
sign_then-is minus rest = refl

mark_byte-is : (b : Bool) → mark_byte b ≡ (if b then 69 else 101)
mark_byte-is true = refl
mark_byte-is false = refl

exponent_then-is : (e : Option Exponent) (rest : List ℕ) → exponent_then e rest ≡ exponent_text e ++ rest
exponent_then-is None rest = refl
exponent_then-is (Some e) rest =
    ap (λ (m : ℕ). m ∷ sign_then e.sign ((48 + e.digits.first.value) ∷ digits_then e.digits.others rest)) (mark_byte-is e.is_capital)
    ∙ ap (λ (x : List ℕ). (if e.is_capital then 69 else 101) ∷ x)
    (joined (sign_then e.sign) (sign_text e.sign) (sign_then-is e.sign) ((48 + e.digits.first.value) ∷ digits_then e.digits.others rest) (digits_text (all_digits e.digits)) rest
    (ap (λ (x : List ℕ). (48 + e.digits.first.value) ∷ x) (digits_then-is e.digits.others rest)))

pub literal_then-is : (l : Literal) (rest : List ℕ) → literal_then l rest ≡ literal_text l ++ rest
literal_then-is l rest =
    joined (minus_then l.is_negative) (if l.is_negative then 45 ∷ [] else []) (minus_then-is l.is_negative) (whole_then l.whole (fraction_then l.fraction (exponent_then l.exponent rest))) (digits_text (whole_digits l.whole) ++ (fraction_text l.fraction ++ exponent_text l.exponent)) rest
    (joined (whole_then l.whole) (digits_text (whole_digits l.whole)) (whole_then-is l.whole) (fraction_then l.fraction (exponent_then l.exponent rest)) (fraction_text l.fraction ++ exponent_text l.exponent) rest
    (joined (fraction_then l.fraction) (fraction_text l.fraction) (fraction_then-is l.fraction) (exponent_then l.exponent rest) (exponent_text l.exponent) rest (exponent_then-is l.exponent rest)))

piece_then-is : (p : Piece) (rest : List ℕ) → piece_then p rest ≡ piece_text p ++ rest
piece_then-is (plain b is) rest = refl
piece_then-is (escape e) rest = refl
piece_then-is (unit a b c d is) rest = refl
piece_then-is (pair a b c d high e f g h low) rest = refl

pieces_then-is : (ps : List Piece) (rest : List ℕ) → pieces_then ps rest ≡ flat_map piece_text ps ++ rest
pieces_then-is [] rest = refl
pieces_then-is (p ∷ ps) rest = joined (piece_then p) (piece_text p) (piece_then-is p) (pieces_then ps rest) (flat_map piece_text ps) rest (pieces_then-is ps rest)

pub string_then-is : (ps : List Piece) (rest : List ℕ) → string_then ps rest ≡ string_text ps ++ rest
string_then-is ps rest = ap (λ (x : List ℕ). 34 ∷ x) (joined (pieces_then ps) (flat_map piece_text ps) (pieces_then-is ps) (34 ∷ rest) (34 ∷ []) rest refl)

-- a member before what follows it
module _ (before : List Space) (key : List Piece) (behind ahead : List Space) (value : List ℕ → List ℕ) (value_is : List ℕ) (h : (r : List ℕ) → value r ≡ value_is ++ r) (after : List Space) where
  pub member_then-is : (tail text rest : List ℕ) → tail ≡ text ++ rest → member_then before key behind ahead value after tail ≡ (space_text before ++ (string_text key ++ (space_text behind ++ 58 ∷ (space_text ahead ++ (value_is ++ (space_text after ++ text)))))) ++ rest
  member_then-is tail text rest e =
      let e1 : value (blanks after tail) ≡ (value_is ++ (space_text after ++ text)) ++ rest = joined value value_is h (blanks after tail) (space_text after ++ text) rest (joined (blanks after) (space_text after) (blanks-is after) tail text rest e) in
      let e2 : 58 ∷ blanks ahead (value (blanks after tail)) ≡ (58 ∷ (space_text ahead ++ (value_is ++ (space_text after ++ text)))) ++ rest = ap (λ (x : List ℕ). 58 ∷ x) (joined (blanks ahead) (space_text ahead) (blanks-is ahead) (value (blanks after tail)) (value_is ++ (space_text after ++ text)) rest e1) in
      joined (blanks before) (space_text before) (blanks-is before) (string_then key (blanks behind (58 ∷ blanks ahead (value (blanks after tail))))) (string_text key ++ (space_text behind ++ 58 ∷ (space_text ahead ++ (value_is ++ (space_text after ++ text))))) rest
      (joined (string_then key) (string_text key) (string_then-is key) (blanks behind (58 ∷ blanks ahead (value (blanks after tail)))) (space_text behind ++ 58 ∷ (space_text ahead ++ (value_is ++ (space_text after ++ text)))) rest
      (joined (blanks behind) (space_text behind) (blanks-is behind) (58 ∷ blanks ahead (value (blanks after tail))) (58 ∷ (space_text ahead ++ (value_is ++ (space_text after ++ text)))) rest e2))

mutual
  pub value_then-is : (v : Value) (rest : List ℕ) → value_then v rest ≡ value_text v ++ rest
  value_then-is json.null rest = refl
  value_then-is json.yes rest = refl
  value_then-is json.no rest = refl
  value_then-is (json.number l) rest = literal_then-is l rest
  value_then-is (json.string ps) rest = string_then-is ps rest
  value_then-is (json.empty_array ss) rest = ap (λ (x : List ℕ). 91 ∷ x) (joined (blanks ss) (space_text ss) (blanks-is ss) (93 ∷ rest) (93 ∷ []) rest refl)
  value_then-is (json.array before v after items) rest =
      ap (λ (x : List ℕ). 91 ∷ x) (joined (blanks before) (space_text before) (blanks-is before) (value_then v (blanks after (items_then items rest))) (value_text v ++ (space_text after ++ items_text items)) rest
      (joined (value_then v) (value_text v) (value_then-is v) (blanks after (items_then items rest)) (space_text after ++ items_text items) rest
      (joined (blanks after) (space_text after) (blanks-is after) (items_then items rest) (items_text items) rest (items_then-is items rest))))
  value_then-is (json.empty_object ss) rest = ap (λ (x : List ℕ). 123 ∷ x) (joined (blanks ss) (space_text ss) (blanks-is ss) (125 ∷ rest) (125 ∷ []) rest refl)
  value_then-is (json.object before key behind ahead v after members) rest =
      ap (λ (x : List ℕ). 123 ∷ x) (member_then-is before key behind ahead (value_then v) (value_text v) (value_then-is v) after (members_then members rest) (members_text members) rest (members_then-is members rest))

  pub items_then-is : (items : Items) (rest : List ℕ) → items_then items rest ≡ items_text items ++ rest
  items_then-is json.end_array rest = refl
  items_then-is (json.item before v after items) rest =
      ap (λ (x : List ℕ). 44 ∷ x) (joined (blanks before) (space_text before) (blanks-is before) (value_then v (blanks after (items_then items rest))) (value_text v ++ (space_text after ++ items_text items)) rest
      (joined (value_then v) (value_text v) (value_then-is v) (blanks after (items_then items rest)) (space_text after ++ items_text items) rest
      (joined (blanks after) (space_text after) (blanks-is after) (items_then items rest) (items_text items) rest (items_then-is items rest))))

  pub members_then-is : (members : Members) (rest : List ℕ) → members_then members rest ≡ members_text members ++ rest
  members_then-is json.end_object rest = refl
  members_then-is (json.member before key behind ahead v after members) rest =
      ap (λ (x : List ℕ). 44 ∷ x) (member_then-is before key behind ahead (value_then v) (value_text v) (value_then-is v) after (members_then members rest) (members_text members) rest (members_then-is members rest))

-- the whole text of a value between white space
pub text-is : (before : List Space) (v : Value) (after : List Space) (rest : List ℕ) → blanks before (value_then v (blanks after rest)) ≡ (space_text before ++ (value_text v ++ space_text after)) ++ rest
text-is before v after rest =
    joined (blanks before) (space_text before) (blanks-is before) (value_then v (blanks after rest)) (value_text v ++ space_text after) rest
    (joined (value_then v) (value_text v) (value_then-is v) (blanks after rest) (space_text after) rest (blanks-is after rest))
