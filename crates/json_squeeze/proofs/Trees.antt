-- What squeezing does to the spelling of a tree.
use Rattle.std.proofs.Common.{◌≡◌, ℕ, suc, ◌+◌, max, List, [], ◌∷◌, ◌++◌, Bool, true, false, not, ◌&&◌, Option, Some, None, refl, sym, ap, ◌∙◌, arith, append_assoc, append-nil}
use Rattle.std.specs.Prelude.{flat_map, ◌==◌, if◌then◌else◌}
use Rattle.std.specs.Char.{is_digit}
use Rattle.std.proofs.lemmas.Bool.Decides.{nat_tests}
use Rattle.json_scalar.specs.Text.{Piece, plain, escape, unit, pair, quotation_mark, backslash, slash, backspace, form_feed, line_feed, carriage_return, tab, is_plain, are_hex, code_unit, is_high_surrogate, is_low_surrogate, unit_text, piece_text, string_text}
use Rattle.json_scalar.specs.Number.{Digit, Sign, unsigned, plus, minus, Exponent, Digits, Literal, digits_text, whole_digits, all_digits, sign_text, fraction_text, exponent_text, literal_text}
use Rattle.json_span.specs.Grammar as json
use Rattle.json_span.specs.Grammar.{Space, space_text, Value, Items, Members, value_text, items_text, members_text, depth, items_depth, members_depth}
use Rattle.json_span.specs.Members.{IsObjectValue, members_of}
use Rattle.json_span.specs.Elements.{IsArrayValue, elements_of}
use Rattle.json_squeeze.specs.Squeeze.{is_space, squeezed, in_string}
use Rattle.json_squeeze.specs.Dense.{dense, dense_items, dense_members, dense_text, IsSpelling, StaysObject, StaysArray, SqueezesValues, SqueezesAlike}
use Rattle.json_squeeze.proofs.Bytes.{equal, squeezed-shown, in_string-plain}
use Rattle.json_squeeze.proofs.Utf8.{squeezed-utf8}

-- whatever follows, the first text squeezes to the second
record Squeezes (x y : List ℕ) : Type 0 where
  at : (rest : List ℕ) → squeezed (x ++ rest) ≡ y ++ squeezed rest

none : Squeezes [] []
none = record { at = λ rest. refl }

join : {x y x' y' : List ℕ} → Squeezes x y → Squeezes x' y' → Squeezes (x ++ x') (y ++ y')
join {x} {y} {x'} {y'} p q = record { at = λ rest. ap squeezed (append_assoc x x' rest) ∙ p.at (x' ++ rest) ∙ ap (λ (l : List ℕ). y ++ l) (q.at rest) ∙ sym (append_assoc y y' (squeezed rest)) }

first : (b : ℕ) {x y : List ℕ} → (b == 34) ≡ false → is_space b ≡ false → Squeezes x y → Squeezes (b ∷ x) (b ∷ y)
first b {x} {y} e f p = record { at = λ rest. squeezed-shown b (x ++ rest) e f ∙ ap (λ (l : List ℕ). b ∷ l) (p.at rest) }

spaces : (ss : List Space) → Squeezes (space_text ss) []
spaces ss = record { at = go ss }
  where
    go : (ss : List Space) (rest : List ℕ) → squeezed (space_text ss ++ rest) ≡ squeezed rest
    go [] rest = refl
    go (json.blank ∷ ss) rest = go ss rest
    go (json.tab ∷ ss) rest = go ss rest
    go (json.newline ∷ ss) rest = go ss rest
    go (json.carriage_return ∷ ss) rest = go ss rest

-- numbers

digit_unquoted : (v : ℕ) → ((48 + v) == 34) ≡ false
digit_unquoted v = grind (arith, nat_tests)

digit_shown : (v : ℕ) → is_space (48 + v) ≡ false
digit_shown v = grind (arith, nat_tests)

digits : (ds : List Digit) → Squeezes (digits_text ds) (digits_text ds)
digits [] = none
digits (d ∷ ds) = first (48 + d.value) (digit_unquoted d.value) (digit_shown d.value) (digits ds)

negative : (is : Bool) → Squeezes (if is then 45 ∷ [] else []) (if is then 45 ∷ [] else [])
negative true = first 45 refl refl none
negative false = none

fraction : (f : Option Digits) → Squeezes (fraction_text f) (fraction_text f)
fraction None = none
fraction (Some ds) = first 46 refl refl (digits (all_digits ds))

sign : (s : Sign) → Squeezes (sign_text s) (sign_text s)
sign unsigned = none
sign plus = first 43 refl refl none
sign minus = first 45 refl refl none

mark : (capital : Bool) {x : List ℕ} → Squeezes x x → Squeezes ((if capital then 69 else 101) ∷ x) ((if capital then 69 else 101) ∷ x)
mark true p = first 69 refl refl p
mark false p = first 101 refl refl p

exponent : (e : Option Exponent) → Squeezes (exponent_text e) (exponent_text e)
exponent None = none
exponent (Some e) = mark e.is_capital (join (sign e.sign) (digits (all_digits e.digits)))

literal : (l : Literal) → Squeezes (literal_text l) (literal_text l)
literal l = join (negative l.is_negative) (join (digits (whole_digits l.whole)) (join (fraction l.fraction) (exponent l.exponent)))

-- strings: whatever follows, a text in a string stays

record Stays (x : List ℕ) : Type 0 where
  at : (rest : List ℕ) → in_string (x ++ rest) ≡ x ++ in_string rest

nothing : Stays []
nothing = record { at = λ rest. refl }

both : {x y : List ℕ} → Stays x → Stays y → Stays (x ++ y)
both {x} {y} p q = record { at = λ rest. ap in_string (append_assoc x y rest) ∙ p.at (y ++ rest) ∙ ap (λ (l : List ℕ). x ++ l) (q.at rest) ∙ sym (append_assoc x y (in_string rest)) }

byte : (b : ℕ) {x : List ℕ} → (b == 34) ≡ false → (b == 92) ≡ false → Stays x → Stays (b ∷ x)
byte b {x} e f p = record { at = λ rest. in_string-plain b (x ++ rest) e f ∙ ap (λ (l : List ℕ). b ∷ l) (p.at rest) }

plain_unquoted : (b : ℕ) → is_plain b ≡ true → (b == 34) ≡ false
plain_unquoted b is = grind (arith, nat_tests)

plain_unescaped : (b : ℕ) → is_plain b ≡ true → (b == 92) ≡ false
plain_unescaped b is = grind (arith, nat_tests)

-- no hexadecimal digit is a quotation mark or a backslash
not_digit : (b n : ℕ) → is_digit n 16 ≡ false → is_digit b 16 ≡ true → (b == n) ≡ false
not_digit b n unlike is = by_case (b == n) refl
  where
    by_case : (x : Bool) → (b == n) ≡ x → x ≡ false
    by_case true e = let same : is_digit b 16 ≡ is_digit n 16 = ap (λ (m : ℕ). is_digit m 16) (equal b n e) in cc (same, unlike, is)
    by_case false e = refl

hex : (b : ℕ) {x : List ℕ} → is_digit b 16 ≡ true → Stays x → Stays (b ∷ x)
hex b is p = byte b (not_digit b 34 refl is) (not_digit b 92 refl is) p

left_test : (x y : Bool) → (x && y) ≡ true → x ≡ true
left_test true y e = refl
left_test false y e = cc

right_test : (x y : Bool) → (x && y) ≡ true → y ≡ true
right_test true y e = e
right_test false y e = cc

hexes : (a b c d : ℕ) → are_hex a b c d ≡ true → Stays (a ∷ b ∷ c ∷ d ∷ [])
hexes a b c d is =
    let is2 = right_test (is_digit a 16) (is_digit b 16 && (is_digit c 16 && is_digit d 16)) is in
    let is3 = right_test (is_digit b 16) (is_digit c 16 && is_digit d 16) is2 in
    hex a (left_test (is_digit a 16) (is_digit b 16 && (is_digit c 16 && is_digit d 16)) is)
    (hex b (left_test (is_digit b 16) (is_digit c 16 && is_digit d 16) is2)
    (hex c (left_test (is_digit c 16) (is_digit d 16) is3) (hex d (right_test (is_digit c 16) (is_digit d 16) is3) nothing)))

units : (a b c d : ℕ) → are_hex a b c d ≡ true → Stays (unit_text a b c d)
units a b c d is = let four = hexes a b c d is in record { at = λ rest. ap (λ (l : List ℕ). 92 ∷ 117 ∷ l) (four.at rest) }

piece : (p : Piece) → Stays (piece_text p)
piece (plain b is) = byte b (plain_unquoted b is) (plain_unescaped b is) nothing
piece (escape quotation_mark) = record { at = λ rest. refl }
piece (escape backslash) = record { at = λ rest. refl }
piece (escape slash) = record { at = λ rest. refl }
piece (escape backspace) = record { at = λ rest. refl }
piece (escape form_feed) = record { at = λ rest. refl }
piece (escape line_feed) = record { at = λ rest. refl }
piece (escape carriage_return) = record { at = λ rest. refl }
piece (escape tab) = record { at = λ rest. refl }
piece (unit a b c d is) = units a b c d (left_test (are_hex a b c d) (not (is_high_surrogate (code_unit a b c d)) && not (is_low_surrogate (code_unit a b c d))) is)
piece (pair a b c d high e f g h low) = both (units a b c d (left_test (are_hex a b c d) (is_high_surrogate (code_unit a b c d)) high)) (units e f g h (left_test (are_hex e f g h) (is_low_surrogate (code_unit e f g h)) low))

pieces : (ps : List Piece) → Stays (flat_map piece_text ps)
pieces [] = nothing
pieces (p ∷ ps) = both (piece p) (pieces ps)

string : (ps : List Piece) → Squeezes (string_text ps) (string_text ps)
string ps =
    let inside = pieces ps in
    let x = flat_map piece_text ps in
    record { at = λ rest. ap (λ (l : List ℕ). 34 ∷ l) (ap in_string (append_assoc x (34 ∷ []) rest) ∙ inside.at (34 ∷ rest) ∙ sym (append_assoc x (34 ∷ []) (squeezed rest))) }

-- values

mutual
  value : (v : Value) → Squeezes (value_text v) (value_text (dense v))
  value json.null = record { at = λ rest. refl }
  value json.yes = record { at = λ rest. refl }
  value json.no = record { at = λ rest. refl }
  value (json.number l) = literal l
  value (json.string ps) = string ps
  value (json.empty_array ss) = first 91 refl refl (join (spaces ss) (first 93 refl refl none))
  value (json.array before v after items) = first 91 refl refl (join (spaces before) (join (value v) (join (spaces after) (more_items items))))
  value (json.empty_object ss) = first 123 refl refl (join (spaces ss) (first 125 refl refl none))
  value (json.object before key behind ahead v after members) =
      first 123 refl refl (join (spaces before) (join (string key) (join (spaces behind) (first 58 refl refl (join (spaces ahead) (join (value v) (join (spaces after) (more_members members))))))))

  more_items : (items : Items) → Squeezes (items_text items) (items_text (dense_items items))
  more_items json.end_array = first 93 refl refl none
  more_items (json.item before v after items) = first 44 refl refl (join (spaces before) (join (value v) (join (spaces after) (more_items items))))

  more_members : (members : Members) → Squeezes (members_text members) (members_text (dense_members members))
  more_members json.end_object = first 125 refl refl none
  more_members (json.member before key behind ahead v after members) =
      first 44 refl refl (join (spaces before) (join (string key) (join (spaces behind) (first 58 refl refl (join (spaces ahead) (join (value v) (join (spaces after) (more_members members))))))))

-- the text of a value squeezes to the text of the same tree without white space
pub squeezed-value : (text : List ℕ) (v : Value) → IsSpelling text v → squeezed text ≡ dense_text v
squeezed-value text v s =
    let body = value v in
    let front = spaces s.before in
    let back = spaces s.after in
    ap squeezed s.spelled
    ∙ front.at (value_text v ++ space_text s.after)
    ∙ body.at (space_text s.after)
    ∙ ap (λ (l : List ℕ). dense_text v ++ l) (ap squeezed (sym (append-nil (space_text s.after))) ∙ back.at [])
    ∙ append-nil (dense_text v)

mutual
  dense-depth : (v : Value) → depth (dense v) ≡ depth v
  dense-depth json.null = refl
  dense-depth json.yes = refl
  dense-depth json.no = refl
  dense-depth (json.number l) = refl
  dense-depth (json.string ps) = refl
  dense-depth (json.empty_array ss) = refl
  dense-depth (json.array before v after items) = ap (λ (n : ℕ). suc (max n (items_depth (dense_items items)))) (dense-depth v) ∙ ap (λ (n : ℕ). suc (max (depth v) n)) (dense-items_depth items)
  dense-depth (json.empty_object ss) = refl
  dense-depth (json.object before key behind ahead v after members) = ap (λ (n : ℕ). suc (max n (members_depth (dense_members members)))) (dense-depth v) ∙ ap (λ (n : ℕ). suc (max (depth v) n)) (dense-members_depth members)

  dense-items_depth : (items : Items) → items_depth (dense_items items) ≡ items_depth items
  dense-items_depth json.end_array = refl
  dense-items_depth (json.item before v after items) = ap (λ (n : ℕ). max n (items_depth (dense_items items))) (dense-depth v) ∙ ap (λ (n : ℕ). max (depth v) n) (dense-items_depth items)

  dense-members_depth : (members : Members) → members_depth (dense_members members) ≡ members_depth members
  dense-members_depth json.end_object = refl
  dense-members_depth (json.member before key behind ahead v after members) = ap (λ (n : ℕ). max n (members_depth (dense_members members))) (dense-depth v) ∙ ap (λ (n : ℕ). max (depth v) n) (dense-members_depth members)

dense-object : (v : Value) → IsObjectValue v → IsObjectValue (dense v)
dense-object (json.empty_object ss) is = tt
dense-object (json.object before key behind ahead v after members) is = tt
dense-object _ is = absurd is

dense-array : (v : Value) → IsArrayValue v → IsArrayValue (dense v)
dense-array (json.empty_array ss) is = tt
dense-array (json.array before v after items) is = tt
dense-array _ is = absurd is

pub squeezes : SqueezesValues
squeezes text v s = record {
  spelled = squeezed-value text v s;
  value = λ u. record { utf8 = squeezed-utf8 text u; value = dense v; spelled = squeezed-value text v s };
  same_depth = dense-depth v;
  object = dense-object v;
  array = dense-array v;
}

pub alike : SqueezesAlike
alike one other v w s t e = squeezed-value one v s ∙ ap (λ (u : Value). value_text u) e ∙ sym (squeezed-value other w t)

-- an object, and an array, as they stand in the squeezed text
pub stays_object : (text : List ℕ) → StaysObject text (squeezed text)
stays_object text deep members o =
    let v = o.value in
    let spells = o.spells in
    let spelling : IsSpelling text v = record { before = o.before; after = o.after; spelled = spells.spelled } in (
      members_of 0 (dense v),
      record {
        before = [];
        value = dense v;
        after = [];
        spells = record { utf8 = squeezed-utf8 text spells.utf8; object = dense-object v spells.object; spelled = squeezed-value text v spelling ∙ sym (append-nil (dense_text v)) };
        deepest = o.deepest ∙ sym (dense-depth v);
        places = refl;
      },
    )

pub stays_array : (text : List ℕ) → StaysArray text (squeezed text)
stays_array text deep spans o =
    let v = o.value in
    let spells = o.spells in
    let spelling : IsSpelling text v = record { before = o.before; after = o.after; spelled = spells.spelled } in (
      elements_of 0 (dense v),
      record {
        before = [];
        value = dense v;
        after = [];
        spells = record { utf8 = squeezed-utf8 text spells.utf8; array = dense-array v spells.array; spelled = squeezed-value text v spelling ∙ sym (append-nil (dense_text v)) };
        deepest = o.deepest ∙ sym (dense-depth v);
        places = refl;
      },
    )
