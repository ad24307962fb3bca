-- The key and the value of each member, as parts of the text.
use Rattle.std.proofs.Common.{◌≡◌, ℕ, suc, ◌+◌, ◌-◌, ◌<◌, ◌≤◌, List, [], ◌∷◌, ◌++◌, Bool, true, false, length, take, drop, get_or, refl, sym, ap, subst, ◌∙◌, arith, length-append, append_assoc, lit<}
use Rattle.std.specs.Prelude.{slice_range, flat_map, IsUtf8, All}
use Rattle.std.specs.List.{AllByRecursion}
use Rattle.std.specs.Str.{IsCharBoundary}
use Rattle.std.proofs.Math.Seq.{take-append_seam, drop-append_seam}
use Rattle.std.proofs.lemmas.List.Elements.{All-from_recursion}
use Rattle.std.proofs.lemmas.Str.{IsUtf8-between, IsCharBoundary-before_ascii}
use Rattle.json_scalar.specs.Text.{Piece, piece_meaning, string_text}
use Rattle.json_scalar.specs.Number.{Whole, nought, counted}
use Rattle.json_span.specs.Grammar as json
use Rattle.json_span.specs.Grammar.{Space, space_text, Value, Members, value_text, depth, members_depth, member_at, member_end, members_from}
use Rattle.json_span.specs.Members.{IsObject, IsObjectValue, IsMemberOf, IsWithin, members_of}
use Rattle.json_span.specs.declared.Member.{Member}
use Rattle.json_span.proofs.Spelling.{joined, blanks, string_then, whole_then, minus_then, fraction_then, exponent_then, value_then, members_then, blanks-is, string_then-is, value_then-is}
use Rattle.json_span.proofs.Theorems.{spelled_then}

-- the text goes on with a byte below 128
abbrev pub IsAsciiNext : List ℕ → Type 0
IsAsciiNext [] = ⊥
IsAsciiNext (b ∷ bs) = b < 128

pub next_blanks : (ss : List Space) (rest : List ℕ) → IsAsciiNext rest → IsAsciiNext (blanks ss rest)
next_blanks [] rest h = h
next_blanks (json.blank ∷ ss) rest h = lit< tt
next_blanks (json.tab ∷ ss) rest h = lit< tt
next_blanks (json.newline ∷ ss) rest h = lit< tt
next_blanks (json.carriage_return ∷ ss) rest h = lit< tt

next_members : (members : Members) (rest : List ℕ) → IsAsciiNext (members_then members rest)
next_members json.end_object rest = lit< tt
next_members (json.member before key behind ahead v after members) rest = lit< tt

next_number : (negative : Bool) (w : Whole) (rest : List ℕ) → IsAsciiNext (minus_then negative (whole_then w rest))
next_number true w rest = lit< tt
next_number false nought rest = lit< tt
next_number false (counted first above others) rest = let small = first.small in omega arith

pub next_value : (v : Value) (rest : List ℕ) → IsAsciiNext (value_then v rest)
next_value json.null rest = lit< tt
next_value json.yes rest = lit< tt
next_value json.no rest = lit< tt
next_value (json.number l) rest = next_number l.is_negative l.whole (fraction_then l.fraction (exponent_then l.exponent rest))
next_value (json.string ps) rest = lit< tt
next_value (json.empty_array ss) rest = lit< tt
next_value (json.array before v after items) rest = lit< tt
next_value (json.empty_object ss) rest = lit< tt
next_value (json.object before key behind ahead v after members) rest = lit< tt

get_or-seam : (front : List ℕ) (b : ℕ) (back : List ℕ) → get_or (front ++ b ∷ back) (length front) 0 ≡ b
get_or-seam [] b back = refl
get_or-seam (x ∷ front) b back = get_or-seam front b back

-- there no character is cut
seam : (text front rest : List ℕ) → text ≡ front ++ rest → IsAsciiNext rest → IsCharBoundary text (length front)
seam text front [] e h = absurd h
seam text front (b ∷ rest) e h =
    let size : length text ≡ length front + suc (length rest) = ap (λ (l : List ℕ). length l) e ∙ length-append front (b ∷ rest) in
    let small : get_or text (length front) 0 < 128 = subst (λ (n : ℕ). n < 128) (sym (ap (λ (l : List ℕ). get_or l (length front) 0) e ∙ get_or-seam front b rest)) h in
    IsCharBoundary-before_ascii text (length front) (omega arith) small

-- a part of the text, by the places where it begins and ends
pub part_at : (text front mid back : List ℕ) (from to : ℕ) → text ≡ front ++ (mid ++ back) → from ≡ length front → to ≡ from + length mid → slice_range text from to ≡ mid
part_at text front mid back from to e f g =
    let size : to - from ≡ length mid = omega arith in
    ap (λ (n : ℕ). take n (drop from text)) size
    ∙ ap (λ (n : ℕ). take (length mid) (drop n text)) f
    ∙ ap (λ (l : List ℕ). take (length mid) (drop (length front) l)) e
    ∙ ap (λ (l : List ℕ). take (length mid) l) (drop-append_seam front (mid ++ back))
    ∙ take-append_seam mid back

pub part_utf8 : (text front mid back : List ℕ) (from to : ℕ) → IsUtf8 text → text ≡ front ++ (mid ++ back) → from ≡ length front → to ≡ from + length mid → IsAsciiNext (mid ++ back) → IsAsciiNext back → IsUtf8 (slice_range text from to)
part_utf8 text front mid back from to u e f g h k =
    let e2 : text ≡ (front ++ mid) ++ back = e ∙ sym (append_assoc front mid back) in
    let start : IsCharBoundary text from = subst (λ (n : ℕ). IsCharBoundary text n) (sym f) (seam text front (mid ++ back) e h) in
    let size : length (front ++ mid) ≡ to = length-append front mid ∙ ap (λ (n : ℕ). n + length mid) (sym f) ∙ sym g in
    let end : IsCharBoundary text to = subst (λ (n : ℕ). IsCharBoundary text n) size (seam text (front ++ mid) back e2 k) in
    IsUtf8-between text from to u (omega arith) start end

pub part_within : (text front mid back : List ℕ) (from to : ℕ) → text ≡ front ++ (mid ++ back) → from ≡ length front → to ≡ from + length mid → IsWithin (length text) record { start = from; end = to }
part_within text front mid back from to e f g =
    let size : length text ≡ length front + length (mid ++ back) = ap (λ (l : List ℕ). length l) e ∙ length-append front (mid ++ back) in
    let rest : length (mid ++ back) ≡ length mid + length back = length-append mid back in
    record { ordered = omega arith; inside = omega arith }

-- a part of an object that nests this deep: its value nests less deep
pub record IsNested (text : List ℕ) (deep : ℕ) (m : Member) : Type 0 where
  pub part : IsMemberOf text m
  pub nests : depth part.value.value < deep

module _ (text : List ℕ) (u : IsUtf8 text) (deep : ℕ) (front : List ℕ) (at : ℕ) (is_at : at ≡ length front) (key : List Piece) (behind ahead : List Space) (v : Value) (after : List Space) (tail : List ℕ) (next : IsAsciiNext tail)
    (e : text ≡ front ++ string_then key (blanks behind (58 ∷ blanks ahead (value_then v (blanks after tail))))) where
  key_split : text ≡ front ++ (string_text key ++ blanks behind (58 ∷ blanks ahead (value_then v (blanks after tail))))
  key_split = e ∙ ap (λ (l : List ℕ). front ++ l) (string_then-is key (blanks behind (58 ∷ blanks ahead (value_then v (blanks after tail)))))

  value_split : text ≡ ((front ++ string_text key) ++ (space_text behind ++ 58 ∷ space_text ahead)) ++ (value_text v ++ blanks after tail)
  value_split =
      let value_at = value_then v (blanks after tail) in
      key_split
      ∙ sym (append_assoc front (string_text key) (blanks behind (58 ∷ blanks ahead value_at)))
      ∙ ap (λ (l : List ℕ). (front ++ string_text key) ++ l) (joined (blanks behind) (space_text behind) (blanks-is behind) (58 ∷ blanks ahead value_at) (58 ∷ space_text ahead) value_at (ap (λ (l : List ℕ). 58 ∷ l) (blanks-is ahead value_at)))
      ∙ sym (append_assoc (front ++ string_text key) (space_text behind ++ 58 ∷ space_text ahead) value_at)
      ∙ ap (λ (l : List ℕ). ((front ++ string_text key) ++ (space_text behind ++ 58 ∷ space_text ahead)) ++ l) (value_then-is v (blanks after tail))

  value_place : at + length (string_text key) + length (space_text behind) + 1 + length (space_text ahead) ≡ length ((front ++ string_text key) ++ (space_text behind ++ 58 ∷ space_text ahead))
  value_place = places at (length front) (length (string_text key)) (length (space_text behind)) (length (space_text ahead)) (length (front ++ string_text key)) (length (space_text behind ++ 58 ∷ space_text ahead)) (length ((front ++ string_text key) ++ (space_text behind ++ 58 ∷ space_text ahead)))
      is_at (length-append front (string_text key)) (length-append (space_text behind) (58 ∷ space_text ahead)) (length-append (front ++ string_text key) (space_text behind ++ 58 ∷ space_text ahead))
    where
      places : (at f k b a fk ba whole : ℕ) → at ≡ f → fk ≡ f + k → ba ≡ b + suc a → whole ≡ fk + ba → at + k + b + 1 + a ≡ whole
      places at f k b a fk ba whole g h i j = omega arith

  -- the key and the value of a member
  member_is : depth v < deep → IsNested text deep (member_at at key behind ahead v)
  member_is low =
      let value_at = value_then v (blanks after tail) in
      let behind_at = blanks behind (58 ∷ blanks ahead value_at) in
      let start = at + length (string_text key) + length (space_text behind) + 1 + length (space_text ahead) in
      let front_value = (front ++ string_text key) ++ (space_text behind ++ 58 ∷ space_text ahead) in
      let next_behind : IsAsciiNext behind_at = next_blanks behind (58 ∷ blanks ahead value_at) (lit< tt) in
      let next_after : IsAsciiNext (blanks after tail) = next_blanks after tail next in
      let next_at : IsAsciiNext (value_text v ++ blanks after tail) = subst (λ (l : List ℕ). IsAsciiNext l) (value_then-is v (blanks after tail)) (next_value v (blanks after tail)) in
      record {
        part = record {
          place = record {
            key = part_within text front (string_text key) behind_at at (at + length (string_text key)) key_split is_at refl;
            value = part_within text front_value (value_text v) (blanks after tail) start (start + length (value_text v)) value_split value_place refl;
          };
          name = flat_map piece_meaning key;
          key = record {
            utf8 = part_utf8 text front (string_text key) behind_at at (at + length (string_text key)) u key_split is_at refl (lit< tt) next_behind;
            pieces = key;
            spelled = part_at text front (string_text key) behind_at at (at + length (string_text key)) key_split is_at refl;
            means = refl;
          };
          value = record {
            utf8 = part_utf8 text front_value (value_text v) (blanks after tail) start (start + length (value_text v)) u value_split value_place refl next_at next_after;
            value = v;
            spelled = part_at text front_value (value_text v) (blanks after tail) start (start + length (value_text v)) value_split value_place refl;
          };
        };
        nests = low;
      }

  -- what follows it
  next_split : text ≡ ((((front ++ string_text key) ++ (space_text behind ++ 58 ∷ space_text ahead)) ++ value_text v) ++ space_text after) ++ tail
  next_split =
      let front_value = (front ++ string_text key) ++ (space_text behind ++ 58 ∷ space_text ahead) in
      value_split
      ∙ sym (append_assoc front_value (value_text v) (blanks after tail))
      ∙ ap (λ (l : List ℕ). (front_value ++ value_text v) ++ l) (blanks-is after tail)
      ∙ sym (append_assoc (front_value ++ value_text v) (space_text after) tail)

  next_place : member_end at key behind ahead v after ≡ length ((((front ++ string_text key) ++ (space_text behind ++ 58 ∷ space_text ahead)) ++ value_text v) ++ space_text after)
  next_place =
      let front_value = (front ++ string_text key) ++ (space_text behind ++ 58 ∷ space_text ahead) in
      ap (λ (n : ℕ). n + length (value_text v) + length (space_text after)) value_place
      ∙ ap (λ (n : ℕ). n + length (space_text after)) (sym (length-append front_value (value_text v)))
      ∙ sym (length-append (front_value ++ value_text v) (space_text after))

-- a byte and white space further on
pub before_key : (text front : List ℕ) (b : ℕ) (before : List Space) (rest : List ℕ) → text ≡ front ++ b ∷ blanks before rest → text ≡ (front ++ b ∷ space_text before) ++ rest
before_key text front b before rest e = e ∙ ap (λ (l : List ℕ). front ++ b ∷ l) (blanks-is before rest) ∙ sym (append_assoc front (b ∷ space_text before) rest)

pub key_at : (front : List ℕ) (b : ℕ) (before : List Space) (at : ℕ) → at ≡ length front → at + 1 + length (space_text before) ≡ length (front ++ b ∷ space_text before)
key_at front b before at e = let size = length-append front (b ∷ space_text before) in omega arith

all_members : (text : List ℕ) → IsUtf8 text → (deep : ℕ) (members : Members) → members_depth members < deep → (front : List ℕ) (from : ℕ) → from ≡ length front → (rest : List ℕ) → text ≡ front ++ members_then members rest → AllByRecursion (IsNested text deep) (members_from from members)
all_members text u deep json.end_object low front from is_at rest e = tt
all_members text u deep (json.member before key behind ahead v after members) low front from is_at rest e =
    let tail = members_then members rest in
    let key_then = string_then key (blanks behind (58 ∷ blanks ahead (value_then v (blanks after tail)))) in
    let start = from + 1 + length (space_text before) in
    let front_key = front ++ 44 ∷ space_text before in
    let split : text ≡ front_key ++ key_then = before_key text front 44 before key_then e in
    let place : start ≡ length front_key = key_at front 44 before from is_at in
    let next = next_members members rest in (
      member_is text u deep front_key start place key behind ahead v after tail next split (omega arith),
      all_members text u deep members (omega arith) ((((front_key ++ string_text key) ++ (space_text behind ++ 58 ∷ space_text ahead)) ++ value_text v) ++ space_text after) (member_end start key behind ahead v after)
          (next_place text u deep front_key start place key behind ahead v after tail next split) rest (next_split text u deep front_key start place key behind ahead v after tail next split),
    )

object_members : (text : List ℕ) → IsUtf8 text → (deep : ℕ) (v : Value) → IsObjectValue v → depth v ≤ deep → (front : List ℕ) (from : ℕ) → from ≡ length front → (rest : List ℕ) → text ≡ front ++ value_then v rest → AllByRecursion (IsNested text deep) (members_of from v)
object_members text u deep (json.empty_object ss) is low front from is_at rest e = tt
object_members text u deep (json.object before key behind ahead v after members) is low front from is_at rest e =
    let tail = members_then members rest in
    let key_then = string_then key (blanks behind (58 ∷ blanks ahead (value_then v (blanks after tail)))) in
    let start = from + 1 + length (space_text before) in
    let front_key = front ++ 123 ∷ space_text before in
    let split : text ≡ front_key ++ key_then = before_key text front 123 before key_then e in
    let place : start ≡ length front_key = key_at front 123 before from is_at in
    let next = next_members members rest in (
      member_is text u deep front_key start place key behind ahead v after tail next split (omega arith),
      all_members text u deep members (omega arith) ((((front_key ++ string_text key) ++ (space_text behind ++ 58 ∷ space_text ahead)) ++ value_text v) ++ space_text after) (member_end start key behind ahead v after)
          (next_place text u deep front_key start place key behind ahead v after tail next split) rest (next_split text u deep front_key start place key behind ahead v after tail next split),
    )
object_members text u deep _ is low front from is_at rest e = absurd is

-- the members of an object are parts of its text, and their values nest less deep than it
pub are_nested : (text : List ℕ) (deep : ℕ) (members : List Member) → IsObject text deep members → All (IsNested text deep) members
are_nested text deep members o =
    let s = o.spells in
    let split : text ≡ space_text o.before ++ value_then o.value (blanks o.after []) = spelled_then text o.before o.value o.after s.spelled ∙ blanks-is o.before (value_then o.value (blanks o.after [])) in
    subst (λ (l : List Member). All (IsNested text deep) l) (sym o.places)
    (All-from_recursion (IsNested text deep) (members_of (length (space_text o.before)) o.value)
    (object_members text s.utf8 deep o.value s.object (subst (λ (n : ℕ). depth o.value ≤ n) (sym o.deepest) (≤-refl (depth o.value))) (space_text o.before) (length (space_text o.before)) refl (blanks o.after []) split))
  where
    ≤-refl : (n : ℕ) → n ≤ n
    ≤-refl n = omega arith

pub are_parts : (text : List ℕ) (deep : ℕ) (members : List Member) → IsObject text deep members → All (IsMemberOf text) members
are_parts text deep members o k d h = (are_nested text deep members o k d h).part
