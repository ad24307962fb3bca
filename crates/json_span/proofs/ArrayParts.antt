-- Each element of an array, as a part of the text.
use Rattle.std.proofs.Common.{◌≡◌, ℕ, ◌+◌, List, [], ◌∷◌, ◌++◌, length, refl, sym, ap, subst, ◌∙◌, length-append, append_assoc, lit<}
use Rattle.std.specs.Prelude.{IsUtf8, All}
use Rattle.std.specs.List.{AllByRecursion}
use Rattle.std.proofs.lemmas.List.Elements.{All-from_recursion}
use Rattle.json_span.specs.Grammar as json
use Rattle.json_span.specs.Grammar.{Space, space_text, Value, Items, value_text}
use Rattle.json_span.specs.Elements.{IsArray, IsArrayValue, IsElementOf, element_at, element_end, elements_from, elements_of}
use Rattle.json_span.specs.declared.Span.{Span}
use Rattle.json_span.proofs.Spelling.{blanks, value_then, items_then, blanks-is, value_then-is}
use Rattle.json_span.proofs.Theorems.{spelled_then}
use Rattle.json_span.proofs.Parts.{IsAsciiNext, next_blanks, next_value, part_at, part_utf8, part_within, before_key, key_at}

next_items : (items : Items) (rest : List ℕ) → IsAsciiNext (items_then items rest)
next_items json.end_array rest = lit< tt
next_items (json.item before v after items) rest = lit< tt

module _ (text : List ℕ) (u : IsUtf8 text) (front : List ℕ) (at : ℕ) (is_at : at ≡ length front) (v : Value) (after : List Space) (tail : List ℕ) (next : IsAsciiNext tail) (e : text ≡ front ++ value_then v (blanks after tail)) where
  element_split : text ≡ front ++ (value_text v ++ blanks after tail)
  element_split = e ∙ ap (λ (l : List ℕ). front ++ l) (value_then-is v (blanks after tail))

  element_is : IsElementOf text (element_at at v)
  element_is =
      let next_at : IsAsciiNext (value_text v ++ blanks after tail) = subst (λ (l : List ℕ). IsAsciiNext l) (value_then-is v (blanks after tail)) (next_value v (blanks after tail)) in
      record {
        place = part_within text front (value_text v) (blanks after tail) at (at + length (value_text v)) element_split is_at refl;
        value = record {
          utf8 = part_utf8 text front (value_text v) (blanks after tail) at (at + length (value_text v)) u element_split is_at refl next_at (next_blanks after tail next);
          value = v;
          spelled = part_at text front (value_text v) (blanks after tail) at (at + length (value_text v)) element_split is_at refl;
        };
      }

  -- what follows it
  tail_split : text ≡ ((front ++ value_text v) ++ space_text after) ++ tail
  tail_split =
      element_split
      ∙ sym (append_assoc front (value_text v) (blanks after tail))
      ∙ ap (λ (l : List ℕ). (front ++ value_text v) ++ l) (blanks-is after tail)
      ∙ sym (append_assoc (front ++ value_text v) (space_text after) tail)

  tail_place : element_end at v after ≡ length ((front ++ value_text v) ++ space_text after)
  tail_place =
      ap (λ (n : ℕ). n + length (value_text v) + length (space_text after)) is_at
      ∙ ap (λ (n : ℕ). n + length (space_text after)) (sym (length-append front (value_text v)))
      ∙ sym (length-append (front ++ value_text v) (space_text after))

all_elements : (text : List ℕ) → IsUtf8 text → (items : Items) (front : List ℕ) (from : ℕ) → from ≡ length front → (rest : List ℕ) → text ≡ front ++ items_then items rest → AllByRecursion (IsElementOf text) (elements_from from items)
all_elements text u json.end_array front from is_at rest e = tt
all_elements text u (json.item before v after items) front from is_at rest e =
    let tail = items_then items rest in
    let value_at = value_then v (blanks after tail) in
    let start = from + 1 + length (space_text before) in
    let front_value = front ++ 44 ∷ space_text before in
    let split : text ≡ front_value ++ value_at = before_key text front 44 before value_at e in
    let place : start ≡ length front_value = key_at front 44 before from is_at in
    let next = next_items items rest in (
      element_is text u front_value start place v after tail next split,
      all_elements text u items ((front_value ++ value_text v) ++ space_text after) (element_end start v after) (tail_place text u front_value start place v after tail next split) rest (tail_split text u front_value start place v after tail next split),
    )

array_elements : (text : List ℕ) → IsUtf8 text → (v : Value) → IsArrayValue v → (front : List ℕ) (from : ℕ) → from ≡ length front → (rest : List ℕ) → text ≡ front ++ value_then v rest → AllByRecursion (IsElementOf text) (elements_of from v)
array_elements text u (json.empty_array ss) is front from is_at rest e = tt
array_elements text u (json.array before v after items) is front from is_at rest e =
    let tail = items_then items rest in
    let value_at = value_then v (blanks after tail) in
    let start = from + 1 + length (space_text before) in
    let front_value = front ++ 91 ∷ space_text before in
    let split : text ≡ front_value ++ value_at = before_key text front 91 before value_at e in
    let place : start ≡ length front_value = key_at front 91 before from is_at in
    let next = next_items items rest in (
      element_is text u front_value start place v after tail next split,
      all_elements text u items ((front_value ++ value_text v) ++ space_text after) (element_end start v after) (tail_place text u front_value start place v after tail next split) rest (tail_split text u front_value start place v after tail next split),
    )
array_elements text u _ is front from is_at rest e = absurd is

-- the elements of an array are parts of its text
pub are_elements : (text : List ℕ) (deep : ℕ) (spans : List Span) → IsArray text deep spans → All (IsElementOf text) spans
are_elements text deep spans o =
    let s = o.spells in
    let split : text ≡ space_text o.before ++ value_then o.value (blanks o.after []) = spelled_then text o.before o.value o.after s.spelled ∙ blanks-is o.before (value_then o.value (blanks o.after [])) in
    subst (λ (l : List Span). All (IsElementOf text) l) (sym o.places)
    (All-from_recursion (IsElementOf text) (elements_of (length (space_text o.before)) o.value) (array_elements text s.utf8 o.value s.array (space_text o.before) (length (space_text o.before)) refl (blanks o.after []) split))
