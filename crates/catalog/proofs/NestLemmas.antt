-- How deep the entries of a catalog nest.
use Rattle.std.proofs.Common.{◌≡◌, ℕ, ◌+◌, ◌<◌, ◌≤◌, List, ◌∷◌, ◌++◌, length, All, refl, sym, ◌∙◌, subst, arith, append_assoc, length-append, slice_index_or, codes}
use Rattle.std.specs.List.{AllByRecursion}
use Rattle.std.proofs.lemmas.List.Elements.{All-from_recursion}
use Rattle.json_span.specs.Grammar as json
use Rattle.json_span.specs.Grammar.{Space, Value, Items, value_text, items_text, depth, items_depth, space_text}
use Rattle.json_span.specs.Members.{IsValue, text_at}
use Rattle.json_span.specs.Elements.{AreElements, IsArray, IsArrayValue, IsElementOf, element_at, element_end, elements_from, elements_of}
use Rattle.json_span.specs.declared.Span.{Span}
use Rattle.json_span.proofs.Parts.{part_at}
use Rattle.json_fields.specs.Fields.{HasField, line_depth}
use Rattle.json_write.specs.Values.{IsValueWithin}
use Rattle.json_write.proofs.Depths.{object_deep, array_value_deep}
use Rattle.json_write.proofs.HeldValues.{holds_has, values_within}
use Rattle.catalog.specs.Configured.{NestsAtMost, entry_depth, list_depth}

-- a tree that nests at most so deep spells the text
record IsDeep (limit : ℕ) (text : List ℕ) : Type 0 where
  value : Value
  spelled : text ≡ value_text value
  within : depth value ≤ limit

-- ---- where an element stands

to_value : (f a v e r t : List ℕ) (mark : ℕ) → f ++ ((mark ∷ (a ++ (v ++ (e ++ r)))) ++ t) ≡ (f ++ mark ∷ a) ++ (v ++ (e ++ (r ++ t)))
to_value f a v e r t mark = simp append_assoc

to_next : (f a v e r t : List ℕ) (mark : ℕ) → f ++ ((mark ∷ (a ++ (v ++ (e ++ r)))) ++ t) ≡ (f ++ mark ∷ (a ++ (v ++ e))) ++ (r ++ t)
to_next f a v e r t mark = simp append_assoc

front_size : (f a : List ℕ) (mark : ℕ) → length (f ++ mark ∷ a) ≡ length f + 1 + length a
front_size f a mark = let e = length-append f (mark ∷ a) in omega arith

next_size : (f a v e : List ℕ) (mark : ℕ) → length (f ++ mark ∷ (a ++ (v ++ e))) ≡ length f + 1 + length a + length v + length e
next_size f a v e mark =
    let s = front_size f (a ++ (v ++ e)) mark in
    let e1 = length-append a (v ++ e) in
    let e2 = length-append v e in
    omega arith

module _ (text front : List ℕ) (mark : ℕ) (before : List Space) (v : Value) (after : List Space) (rest tail : List ℕ) (from start : ℕ) (is_at : from ≡ length front) (starts : start ≡ from + 1 + length (space_text before))
    (split : text ≡ front ++ ((mark ∷ (space_text before ++ (value_text v ++ (space_text after ++ rest)))) ++ tail)) where
  held_is : text_at text (element_at start v) ≡ value_text v
  held_is =
      let s = element_at start v in
      let size = front_size front (space_text before) mark in
      part_at text (front ++ mark ∷ space_text before) (value_text v) (space_text after ++ (rest ++ tail)) s.start s.end
      (split ∙ to_value front (space_text before) (value_text v) (space_text after) rest tail mark) (omega arith) refl

  next_front : List ℕ
  next_front = front ++ mark ∷ (space_text before ++ (value_text v ++ space_text after))

  next_split : text ≡ next_front ++ (rest ++ tail)
  unfolding next_front
  next_split = split ∙ to_next front (space_text before) (value_text v) (space_text after) rest tail mark

  next_place : element_end start v after ≡ length next_front
  unfolding next_front
  next_place =
      let size = next_size front (space_text before) (value_text v) (space_text after) mark in
      omega arith

-- ---- each element

deep_items : (limit : ℕ) (text : List ℕ) (items : Items) (front tail : List ℕ) (from : ℕ) → from ≡ length front → text ≡ front ++ (items_text items ++ tail) → items_depth items ≤ limit → AllByRecursion (λ s. IsDeep limit (text_at text s)) (elements_from from items)
deep_items limit text json.end_array front tail from is_at split le = tt
deep_items limit text (json.item before v after items) front tail from is_at split le =
    let start = from + 1 + length (space_text before) in
    let rest = items_text items in (
      record { value = v; spelled = held_is text front 44 before v after rest tail from start is_at refl split; within = omega arith },
      deep_items limit text items (next_front text front 44 before v after rest tail from start is_at refl split) tail (element_end start v after)
          (next_place text front 44 before v after rest tail from start is_at refl split) (next_split text front 44 before v after rest tail from start is_at refl split) (omega arith),
    )

deep_array : (limit : ℕ) (text : List ℕ) (v : Value) → IsArrayValue v → (front tail : List ℕ) (from : ℕ) → from ≡ length front → text ≡ front ++ (value_text v ++ tail) → depth v ≤ limit + 1 → AllByRecursion (λ s. IsDeep limit (text_at text s)) (elements_of from v)
deep_array limit text (json.empty_array ss) is front tail from is_at split le = tt
deep_array limit text (json.array before v after items) is front tail from is_at split le =
    let start = from + 1 + length (space_text before) in
    let rest = items_text items in (
      record { value = v; spelled = held_is text front 91 before v after rest tail from start is_at refl split; within = omega arith },
      deep_items limit text items (next_front text front 91 before v after rest tail from start is_at refl split) tail (element_end start v after)
          (next_place text front 91 before v after rest tail from start is_at refl split) (next_split text front 91 before v after rest tail from start is_at refl split) (omega arith),
    )
deep_array limit text _ is front tail from is_at split le = absurd is

elements_deep : (limit : ℕ) (text : List ℕ) (deep : ℕ) (spans : List Span) → IsArray text deep spans → deep ≤ limit + 1 → All (λ s. IsDeep limit (text_at text s)) spans
elements_deep limit text deep spans a le =
    let same = a.deepest in
    let by_recursion = deep_array limit text a.value a.spells.array (space_text a.before) (space_text a.after) (length (space_text a.before)) refl a.spells.spelled (omega arith) in
    subst (λ (l : List Span). All (λ s. IsDeep limit (text_at text s)) l) (sym a.places) (All-from_recursion (λ s. IsDeep limit (text_at text s)) (elements_of (length (space_text a.before)) a.value) by_recursion)

-- an entry nests two levels less than its catalog
pub entry_nests : (list : List ℕ) (spans : List Span) (i : ℕ) (d : Span) → AreElements list_depth list spans → All (IsElementOf list) spans → i < length spans → NestsAtMost entry_depth (text_at list (slice_index_or spans i d))
entry_nests list spans i d are parts lt = λ deep members object.
    let here = elements_deep entry_depth list are.deep spans are.array (let h = are.within in omega arith) i d lt in
    let value : IsValue (text_at list (slice_index_or spans i d)) = record { utf8 = (parts i d lt).value.utf8; value = here.value; spelled = here.spelled } in
    let same = object_deep (text_at list (slice_index_or spans i d)) deep members value object in
    let within = here.within in
    omega arith

-- and the array of the entries one level less
pub list_nests : (text list : List ℕ) (spans : List Span) → HasField text (codes "streams") list → AreElements line_depth list spans → AreElements list_depth list spans
list_nests text list spans field are =
    let o = field.object in
    let within = o.within in
    let held = holds_has (IsValueWithin list_depth) text (codes "streams") field.members list (values_within list_depth text o.deep field.members o.object (omega arith)) field.holds in
    let same = array_value_deep list are.deep spans held.is are.array in
    let small = held.within in
    record { deep = are.deep; within = omega arith; array = are.array }
