-- What the machine counts of an array: the places of its elements.
use Rattle.std.proofs.Common.{◌≡◌, ℕ, ◌+◌, ◌-◌, List, [], ◌∷◌, ◌++◌, length, sym, ap, ◌∙◌, arith, append_assoc, append-nil}
use Rattle.json_span.specs.Grammar as json
use Rattle.json_span.specs.Grammar.{Space, space_text, Value, Items, value_text}
use Rattle.json_span.specs.Elements.{IsArrayValue, element_at, element_end, elements_from, elements_of}
use Rattle.json_span.specs.declared.Span.{Span}
use Rattle.json_span.specs.declared.phase.Frame.TheVariants as frame
use Rattle.json_span.specs.declared.cutter.Cutter.{Cutter}
use Rattle.json_span.proofs.Spelling.{blanks, value_then, items_then}
use Rattle.json_span.proofs.Sound.{value_cut, items_cut, array_cut}
use Rattle.json_span.proofs.Places.{length-blanks, length-value_then, key_place}

span_equal : (a b a' b' : ℕ) → a ≡ a' → b ≡ b' → ◌≡◌ {A = Span} record { start = a; end = b } record { start = a'; end = b' }
span_equal a b a' b' e f = cc

module _ (size at : ℕ) (v : Value) (after : List Space) (tail : List ℕ) (e : size ≡ at + length (value_then v (blanks after tail))) where
  -- the value as what is left
  ends : size - length (blanks after tail) ≡ at + length (value_text v)
  ends = ends_at (length (value_then v (blanks after tail))) (length (value_text v)) (length (blanks after tail)) e (length-value_then v (blanks after tail))
    where
      ends_at : (c value d : ℕ) → size ≡ at + c → c ≡ value + d → size - d ≡ at + value
      ends_at c value d e f = omega arith

  begins : size - length (value_then v (blanks after tail)) ≡ at
  begins = begins_at (length (value_then v (blanks after tail))) e
    where
      begins_at : (c : ℕ) → size ≡ at + c → size - c ≡ at
      begins_at c e = omega arith

  -- the cutter gets the element at its place
  value_cut-elements : (c : Cutter) → (value_cut size (frame.Array ∷ []) c (value_then v (blanks after tail)) (blanks after tail)).elements ≡ c.elements ++ element_at at v ∷ []
  value_cut-elements c = ap (λ (s : Span). c.elements ++ s ∷ []) (span_equal (size - length (value_then v (blanks after tail))) (size - length (blanks after tail)) at (at + length (value_text v)) begins ends)

  -- and what follows stands behind it
  element_left : size ≡ element_end at v after + length tail
  element_left = left (length (value_then v (blanks after tail))) (length (value_text v)) (length (blanks after tail)) (length (space_text after)) (length tail) e (length-value_then v (blanks after tail)) (length-blanks after tail)
    where
      left : (c value d after tail : ℕ) → size ≡ at + c → c ≡ value + d → d ≡ after + tail → size ≡ at + value + after + tail
      left c value d after tail e f g = omega arith

items_cut-elements : (items : Items) (size from : ℕ) (c : Cutter) (rest : List ℕ) → size ≡ from + length (items_then items rest) →
    (items_cut size (frame.Array ∷ []) c items rest).elements ≡ c.elements ++ elements_from from items
items_cut-elements json.end_array size from c rest e = sym (append-nil c.elements)
items_cut-elements (json.item before v after items) size from c rest e =
    let tail = items_then items rest in
    let value_at = value_then v (blanks after tail) in
    let at = from + 1 + length (space_text before) in
    let here : size ≡ at + length value_at = key_place size from (length (blanks before value_at)) (length value_at) e (length (space_text before)) (length-blanks before value_at) in
    let c1 = value_cut size (frame.Array ∷ []) c value_at (blanks after tail) in
    items_cut-elements items size (element_end at v after) c1 rest (element_left size at v after tail here)
    ∙ ap (λ (l : List Span). l ++ elements_from (element_end at v after) items) (value_cut-elements size at v after tail here c)
    ∙ append_assoc c.elements (element_at at v ∷ []) (elements_from (element_end at v after) items)

-- the elements of the array of the text
pub array_cut-elements : (v : Value) → IsArrayValue v → (size at : ℕ) (c : Cutter) (rest : List ℕ) → size ≡ at + length (value_then v rest) → (array_cut size c v rest).elements ≡ c.elements ++ elements_of at v
array_cut-elements (json.empty_array ss) is size at c rest e = sym (append-nil c.elements)
array_cut-elements (json.array before v after items) is size at c rest e =
    let tail = items_then items rest in
    let value_at = value_then v (blanks after tail) in
    let start = at + 1 + length (space_text before) in
    let here : size ≡ start + length value_at = key_place size at (length (blanks before value_at)) (length value_at) e (length (space_text before)) (length-blanks before value_at) in
    let c1 = value_cut size (frame.Array ∷ []) c value_at (blanks after tail) in
    items_cut-elements items size (element_end start v after) c1 rest (element_left size start v after tail here)
    ∙ ap (λ (l : List Span). l ++ elements_from (element_end start v after) items) (value_cut-elements size start v after tail here c)
    ∙ append_assoc c.elements (element_at start v ∷ []) (elements_from (element_end start v after) items)
array_cut-elements _ is size at c rest e = absurd is
