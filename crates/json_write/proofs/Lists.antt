-- An array that is written from elements, as a tree of the grammar, and where its elements stand.
use Rattle.std.proofs.Common.{◌≡◌, ℕ, ◌+◌, ◌≤◌, List, [], ◌∷◌, ◌++◌, length, map, IsUtf8, refl, sym, ap, ◌∙◌, subst, arith, append_assoc, append-nil, length-append}
use Rattle.std.proofs.lemmas.Str.{IsUtf8-append, IsUtf8-nil}
use Rattle.json_span.specs.Grammar as json
use Rattle.json_span.specs.Grammar.{Value, Items, value_text, items_text as tree_text, depth, items_depth, space_text}
use Rattle.json_span.specs.Members.{text_at}
use Rattle.json_span.specs.Elements.{AreElements, HasOnlyElements, IsArray, element_at, element_end, elements_from, elements_of}
use Rattle.json_span.specs.Machine.{read_whole}
use Rattle.json_span.specs.declared.Span.{Span}
use Rattle.json_span.specs.declared.phase.Frame.TheVariants as frame
use Rattle.json_span.proofs.ArrayTheorems.{finds_only_array}
use Rattle.json_span.proofs.Parts.{part_at as cut_at}
use Rattle.json_write.specs.Objects.{items_text, list_text}
use Rattle.json_write.specs.Laws.{AreWithin, IsListOf}
use Rattle.json_write.proofs.Depths.{array_deep}
use Rattle.json_write.proofs.Strings.{utf8_before}

-- ---- the tree

module _ (limit : ℕ) where
  tree : (items : List (List ℕ)) → AreWithin limit items → Items
  tree [] s = json.end_array
  tree (item ∷ items) s = json.item [] s.0.is.value [] (tree items s.1)

  tree_spelled : (items : List (List ℕ)) (s : AreWithin limit items) → tree_text (tree items s) ≡ items_text items
  unfolding tree
  tree_spelled [] s = refl
  tree_spelled (item ∷ items) s = let here = sym s.0.is.spelled in let more = tree_spelled items s.1 in λ i. 44 ∷ (here i ++ more i)

  tree_within : (items : List (List ℕ)) (s : AreWithin limit items) → items_depth (tree items s) ≤ limit
  unfolding tree
  tree_within [] s = omega arith
  tree_within (item ∷ items) s = let here = s.0.within in let more = tree_within items s.1 in omega arith

  items_utf8 : (items : List (List ℕ)) → AreWithin limit items → IsUtf8 (items_text items)
  items_utf8 [] s = utf8_before 93 [] refl IsUtf8-nil
  items_utf8 (item ∷ items) s = utf8_before 44 (item ++ items_text items) refl (IsUtf8-append item (items_text items) s.0.is.utf8 (items_utf8 items s.1))

-- ---- where an element stands

module _ (text front : List ℕ) (mark : ℕ) (item rest : List ℕ) (from : ℕ) (is_at : from ≡ length front) (split : text ≡ front ++ mark ∷ (item ++ rest)) where
  before_item : List ℕ
  before_item = front ++ mark ∷ []

  item_split : text ≡ before_item ++ (item ++ rest)
  unfolding before_item
  item_split = split ∙ sym (append_assoc front (mark ∷ []) (item ++ rest))

  item_place : from + 1 ≡ length before_item
  unfolding before_item
  item_place = let size = length-append front (mark ∷ []) in omega arith

  -- an element without white space is cut as it is written
  cut_item : (start : ℕ) → start ≡ from + 1 → (v : Value) → value_text v ≡ item → text_at text (element_at start v) ≡ item
  cut_item start e v w =
      let size : length (value_text v) ≡ length item = ap (λ (l : List ℕ). length l) w in
      let span = element_at start v in
      let a = item_place in
      cut_at text before_item item rest span.start span.end item_split (omega arith) (omega arith)

  pub before_next : List ℕ
  before_next = before_item ++ item

  next_split : text ≡ before_next ++ rest
  unfolding before_next
  next_split = item_split ∙ sym (append_assoc before_item item rest)

  next_place : (start : ℕ) → start ≡ from + 1 → (v : Value) → value_text v ≡ item → element_end start v [] ≡ length before_next
  unfolding before_next
  next_place start e v w =
      let size : length (value_text v) ≡ length item = ap (λ (l : List ℕ). length l) w in
      let a = item_place in
      let b = length-append before_item item in
      omega arith

module _ (limit : ℕ) (text : List ℕ) where
  cut_tree : (items : List (List ℕ)) (s : AreWithin limit items) (front : List ℕ) (from : ℕ) → from ≡ length front → text ≡ front ++ items_text items → map (text_at text) (elements_from from (tree limit items s)) ≡ items
  unfolding tree
  cut_tree [] s front from is_at split = refl
  cut_tree (item ∷ items) s front from is_at split =
      let v = s.0.is.value in
      let w = sym s.0.is.spelled in
      let start = from + 1 + length (space_text []) in
      let rest = items_text items in
      let place : start ≡ from + 1 = omega arith in
      let here = cut_item text front 44 item rest from is_at split start place v w in
      let more = cut_tree items s.1 (before_next text front 44 item rest from is_at split) (element_end start v []) (next_place text front 44 item rest from is_at split start place v w) (next_split text front 44 item rest from is_at split) in
      λ i. here i ∷ more i

-- ---- the array

-- an array has one depth and one list of elements
only_elements : (limit : ℕ) (text : List ℕ) (spans : List Span) → AreElements limit text spans → HasOnlyElements limit text spans
only_elements limit text spans of deep others o =
    let a = array_deep text of.deep spans of.array in
    let b = array_deep text deep others o in
    let only = finds_only_array text (read_whole frame.Array text) refl (read_whole frame.Array text).deepest (omega arith) in
    (subst (λ (n : ℕ). n ≤ limit) (a ∙ sym b) of.within, (only deep others o).1 ∙ sym (only of.deep spans of.array).1)

module _ (limit : ℕ) (item : List ℕ) (items : List (List ℕ)) (s : AreWithin limit (item ∷ items)) where
  whole : Value
  whole = json.array [] s.0.is.value [] (tree limit items s.1)

  whole_spelled : list_text (item ∷ items) ≡ value_text whole
  unfolding whole
  whole_spelled = let here = s.0.is.spelled in let more = sym (tree_spelled limit items s.1) in λ i. 91 ∷ (here i ++ more i)

  whole_within : depth whole ≤ limit + 1
  unfolding whole
  whole_within = let here = s.0.within in let more = tree_within limit items s.1 in omega arith

  whole_utf8 : IsUtf8 (list_text (item ∷ items))
  whole_utf8 = utf8_before 91 (item ++ items_text items) refl (IsUtf8-append item (items_text items) s.0.is.utf8 (items_utf8 limit items s.1))

  whole_array : IsArray (list_text (item ∷ items)) (depth whole) (elements_of 0 whole)
  unfolding whole
  whole_array = record {
    before = [];
    value = whole;
    after = [];
    spells = record { utf8 = whole_utf8; array = tt; spelled = whole_spelled ∙ sym (append-nil (value_text whole)) };
    deepest = refl;
    places = refl;
  }

  whole_items : map (text_at (list_text (item ∷ items))) (elements_of 0 whole) ≡ item ∷ items
  unfolding whole
  whole_items =
      let text = list_text (item ∷ items) in
      let v = s.0.is.value in
      let w = sym s.0.is.spelled in
      let start = 0 + 1 + length (space_text []) in
      let rest = items_text items in
      let place : start ≡ 0 + 1 = omega arith in
      let here = cut_item text [] 91 item rest 0 refl refl start place v w in
      let more = cut_tree limit text items s.1 (before_next text [] 91 item rest 0 refl refl) (element_end start v []) (next_place text [] 91 item rest 0 refl refl start place v w) (next_split text [] 91 item rest 0 refl refl) in
      λ i. here i ∷ more i

  whole_are : AreElements (limit + 1) (list_text (item ∷ items)) (elements_of 0 whole)
  whole_are = record { deep = depth whole; within = whole_within; array = whole_array }

  whole_is : IsListOf (limit + 1) (list_text (item ∷ items)) (item ∷ items)
  whole_is = record {
    value = record { is = record { utf8 = whole_utf8; value = whole; spelled = whole_spelled }; within = whole_within };
    spans = elements_of 0 whole;
    are = whole_are;
    only = only_elements (limit + 1) (list_text (item ∷ items)) (elements_of 0 whole) whole_are;
    cut = whole_items;
  }

empty_utf8 : IsUtf8 (list_text [])
empty_utf8 = utf8_before 91 (93 ∷ []) refl (utf8_before 93 [] refl IsUtf8-nil)

empty_are : (limit : ℕ) → AreElements (limit + 1) (list_text []) []
empty_are limit = record {
  deep = 1;
  within = omega arith;
  array = record { before = []; value = json.empty_array []; after = []; spells = record { utf8 = empty_utf8; array = tt; spelled = refl }; deepest = refl; places = refl };
}

pub list_of : (limit : ℕ) (items : List (List ℕ)) → AreWithin limit items → IsListOf (limit + 1) (list_text items) items
list_of limit [] s = record {
  value = record { is = record { utf8 = empty_utf8; value = json.empty_array []; spelled = refl }; within = omega arith };
  spans = [];
  are = empty_are limit;
  only = only_elements (limit + 1) (list_text []) [] (empty_are limit);
  cut = refl;
}
list_of limit (item ∷ items) s = whole_is limit item items s
