-- An object that is written from members, as a tree of the grammar, and where its members stand.
use Rattle.std.proofs.Common.{◌≡◌, ℕ, ◌+◌, ◌≤◌, List, [], ◌∷◌, ◌++◌, length, map, IsUtf8, refl, sym, ap, ◌∙◌, subst, arith, append_assoc, append-nil, length-append}
use Rattle.std.proofs.lemmas.Str.{IsUtf8-append, IsUtf8-nil}
use Rattle.json_scalar.specs.Text.{Piece, string_text}
use Rattle.json_span.specs.Grammar as json
use Rattle.json_span.specs.Grammar.{Space, Value, Members, value_text, members_text, depth, members_depth, space_text, member_at, member_end, members_from}
use Rattle.json_span.specs.Members.{AreMembers, HasOnlyMembers, IsObject, members_of, text_at}
use Rattle.json_span.specs.declared.Member.{Member}
use Rattle.json_span.proofs.Parts.{part_at as cut_at}
use Rattle.json_span.proofs.Theorems.{sound}
use Rattle.json_write.specs.Objects.{Part, part_before, parts_text, object_text}
use Rattle.json_write.specs.Laws.{IsSound, AreSound, IsObjectOf, part_at}
use Rattle.json_write.proofs.Strings.{utf8_before}

-- ---- the tree

module _ (limit : ℕ) where
  key_of : (part : Part) → IsSound limit part → List Piece
  key_of part s = s.key.pieces

  tree_of : (part : Part) → IsSound limit part → Value
  tree_of part s = s.value.is.value

  tree : (parts : List Part) → AreSound limit parts → Members
  tree [] s = json.end_object
  tree (part ∷ parts) s = json.member [] (key_of part s.0) [] [] (tree_of part s.0) [] (tree parts s.1)

  key_is : (part : Part) (s : IsSound limit part) → string_text (key_of part s) ≡ part.0
  unfolding key_of
  key_is part s = sym s.key.spelled

  value_is : (part : Part) (s : IsSound limit part) → value_text (tree_of part s) ≡ part.1
  unfolding tree_of
  value_is part s = sym s.value.is.spelled

  value_within : (part : Part) (s : IsSound limit part) → depth (tree_of part s) ≤ limit
  unfolding tree_of
  value_within part s = s.value.within

  part_spelled : (part : Part) (s : IsSound limit part) (rest others : List ℕ) → rest ≡ others → string_text (key_of part s) ++ 58 ∷ (value_text (tree_of part s) ++ rest) ≡ part_before part others
  part_spelled part s rest others e = λ i. key_is part s i ++ 58 ∷ (value_is part s i ++ e i)

  tree_spelled : (parts : List Part) (s : AreSound limit parts) → members_text (tree parts s) ≡ parts_text parts
  unfolding tree
  tree_spelled [] s = refl
  tree_spelled (part ∷ parts) s = ap (λ (l : List ℕ). 44 ∷ l) (part_spelled part s.0 (members_text (tree parts s.1)) (parts_text parts) (tree_spelled parts s.1))

  tree_within : (parts : List Part) (s : AreSound limit parts) → members_depth (tree parts s) ≤ limit
  unfolding tree
  tree_within [] s = omega arith
  tree_within (part ∷ parts) s = let here = value_within part s.0 in let more = tree_within parts s.1 in omega arith

  -- ---- UTF-8

  part_utf8 : (part : Part) → IsSound limit part → (rest : List ℕ) → IsUtf8 rest → IsUtf8 (part_before part rest)
  part_utf8 part s rest u = IsUtf8-append part.0 (58 ∷ (part.1 ++ rest)) s.key.utf8 (utf8_before 58 (part.1 ++ rest) refl (IsUtf8-append part.1 rest s.value.is.utf8 u))

  parts_utf8 : (parts : List Part) → AreSound limit parts → IsUtf8 (parts_text parts)
  parts_utf8 [] s = utf8_before 125 [] refl IsUtf8-nil
  parts_utf8 (part ∷ parts) s = utf8_before 44 (part_before part (parts_text parts)) refl (part_utf8 part s.0 (parts_text parts) (parts_utf8 parts s.1))

-- ---- where a member stands

module _ (text front : List ℕ) (mark : ℕ) (part : Part) (rest : List ℕ) (from : ℕ) (is_at : from ≡ length front) (split : text ≡ front ++ mark ∷ part_before part rest) where
  -- what stands before the key, and before the value
  before_key : List ℕ
  before_key = front ++ mark ∷ []

  before_value : List ℕ
  before_value = before_key ++ (part.0 ++ 58 ∷ [])

  key_split : text ≡ before_key ++ (part.0 ++ 58 ∷ (part.1 ++ rest))
  unfolding before_key
  key_split = split ∙ sym (append_assoc front (mark ∷ []) (part_before part rest))

  value_split : text ≡ before_value ++ (part.1 ++ rest)
  unfolding before_value
  value_split =
      key_split
      ∙ ap (λ (l : List ℕ). before_key ++ l) (sym (append_assoc part.0 (58 ∷ []) (part.1 ++ rest)))
      ∙ sym (append_assoc before_key (part.0 ++ 58 ∷ []) (part.1 ++ rest))

  key_place : from + 1 ≡ length before_key
  unfolding before_key
  key_place = let size = length-append front (mark ∷ []) in omega arith

  value_place : from + 1 + length part.0 + 1 ≡ length before_value
  unfolding before_value
  value_place =
      let size = length-append before_key (part.0 ++ 58 ∷ []) in
      let keyed = length-append part.0 (58 ∷ []) in
      let start = key_place in
      omega arith

  -- a member without white space is cut as it is written
  cut_member : (start : ℕ) → start ≡ from + 1 → (key : List Piece) (v : Value) → string_text key ≡ part.0 → value_text v ≡ part.1 → part_at text (member_at start key [] [] v) ≡ part
  cut_member start e key v k w =
      let key_size : length (string_text key) ≡ length part.0 = ap (λ (l : List ℕ). length l) k in
      let value_size : length (value_text v) ≡ length part.1 = ap (λ (l : List ℕ). length l) w in
      let m = member_at start key [] [] v in
      let a = key_place in
      let b = value_place in
      let key_cut : text_at text m.key ≡ part.0 = cut_at text before_key part.0 (58 ∷ (part.1 ++ rest)) m.key.start m.key.end key_split (omega arith) (omega arith) in
      let value_cut : text_at text m.value ≡ part.1 = cut_at text before_value part.1 rest m.value.start m.value.end value_split (omega arith) (omega arith) in
      λ i. (key_cut i, value_cut i)

  -- what stands before the next member
  pub before_next : List ℕ
  before_next = before_value ++ part.1

  next_split : text ≡ before_next ++ rest
  unfolding before_next
  next_split = value_split ∙ sym (append_assoc before_value part.1 rest)

  next_place : (start : ℕ) → start ≡ from + 1 → (key : List Piece) (v : Value) → string_text key ≡ part.0 → value_text v ≡ part.1 → member_end start key [] [] v [] ≡ length before_next
  unfolding before_next
  next_place start e key v k w =
      let key_size : length (string_text key) ≡ length part.0 = ap (λ (l : List ℕ). length l) k in
      let value_size : length (value_text v) ≡ length part.1 = ap (λ (l : List ℕ). length l) w in
      let b = value_place in
      let size = length-append before_value part.1 in
      omega arith

module _ (limit : ℕ) (text : List ℕ) where
  cut_tree : (parts : List Part) (s : AreSound limit parts) (front : List ℕ) (from : ℕ) → from ≡ length front → text ≡ front ++ parts_text parts → map (part_at text) (members_from from (tree limit parts s)) ≡ parts
  unfolding tree
  cut_tree [] s front from is_at split = refl
  cut_tree (part ∷ parts) s front from is_at split =
      let key = key_of limit part s.0 in
      let v = tree_of limit part s.0 in
      let k = key_is limit part s.0 in
      let w = value_is limit part s.0 in
      let start = from + 1 + length (space_text []) in
      let rest = parts_text parts in
      let place : start ≡ from + 1 = omega arith in
      let here = cut_member text front 44 part rest from is_at split start place key v k w in
      let more = cut_tree parts s.1 (before_next text front 44 part rest from is_at split) (member_end start key [] [] v []) (next_place text front 44 part rest from is_at split start place key v k w) (next_split text front 44 part rest from is_at split) in
      λ i. here i ∷ more i

-- ---- the object

-- an object has one depth and one list of members
only_members : (limit : ℕ) (text : List ℕ) (members : List Member) → AreMembers limit text members → HasOnlyMembers limit text members
only_members limit text members of deep others o =
    let a = sound text of.deep members of.object in
    let b = sound text deep others o in
    (subst (λ (n : ℕ). n ≤ limit) (sym a.deepest ∙ b.deepest) of.within, sym b.places ∙ a.places)

module _ (limit : ℕ) (part : Part) (parts : List Part) (s : AreSound limit (part ∷ parts)) where
  whole : Value
  whole = json.object [] (key_of limit part s.0) [] [] (tree_of limit part s.0) [] (tree limit parts s.1)

  whole_spelled : object_text (part ∷ parts) ≡ value_text whole
  unfolding whole
  whole_spelled = sym (ap (λ (l : List ℕ). 123 ∷ l) (part_spelled limit part s.0 (members_text (tree limit parts s.1)) (parts_text parts) (tree_spelled limit parts s.1)))

  whole_within : depth whole ≤ limit + 1
  unfolding whole
  whole_within = let here = value_within limit part s.0 in let more = tree_within limit parts s.1 in omega arith

  whole_utf8 : IsUtf8 (object_text (part ∷ parts))
  whole_utf8 = utf8_before 123 (part_before part (parts_text parts)) refl (part_utf8 limit part s.0 (parts_text parts) (parts_utf8 limit parts s.1))

  whole_object : IsObject (object_text (part ∷ parts)) (depth whole) (members_of 0 whole)
  unfolding whole
  whole_object = record {
    before = [];
    value = whole;
    after = [];
    spells = record { utf8 = whole_utf8; object = tt; spelled = whole_spelled ∙ sym (append-nil (value_text whole)) };
    deepest = refl;
    places = refl;
  }

  whole_parts : map (part_at (object_text (part ∷ parts))) (members_of 0 whole) ≡ part ∷ parts
  unfolding whole
  whole_parts =
      let text = object_text (part ∷ parts) in
      let key = key_of limit part s.0 in
      let v = tree_of limit part s.0 in
      let k = key_is limit part s.0 in
      let w = value_is limit part s.0 in
      let start = 0 + 1 + length (space_text []) in
      let rest = parts_text parts in
      let place : start ≡ 0 + 1 = omega arith in
      let here = cut_member text [] 123 part rest 0 refl refl start place key v k w in
      let more = cut_tree limit text parts s.1 (before_next text [] 123 part rest 0 refl refl) (member_end start key [] [] v []) (next_place text [] 123 part rest 0 refl refl start place key v k w) (next_split text [] 123 part rest 0 refl refl) in
      λ i. here i ∷ more i

  whole_are : AreMembers (limit + 1) (object_text (part ∷ parts)) (members_of 0 whole)
  whole_are = record { deep = depth whole; within = whole_within; object = whole_object }

  whole_is : IsObjectOf (limit + 1) (object_text (part ∷ parts)) (part ∷ parts)
  whole_is = record {
    value = record { is = record { utf8 = whole_utf8; value = whole; spelled = whole_spelled }; within = whole_within };
    members = members_of 0 whole;
    are = whole_are;
    only = only_members (limit + 1) (object_text (part ∷ parts)) (members_of 0 whole) whole_are;
    cut = whole_parts;
  }

empty_utf8 : IsUtf8 (object_text [])
empty_utf8 = utf8_before 123 (125 ∷ []) refl (utf8_before 125 [] refl IsUtf8-nil)

empty_are : (limit : ℕ) → AreMembers (limit + 1) (object_text []) []
empty_are limit = record {
  deep = 1;
  within = omega arith;
  object = record { before = []; value = json.empty_object []; after = []; spells = record { utf8 = empty_utf8; object = tt; spelled = refl }; deepest = refl; places = refl };
}

pub object_of : (limit : ℕ) (parts : List Part) → AreSound limit parts → IsObjectOf (limit + 1) (object_text parts) parts
object_of limit [] s = record {
  value = record { is = record { utf8 = empty_utf8; value = json.empty_object []; spelled = refl }; within = omega arith };
  members = [];
  are = empty_are limit;
  only = only_members (limit + 1) (object_text []) [] (empty_are limit);
  cut = refl;
}
object_of limit (part ∷ parts) s = whole_is limit part parts s
