-- What a member of an object holds nests less deep than the object.
use Rattle.std.proofs.Common.{◌≡◌, ℕ, ◌+◌, ◌≤◌, List, [], ◌∷◌, ◌++◌, length, Option, None, Some, All, inl, inr, refl, sym, ◌∙◌, subst, arith, append_assoc, length-append}
use Rattle.std.specs.List.{AllByRecursion}
use Rattle.std.proofs.lemmas.List.Elements.{All-from_recursion, All-tail}
use Rattle.json_scalar.specs.Text.{Piece, string_text}
use Rattle.json_span.specs.Grammar as json
use Rattle.json_span.specs.Grammar.{Space, Value, Members, value_text, members_text, depth, members_depth, space_text, member_at, member_end, members_from}
use Rattle.json_span.specs.Members.{IsObject, IsObjectValue, members_of, text_at}
use Rattle.json_span.specs.declared.Member.{Member}
use Rattle.json_span.proofs.Parts.{part_at, are_parts}
use Rattle.json_fields.specs.Fields.{HasField, Holds, HoldsBefore}
use Rattle.json_write.specs.Values.{IsValueWithin}
use Rattle.json_write.proofs.Depths.{object_deep}

-- a tree that nests at most so deep spells the text
record IsDeep (limit : ℕ) (text : List ℕ) : Type 0 where
  value : Value
  spelled : text ≡ value_text value
  within : depth value ≤ limit

-- ---- where a value stands

to_value : (f a b c d v e r t : List ℕ) (mark colon : ℕ) → f ++ ((mark ∷ (a ++ (b ++ (c ++ colon ∷ (d ++ (v ++ (e ++ r))))))) ++ t) ≡ (f ++ mark ∷ (a ++ (b ++ (c ++ colon ∷ d)))) ++ (v ++ (e ++ (r ++ t)))
to_value f a b c d v e r t mark colon = simp append_assoc

to_next : (f a b c d v e r t : List ℕ) (mark colon : ℕ) → f ++ ((mark ∷ (a ++ (b ++ (c ++ colon ∷ (d ++ (v ++ (e ++ r))))))) ++ t) ≡ (f ++ mark ∷ (a ++ (b ++ (c ++ colon ∷ (d ++ (v ++ e)))))) ++ (r ++ t)
to_next f a b c d v e r t mark colon = simp append_assoc

front_size : (f a b c d : List ℕ) (mark colon : ℕ) → length (f ++ mark ∷ (a ++ (b ++ (c ++ colon ∷ d)))) ≡ length f + 1 + length a + length b + length c + 1 + length d
front_size f a b c d mark colon =
    let e1 = length-append f (mark ∷ (a ++ (b ++ (c ++ colon ∷ d)))) in
    let e2 = length-append a (b ++ (c ++ colon ∷ d)) in
    let e3 = length-append b (c ++ colon ∷ d) in
    let e4 = length-append c (colon ∷ d) in
    omega arith

next_size : (f a b c d v e : List ℕ) (mark colon : ℕ) → length (f ++ mark ∷ (a ++ (b ++ (c ++ colon ∷ (d ++ (v ++ e)))))) ≡ length f + 1 + length a + length b + length c + 1 + length d + length v + length e
next_size f a b c d v e mark colon =
    let s = front_size f a b c (d ++ (v ++ e)) mark colon in
    let e1 = length-append d (v ++ e) in
    let e2 = length-append v e in
    omega arith

module _ (text front : List ℕ) (mark : ℕ) (before : List Space) (key : List Piece) (behind ahead : List Space) (v : Value) (after : List Space) (rest tail : List ℕ) (from start : ℕ) (is_at : from ≡ length front) (starts : start ≡ from + 1 + length (space_text before))
    (split : text ≡ front ++ ((mark ∷ (space_text before ++ (string_text key ++ (space_text behind ++ 58 ∷ (space_text ahead ++ (value_text v ++ (space_text after ++ rest))))))) ++ tail)) where
  held_is : text_at text (member_at start key behind ahead v).value ≡ value_text v
  held_is =
      let m = member_at start key behind ahead v in
      let size = front_size front (space_text before) (string_text key) (space_text behind) (space_text ahead) mark 58 in
      part_at text (front ++ mark ∷ (space_text before ++ (string_text key ++ (space_text behind ++ 58 ∷ space_text ahead)))) (value_text v) (space_text after ++ (rest ++ tail)) m.value.start m.value.end
      (split ∙ to_value front (space_text before) (string_text key) (space_text behind) (space_text ahead) (value_text v) (space_text after) rest tail mark 58) (omega arith) refl

  next_front : List ℕ
  next_front = front ++ mark ∷ (space_text before ++ (string_text key ++ (space_text behind ++ 58 ∷ (space_text ahead ++ (value_text v ++ space_text after)))))

  next_split : text ≡ next_front ++ (rest ++ tail)
  unfolding next_front
  next_split = split ∙ to_next front (space_text before) (string_text key) (space_text behind) (space_text ahead) (value_text v) (space_text after) rest tail mark 58

  next_place : member_end start key behind ahead v after ≡ length next_front
  unfolding next_front
  next_place =
      let size = next_size front (space_text before) (string_text key) (space_text behind) (space_text ahead) (value_text v) (space_text after) mark 58 in
      omega arith

-- ---- each value

deep_members : (limit : ℕ) (text : List ℕ) (members : Members) (front tail : List ℕ) (from : ℕ) → from ≡ length front → text ≡ front ++ (members_text members ++ tail) → members_depth members ≤ limit → AllByRecursion (λ m. IsDeep limit (text_at text m.value)) (members_from from members)
deep_members limit text json.end_object front tail from is_at split le = tt
deep_members limit text (json.member before key behind ahead v after members) front tail from is_at split le =
    let start = from + 1 + length (space_text before) in
    let rest = members_text members in (
      record { value = v; spelled = held_is text front 44 before key behind ahead v after rest tail from start is_at refl split; within = omega arith },
      deep_members limit text members (next_front text front 44 before key behind ahead v after rest tail from start is_at refl split) tail (member_end start key behind ahead v after)
          (next_place text front 44 before key behind ahead v after rest tail from start is_at refl split) (next_split text front 44 before key behind ahead v after rest tail from start is_at refl split) (omega arith),
    )

deep_object : (limit : ℕ) (text : List ℕ) (v : Value) → IsObjectValue v → (front tail : List ℕ) (from : ℕ) → from ≡ length front → text ≡ front ++ (value_text v ++ tail) → depth v ≤ limit + 1 → AllByRecursion (λ m. IsDeep limit (text_at text m.value)) (members_of from v)
deep_object limit text (json.empty_object ss) is front tail from is_at split le = tt
deep_object limit text (json.object before key behind ahead v after members) is front tail from is_at split le =
    let start = from + 1 + length (space_text before) in
    let rest = members_text members in (
      record { value = v; spelled = held_is text front 123 before key behind ahead v after rest tail from start is_at refl split; within = omega arith },
      deep_members limit text members (next_front text front 123 before key behind ahead v after rest tail from start is_at refl split) tail (member_end start key behind ahead v after)
          (next_place text front 123 before key behind ahead v after rest tail from start is_at refl split) (next_split text front 123 before key behind ahead v after rest tail from start is_at refl split) (omega arith),
    )
deep_object limit text _ is front tail from is_at split le = absurd is

pub values_within : (limit : ℕ) (text : List ℕ) (deep : ℕ) (members : List Member) → IsObject text deep members → deep ≤ limit + 1 → All (λ m. IsValueWithin limit (text_at text m.value)) members
values_within limit text deep members o le =
    let same = o.deepest in
    let by_recursion = deep_object limit text o.value o.spells.object (space_text o.before) (space_text o.after) (length (space_text o.before)) refl o.spells.spelled (omega arith) in
    let all_deep : All (λ m. IsDeep limit (text_at text m.value)) members = subst (λ (l : List Member). All (λ m. IsDeep limit (text_at text m.value)) l) (sym o.places) (All-from_recursion (λ m. IsDeep limit (text_at text m.value)) (members_of (length (space_text o.before)) o.value) by_recursion) in
    let parts = are_parts text deep members o in
    λ k d h.
    let here = all_deep k d h in
    record { is = record { utf8 = (parts k d h).value.utf8; value = here.value; spelled = here.spelled }; within = here.within }

-- ---- what a name holds

pub holds_has : (P : List ℕ → Type 0) (text name : List ℕ) (members : List Member) (held : List ℕ) → All (λ m. P (text_at text m.value)) members → Holds text name members (Some held) → P held
holds_has P text name [] held all h = absurd (nothing h)
  where
    nothing : Some held ≡ None → ⊥
    nothing e = cc
holds_has P text name (m ∷ members) held all h = go (λ later more. holds_has P text name members later (All-tail (λ (n : Member). P (text_at text n.value)) m members all) more) h.0 h.1 h.2
  where
    same : (a b : List ℕ) → Some a ≡ Some b → b ≡ a
    same a b e = cc

    other : Some held ≡ None → ⊥
    other e = cc

    go : ((later : List ℕ) → Holds text name members (Some later) → P later) → (later : Option (List ℕ)) → Holds text name members later → HoldsBefore text name m later (Some held) → P held
    go behind (Some later) more e = subst P (same held later e) (behind later more)
    go behind None more (inl here) = subst P (same held (text_at text m.value) here.1) (all 0 m (omega arith))
    go behind None more (inr there) = absurd (other there.1)

pub field_within : (limit outer : ℕ) (text name held : List ℕ) → outer ≤ limit + 1 → IsValueWithin outer text → HasField text name held → IsValueWithin limit held
field_within limit outer text name held le w f =
    let o = f.object in
    let same = object_deep text o.deep f.members w.is o.object in
    let within = w.within in
    holds_has (IsValueWithin limit) text name f.members held (values_within limit text o.deep f.members o.object (omega arith)) f.holds
