-- An object that is written of members of a text as they stand there, and of further members: what it holds. The keys that are
-- kept may have escapes, so what a name holds is asked of what each key stands for.
use Rattle.std.proofs.Common.{◌≡◌, ◌⊎◌, inl, inr, ℕ, ◌+◌, ◌≤◌, List, [], ◌∷◌, ◌++◌, map, Option, None, Some, All, refl, sym, subst, arith}
use Rattle.std.proofs.lemmas.List.Elements.{All-cons, All-tail}
use Rattle.json_scalar.specs.Text.{IsString}
use Rattle.json_scalar.proofs.Contents.{one_meaning}
use Rattle.json_span.specs.Members.{AreMembers, IsMemberOf, text_at}
use Rattle.json_span.specs.declared.Member.{Member}
use Rattle.json_span.proofs.Parts.{are_parts}
use Rattle.json_fields.specs.Fields.{HasField, HasOptional, Holds, HoldsBefore, line_depth}
use Rattle.json_fields.specs.Parts.{Keeps}
use Rattle.json_fields.proofs.OnlyLemmas.{members_same}
use Rattle.json_write.specs.Values.{IsValueWithin}
use Rattle.json_write.specs.Objects.{Part, named, object_text}
use Rattle.json_write.specs.Laws.{AreSound, IsObjectOf, part_at}
use Rattle.json_write.proofs.HeldValues.{values_within}
use Rattle.json_write.proofs.Names.{PartsHold, from_parts, to_parts}
use Rattle.json_write.proofs.Trees.{object_of}

-- ---- further members

-- behind these come members of other names
others_behind : (name : List ℕ) (parts further : List Part) (found : Option (List ℕ)) → PartsHold name further None → PartsHold name parts found → PartsHold name (parts ++ further) found
others_behind name [] further found none h = subst (λ (f : Option (List ℕ)). PartsHold name further f) (sym h) none
others_behind name (part ∷ parts) further found none h = (h.0, others_behind name parts further h.0 none h.1, h.2)

-- behind these comes one of this name
named_behind : (name : List ℕ) (parts further : List Part) (value : List ℕ) → PartsHold name further (Some value) → PartsHold name (parts ++ further) (Some value)
named_behind name [] further value h = h
named_behind name (part ∷ parts) further value h = (Some value, named_behind name parts further value h, refl)

-- ---- members that are kept

module _ (IsLeftOut : List ℕ → Type 0) (text : List ℕ) where
  -- what holds of all members holds of those that are kept
  pub kept_all : (P : Member → Type 0) (members kept : List Member) → Keeps IsLeftOut text members kept → All P members → All P kept
  kept_all P [] kept h all = subst (λ (ms : List Member). All P ms) (sym h) all
  kept_all P (m ∷ members) kept h all = go (kept_all P members h.0 h.1 (All-tail P m members all)) h.2
    where
      go : All P h.0 → (IsLeftOut (text_at text m.key) × (kept ≡ h.0)) ⊎ ((¬ IsLeftOut (text_at text m.key)) × (kept ≡ m ∷ h.0)) → All P kept
      go more (inl out) = subst (λ (ms : List Member). All P ms) (sym out.1) more
      go more (inr stays) = subst (λ (ms : List Member). All P ms) (sym stays.1) (All-cons P m h.0 (all 0 m (omega arith)) more)

  -- a name whose keys are not left out holds among them what it held
  pub kept_holds : (name : List ℕ) → ((key : List ℕ) → IsLeftOut key → ¬ IsString key name) → (members kept : List Member) (found : Option (List ℕ)) → Keeps IsLeftOut text members kept → Holds text name members found → Holds text name kept found
  kept_holds name unlike [] kept found h holds = subst (λ (ms : List Member). Holds text name ms found) (sym h) holds
  kept_holds name unlike (m ∷ members) kept found h holds = go (kept_holds name unlike members h.0 holds.0 h.1 holds.1) h.2
    where
      passed : (later : Option (List ℕ)) → ¬ IsString (text_at text m.key) name → HoldsBefore text name m later found → found ≡ later
      passed (Some later) other before = before
      passed None other (inl is) = absurd (other is.0)
      passed None other (inr is) = is.1

      go : Holds text name h.0 holds.0 → (IsLeftOut (text_at text m.key) × (kept ≡ h.0)) ⊎ ((¬ IsLeftOut (text_at text m.key)) × (kept ≡ m ∷ h.0)) → Holds text name kept found
      go more (inl out) =
          let same = passed holds.0 (unlike (text_at text m.key) out.0) holds.2 in
          subst (λ (ms : List Member). Holds text name ms found) (sym out.1) (subst (λ (f : Option (List ℕ)). Holds text name h.0 f) (sym same) more)
      go more (inr stays) = subst (λ (ms : List Member). Holds text name ms found) (sym stays.1) (holds.0, more, holds.2)

-- ---- the object that is written

kept_sound : (limit : ℕ) (text : List ℕ) (kept : List Member) → All (IsMemberOf text) kept → All (λ m. IsValueWithin limit (text_at text m.value)) kept → AreSound limit (map (part_at text) kept)
kept_sound limit text [] are within = tt
kept_sound limit text (m ∷ kept) are within =
    let here = are 0 m (omega arith) in (
      record { name = here.name; key = here.key; value = within 0 m (omega arith) },
      kept_sound limit text kept (All-tail (IsMemberOf text) m kept are) (All-tail (λ (n : Member). IsValueWithin limit (text_at text n.value)) m kept within),
    )

pub sound_append : (limit : ℕ) (parts further : List Part) → AreSound limit parts → AreSound limit further → AreSound limit (parts ++ further)
sound_append limit [] further a b = b
sound_append limit (part ∷ parts) further a b = (a.0, sound_append limit parts further a.1 b)

-- A name that is neither left out nor written anew. Where the further members have names of their own, `Names.pairs_hold` gives
-- the second.
pub record Stays (IsLeftOut : List ℕ → Type 0) (further : List Part) (name : List ℕ) : Type 0 where
  pub kept : (key : List ℕ) → IsLeftOut key → ¬ IsString key name
  pub none : PartsHold name further None

-- a string stands for one name
pub unlike : (key meaning name : List ℕ) → (meaning ≡ name → ⊥) → IsString key meaning → ¬ IsString key name
unlike key meaning name differ is named = differ (one_meaning key meaning name is named)

-- The text is an object of these members, and of the further ones behind them. What the raw object holds under a name that stays,
-- the text holds, and under the others what the further members hold.
pub record ReadsKept (IsLeftOut : List ℕ → Type 0) (limit : ℕ) (raw : List ℕ) (kept : List Member) (further : List Part) (text : List ℕ) : Type 0 where
  pub object : IsObjectOf limit text (map (part_at raw) kept ++ further)
  pub are : AreMembers line_depth text object.members
  pub field : (name held : List ℕ) → Stays IsLeftOut further name → HasField raw name held → HasField text name held
  pub optional : (name : List ℕ) (found : Option (List ℕ)) → Stays IsLeftOut further name → HasOptional raw name found → HasOptional text name found
  pub written : (name value : List ℕ) → PartsHold name further (Some value) → HasField text name value

module _ (IsLeftOut : List ℕ → Type 0) (limit : ℕ) (raw : List ℕ) (members kept : List Member) (further : List Part) (le : limit + 1 ≤ line_depth) (of : AreMembers (limit + 1) raw members) (keeps : Keeps IsLeftOut raw members kept) (sound : AreSound limit further) where
  text : List ℕ
  text = object_text (map (part_at raw) kept ++ further)

  object : IsObjectOf (limit + 1) text (map (part_at raw) kept ++ further)
  unfolding text
  object =
      let are = kept_all IsLeftOut raw (IsMemberOf raw) members kept keeps (are_parts raw of.deep members of.object) in
      let within = kept_all IsLeftOut raw (λ m. IsValueWithin limit (text_at raw m.value)) members kept keeps (values_within limit raw of.deep members of.object of.within) in
      object_of limit (map (part_at raw) kept ++ further) (sound_append limit (map (part_at raw) kept) further (kept_sound limit raw kept are within) sound)

  in_line : AreMembers line_depth text object.members
  in_line = record { deep = object.are.deep; within = (let w = object.are.within in omega arith); object = object.are.object }

  by_parts : (name : List ℕ) (found : Option (List ℕ)) → PartsHold name (map (part_at raw) kept ++ further) found → Holds text name object.members found
  by_parts name found h = from_parts text name object.members found (subst (λ (parts : List Part). PartsHold name parts found) (sym object.cut) h)

  carried : (name : List ℕ) (found : Option (List ℕ)) → Stays IsLeftOut further name → (others : List Member) → AreMembers line_depth raw others → Holds raw name others found → Holds text name object.members found
  carried name found stays others is h =
      let held = subst (λ (ms : List Member). Holds raw name ms found) (members_same (limit + 1) line_depth raw members others of is) h in
      by_parts name found (others_behind name (map (part_at raw) kept) further found stays.none (to_parts raw name kept found (kept_holds IsLeftOut raw name stays.kept members kept found keeps held)))

  -- an object of members that are kept and of further ones, written
  pub reads_kept : ReadsKept IsLeftOut (limit + 1) raw kept further (object_text (map (part_at raw) kept ++ further))
  unfolding text
  reads_kept = record {
    object = object;
    are = in_line;
    field = λ name held stays f. record { members = object.members; object = in_line; holds = carried name (Some held) stays f.members f.object f.holds };
    optional = λ name found stays f. record { members = object.members; object = in_line; held = f.held; holds = carried name f.held stays f.members f.object f.holds; is = f.is };
    written = λ name value h. record { members = object.members; object = in_line; holds = by_parts name (Some value) (named_behind name (map (part_at raw) kept) further value h) };
  }
