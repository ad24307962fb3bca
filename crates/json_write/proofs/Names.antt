-- What a name holds in an object that was written.
use Rattle.std.proofs.Common.{◌≡◌, ◌⊎◌, inl, inr, ℕ, Bool, true, false, List, [], ◌∷◌, map, Option, None, Some, IsUtf8, bytes_eq, refl, sym, ap, ◌∙◌, subst}
use Rattle.std.proofs.lemmas.Bool.{true≢false}
use Rattle.std.proofs.lemmas.Slice.Eq.{bytes_eq-Decides}
use Rattle.json.specs.Print.{quoted}
use Rattle.json_scalar.specs.Text.{IsString}
use Rattle.json_span.specs.declared.Member.{Member}
use Rattle.json_fields.specs.Fields.{Holds, HoldsBefore}
use Rattle.json_write.specs.Objects.{Part, named}
use Rattle.json_write.specs.Laws.{IsNamedPart, AreNamed, or_here, last_of, part_at}
use Rattle.json_write.proofs.Strings.{quoted_string, quoted_only, quoted_same}

-- ---- by the texts of the members alone

abbrev pub PartBefore : List ℕ → Part → Option (List ℕ) → Option (List ℕ) → Type 0
PartBefore name part (Some later) found = found ≡ Some later
PartBefore name part None found = (IsString part.0 name × (found ≡ Some part.1)) ⊎ ((¬ IsString part.0 name) × (found ≡ None))

abbrev pub PartsHold : List ℕ → List Part → Option (List ℕ) → Type 0
PartsHold name [] found = found ≡ None
PartsHold name (part ∷ parts) found = (later : Option (List ℕ)) × PartsHold name parts later × PartBefore name part later found

module _ (text name : List ℕ) where
  part_of_member : (m : Member) (later found : Option (List ℕ)) → HoldsBefore text name m later found → PartBefore name (part_at text m) later found
  part_of_member m (Some later) found h = h
  part_of_member m None found h = h

  member_of_part : (m : Member) (later found : Option (List ℕ)) → PartBefore name (part_at text m) later found → HoldsBefore text name m later found
  member_of_part m (Some later) found h = h
  member_of_part m None found h = h

  pub to_parts : (members : List Member) (found : Option (List ℕ)) → Holds text name members found → PartsHold name (map (part_at text) members) found
  to_parts [] found h = h
  to_parts (m ∷ members) found h = (h.0, to_parts members h.0 h.1, part_of_member m h.0 found h.2)

  pub from_parts : (members : List Member) (found : Option (List ℕ)) → PartsHold name (map (part_at text) members) found → Holds text name members found
  from_parts [] found h = h
  from_parts (m ∷ members) found h = (h.0, from_parts members h.0 h.1, member_of_part m h.0 found h.2)

-- ---- members whose keys are the strings of names

-- what a member holds for a name
holds_here : (name : List ℕ) (part : Part) → IsNamedPart part → (later : Option (List ℕ)) → PartBefore name part later (or_here later (bytes_eq part.0 (quoted name)) part.1)
holds_here name part is (Some later) = refl
holds_here name part is None = go (bytes_eq part.0 (quoted name)) refl
  where
    go : (same : Bool) → bytes_eq part.0 (quoted name) ≡ same → PartBefore name part None (or_here None same part.1)
    go true e =
        let alike : part.0 ≡ quoted name = (bytes_eq-Decides part.0 (quoted name)).0 e in
        let equal : name ≡ is.name = quoted_same is.name name is.utf8 (sym alike ∙ is.key) in
        inl (subst (λ (k : List ℕ). IsString k name) (sym is.key) (subst (λ (n : List ℕ). IsString (quoted is.name) n) (sym equal) (quoted_string is.name is.utf8)), refl)
    go false e =
        inr (
          λ named. true≢false (sym ((bytes_eq-Decides part.0 (quoted name)).1 (is.key ∙ ap quoted (sym (quoted_only is.name name is.utf8 (subst (λ (k : List ℕ). IsString k name) is.key named))))) ∙ e),
          refl,
        )

pub parts_hold : (name : List ℕ) (parts : List Part) → AreNamed parts → PartsHold name parts (last_of name parts)
parts_hold name [] named = refl
parts_hold name (part ∷ parts) named = (last_of name parts, parts_hold name parts named.1, holds_here name part named.0 (last_of name parts))

pub names_hold : (text name : List ℕ) (members : List Member) (parts : List Part) → AreNamed parts → map (part_at text) members ≡ parts → Holds text name members (last_of name parts)
names_hold text name members parts named e = from_parts text name members (last_of name parts) (subst (λ (ps : List Part). PartsHold name ps (last_of name parts)) (sym e) (parts_hold name parts named))

-- ---- names with values, of which what is held is computed without the quotation marks

abbrev pub named_parts : List (List ℕ × List ℕ) → List Part
named_parts pairs = map (λ pair. named pair.0 pair.1) pairs

abbrev pub last_by_name : List ℕ → List (List ℕ × List ℕ) → Option (List ℕ)
last_by_name name [] = None
last_by_name name (pair ∷ pairs) = or_here (last_by_name name pairs) (bytes_eq pair.0 name) pair.1

same_quoted : (text name : List ℕ) → IsUtf8 text → bytes_eq (quoted text) (quoted name) ≡ bytes_eq text name
same_quoted text name u = go (bytes_eq text name) refl (bytes_eq (quoted text) (quoted name)) refl
  where
    go : (plain : Bool) → bytes_eq text name ≡ plain → (inside : Bool) → bytes_eq (quoted text) (quoted name) ≡ inside → bytes_eq (quoted text) (quoted name) ≡ plain
    go true e inside f = (bytes_eq-Decides (quoted text) (quoted name)).1 (ap quoted ((bytes_eq-Decides text name).0 e))
    go false e false f = f
    go false e true f = absurd (true≢false (sym ((bytes_eq-Decides text name).1 (sym (quoted_same text name u (sym ((bytes_eq-Decides (quoted text) (quoted name)).0 f))))) ∙ e))

pub by_name : (name : List ℕ) (pairs : List (List ℕ × List ℕ)) → AreNamed (named_parts pairs) → last_of name (named_parts pairs) ≡ last_by_name name pairs
by_name name [] named = refl
by_name name (pair ∷ pairs) named =
    let is = named.0 in
    let utf8 : IsUtf8 pair.0 = subst IsUtf8 (sym (quoted_same is.name pair.0 is.utf8 is.key)) is.utf8 in
    let rest = by_name name pairs named.1 in
    let here = same_quoted pair.0 name utf8 in
    λ i. or_here (rest i) (here i) pair.1

pub pairs_hold : (name : List ℕ) (pairs : List (List ℕ × List ℕ)) → AreNamed (named_parts pairs) → PartsHold name (named_parts pairs) (last_by_name name pairs)
pairs_hold name pairs named = subst (λ (found : Option (List ℕ)). PartsHold name (named_parts pairs) found) (by_name name pairs named) (parts_hold name (named_parts pairs) named)
