-- The last member of each name, noted from the last member on.
use Rattle.std.proofs.Common.{arith, ◌≡◌, ◌≢◌, ◌<◌, ◌≤◌, ◌+◌, ℕ, zero, suc, inl, inr, List, [], ◌∷◌, Option, None, Some, All, length, drop, slice_get, slice_set, slice_index_or, get_or, refl, sym, ◌∙◌, ap, subst, add-one, drop-cons}
use Rattle.std.specs.List.{IsDistinct}
use Rattle.std.specs.Str.{bytes_eq}
use Rattle.std.proofs.lemmas.Option.{slice_get-get_or, slice_get_read, slice_get_within}
use Rattle.std.proofs.lemmas.List.{drop_all}
use Rattle.json_scalar.specs.Text.{IsString}
use Rattle.json_span.specs.Members.{AreMembers, HasOnlyMembers, IsDeeper, IsMemberOf, IsNoObject, text_at}
use Rattle.json_span.specs.declared.Member.{Member}
use Rattle.json_fields.specs.Answer.{IsAnswer}
use Rattle.json_fields.specs.Fields.{HasField, Holds, line_depth}
use Rattle.json_fields.proofs.FieldLemmas.{field_answer}
use Rattle.json_fields.proofs.Keys.{get_at, only_holds, string_only}
use Rattle.name_index.proofs.NameLemmas.{one_place}
use Rattle.batch_prep.specs.Places.{AreDataMembers, AreFound, AreHeldFrom, AreUnknown, IsHeldAt, IsHeldFrom, IsSlotOf, noted, noted_over}
use Rattle.batch_prep.proofs.PlaceLemmas.{None-Some, Some-injective}

-- ---- places in lists

set_same : {A : Type 0} (xs : List A) (i : ℕ) (y x : A) → slice_get (slice_set xs i y) i ≡ Some x → x ≡ y
set_same [] i y x at = absurd (None-Some x at)
set_same (z ∷ xs) zero y x at = sym (Some-injective y x at)
set_same (z ∷ xs) (suc i) y x at = set_same xs i y x at

set_other : {A : Type 0} (xs : List A) (i j : ℕ) (y : A) → j ≢ i → slice_get (slice_set xs i y) j ≡ slice_get xs j
set_other [] i j y apart = refl
set_other (z ∷ xs) zero zero y apart = absurd (apart refl)
set_other (z ∷ xs) zero (suc j) y apart = refl
set_other (z ∷ xs) (suc i) zero y apart = refl
set_other (z ∷ xs) (suc i) (suc j) y apart = set_other xs i j y (λ e. apart (ap suc e))

set_long : {A : Type 0} (xs : List A) (i : ℕ) (y : A) → length (slice_set xs i y) ≡ length xs
set_long [] i y = refl
set_long (z ∷ xs) zero y = refl
set_long (z ∷ xs) (suc i) y = ap suc (set_long xs i y)

-- a place is another or the same
same_or : {P : Type 0} (i j : ℕ) → (i ≡ j → P) → (i ≢ j → P) → P
same_or zero zero same other = same refl
same_or zero (suc j) same other = other (λ e. omega (arith, e))
same_or (suc i) zero same other = other (λ e. omega (arith, e))
same_or (suc i) (suc j) same other = same_or i j (λ e. same (ap suc e)) (λ apart. other (λ e. apart (omega (arith, e))))

-- ---- one member more in front

drop_member : (members : List Member) (i : ℕ) (d : Member) → i < length members → drop i members ≡ slice_index_or members i d ∷ drop (i + 1) members
drop_member members i d lt = drop-cons members i d lt ∙ ap (λ (k : ℕ). slice_index_or members i d ∷ drop k members) (sym (add-one i))

held_named : (body name : List ℕ) (members : List Member) (i : ℕ) (d : Member) → i < length members → IsString (text_at body (slice_index_or members i d).key) name → IsHeldFrom body members (i + 1) name None → IsHeldFrom body members i name (Some i)
held_named body name members i d lt named none =
    let m = slice_index_or members i d in
    (m, get_at members i d lt, subst (λ (l : List Member). Holds body name l (Some (text_at body m.value))) (sym (drop_member members i d lt)) (None, none, inl (named, refl)))

held_stays : (body name : List ℕ) (members : List Member) (i place : ℕ) (d : Member) → i < length members → IsHeldFrom body members (i + 1) name (Some place) → IsHeldFrom body members i name (Some place)
held_stays body name members i place d lt held =
    (held.0, held.1, subst (λ (l : List Member). Holds body name l (Some (text_at body held.0.value))) (sym (drop_member members i d lt)) (Some (text_at body held.0.value), held.2, refl))

held_other : (body name : List ℕ) (members : List Member) (i : ℕ) (d : Member) (place : Option ℕ) → i < length members → ¬ IsString (text_at body (slice_index_or members i d).key) name → IsHeldFrom body members (i + 1) name place → IsHeldFrom body members i name place
held_other body name members i d None lt other held =
    subst (λ (l : List Member). Holds body name l None) (sym (drop_member members i d lt)) (None, held, inr (other, refl))
held_other body name members i d (Some place) lt other held = held_stays body name members i place d lt held

-- a key of none of the names changes nothing
pub step_none : (body : List ℕ) (names : List (List ℕ)) (members : List Member) (i : ℕ) (d : Member) (key : List ℕ) (places : List (Option ℕ)) → i < length members → key ≡ text_at body (slice_index_or members i d).key → IsSlotOf names key None → AreHeldFrom body names members (i + 1) places → AreHeldFrom body names members i places
step_none body names members i d key places lt is none held = record {
  as_many = held.as_many;
  each = λ slot name place at there. held_other body name members i d place lt (subst (λ (k : List ℕ). ¬ IsString k name) is (none slot name at)) (held.each slot name place at there);
}

noted_long : (places : List (Option ℕ)) (slot place : ℕ) (found : Option (Option ℕ)) → length (noted_over places slot place found) ≡ length places
noted_long places slot place None = refl
noted_long places slot place (Some (Some other)) = refl
noted_long places slot place (Some None) = set_long places slot (Some place)

noted_apart : (places : List (Option ℕ)) (slot place j : ℕ) (found : Option (Option ℕ)) → j ≢ slot → slice_get (noted_over places slot place found) j ≡ slice_get places j
noted_apart places slot place j None apart = refl
noted_apart places slot place j (Some (Some other)) apart = refl
noted_apart places slot place j (Some None) apart = set_other places slot j (Some place) apart

noted_here : (body : List ℕ) (names : List (List ℕ)) (members : List Member) (i : ℕ) (d : Member) (name : List ℕ) (places : List (Option ℕ)) (slot : ℕ) (place : Option ℕ) (found : Option (Option ℕ)) → i < length members → IsString (text_at body (slice_index_or members i d).key) name → slice_get names slot ≡ Some name → AreHeldFrom body names members (i + 1) places → slice_get places slot ≡ found → slice_get (noted_over places slot i found) slot ≡ Some place → IsHeldFrom body members i name place
noted_here body names members i d name places slot place None lt named at held there now = absurd (None-Some place (sym there ∙ now))
noted_here body names members i d name places slot place (Some (Some other)) lt named at held there now =
    let e = Some-injective (Some other) place (sym there ∙ now) in
    subst (λ (p : Option ℕ). IsHeldFrom body members i name p) e (held_stays body name members i other d lt (held.each slot name (Some other) at there))
noted_here body names members i d name places slot place (Some None) lt named at held there now =
    subst (λ (p : Option ℕ). IsHeldFrom body members i name p) (sym (set_same places slot (Some i) place now)) (held_named body name members i d lt named (held.each slot name None at there))

-- a member whose key is one of the names is noted where none behind it was
pub step_some : (body : List ℕ) (names : List (List ℕ)) (members : List Member) (i : ℕ) (d : Member) (key : List ℕ) (places new : List (Option ℕ)) (slot : ℕ) → IsDistinct bytes_eq names → i < length members → key ≡ text_at body (slice_index_or members i d).key → IsSlotOf names key (Some slot) → AreHeldFrom body names members (i + 1) places → new ≡ noted places slot i → AreHeldFrom body names members i new
step_some body names members i d key places new slot distinct lt is found held e =
    subst (λ (l : List (Option ℕ)). AreHeldFrom body names members i l) (sym e) (record {
      as_many = noted_long places slot i (slice_get places slot) ∙ held.as_many;
      each = λ j name place at there. same_or j slot (λ same. here j name place at there same) (λ apart. there_too j name place at there apart);
    })
  where
    key_is : IsString (text_at body (slice_index_or members i d).key) found.0
    key_is = subst (λ (k : List ℕ). IsString k found.0) is found.2

    here : (j : ℕ) (name : List ℕ) (place : Option ℕ) → slice_get names j ≡ Some name → slice_get (noted places slot i) j ≡ Some place → j ≡ slot → IsHeldFrom body members i name place
    here j name place at there same =
        let same_name : found.0 ≡ name = Some-injective found.0 name (sym found.1 ∙ ap (λ (k : ℕ). slice_get names k) (sym same) ∙ at) in
        subst (λ (n : List ℕ). IsHeldFrom body members i n place) same_name
        (noted_here body names members i d found.0 places slot place (slice_get places slot) lt key_is found.1 held refl (ap (λ (k : ℕ). slice_get (noted places slot i) k) (sym same) ∙ there))

    there_too : (j : ℕ) (name : List ℕ) (place : Option ℕ) → slice_get names j ≡ Some name → slice_get (noted places slot i) j ≡ Some place → j ≢ slot → IsHeldFrom body members i name place
    there_too j name place at there apart =
        held_other body name members i d place lt
        (λ named. apart (one_place names j slot found.0 distinct (at ∙ ap (λ (n : List ℕ). Some n) ((string_only (text_at body (slice_index_or members i d).key) found.0 key_is).only name named)) found.1))
        (held.each j name place at (sym (noted_apart places slot i j (slice_get places slot) apart) ∙ there))

-- before the first member nothing is noted
pub unknown_held : (body : List ℕ) (names : List (List ℕ)) (members : List Member) (from : ℕ) (places : List (Option ℕ)) → length members ≤ from → AreUnknown (length names) places → AreHeldFrom body names members from places
unknown_held body names members from places past unknown = record {
  as_many = unknown.as_many;
  each = λ slot name place at there. subst (λ (p : Option ℕ). IsHeldFrom body members from name p) (sym (unknown.none slot place there)) (subst (λ (l : List Member). Holds body name l None) (sym (drop_all from members past)) refl);
}

-- ---- what is found

-- the members that were cut
pub cut_members : (body : List ℕ) (members : List Member) → AreMembers line_depth body members → HasOnlyMembers line_depth body members → All (IsMemberOf body) members → AreDataMembers body members
cut_members body members are only parts = inl (record { are = are; only = λ others other. (only other.deep others other.object).1; parts = parts })

pub no_object : (body : List ℕ) (members : List Member) → IsNoObject body → members ≡ [] → AreDataMembers body members
no_object body members none e = inr (λ is. none is.object.deep is.members is.object.object, e)

pub too_deep : (body : List ℕ) (members : List Member) → IsDeeper line_depth body → members ≡ [] → AreDataMembers body members
too_deep body members deeper e = inr (λ is. let a = deeper.deeper is.object.deep is.members is.object.object in let b = is.object.within in omega (arith, a, b), e)

drop_none : (body name : List ℕ) (members : List Member) (found : Option (List ℕ)) → Holds body name (drop 0 members) found → Holds body name members found
drop_none body name members found h = h

answer_of : (body name : List ℕ) (members : List Member) (found : Option (List ℕ)) → AreDataMembers body members → Holds body name members found → IsAnswer (HasField body name) found
answer_of body name members found (inl cut) h = field_answer body name members found cut (only_holds body name members found h)
answer_of body name members found (inr uncut) h =
    subst (λ (f : Option (List ℕ)). IsAnswer (HasField body name) f) (sym (subst (λ (l : List Member). Holds body name l found) uncut.1 h)) (λ held field. uncut.0 (record { members = field.members; object = field.object }))

-- what the name at a place holds, where its member is noted
pub found_some : (body : List ℕ) (names : List (List ℕ)) (members : List Member) (places : List (Option ℕ)) (slot place : ℕ) (value : List ℕ) → AreFound body names members places → slice_get places slot ≡ Some (Some place) → ((m : Member) → slice_get members place ≡ Some m → value ≡ text_at body m.value) → IsHeldAt body names slot (Some value)
found_some body names members places slot place value found there is = λ name at.
    let held = found.held.each slot name (Some place) at there in
    let e : text_at body held.0.value ≡ value = sym (is held.0 held.1) in
    answer_of body name members (Some value) found.cut (subst (λ (v : List ℕ). Holds body name members (Some v)) e (drop_none body name members (Some (text_at body held.0.value)) held.2))

pub found_none : (body : List ℕ) (names : List (List ℕ)) (members : List Member) (places : List (Option ℕ)) (slot : ℕ) → AreFound body names members places → slice_get places slot ≡ Some None → IsHeldAt body names slot None
found_none body names members places slot found there = λ name at.
    answer_of body name members None found.cut (drop_none body name members None (found.held.each slot name None at there))

-- a place that is noted is one of the members
pub place_within : (body : List ℕ) (names : List (List ℕ)) (members : List Member) (places : List (Option ℕ)) (slot place : ℕ) → AreFound body names members places → slot < length names → slice_get places slot ≡ Some (Some place) → place < length members
place_within body names members places slot place found lt there =
    let held = found.held.each slot (slice_index_or names slot []) (Some place) (slice_get-get_or names slot [] lt) there in
    slice_get_within members place held.0 held.1

-- the text of a member by its place
pub text_by : (body : List ℕ) (members : List Member) (place : ℕ) (d : Member) (value : List ℕ) → place < length members → value ≡ text_at body (slice_index_or members place d).value → (m : Member) → slice_get members place ≡ Some m → value ≡ text_at body m.value
text_by body members place d value lt is = λ m at. is ∙ ap (λ (x : Member). text_at body x.value) (Some-injective (slice_index_or members place d) m (sym (get_at members place d lt) ∙ at))

-- what is known once data was cut
pub all_found : (body : List ℕ) (names : List (List ℕ)) (members : List Member) (places : List (Option ℕ)) → AreDataMembers body members → All (IsMemberOf body) members → AreHeldFrom body names members 0 places → AreFound body names members places
all_found body names members places cut parts held = record { cut = cut; parts = parts; held = held }

-- a place that was read
pub place_read : (names : List (List ℕ)) (places : List (Option ℕ)) (slot : ℕ) (x y : Option ℕ) → length places ≡ length names → slot < length names → x ≡ get_or places slot x → x ≡ y → slice_get places slot ≡ Some y
place_read names places slot x y long lt read e = slice_get_read places (length names) slot x (sym long) lt read ∙ ap (λ (z : Option ℕ). Some z) e
