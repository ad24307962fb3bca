-- The values of an object's members: none nests too deep, and each is cut as a text of its own.
use Rattle.std.proofs.Common.{◌≡◌, ℕ, zero, suc, ◌+◌, ◌<◌, ◌≤◌, List, [], ◌∷◌, ◌++◌, length, get_or, refl, sym, ap, subst, ◌∙◌, arith, append-nil, length-append, Option, Some}
use Rattle.std.specs.List.{slice_get}
use Rattle.json_span.specs.Grammar.{value_text, depth}
use Rattle.json_span.specs.Members.{IsObject, IsNoObject, IsSomeObject, IsValue, IsDeeper, AreMembers, members_of, text_at}
use Rattle.json_span.specs.Levels.{IsInside, AreShallow}
use Rattle.json_span.specs.declared.Member.{Member}
use Rattle.json_span.proofs.First.{value_is, is_object_value, begins_some, BeginsWith}
use Rattle.json_span.proofs.Parts.{are_nested}

-- a value that is an object nests as deep as its tree
own_object : (text : List ℕ) (h : IsValue text) → IsSomeObject text → IsObject text (depth h.value) (members_of 0 h.value)
own_object text h o =
    let v = h.value in
    let is = is_object_value v [] (subst (λ (l : List ℕ). BeginsWith 123 l) (value_is text v h.spelled) (begins_some text h o)) in
    record { before = []; value = v; after = []; spells = record { utf8 = h.utf8; object = is; spelled = h.spelled ∙ sym (append-nil (value_text v)) }; deepest = refl; places = refl }

not_deeper : (limit : ℕ) (text : List ℕ) (h : IsValue text) → depth h.value ≤ limit → IsDeeper limit text → ⊥
not_deeper limit text h low d =
    let o = own_object text h record { deep = d.deep; members = d.members; object = d.object } in
    let high : limit < depth h.value = d.deeper (depth h.value) (members_of 0 h.value) o in
    omega arith

-- the values of an object nest no deeper than it
pub are_shallow : (limit : ℕ) (text : List ℕ) (members : List Member) → AreMembers limit text members → AreShallow limit text members
are_shallow limit text members a k d h =
    let n = are_nested text a.deep members a.object k d h in
    let low = n.nests in
    let within = a.within in
    not_deeper limit (text_at text (get_or members k d).value) n.part.value (omega arith)

-- no object: none with any depth and members
pub none_inside : (text : List ℕ) → IsNoObject text → IsSomeObject text → ⊥
none_inside text h o = h o.deep o.members o.object

-- One more value behind those that are cut.
pub each_more : (P : Member → Option (List Member) → Type 0) (outer : List Member) (inner : List (Option (List Member))) (m : Member) (i : Option (List Member))
    → ((k : ℕ) (n : Member) → slice_get outer k ≡ Some n → (found : Option (List Member)) → slice_get inner k ≡ Some found → P n found)
    → slice_get outer (length inner) ≡ Some m → P m i
    → (k : ℕ) (n : Member) → slice_get outer k ≡ Some n → (found : Option (List Member)) → slice_get (inner ++ i ∷ []) k ≡ Some found → P n found
each_more P [] [] m i each e p k n f found g = absurd (cc (e))
each_more P (o ∷ os) [] m i each e p zero n f found g = subst (λ (x : Option (List Member)). P n x) (cc) (subst (λ (x : Member). P x i) (cc) p)
each_more P (o ∷ os) [] m i each e p (suc k) n f found g = absurd (cc)
each_more P [] (x ∷ xs) m i each e p k n f found g = absurd (cc)
each_more P (o ∷ os) (x ∷ xs) m i each e p zero n f found g = each zero n f found g
each_more P (o ∷ os) (x ∷ xs) m i each e p (suc k) n f found g = each_more P os xs m i (λ j. each (suc j)) e p k n f found g

pub more_inside : (text : List ℕ) (outer : List Member) (index : ℕ) (m : Member) (i : Option (List Member)) (inner after : List (Option (List Member))) (value : List ℕ)
    → length inner ≡ index
    → ((k : ℕ) (n : Member) → slice_get outer k ≡ Some n → (found : Option (List Member)) → slice_get inner k ≡ Some found → IsInside 127 (text_at text n.value) found)
    → slice_get outer index ≡ Some m → value ≡ text_at text m.value → IsInside 127 value i → after ≡ inner ++ i ∷ []
    → record {
      as_many : length after ≡ index + 1;
      each : (k : ℕ) (n : Member) → slice_get outer k ≡ Some n → (found : Option (List Member)) → slice_get after k ≡ Some found → IsInside 127 (text_at text n.value) found;
    }
more_inside text outer index m i inner after value size each at e is f = record {
  as_many = ap (λ (l : List (Option (List Member))). length l) f ∙ length-append inner (i ∷ []) ∙ ap (λ (n : ℕ). n + 1) size;
  each = subst (λ (l : List (Option (List Member))). (k : ℕ) (n : Member) → slice_get outer k ≡ Some n → (found : Option (List Member)) → slice_get l k ≡ Some found → IsInside 127 (text_at text n.value) found) (sym f)
      (each_more (λ n found. IsInside 127 (text_at text n.value) found) outer inner m i each (ap (λ (k : ℕ). slice_get outer k) size ∙ at) (subst (λ (t : List ℕ). IsInside 127 t i) e is));
}
