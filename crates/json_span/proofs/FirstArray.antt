-- The first of an object's values that is an array: none nests too deep, and what was read on the way is its elements.
use Rattle.std.proofs.Common.{◌≡◌, ℕ, zero, suc, ◌+◌, ◌<◌, ◌≤◌, ◌⊎◌, inl, inr, List, [], Option, Some, Result, Ok, Err, length, get_or, refl, sym, ap, subst, ◌∙◌, arith, append-nil}
use Rattle.std.specs.Prelude.{All, IfOk}
use Rattle.std.specs.List.{slice_get}
use Rattle.json_span.specs.Grammar.{value_text, depth}
use Rattle.json_span.specs.Members.{IsMemberOf, IsValue, AreMembers, text_at}
use Rattle.json_span.specs.Elements.{IsArray, IsSomeArray, IsNoArray, IsDeeperArray, elements_of}
use Rattle.json_span.specs.Lists.{NoArrayBefore, IsFirst, IsFirstArray, IsArrayCutInto, IsListed, IsListRead, AreShallowArrays}
use Rattle.json_span.specs.declared.Span.{Span}
use Rattle.json_span.specs.declared.Member.{Member}
use Rattle.json_span.proofs.First.{value_is, BeginsWith}
use Rattle.json_span.proofs.ArrayFirst.{is_array_value, begins_some}
use Rattle.json_span.proofs.Parts.{are_nested}
use Rattle.json_span.proofs.ListReading.{read_cut}

-- a value that is an array nests as deep as its tree
own_array : (text : List ℕ) (h : IsValue text) → IsSomeArray text → IsArray text (depth h.value) (elements_of 0 h.value)
own_array text h o =
    let v = h.value in
    let is = is_array_value v [] (subst (λ (l : List ℕ). BeginsWith 91 l) (value_is text v h.spelled) (begins_some text h o)) in
    record { before = []; value = v; after = []; spells = record { utf8 = h.utf8; array = is; spelled = h.spelled ∙ sym (append-nil (value_text v)) }; deepest = refl; places = refl }

not_deeper : (limit : ℕ) (text : List ℕ) (h : IsValue text) → depth h.value ≤ limit → IsDeeperArray limit text → ⊥
not_deeper limit text h low d =
    let o = own_array text h record { deep = d.deep; spans = d.spans; array = d.array } in
    let high : limit < depth h.value = d.deeper (depth h.value) (elements_of 0 h.value) o in
    omega arith

-- the values of an object nest no deeper than it
pub are_shallow : (limit : ℕ) (text : List ℕ) (members : List Member) → AreMembers limit text members → AreShallowArrays limit text members
are_shallow limit text members a k d h =
    let n = are_nested text a.deep members a.object k d h in
    let low = n.nests in
    let within = a.within in
    not_deeper limit (text_at text (get_or members k d).value) n.part.value (omega arith)

pub no_array : (text : List ℕ) → IsNoArray text → IsSomeArray text → ⊥
no_array text h o = h o.deep o.spans o.array

-- one member more whose value is no array
pub none_more : (text : List ℕ) (members : List Member) (index : ℕ) (m : Member) (value : List ℕ) → NoArrayBefore text members index → slice_get members index ≡ Some m → value ≡ text_at text m.value → (IsSomeArray value → ⊥) → NoArrayBefore text members (index + 1)
none_more text members index m value none at is other k n low there = by_order (split k index low)
  where
    split : (k n : ℕ) → k < n + 1 → (k < n) ⊎ (k ≡ n)
    split zero zero h = inr refl
    split zero (suc n) h = inl (omega arith)
    split (suc k) zero h = absurd (omega (arith, h))
    split (suc k) (suc n) h = elim (split k n (omega arith)) [ inl e ↦ inl (omega arith) | inr e ↦ inr (ap suc e) ]

    by_order : (k < index) ⊎ (k ≡ index) → IsSomeArray (text_at text n.value) → ⊥
    by_order (inl less) array = none k n less there array
    by_order (inr e) array =
        let here : slice_get members index ≡ Some n = ap (λ (i : ℕ). slice_get members i) (sym e) ∙ there in
        let one : n ≡ m = cc (at, here) in
        other (subst (λ (t : List ℕ). IsSomeArray t) (ap (λ (v : Member). text_at text v.value) one ∙ sym is) array)

pub none_before : (text : List ℕ) (members : List Member) → NoArrayBefore text members 0
none_before text members k m low = absurd (omega (arith, low))

pub none_at_all : (text : List ℕ) (members : List Member) (index : ℕ) → length members ≤ index → NoArrayBefore text members index → NoArrayBefore text members (length members)
none_at_all text members index h none k m low = none k m (omega arith)

-- this member's value is the first array
pub first_here : (text : List ℕ) (members : List Member) (index : ℕ) (m : Member) (value : List ℕ) → index < length members → NoArrayBefore text members index → slice_get members index ≡ Some m → value ≡ text_at text m.value → IsSomeArray value → IsFirstArray text members index
first_here text members index m value below none at is array = record {
  below = below;
  array = λ n there. let one : m ≡ n = cc (at, there) in subst (λ (t : List ℕ). IsSomeArray t) (is ∙ ap (λ (v : Member). text_at text v.value) one) array;
  first = none;
}

pub first_is : (text : List ℕ) (members : List Member) (first : Option ℕ) (index : ℕ) → first ≡ Some index → IsFirst text members first → IsFirstArray text members index
first_is text members first index e f = subst (λ (o : Option ℕ). IsFirst text members o) e f

-- what was read on the way, where it is the first array
pub listed_read : (text : List ℕ) (members : List Member) (first listed : Option ℕ) (index place : ℕ) (spans : List Span) → All (IsMemberOf text) members → first ≡ Some index → listed ≡ Some place → index ≡ place → IsFirst text members first → IsListRead text members listed spans → IsListed 127 text members first spans
listed_read text members first listed index place spans parts e f same is read =
    let one : listed ≡ Some index = f ∙ ap (λ (i : ℕ). Some i) (sym same) in
    let r = subst (λ (o : Option ℕ). IsListRead text members o spans) one read in
    subst (λ (o : Option ℕ). IsListed 127 text members o spans) (sym e)
    (record { member = r.0; at = r.1; cut = read_cut text members index spans parts r; first = (first_is text members first index e is).first })

-- what was cut by itself
pub listed_cut : {E : Type 0} (text : List ℕ) (members : List Member) (first : Option ℕ) (index : ℕ) (m : Member) (value : List ℕ) (r : Result (List Span) E) → first ≡ Some index → IsFirst text members first → slice_get members index ≡ Some m → value ≡ text_at text m.value → IfOk r (IsArrayCutInto 127 value) → IfOk r (IsListed 127 text members first)
listed_cut text members first index m value (Ok spans) e is at same cut =
    subst (λ (o : Option ℕ). IsListed 127 text members o spans) (sym e)
    (record { member = m; at = at; cut = subst (λ (t : List ℕ). IsArrayCutInto 127 t spans) same cut; first = (first_is text members first index e is).first })
listed_cut text members first index m value (Err f) e is at same cut = tt
