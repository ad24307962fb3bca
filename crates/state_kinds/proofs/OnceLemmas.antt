-- Streams that stand once, and one that stands twice.
use Rattle.std.proofs.Common.{◌≡◌, ℕ, suc, List, [], ◌∷◌, ◌++◌, Option, None, Some, Bool, true, false, cond, not, ◌||◌, refl, sym, ◌∙◌, ap, subst, arith, ◌+◌, take, drop, map, slice_get, append-nil, add-one, drop-cons}
use Rattle.std.specs.List.{cons_option, list_any, filter_map}
use Rattle.std.proofs.lemmas.List.{map_push, take-append-drop}
use Rattle.std.proofs.lemmas.List.Elements.{filter_map-append}
use Rattle.std.proofs.lemmas.List.Folds.{list_any-append}
use Rattle.std.proofs.lemmas.Option.{get_or_from_slice_get, slice_get_within}
use Rattle.basics.specs.declared.stream.StreamId.{StreamId}
use Rattle.stream_index.specs.Distinct.{AreDistinct}
use Rattle.stream_index.specs.Same.{is_same_stream}
use Rattle.stream_index.proofs.DistinctLemmas.{distinct_more}
use Rattle.stream_index.proofs.IndexLemmas.{Decides-stream, list_any-at, list_any-place, same_absent, same_present}
use Rattle.state_kinds.specs.Saved.{has_stream}
use Rattle.state_kinds.specs.Store.{AddsOnce, repeats_stream}
use Rattle.state_kinds.proofs.FindLemmas.{None-is_Some, by_cases, taken}

-- the streams so far, each once, in the index
pub record HasIndexed (ids index : List StreamId) : Type 0 where
  pub is : index ≡ ids
  pub distinct : AreDistinct ids

no_distinct : AreDistinct {A = StreamId} []
no_distinct i j id p q = absurd (None-is_Some id p)

pub none_indexed : (index : List StreamId) → index ≡ [] → HasIndexed [] index
none_indexed index e = record { is = e; distinct = no_distinct }

-- streams of which each stands at one place stand once
pub distinct_once : (ids : List StreamId) → AreDistinct ids → repeats_stream ids ≡ false
distinct_once [] d = refl
distinct_once (id ∷ ids) d =
    let here : list_any (is_same_stream id) ids ≡ false = by_cases (list_any (is_same_stream id) ids)
    (λ passed. let r = list_any-place (is_same_stream id) ids passed in let e : suc r.0 ≡ 0 = d (suc r.0) 0 id (r.2 ∙ ap (λ (x : StreamId). Some x) (sym ((Decides-stream id r.1).0 r.3))) refl in absurd (omega arith))
    (λ failed. failed) in
    ap (λ (b : Bool). b || repeats_stream ids) here ∙ distinct_once ids (λ i j x p q. let e : suc i ≡ suc j = d (suc i) (suc j) x p q in omega arith)

-- a stream that stands in front stands twice
pub repeats_front : (front : List StreamId) (id : StreamId) (more : List StreamId) → has_stream front id ≡ true → repeats_stream (front ++ id ∷ more) ≡ true
repeats_front [] id more there = absurd (let h : false ≡ true = there in cc)
repeats_front (first ∷ front) id more there = by_cases (is_same_stream id first)
    (λ same.
    let e : first ≡ id = sym ((Decides-stream id first).0 same) in
    let back : is_same_stream first id ≡ true = (Decides-stream first id).1 e in
    let any : list_any (is_same_stream first) (front ++ id ∷ more) ≡ true =
    list_any-append (is_same_stream first) front (id ∷ more) ∙ (ap (λ (b : Bool). list_any (is_same_stream first) front || (b || list_any (is_same_stream first) more)) back ∙ or_true (list_any (is_same_stream first) front)) in
    ap (λ (b : Bool). b || repeats_stream (front ++ id ∷ more)) any)
    (λ other.
    let rest : has_stream front id ≡ true = sym (ap (λ (b : Bool). b || has_stream front id) other) ∙ there in
    ap (λ (b : Bool). list_any (is_same_stream first) (front ++ id ∷ more) || b) (repeats_front front id more rest) ∙ or_true (list_any (is_same_stream first) (front ++ id ∷ more)))
  where
    or_true : (b : Bool) → (b || true) ≡ true
    or_true true = refl
    or_true false = refl

-- a list round the element at a place
pub split_at : {A : Type 0} (xs : List A) (n : ℕ) (x : A) → slice_get xs n ≡ Some x → xs ≡ take n xs ++ x ∷ drop (n + 1) xs
split_at {A} xs n x at =
    sym (take-append-drop n xs) ∙ ap (λ (t : List A). take n xs ++ t)
    (drop-cons xs n x (slice_get_within xs n x at) ∙ (ap (λ (y : A). y ∷ drop (suc n) xs) (get_or_from_slice_get xs n x x at) ∙ ap (λ (k : ℕ). x ∷ drop k xs) (sym (add-one n))))

absent_places : (ids : List StreamId) (id : StreamId) → has_stream ids id ≡ false → (place : ℕ) → ¬ (slice_get ids place ≡ Some id)
absent_places ids id none = λ place at. let h : true ≡ false = sym (list_any-at (is_same_stream id) ids place id at ((Decides-stream id id).1 refl)) ∙ none in cc

not_true : (b : Bool) → true ≡ not b → b ≡ false
not_true true e = absurd (let h : true ≡ false = e in cc)
not_true false e = refl

not_false : (b : Bool) → false ≡ not b → b ≡ true
not_false true e = refl
not_false false e = absurd (let h : false ≡ true = e in cc)

pub indexed_more : (ids index now : List StreamId) (id : StreamId) → AddsOnce index (Some id) now true → HasIndexed ids index → HasIndexed (ids ++ id ∷ []) now
indexed_more ids index now id adds h =
    let absent : has_stream index id ≡ false = not_true (has_stream index id) adds.0 in
    record {
      is = adds.1 ∙ (ap (λ (b : Bool). cond b index (index ++ id ∷ [])) absent ∙ ap (λ (is : List StreamId). is ++ id ∷ []) h.is);
      distinct = distinct_more ids id h.distinct (λ place at. absent_places index id absent place (ap (λ (is : List StreamId). slice_get is place) h.is ∙ at));
    }

pub indexed_there : (ids index now : List StreamId) (id : StreamId) (more : List StreamId) → AddsOnce index (Some id) now false → HasIndexed ids index → repeats_stream (ids ++ id ∷ more) ≡ true
indexed_there ids index now id more adds h =
    repeats_front ids id more (ap (λ (is : List StreamId). has_stream is id) (sym h.is) ∙ not_false (has_stream index id) adds.0)

-- what `add` of an index does
pub once_added : (index now : List StreamId) (id copy : StreamId) (b : Bool) → copy ≡ id → (b ≡ true → now ≡ index ++ copy ∷ []) → (b ≡ true → (p : ℕ) → ¬ (slice_get index p ≡ Some copy)) → (((p : ℕ) → ¬ (slice_get index p ≡ Some copy)) → b ≡ true) → ((b ≡ true → ⊥) → now ≡ index) → AddsOnce index (Some id) now b
once_added index now id copy true same grew new back kept =
    let absent : has_stream index id ≡ false = same_absent index id (λ p at. new refl p (at ∙ ap (λ (i : StreamId). Some i) (sym same))) in
    (ap not (sym absent), grew refl ∙ (ap (λ (i : StreamId). index ++ i ∷ []) same ∙ ap (λ (b : Bool). cond b index (index ++ id ∷ [])) (sym absent)))
once_added index now id copy false same grew new back kept =
    let there : has_stream index id ≡ true = same_present index id (λ none. true_is_false (sym (back (λ p at. none p (at ∙ ap (λ (i : StreamId). Some i) same))))) in
    (ap not (sym there), kept (λ e. true_is_false (sym e)) ∙ ap (λ (b : Bool). cond b index (index ++ id ∷ [])) (sym there))
  where
    true_is_false : true ≡ false → ⊥
    true_is_false e = cc

-- ---- the streams that elements have

pub mapped_more : {A : Type 0} (of : A → StreamId) (xs : List A) (n : ℕ) (x : A) (index now : List StreamId) → slice_get xs n ≡ Some x → AddsOnce index (Some (of x)) now true → HasIndexed (map of (take n xs)) index → HasIndexed (map of (take (n + 1) xs)) now
mapped_more {A} of xs n x index now at adds h =
    subst (λ (ids : List StreamId). HasIndexed ids now) (sym (ap (λ (ys : List A). map of ys) (taken xs n x at) ∙ map_push of (take n xs) x)) (indexed_more (map of (take n xs)) index now (of x) adds h)

map-append : {A : Type 0} (of : A → StreamId) (xs ys : List A) → map of (xs ++ ys) ≡ map of xs ++ map of ys
map-append of [] ys = refl
map-append {A} of (x ∷ xs) ys = ap (λ (zs : List StreamId). of x ∷ zs) (map-append of xs ys)

pub mapped_there : {A : Type 0} (of : A → StreamId) (xs : List A) (n : ℕ) (x : A) (index now : List StreamId) → slice_get xs n ≡ Some x → AddsOnce index (Some (of x)) now false → HasIndexed (map of (take n xs)) index → repeats_stream (map of xs) ≡ true
mapped_there {A} of xs n x index now at adds h =
    ap (λ (ys : List A). repeats_stream (map of ys)) (split_at xs n x at) ∙ (ap repeats_stream (map-append of (take n xs) (x ∷ drop (n + 1) xs)) ∙ indexed_there (map of (take n xs)) index now (of x) (map of (drop (n + 1) xs)) adds h)

pub found_more : {A : Type 0} (of : A → Option StreamId) (xs : List A) (n : ℕ) (x : A) (found : Option StreamId) (index now : List StreamId) → slice_get xs n ≡ Some x → found ≡ of x → AddsOnce index found now true → HasIndexed (filter_map of (take n xs)) index → HasIndexed (filter_map of (take (n + 1) xs)) now
found_more {A} of xs n x None index now at is adds h =
    subst (λ (ids : List StreamId). HasIndexed ids now)
    (sym (ap (λ (ys : List A). filter_map of ys) (taken xs n x at) ∙ (filter_map-append of (take n xs) (x ∷ []) ∙ (ap (λ (o : Option StreamId). filter_map of (take n xs) ++ filter_map (λ (i : A). o) (x ∷ [])) (sym is) ∙ append-nil (filter_map of (take n xs))))))
    (record { is = adds.1 ∙ h.is; distinct = h.distinct })
found_more {A} of xs n x (Some id) index now at is adds h =
    subst (λ (ids : List StreamId). HasIndexed ids now)
    (sym (ap (λ (ys : List A). filter_map of ys) (taken xs n x at) ∙ (filter_map-append of (take n xs) (x ∷ []) ∙ ap (λ (o : Option StreamId). filter_map of (take n xs) ++ filter_map (λ (i : A). o) (x ∷ [])) (sym is))))
    (indexed_more (filter_map of (take n xs)) index now id adds h)

pub found_there : {A : Type 0} (of : A → Option StreamId) (xs : List A) (n : ℕ) (x : A) (found : Option StreamId) (index now : List StreamId) → slice_get xs n ≡ Some x → found ≡ of x → AddsOnce index found now false → HasIndexed (filter_map of (take n xs)) index → repeats_stream (filter_map of xs) ≡ true
found_there {A} of xs n x None index now at is adds h = absurd (let e : false ≡ true = adds.0 in cc)
found_there {A} of xs n x (Some id) index now at is adds h =
    let rest : List A = drop (n + 1) xs in
    let all : filter_map of xs ≡ filter_map of (take n xs) ++ id ∷ filter_map of rest =
    ap (λ (ys : List A). filter_map of ys) (split_at xs n x at) ∙ (filter_map-append of (take n xs) (x ∷ rest) ∙ (ap (λ (ids : List StreamId). filter_map of (take n xs) ++ ids) (first_found x rest (sym is)))) in
    ap repeats_stream all ∙ indexed_there (filter_map of (take n xs)) index now id (filter_map of rest) adds h
  where
    first_found : (y : A) (ys : List A) → of y ≡ Some id → filter_map of (y ∷ ys) ≡ id ∷ filter_map of ys
    first_found y ys e = ap (λ (o : Option StreamId). cons_option o (filter_map of ys)) e
