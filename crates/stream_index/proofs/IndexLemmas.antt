-- Streams are equal where their names and namespaces are; what a test finds in a list; distinct streams at distinct places.
use Rattle.std.proofs.Common.{arith, ◌≡◌, ◌+◌, List, [], ◌∷◌, ℕ, zero, suc, Option, None, Some, slice_get, Bool, true, false, cond, not, refl, sym, ◌∙◌, ap, subst, ◌&&◌, ◌||◌, position, IfSome, IfNone, IsTrue, is_some}
use Rattle.std.specs.List.{IsDistinct, AllByRecursion, list_any, position_from}
use Rattle.std.specs.Bool.{Decides}
use Rattle.std.specs.Str.{bytes_eq}
use Rattle.std.proofs.lemmas.Bool.Decides.{Decides-and, Decides-like, Decides-at}
use Rattle.std.proofs.lemmas.Slice.Eq.{bytes_eq-Decides}
use Rattle.std.proofs.lemmas.Map.Keys.{IsDistinct-head, IsDistinct-tail}
use Rattle.std.proofs.lemmas.Iterator.Adapters.{position_from-zero}
use Rattle.basics.specs.declared.stream.StreamId.{StreamId}
use Rattle.basics.specs.contracts.stream.StreamIdPartialEq.TheImpl.{eq-value}
use Rattle.stream_index.specs.Distinct.{AreDistinct}
use Rattle.stream_index.specs.Same.{is_same_stream, is_same_namespace}

-- a stream of its parts
abbrev pub stream_id : List ℕ → Option (List ℕ) → StreamId
stream_id name namespace = record { name = name; namespace = namespace }

-- `==` of streams is the test of the definitions
by_parts : (n m : List ℕ) (s t : Option (List ℕ)) → (eq-value).it (stream_id n s) (stream_id m t) ≡ is_same_stream (stream_id n s) (stream_id m t)
by_parts n m None None = refl
by_parts n m None (Some t) = refl
by_parts n m (Some s) None = refl
by_parts n m (Some s) (Some t) = refl

pub tested : (a b : StreamId) → (eq-value).it a b ≡ is_same_stream a b
tested a b = by_parts a.name b.name a.namespace b.namespace

true_false : true ≡ false → ⊥
true_false e = cc

None-Some : {A : Type 0} (a : A) → Some a ≡ None → ⊥
None-Some a e = cc

None-is_Some : {A : Type 0} (a : A) → None ≡ Some a → ⊥
None-is_Some a e = cc

pub Some-injective : {A : Type 0} (a b : A) → Some a ≡ Some b → a ≡ b
Some-injective a b e = cc

-- the test decides whether namespaces are equal
Decides-namespace : (s t : Option (List ℕ)) → Decides (is_same_namespace s t) (s ≡ t)
Decides-namespace None None = (λ e. refl, λ e. refl)
Decides-namespace None (Some t) = (λ e. absurd (true_false (sym e)), λ e. absurd (None-is_Some t e))
Decides-namespace (Some s) None = (λ e. absurd (true_false (sym e)), λ e. absurd (None-Some s e))
Decides-namespace (Some s) (Some t) = Decides-like (bytes_eq s t) (λ e. ap (λ (x : List ℕ). Some x) e) (λ e. Some-injective s t e) (bytes_eq-Decides s t)

same_parts : (a b : StreamId) → (a.name ≡ b.name) × (a.namespace ≡ b.namespace) → a ≡ b
same_parts a b e = ap (λ (n : List ℕ). stream_id n a.namespace) e.0 ∙ ap (λ (s : Option (List ℕ)). stream_id b.name s) e.1

-- the test decides whether streams are equal
pub Decides-stream : (a b : StreamId) → Decides (is_same_stream a b) (a ≡ b)
Decides-stream a b = Decides-like (is_same_stream a b) (same_parts a b) (λ e. (ap (λ (s : StreamId). s.name) e, ap (λ (s : StreamId). s.namespace) e)) (Decides-and (bytes_eq a.name b.name) (is_same_namespace a.namespace b.namespace) (bytes_eq-Decides a.name b.name) (Decides-namespace a.namespace b.namespace))

pub Decides-ids : (a b : StreamId) → Decides ((eq-value).it a b) (a ≡ b)
Decides-ids a b = Decides-at ((eq-value).it a b) (is_same_stream a b) (tested a b) (Decides-stream a b)

by_cases : {P : Type 0} (b : Bool) → (b ≡ true → P) → (b ≡ false → P) → P
by_cases true passed failed = passed refl
by_cases false passed failed = failed refl

-- where a test passes that is no element's, and where it passes at one
pub list_any-at : {A : Type 0} (t : A → Bool) (xs : List A) (i : ℕ) (x : A) → slice_get xs i ≡ Some x → t x ≡ true → list_any t xs ≡ true
list_any-at t [] i x at passes = absurd (None-is_Some x at)
list_any-at t (y ∷ ys) zero x at passes = ap (λ (b : Bool). b || list_any t ys) (ap t (Some-injective y x at) ∙ passes)
list_any-at t (y ∷ ys) (suc i) x at passes = by_cases (t y) (λ e. ap (λ (b : Bool). b || list_any t ys) e) (λ e. ap (λ (b : Bool). b || list_any t ys) e ∙ list_any-at t ys i x at passes)

pub list_any-place : {A : Type 0} (t : A → Bool) (xs : List A) → list_any t xs ≡ true → (i : ℕ) × (x : A) × (slice_get xs i ≡ Some x) × (t x ≡ true)
list_any-place t [] e = absurd (true_false (sym e))
list_any-place t (y ∷ ys) e = by_cases (t y) (λ passed. (0, y, refl, passed)) (λ failed. let r = list_any-place t ys (sym (ap (λ (b : Bool). b || list_any t ys) failed) ∙ e) in (suc r.0, r.1, r.2, r.3))

-- the place of an element that passes
record Passes {A : Type 0} (t : A → Bool) (xs : List A) (from found : ℕ) : Type 0 where
  pub offset : ℕ
  pub item : A
  pub is : found ≡ from + offset
  pub at : slice_get xs offset ≡ Some item
  pub passes : t item ≡ true

passes_here : {A : Type 0} (t : A → Bool) (y : A) (ys : List A) (from found : ℕ) → t y ≡ true → Some from ≡ Some found → Passes t (y ∷ ys) from found
passes_here t y ys from found passed e = record { offset = 0; item = y; is = let r = Some-injective from found e in omega arith; at = refl; passes = passed }

passes_there : {A : Type 0} (t : A → Bool) (y : A) (ys : List A) (from found : ℕ) → Passes t ys (from + 1) found → Passes t (y ∷ ys) from found
passes_there t y ys from found r = record { offset = suc r.offset; item = r.item; is = let h = r.is in omega arith; at = r.at; passes = r.passes }

position_passes : {A : Type 0} (t : A → Bool) (xs : List A) (from found : ℕ) → position_from t from xs ≡ Some found → Passes t xs from found
position_passes t [] from found e = absurd (None-is_Some found e)
position_passes t (y ∷ ys) from found e = by_cases (t y)
    (λ passed. passes_here t y ys from found passed (sym (ap (λ (b : Bool). cond b (Some from) (position_from t (from + 1) ys)) passed) ∙ e))
    (λ failed. passes_there t y ys from found (position_passes t ys (from + 1) found (sym (ap (λ (b : Bool). cond b (Some from) (position_from t (from + 1) ys)) failed) ∙ e)))

-- the place that is found
pub place_at : (ids : List StreamId) (id : StreamId) (found : ℕ) → position ((eq-value).it id) ids ≡ Some found → slice_get ids found ≡ Some id
place_at ids id found e =
    let r = position_passes ((eq-value).it id) ids 0 found (sym (position_from-zero ((eq-value).it id) ids) ∙ e) in
    let at : found ≡ r.offset = let h = r.is in omega arith in
    subst (λ (i : ℕ). slice_get ids i ≡ Some id) (sym at) (r.at ∙ ap (λ (x : StreamId). Some x) (sym ((Decides-ids id r.item).0 r.passes)))

-- where none is found there is none
pub no_place : (ids : List StreamId) (id : StreamId) → list_any ((eq-value).it id) ids ≡ false → (place : ℕ) → ¬ (slice_get ids place ≡ Some id)
no_place ids id none = λ place at. true_false (sym (list_any-at ((eq-value).it id) ids place id at ((Decides-ids id id).1 refl)) ∙ none)

pub no_place_is : (ids : List StreamId) (id : StreamId) → ((place : ℕ) → ¬ (slice_get ids place ≡ Some id)) → list_any ((eq-value).it id) ids ≡ false
no_place_is ids id none = by_cases (list_any ((eq-value).it id) ids) (λ passed. let r = list_any-place ((eq-value).it id) ids passed in absurd (none r.0 (r.2 ∙ ap (λ (x : StreamId). Some x) (sym ((Decides-ids id r.1).0 r.3))))) (λ failed. failed)

-- distinct keys stand at distinct places
all_at : {A : Type 0} (P : A → Type 0) (xs : List A) (i : ℕ) (x : A) → AllByRecursion P xs → slice_get xs i ≡ Some x → P x
all_at P [] i x all at = absurd (None-is_Some x at)
all_at P (y ∷ ys) zero x all at = subst P (Some-injective y x at) all.0
all_at P (y ∷ ys) (suc i) x all at = all_at P ys i x all.1 at

differs : (id other : StreamId) → (eq-value).it id other ≡ false → id ≡ other → ⊥
differs id other unlike same = true_false (sym ((Decides-ids id other).1 same) ∙ unlike)

pub distinct : (ids : List StreamId) → IsDistinct (eq-value).it ids → AreDistinct ids
distinct [] unique i j id at also = absurd (None-is_Some id at)
distinct (x ∷ xs) unique zero zero id at also = refl
distinct (x ∷ xs) unique zero (suc j) id at also = absurd (differs x id (all_at (λ y. (eq-value).it x y ≡ false) xs j id (IsDistinct-head (eq-value).it x xs unique) also) (Some-injective x id at))
distinct (x ∷ xs) unique (suc i) zero id at also = absurd (differs x id (all_at (λ y. (eq-value).it x y ≡ false) xs i id (IsDistinct-head (eq-value).it x xs unique) at) (Some-injective x id also))
distinct (x ∷ xs) unique (suc i) (suc j) id at also = ap suc (distinct xs (IsDistinct-tail (eq-value).it x xs unique) i j id at also)

-- what is found is the place, and nothing is found where there is none
pub found_is : (ids : List StreamId) (id : StreamId) (found : Option ℕ) → found ≡ position ((eq-value).it id) ids → IfSome found (λ place. slice_get ids place ≡ Some id)
found_is ids id None e = tt
found_is ids id (Some place) e = place_at ids id place (sym e)

pub none_is : (ids : List StreamId) (id : StreamId) (found : Option ℕ) → is_some found ≡ list_any ((eq-value).it id) ids → IfNone found ((place : ℕ) → ¬ (slice_get ids place ≡ Some id))
none_is ids id None e = no_place ids id (sym e)
none_is ids id (Some place) e = tt

-- what is added was not there
pub new_is : (ids : List StreamId) (id : StreamId) (added : Bool) → added ≡ not (list_any ((eq-value).it id) ids) → (IsTrue added → (place : ℕ) → ¬ (slice_get ids place ≡ Some id)) × (((place : ℕ) → ¬ (slice_get ids place ≡ Some id)) → IsTrue added)
new_is ids id added e = (
  λ is. by_cases (list_any ((eq-value).it id) ids) (λ there. absurd (true_false (sym is ∙ (e ∙ ap not there)))) (λ absent. no_place ids id absent),
  λ none. e ∙ ap not (no_place_is ids id none),
)

-- where a stream stands nowhere, the test finds none, and else it finds one
pub same_absent : (ids : List StreamId) (id : StreamId) → ((place : ℕ) → ¬ (slice_get ids place ≡ Some id)) → list_any (is_same_stream id) ids ≡ false
same_absent ids id none = by_cases (list_any (is_same_stream id) ids) (λ passed. let r = list_any-place (is_same_stream id) ids passed in absurd (none r.0 (r.2 ∙ ap (λ (x : StreamId). Some x) (sym ((Decides-stream id r.1).0 r.3))))) (λ failed. failed)

pub same_present : (ids : List StreamId) (id : StreamId) → ¬ ((place : ℕ) → ¬ (slice_get ids place ≡ Some id)) → list_any (is_same_stream id) ids ≡ true
same_present ids id there = by_cases (list_any (is_same_stream id) ids) (λ passed. passed) (λ failed. absurd (there (λ place at. true_false (sym (list_any-at (is_same_stream id) ids place id at ((Decides-stream id id).1 refl)) ∙ failed))))
