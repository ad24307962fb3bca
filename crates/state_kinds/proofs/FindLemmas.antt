-- What a search finds where one element passes, or none; lists of which one element is changed.
use Rattle.std.proofs.Common.{◌≡◌, ℕ, zero, suc, List, [], ◌∷◌, ◌++◌, None, Some, Bool, true, false, cond, refl, sym, ◌∙◌, ap, arith, ◌<◌, ◌+◌, length, take, drop, set, map, find, slice_get, get_or, append_assoc, add-one, drop-cons}
use Rattle.std.specs.Prelude.{Result, Ok, Err, OnErr}
use Rattle.std.proofs.lemmas.Option.{get_or_from_slice_get, slice_get_within}
use Rattle.std.proofs.lemmas.List.{take_more, map_push, set_at, get_or_at, length-take-le, length-map}

pub None-is_Some : {A : Type 0} (a : A) → None ≡ Some a → ⊥
None-is_Some a e = cc

pub Some-is_None : {A : Type 0} (a : A) → Some a ≡ None → ⊥
Some-is_None a e = cc

pub one_value : {A : Type 0} (a b : A) → Some a ≡ Some b → a ≡ b
one_value a b e = cc

pub by_cases : {P : Type 0} (b : Bool) → (b ≡ true → P) → (b ≡ false → P) → P
by_cases true passed failed = passed refl
by_cases false passed failed = failed refl

pub on_err : {T E : Type 0} (r : Result T E) (P : Type 0) → P → OnErr r P
on_err (Ok value) P p = tt
on_err (Err found) P p = p

-- the one element that passes is found
pub find_first : {A : Type 0} (t : A → Bool) (xs : List A) (i : ℕ) (x : A) → slice_get xs i ≡ Some x → t x ≡ true → ((j : ℕ) (y : A) → slice_get xs j ≡ Some y → t y ≡ true → j ≡ i) → find t xs ≡ Some x
find_first t [] i x at passes one = absurd (None-is_Some x at)
find_first {A} t (y ∷ ys) zero x at passes one = ap (λ (b : Bool). cond b (Some y) (find t ys)) (ap t (one_value y x at) ∙ passes) ∙ at
find_first {A} t (y ∷ ys) (suc i) x at passes one = by_cases (t y)
    (λ e. let h : 0 ≡ suc i = one 0 y refl e in absurd (omega arith))
    (λ e. ap (λ (b : Bool). cond b (Some y) (find t ys)) e ∙ find_first t ys i x at passes (λ j z p q. let h : suc j ≡ suc i = one (suc j) z p q in omega arith))

-- and where none passes, none
pub find_no : {A : Type 0} (t : A → Bool) (xs : List A) → ((j : ℕ) (y : A) → slice_get xs j ≡ Some y → t y ≡ true → ⊥) → find t xs ≡ None
find_no t [] none = refl
find_no {A} t (y ∷ ys) none = by_cases (t y)
    (λ e. absurd (none 0 y refl e))
    (λ e. ap (λ (b : Bool). cond b (Some y) (find t ys)) e ∙ find_no t ys (λ j z p q. none (suc j) z p q))

pub taken : {A : Type 0} (xs : List A) (n : ℕ) (x : A) → slice_get xs n ≡ Some x → take (n + 1) xs ≡ take n xs ++ x ∷ []
taken {A} xs n x at = take_more xs n x (slice_get_within xs n x at) ∙ ap (λ (s : A). take n xs ++ s ∷ []) (get_or_from_slice_get xs n x x at)

-- what stands in a front of a list
pub taken_place : {A : Type 0} (xs : List A) (n i : ℕ) (x : A) → slice_get (take n xs) i ≡ Some x → (slice_get xs i ≡ Some x) × (i < n)
taken_place xs zero i x at = absurd (None-is_Some x at)
taken_place [] (suc n) i x at = absurd (None-is_Some x at)
taken_place (y ∷ xs) (suc n) zero x at = (at, omega arith)
taken_place (y ∷ xs) (suc n) (suc i) x at = let r = taken_place xs n i x at in (r.0, let h = r.1 in omega arith)

-- what stands in neither of two lists stands not in both
pub absent_append : {A : Type 0} (xs ys : List A) (x : A) → ((p : ℕ) → ¬ (slice_get xs p ≡ Some x)) → ((p : ℕ) → ¬ (slice_get ys p ≡ Some x)) → (p : ℕ) → ¬ (slice_get (xs ++ ys) p ≡ Some x)
absent_append [] ys x a b p = b p
absent_append (y ∷ xs) ys x a b zero = a zero
absent_append (y ∷ xs) ys x a b (suc p) = absent_append xs ys x (λ q. a (suc q)) b p

pub present_append : {A : Type 0} (xs ys : List A) (x : A) (p : ℕ) → slice_get xs p ≡ Some x → slice_get (xs ++ ys) p ≡ Some x
present_append [] ys x p at = absurd (None-is_Some x at)
present_append (y ∷ xs) ys x zero at = at
present_append (y ∷ xs) ys x (suc p) at = present_append xs ys x p at

-- ---- maps

map_same : {A : Type 0} (f : A → A) (xs : List A) → ((j : ℕ) (y : A) → slice_get xs j ≡ Some y → f y ≡ y) → map f xs ≡ xs
map_same f [] same = refl
map_same {A} f (x ∷ xs) same = ap (λ (v : A). v ∷ map f xs) (same 0 x refl) ∙ ap (λ (vs : List A). x ∷ vs) (map_same f xs (λ j y at. same (suc j) y at))

-- a map that changes the element at one place
pub map_one : {A : Type 0} (f : A → A) (xs : List A) (i : ℕ) (x : A) → slice_get xs i ≡ Some x → ((j : ℕ) (y : A) → slice_get xs j ≡ Some y → (j ≡ i → ⊥) → f y ≡ y) → map f xs ≡ set xs i (f x)
map_one f [] i x at others = absurd (None-is_Some x at)
map_one {A} f (y ∷ ys) zero x at others =
    ap (λ (v : A). f v ∷ map f ys) (one_value y x at) ∙ ap (λ (vs : List A). f x ∷ vs) (map_same f ys (λ j z p. others (suc j) z p (λ e. absurd (omega arith))))
map_one {A} f (y ∷ ys) (suc i) x at others =
    ap (λ (v : A). v ∷ map f ys) (others 0 y refl (λ e. absurd (omega arith))) ∙ ap (λ (vs : List A). y ∷ vs) (map_one f ys i x at (λ j z p q. others (suc j) z p (λ e. q (omega arith))))

-- a loop that maps a list in place goes on by one
pub map_step : {A : Type 0} (f : A → A) (old items next : List A) (i : ℕ) (d : A) → i < length old → items ≡ map f (take i old) ++ drop i old → next ≡ set items i (f (get_or items i d)) → next ≡ map f (take (i + 1) old) ++ drop (i + 1) old
map_step {A} f old items next i d lt is changed =
    let x : A = get_or old i d in
    let rest : List A = drop (suc i) old in
    let front : List A = map f (take i old) in
    let long : length front ≡ i = length-map (take i old) f ∙ length-take-le i old (omega arith) in
    let split : items ≡ front ++ x ∷ rest = is ∙ ap (λ (t : List A). front ++ t) (drop-cons old i d lt) in
    let here : get_or items i d ≡ x = ap (λ (t : List A). get_or t i d) split ∙ get_or_at front x rest d i long in
    changed ∙ (ap (λ (v : A). set items i (f v)) here ∙ (ap (λ (t : List A). set t i (f x)) split ∙ (set_at front x rest (f x) i long
    ∙ (sym (append_assoc front (f x ∷ []) rest) ∙ (ap (λ (t : List A). t ++ rest) (sym (map_push f (take i old) x) ∙ ap (λ (t : List A). map f t) (sym (take_more old i d lt))) ∙ ap (λ (k : ℕ). map f (take (i + 1) old) ++ drop k old) (sym (add-one i)))))))
