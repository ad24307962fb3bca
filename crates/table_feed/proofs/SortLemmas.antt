-- Sorted lists of which no two elements tie: what stands in them, and where they are split.
use Rattle.std.proofs.Common.{◌≡◌, ◌≢◌, ◌∙◌, ◌⊎◌, inl, inr, ℕ, zero, suc, ◌+◌, ◌<◌, List, [], ◌∷◌, ◌++◌, length, get_or, filter, Bool, true, false, not, cond, refl, sym, ap, subst, arith}
use Rattle.std.specs.List.{AllByRecursion, IsDistinct}
use Rattle.std.specs.List.Sorted.{IsPermutation, IsSorted, IsStrictlySortedBy}
use Rattle.std.specs.Cmp.{IsTotalOrder}
use Rattle.std.specs.Ordering.{eq_by_cmp, is_eq, is_lt, ordering_reverse}
use Rattle.std.specs.declared.cmp.Ordering.{Ordering}
use Rattle.std.specs.declared.cmp.Ordering.TheVariants.{Less, Equal, Greater}
use Rattle.std.proofs.lemmas.List.Sorted.{IsPermutation-sym, Contains-permutation}
use Rattle.std.proofs.lemmas.Map.Keys.{apart_from_distinct, sorted_from_all_adjacent, IsDistinct-head, IsDistinct-tail, IsDistinct-cons}

-- ---- strictly sorted lists, by recursion

abbrev pub Strict : {X : Type 0} → (X → X → Ordering) → List X → Type 0
Strict R [] = Unit {0}
Strict R (x ∷ xs) = AllByRecursion (λ y. R x y ≡ Less) xs × Strict R xs

strict_of : {X : Type 0} (R : X → X → Ordering) (xs : List X) → IsStrictlySortedBy R xs → Strict R xs
unfolding IsStrictlySortedBy
strict_of R [] sorted = tt
strict_of R (x ∷ xs) sorted = (sorted.0, strict_of R xs sorted.1)

less_or : (a : Ordering) → a ≢ Equal → is_lt (ordering_reverse a) ≡ false → a ≡ Less
less_or Less apart above = refl
less_or Equal apart above = absurd (apart refl)
less_or Greater apart above = cc

eq_false : (a : Ordering) → is_eq a ≡ false → a ≢ Equal
eq_false Less e = λ h. cc
eq_false Equal e = cc
eq_false Greater e = λ h. cc

-- a sorted list of which no two elements tie is strictly sorted
pub strict : {X : Type 0} (R : X → X → Ordering) (o : IsTotalOrder R) (xs : List X) → IsSorted R xs → IsDistinct (eq_by_cmp R) xs → Strict R xs
strict R o [] sorted apart = tt
strict {X} R o (x ∷ xs) sorted apart = strict_of R (x ∷ xs) (sorted_from_all_adjacent o (x ∷ xs) x (λ k inside.
    let here = get_or (x ∷ xs) k x in
    let next = get_or (x ∷ xs) (k + 1) x in
    let differ : is_eq (R here next) ≡ false = apart_from_distinct (eq_by_cmp R) (x ∷ xs) k (k + 1) x apart (omega arith) inside in
    let above : is_lt (R next here) ≡ false = sorted k x (omega arith) inside in
    less_or (R here next) (eq_false (R here next) differ) (ap is_lt (sym (o.antisymm next here)) ∙ above)))

-- ---- what stands in a list

abbrev pub Has : {X : Type 0} → X → List X → Type 0
Has x [] = ⊥
Has x (y ∷ ys) = (x ≡ y) ⊎ Has x ys

has_at : {X : Type 0} (x : X) (xs : List X) (k : ℕ) → k < length xs → get_or xs k x ≡ x → Has x xs
has_at x [] k inside is = absurd (omega (arith, inside))
has_at x (y ∷ ys) zero inside is = inl (sym is)
has_at x (y ∷ ys) (suc k) inside is = inr (has_at x ys k (omega (arith, inside)) is)

at_has : {X : Type 0} (x : X) (xs : List X) → Has x xs → (k : ℕ) × (k < length xs) × (get_or xs k x ≡ x)
at_has x [] has = absurd has
at_has x (y ∷ ys) (inl is) = (0, omega arith, sym is)
at_has x (y ∷ ys) (inr has) = let found = at_has x ys has in let inside = found.1 in (suc found.0, omega (arith, inside), found.2)

-- a permutation has the same elements
pub has_moved : {X : Type 0} (xs ys : List X) (x : X) → IsPermutation xs ys → Has x xs → Has x ys
has_moved xs ys x moved has = let found = Contains-permutation xs ys x moved (at_has x xs has) in has_at x ys found.0 found.1 found.2

pub has_back : {X : Type 0} (xs ys : List X) (x : X) → IsPermutation xs ys → Has x ys → Has x xs
has_back xs ys x moved has = has_moved ys xs x (IsPermutation-sym xs ys moved) has

pub has_all : {X : Type 0} (P : X → Type 0) (xs : List X) (x : X) → AllByRecursion P xs → Has x xs → P x
has_all P [] x all has = absurd has
has_all P (y ∷ ys) x all (inl is) = subst P (sym is) all.0
has_all P (y ∷ ys) x all (inr has) = has_all P ys x all.1 has

pub all_has : {X : Type 0} (P : X → Type 0) (xs : List X) → ((x : X) → Has x xs → P x) → AllByRecursion P xs
all_has P [] each = tt
all_has P (x ∷ xs) each = (each x (inl refl), all_has P xs (λ y has. each y (inr has)))

by_cases : {P : Type 0} (b : Bool) → (b ≡ true → P) → (b ≡ false → P) → P
by_cases true passed failed = passed refl
by_cases false passed failed = failed refl

true_false : true ≡ false → ⊥
true_false e = cc

-- what a filter keeps
pub has_kept : {X : Type 0} (p : X → Bool) (xs : List X) (x : X) → Has x xs → p x ≡ true → Has x (filter p xs)
has_kept p [] x has passes = absurd has
has_kept {X} p (y ∷ ys) x (inl is) passes = subst (λ (l : List X). Has x l) (sym (ap (λ (b : Bool). cond b (y ∷ filter p ys) (filter p ys)) (ap p (sym is) ∙ passes))) (inl is)
has_kept {X} p (y ∷ ys) x (inr has) passes =
    by_cases (p y)
    (λ e. subst (λ (l : List X). Has x l) (sym (ap (λ (b : Bool). cond b (y ∷ filter p ys) (filter p ys)) e)) (inr (has_kept p ys x has passes)))
    (λ e. subst (λ (l : List X). Has x l) (sym (ap (λ (b : Bool). cond b (y ∷ filter p ys) (filter p ys)) e)) (has_kept p ys x has passes))

kept_first : {X : Type 0} (p : X → Bool) (ys : List X) (x y : X) → (Has x (filter p ys) → Has x ys × (p x ≡ true)) → p y ≡ true → Has x (y ∷ filter p ys) → Has x (y ∷ ys) × (p x ≡ true)
kept_first p ys x y rest e (inl is) = (inl is, ap p is ∙ e)
kept_first p ys x y rest e (inr kept) = let found = rest kept in (inr found.0, found.1)

pub kept_has : {X : Type 0} (p : X → Bool) (xs : List X) (x : X) → Has x (filter p xs) → Has x xs × (p x ≡ true)
kept_has p [] x has = absurd has
kept_has {X} p (y ∷ ys) x has =
    by_cases (p y)
    (λ e. kept_first p ys x y (kept_has p ys x) e (subst (λ (l : List X). Has x l) (ap (λ (b : Bool). cond b (y ∷ filter p ys) (filter p ys)) e) has))
    (λ e. let rest = kept_has p ys x (subst (λ (l : List X). Has x l) (ap (λ (b : Bool). cond b (y ∷ filter p ys) (filter p ys)) e) has) in (inr rest.0, rest.1))

pub strict_kept : {X : Type 0} (R : X → X → Ordering) (p : X → Bool) (xs : List X) → Strict R xs → Strict R (filter p xs)
strict_kept R p [] sorted = tt
strict_kept {X} R p (x ∷ xs) sorted =
    by_cases (p x)
    (λ e. subst (Strict R) (sym (ap (λ (b : Bool). cond b (x ∷ filter p xs) (filter p xs)) e))
    (all_has (λ (y : X). R x y ≡ Less) (filter p xs) (λ y has. has_all (λ (z : X). R x z ≡ Less) xs y sorted.0 (kept_has p xs y has).0), strict_kept R p xs sorted.1))
    (λ e. subst (Strict R) (sym (ap (λ (b : Bool). cond b (x ∷ filter p xs) (filter p xs)) e)) (strict_kept R p xs sorted.1))

-- ---- strictly sorted lists with the same elements are the same

less_not_back : {X : Type 0} (R : X → X → Ordering) (o : IsTotalOrder R) (x y : X) → R x y ≡ Less → R y x ≡ Less → ⊥
less_not_back R o x y one two = differ (sym two ∙ o.antisymm y x ∙ ap ordering_reverse one)
  where
    differ : Less ≡ Greater → ⊥
    differ e = cc

less_not_self : {X : Type 0} (R : X → X → Ordering) (o : IsTotalOrder R) (x : X) → R x x ≡ Less → ⊥
less_not_self R o x less = less_not_back R o x x less less

heads : {X : Type 0} (R : X → X → Ordering) (o : IsTotalOrder R) (x y : X) (xs ys : List X) → Strict R (x ∷ xs) → Strict R (y ∷ ys) → Has x (y ∷ ys) → Has y (x ∷ xs) → x ≡ y
heads R o x y xs ys one two (inl is) there = is
heads R o x y xs ys one two (inr has) (inl is) = sym is
heads {X} R o x y xs ys one two (inr has) (inr there) =
    absurd (less_not_back R o x y (has_all (λ (z : X). R x z ≡ Less) xs y one.0 there) (has_all (λ (z : X). R y z ≡ Less) ys x two.0 has))

behind_head : {X : Type 0} (R : X → X → Ordering) (o : IsTotalOrder R) (x y z : X) (xs ys : List X) → Strict R (x ∷ xs) → x ≡ y → Has z xs → Has z (y ∷ ys) → Has z ys
behind_head {X} R o x y z xs ys one same has (inl is) =
    absurd (less_not_self R o x (subst (λ (w : X). R x w ≡ Less) (is ∙ sym same) (has_all (λ (w : X). R x w ≡ Less) xs z one.0 has)))
behind_head R o x y z xs ys one same has (inr there) = there

pub same_lists : {X : Type 0} (R : X → X → Ordering) (o : IsTotalOrder R) (xs ys : List X) → Strict R xs → Strict R ys → ((z : X) → Has z xs → Has z ys) → ((z : X) → Has z ys → Has z xs) → xs ≡ ys
same_lists R o [] [] one two to back = refl
same_lists R o [] (y ∷ ys) one two to back = absurd (back y (inl refl))
same_lists R o (x ∷ xs) [] one two to back = absurd (to x (inl refl))
same_lists {X} R o (x ∷ xs) (y ∷ ys) one two to back =
    let same = heads R o x y xs ys one two (to x (inl refl)) (back y (inl refl)) in
    let rest = same_lists R o xs ys one.1 two.1
    (λ z has. behind_head R o x y z xs ys one same has (to z (inr has)))
    (λ z has. behind_head R o y x z ys xs two (sym same) has (back z (inr has))) in
    ap (λ (w : X). w ∷ xs) same ∙ ap (λ (l : List X). y ∷ l) rest

-- ---- a test that once passed goes on to pass

-- what passes stands behind what does not
pub splits : {X : Type 0} (R : X → X → Ordering) (p : X → Bool) → ((x y : X) → R x y ≡ Less → p x ≡ true → p y ≡ true) → (xs : List X) → Strict R xs → xs ≡ filter (λ x. not (p x)) xs ++ filter p xs
splits R p goes_on [] sorted = refl
splits {X} R p goes_on (x ∷ xs) sorted = by_cases (p x) passes (fails (splits R p goes_on xs sorted.1))
  where
    none_left : (ys : List X) → AllByRecursion (λ (y : X). p y ≡ true) ys → filter (λ y. not (p y)) ys ≡ []
    none_left [] all = refl
    none_left (y ∷ ys) all = ap (λ (b : Bool). cond (not b) (y ∷ filter (λ z. not (p z)) ys) (filter (λ z. not (p z)) ys)) all.0 ∙ none_left ys all.1

    all_kept : (ys : List X) → AllByRecursion (λ (y : X). p y ≡ true) ys → filter p ys ≡ ys
    all_kept [] all = refl
    all_kept (y ∷ ys) all = ap (λ (b : Bool). cond b (y ∷ filter p ys) (filter p ys)) all.0 ∙ ap (λ (l : List X). y ∷ l) (all_kept ys all.1)

    passes : p x ≡ true → x ∷ xs ≡ filter (λ y. not (p y)) (x ∷ xs) ++ filter p (x ∷ xs)
    passes e =
        let all : AllByRecursion (λ (y : X). p y ≡ true) (x ∷ xs) = (e, all_has (λ (y : X). p y ≡ true) xs (λ y has. goes_on x y (has_all (λ (z : X). R x z ≡ Less) xs y sorted.0 has) e)) in
        sym (all_kept (x ∷ xs) all) ∙ ap (λ (l : List X). l ++ filter p (x ∷ xs)) (sym (none_left (x ∷ xs) all))

    fails : xs ≡ filter (λ y. not (p y)) xs ++ filter p xs → p x ≡ false → x ∷ xs ≡ filter (λ y. not (p y)) (x ∷ xs) ++ filter p (x ∷ xs)
    fails rest e =
        ap (λ (l : List X). x ∷ l) rest
        ∙ sym (ap (λ (b : Bool). cond (not b) (x ∷ filter (λ y. not (p y)) xs) (filter (λ y. not (p y)) xs) ++ cond b (x ∷ filter p xs) (filter p xs)) e)

-- ---- an element in the middle

pub before_middle : {X : Type 0} (R : X → X → Ordering) (xs ys : List X) (r : X) → Strict R (xs ++ r ∷ ys) → (x : X) → Has x xs → R x r ≡ Less
before_middle R [] ys r sorted x has = absurd has
before_middle {X} R (y ∷ xs) ys r sorted x (inl is) = subst (λ (z : X). R z r ≡ Less) (sym is) (has_all (λ (z : X). R y z ≡ Less) (xs ++ r ∷ ys) r sorted.0 (there xs))
  where
    there : (zs : List X) → Has r (zs ++ r ∷ ys)
    there [] = inl refl
    there (z ∷ zs) = inr (there zs)
before_middle R (y ∷ xs) ys r sorted x (inr has) = before_middle R xs ys r sorted.1 x has

pub behind_middle : {X : Type 0} (R : X → X → Ordering) (xs ys : List X) (r : X) → Strict R (xs ++ r ∷ ys) → Strict R (r ∷ ys)
behind_middle R [] ys r sorted = sorted
behind_middle R (x ∷ xs) ys r sorted = behind_middle R xs ys r sorted.1

-- what a filter leaves of lists
pub all_passed : {X : Type 0} (p : X → Bool) (xs : List X) → ((x : X) → Has x xs → p x ≡ true) → filter p xs ≡ xs
all_passed p [] each = refl
all_passed {X} p (x ∷ xs) each = ap (λ (b : Bool). cond b (x ∷ filter p xs) (filter p xs)) (each x (inl refl)) ∙ ap (λ (l : List X). x ∷ l) (all_passed p xs (λ y has. each y (inr has)))

pub none_passed : {X : Type 0} (p : X → Bool) (xs : List X) → ((x : X) → Has x xs → p x ≡ false) → filter p xs ≡ []
none_passed p [] each = refl
none_passed p (x ∷ xs) each = ap (λ (b : Bool). cond b (x ∷ filter p xs) (filter p xs)) (each x (inl refl)) ∙ none_passed p xs (λ y has. each y (inr has))

-- a filter leaves elements apart
all_kept_too : {X : Type 0} (P : X → Type 0) (p : X → Bool) (xs : List X) → AllByRecursion P xs → AllByRecursion P (filter p xs)
all_kept_too {X} P p xs all = all_has P (filter p xs) (λ x has. has_all P xs x all (kept_has p xs x has).0)

pub distinct_kept : {X : Type 0} (e : X → X → Bool) (p : X → Bool) (xs : List X) → IsDistinct e xs → IsDistinct e (filter p xs)
distinct_kept e p [] apart = apart
distinct_kept {X} e p (x ∷ xs) apart =
    let rest = distinct_kept e p xs (IsDistinct-tail e x xs apart) in
    by_cases (p x)
    (λ h. subst (IsDistinct e) (sym (ap (λ (b : Bool). cond b (x ∷ filter p xs) (filter p xs)) h)) (IsDistinct-cons e x (filter p xs) (all_kept_too (λ (y : X). e x y ≡ false) p xs (IsDistinct-head e x xs apart)) rest))
    (λ h. subst (IsDistinct e) (sym (ap (λ (b : Bool). cond b (x ∷ filter p xs) (filter p xs)) h)) rest)
