-- Lists: what holds of all, and how many pass.
use Rattle.std.proofs.Common.{arith, ◌≡◌, ◌+◌, ◌≤◌, List, [], ◌∷◌, ◌++◌, map, filter, length, Bool, true, false, ◌&&◌, ◌||◌, refl, sym, ◌∙◌, ap, inl, inr, ◌⊎◌}
use Rattle.std.specs.Prelude.{if◌then◌else◌}
use Rattle.std.specs.List.{AllByRecursion, list_any}
use Rattle.std.proofs.lemmas.Bool.{cases_Bool, false≢true}
use Rattle.book_queue.specs.Views.{count_if}

pub all_as : {A : Type 0} (P Q : A → Type 0) (xs : List A) → ((x : A) → P x → Q x) → AllByRecursion P xs → AllByRecursion Q xs
all_as P Q [] step all = tt
all_as P Q (x ∷ xs) step all = (step x all.0, all_as P Q xs step all.1)

pub all_of_all : {A : Type 0} (Q : A → Type 0) (xs : List A) → ((x : A) → Q x) → AllByRecursion Q xs
all_of_all Q [] every = tt
all_of_all Q (x ∷ xs) every = (every x, all_of_all Q xs every)

pub all_both : {A : Type 0} (P Q R : A → Type 0) (xs : List A) → ((x : A) → P x → Q x → R x) → AllByRecursion P xs → AllByRecursion Q xs → AllByRecursion R xs
all_both P Q R [] step first second = tt
all_both P Q R (x ∷ xs) step first second = (step x first.0 second.0, all_both P Q R xs step first.1 second.1)

pub all_push : {A : Type 0} (P : A → Type 0) (xs : List A) (x : A) → AllByRecursion P xs → P x → AllByRecursion P (xs ++ x ∷ [])
all_push P [] x all last = (last, tt)
all_push P (y ∷ ys) x all last = (all.0, all_push P ys x all.1 last)

pub all_map : {A B : Type 0} (P : B → Type 0) (f : A → B) (xs : List A) → AllByRecursion (λ x. P (f x)) xs → AllByRecursion P (map f xs)
all_map P f [] all = tt
all_map P f (x ∷ xs) all = (all.0, all_map P f xs all.1)

pub all_filter : {A : Type 0} (P Q : A → Type 0) (test : A → Bool) (xs : List A) → ((x : A) → P x → test x ≡ true → Q x) → AllByRecursion P xs → AllByRecursion Q (filter test xs)
all_filter P Q test [] step all = tt
all_filter P Q test (x ∷ xs) step all = at (cases_Bool (test x)) (all_filter P Q test xs step all.1)
  where
    at : (test x ≡ true) ⊎ (test x ≡ false) → AllByRecursion Q (filter test xs) → AllByRecursion Q (filter test (x ∷ xs))
    at (inl is) rest = rw is (step x all.0 is, rest)
    at (inr is) rest = rw is rest

-- without one in the middle
pub all_without : {A : Type 0} (P : A → Type 0) (front rest : List A) (x : A) → AllByRecursion P (front ++ x ∷ rest) → AllByRecursion P (front ++ rest)
all_without P [] rest x all = all.1
all_without P (y ∷ front) rest x all = (all.0, all_without P front rest x all.1)

pub all_middle : {A : Type 0} (P : A → Type 0) (front rest : List A) (x : A) → AllByRecursion P (front ++ x ∷ rest) → P x
all_middle P [] rest x all = all.0
all_middle P (y ∷ front) rest x all = all_middle P front rest x all.1

pub map_as : {A B : Type 0} (f g : A → B) (xs : List A) → AllByRecursion (λ x. f x ≡ g x) xs → map f xs ≡ map g xs
map_as f g [] all = refl
map_as f g (x ∷ xs) all = rw all.0 (ap (λ ys. g x ∷ ys) (map_as f g xs all.1))

pub any_as : {A : Type 0} (t u : A → Bool) (xs : List A) → AllByRecursion (λ x. t x ≡ u x) xs → list_any t xs ≡ list_any u xs
any_as t u [] all = refl
any_as t u (x ∷ xs) all = rw all.0 (rw (any_as t u xs all.1) refl)

pub any_map : {A B : Type 0} (t : B → Bool) (f : A → B) (xs : List A) → list_any t (map f xs) ≡ list_any (λ x. t (f x)) xs
any_map t f [] = refl
any_map t f (x ∷ xs) = rw (any_map t f xs) refl

pub none_any : {A : Type 0} (t : A → Bool) (xs : List A) → AllByRecursion (λ x. t x ≡ false) xs → list_any t xs ≡ false
none_any t [] all = refl
none_any t (x ∷ xs) all = rw all.0 (none_any t xs all.1)

or_first : (a b : Bool) → (a || b) ≡ false → a ≡ false
or_first false b none = refl
or_first true b none = none

or_second : (a b : Bool) → (a || b) ≡ false → b ≡ false
or_second false b none = none
or_second true b none = absurd (false≢true (sym none))

pub any_none : {A : Type 0} (t : A → Bool) (xs : List A) → list_any t xs ≡ false → AllByRecursion (λ x. t x ≡ false) xs
any_none t [] none = tt
any_none t (x ∷ xs) none = (or_first (t x) (list_any t xs) none, any_none t xs (or_second (t x) (list_any t xs) none))

or_true : (b : Bool) → (b || true) ≡ true
or_true true = refl
or_true false = refl

pub any_front : {A : Type 0} (t : A → Bool) (xs ys : List A) → list_any t xs ≡ true → list_any t (xs ++ ys) ≡ true
any_front t [] ys is = absurd (false≢true is)
any_front t (x ∷ xs) ys is = at (cases_Bool (t x)) (any_front t xs ys)
  where
    at : (t x ≡ true) ⊎ (t x ≡ false) → (list_any t xs ≡ true → list_any t (xs ++ ys) ≡ true) → list_any t (x ∷ xs ++ ys) ≡ true
    at (inl passes) deeper = rw passes refl
    at (inr fails) deeper = rw fails (deeper (rw fails at is))

pub any_middle : {A : Type 0} (t : A → Bool) (front rest : List A) (x : A) → t x ≡ true → list_any t (front ++ x ∷ rest) ≡ true
any_middle t [] rest x is = rw is refl
any_middle t (y ∷ front) rest x is = rw (any_middle t front rest x is) (or_true (t y))

pub any_without : {A : Type 0} (t : A → Bool) (front rest : List A) (x : A) → t x ≡ false → list_any t (front ++ x ∷ rest) ≡ true → list_any t (front ++ rest) ≡ true
any_without t [] rest x fails is = rw fails at is
any_without t (y ∷ front) rest x fails is = at (cases_Bool (t y)) (any_without t front rest x fails)
  where
    at : (t y ≡ true) ⊎ (t y ≡ false) → (list_any t (front ++ x ∷ rest) ≡ true → list_any t (front ++ rest) ≡ true) → list_any t (y ∷ front ++ rest) ≡ true
    at (inl passes) deeper = rw passes refl
    at (inr not_it) deeper = rw not_it (deeper (rw not_it at is))

-- How many pass

pub count_push : {A : Type 0} (t : A → Bool) (xs : List A) (x : A) → count_if t (xs ++ x ∷ []) ≡ count_if t xs + (if t x then 1 else 0)
count_push t [] x = omega arith
count_push t (y ∷ ys) x = let rest = count_push t ys x in omega (arith, rest)

pub count_as : {A : Type 0} (t u : A → Bool) (xs : List A) → AllByRecursion (λ x. t x ≡ u x) xs → count_if t xs ≡ count_if u xs
count_as t u [] all = refl
count_as t u (x ∷ xs) all = rw all.0 (rw (count_as t u xs all.1) refl)

pub count_map : {A B : Type 0} (t : B → Bool) (f : A → B) (xs : List A) → count_if t (map f xs) ≡ count_if (λ x. t (f x)) xs
count_map t f [] = refl
count_map t f (x ∷ xs) = rw (count_map t f xs) refl

pub count_none : {A : Type 0} (t : A → Bool) (xs : List A) → AllByRecursion (λ x. t x ≡ false) xs → count_if t xs ≡ 0
count_none t [] all = refl
count_none t (x ∷ xs) all = rw all.0 (let rest = count_none t xs all.1 in omega (arith, rest))

pub count_length : {A : Type 0} (t : A → Bool) (xs : List A) → length (filter t xs) ≡ count_if t xs
count_length t [] = refl
count_length t (x ∷ xs) = at (cases_Bool (t x)) (count_length t xs)
  where
    at : (t x ≡ true) ⊎ (t x ≡ false) → length (filter t xs) ≡ count_if t xs → length (filter t (x ∷ xs)) ≡ count_if t (x ∷ xs)
    at (inl is) rest = rw is (omega (arith, rest))
    at (inr is) rest = rw is (omega (arith, rest))

pub count_within : {A : Type 0} (t : A → Bool) (xs : List A) → count_if t xs ≤ length xs
count_within t [] = omega arith
count_within t (x ∷ xs) = at (cases_Bool (t x)) (count_within t xs)
  where
    at : (t x ≡ true) ⊎ (t x ≡ false) → count_if t xs ≤ length xs → count_if t (x ∷ xs) ≤ length (x ∷ xs)
    at (inl is) rest = rw is (omega (arith, rest))
    at (inr is) rest = rw is (omega (arith, rest))

-- those that pass one test pass the other
pub count_fewer : {A : Type 0} (t u : A → Bool) (xs : List A) → ((x : A) → t x ≡ true → u x ≡ true) → count_if t xs ≤ count_if u xs
count_fewer t u [] step = omega arith
count_fewer t u (x ∷ xs) step = at (cases_Bool (t x)) (cases_Bool (u x)) (count_fewer t u xs step)
  where
    at : (t x ≡ true) ⊎ (t x ≡ false) → (u x ≡ true) ⊎ (u x ≡ false) → count_if t xs ≤ count_if u xs → count_if t (x ∷ xs) ≤ count_if u (x ∷ xs)
    at (inl is) (inl too) rest = rw is (rw too (omega (arith, rest)))
    at (inl is) (inr misses) rest = absurd (false≢true (sym misses ∙ step x is))
    at (inr is) (inl too) rest = rw is (rw too (omega (arith, rest)))
    at (inr is) (inr misses) rest = rw is (rw misses (omega (arith, rest)))

-- two tests that no element passes both: together as many as each
pub count_apart : {A : Type 0} (t u : A → Bool) (xs : List A) → ((x : A) → t x ≡ true → u x ≡ false) → count_if t xs + count_if u xs ≤ length xs
count_apart t u [] step = omega arith
count_apart t u (x ∷ xs) step = at (cases_Bool (t x)) (cases_Bool (u x)) (count_apart t u xs step)
  where
    at : (t x ≡ true) ⊎ (t x ≡ false) → (u x ≡ true) ⊎ (u x ≡ false) → count_if t xs + count_if u xs ≤ length xs → count_if t (x ∷ xs) + count_if u (x ∷ xs) ≤ length (x ∷ xs)
    at (inl is) (inl too) rest = absurd (false≢true (sym (step x is) ∙ too))
    at (inl is) (inr misses) rest = rw is (rw misses (omega (arith, rest)))
    at (inr is) (inl too) rest = rw is (rw too (omega (arith, rest)))
    at (inr is) (inr misses) rest = rw is (rw misses (omega (arith, rest)))

pub count_any : {A : Type 0} (t : A → Bool) (xs : List A) → 1 ≤ count_if t xs → list_any t xs ≡ true
count_any t [] some = absurd (omega (arith, some))
count_any t (x ∷ xs) some = at (cases_Bool (t x)) (count_any t xs)
  where
    at : (t x ≡ true) ⊎ (t x ≡ false) → (1 ≤ count_if t xs → list_any t xs ≡ true) → list_any t (x ∷ xs) ≡ true
    at (inl is) deeper = rw is refl
    at (inr is) deeper = rw is (deeper (let same = rw is at some in omega (arith, same)))

-- what a filter drops is none of those counted
pub count_filter : {A : Type 0} (t u : A → Bool) (xs : List A) → ((x : A) → t x ≡ true → u x ≡ true) → count_if t (filter u xs) ≡ count_if t xs
count_filter t u [] step = refl
count_filter t u (x ∷ xs) step = at (cases_Bool (u x)) (cases_Bool (t x)) (count_filter t u xs step)
  where
    at : (u x ≡ true) ⊎ (u x ≡ false) → (t x ≡ true) ⊎ (t x ≡ false) → count_if t (filter u xs) ≡ count_if t xs → count_if t (filter u (x ∷ xs)) ≡ count_if t (x ∷ xs)
    at (inl is) either rest = rw is (omega (arith, rest))
    at (inr is) (inl passes) rest = absurd (false≢true (sym is ∙ step x passes))
    at (inr is) (inr fails) rest = rw is (rw fails (omega (arith, rest)))

pub and_first : (a b : Bool) → a && b ≡ true → a ≡ true
and_first true b both = refl
and_first false b both = both

pub and_second : (a b : Bool) → a && b ≡ true → b ≡ true
and_second true b both = both
and_second false b both = absurd (false≢true both)

pub and_false : (b : Bool) → b && false ≡ false
and_false true = refl
and_false false = refl
