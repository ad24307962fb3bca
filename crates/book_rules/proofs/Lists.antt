-- Lists: what passes a test, and what is moved.
use Rattle.std.proofs.Common.{arith, ◌≡◌, ◌⊎◌, inl, inr, ◌≤◌, List, [], ◌∷◌, ◌++◌, map, length, Option, None, Some, Bool, true, false, refl, sym, ◌∙◌, ap, append_assoc}
use Rattle.std.specs.Prelude.{filter, ◌&&◌}
use Rattle.std.specs.List.{AllByRecursion, list_any}
use Rattle.std.proofs.lemmas.Bool.{cases_Bool, or_right}

pub filter_as : {A : Type 0} (p q : A → Bool) (xs : List A) → AllByRecursion (λ x. p x ≡ q x) xs → filter p xs ≡ filter q xs
filter_as p q [] each = refl
filter_as p q (x ∷ xs) each = rw (each.0, filter_as p q xs each.1) refl

pub filter_map_list : {A B : Type 0} (f : A → B) (p : B → Bool) (q : A → Bool) (xs : List A) → AllByRecursion (λ x. p (f x) ≡ q x) xs → filter p (map f xs) ≡ map f (filter q xs)
filter_map_list f p q [] each = refl
filter_map_list f p q (x ∷ xs) each = at (cases_Bool (q x)) (filter_map_list f p q xs each.1)
  where
    at : (q x ≡ true) ⊎ (q x ≡ false) → filter p (map f xs) ≡ map f (filter q xs) → filter p (map f (x ∷ xs)) ≡ map f (filter q (x ∷ xs))
    at (inl is) rest = rw (each.0, is, rest) refl
    at (inr is) rest = rw (each.0, is, rest) refl

pub length_of_map : {A B : Type 0} (f : A → B) (xs : List A) → length (map f xs) ≡ length xs
length_of_map f [] = refl
length_of_map f (x ∷ xs) = grind (arith, length_of_map f xs)

pub all_of_all : {A : Type 0} (P : A → Type 0) (xs : List A) → ((x : A) → P x) → AllByRecursion P xs
all_of_all P [] each = tt
all_of_all P (x ∷ xs) each = (each x, all_of_all P xs each)

pub all_append : {A : Type 0} (P : A → Type 0) (xs ys : List A) → AllByRecursion P xs → AllByRecursion P ys → AllByRecursion P (xs ++ ys)
all_append P [] ys first second = second
all_append P (x ∷ xs) ys first second = (first.0, all_append P xs ys first.1 second)

pub all_first : {A : Type 0} (P : A → Type 0) (xs ys : List A) → AllByRecursion P (xs ++ ys) → AllByRecursion P xs
all_first P [] ys each = tt
all_first P (x ∷ xs) ys each = (each.0, all_first P xs ys each.1)

pub all_second : {A : Type 0} (P : A → Type 0) (xs ys : List A) → AllByRecursion P (xs ++ ys) → AllByRecursion P ys
all_second P [] ys each = each
all_second P (x ∷ xs) ys each = all_second P xs ys each.1

pub any_none : {A : Type 0} (t : A → Bool) (xs : List A) → ((x : A) → t x ≡ false) → list_any t xs ≡ false
any_none t [] none = refl
any_none t (x ∷ xs) none = rw (none x, any_none t xs none) refl

pub any_middle : {A : Type 0} (t : A → Bool) (front rest : List A) (x : A) → t x ≡ true → list_any t (front ++ x ∷ rest) ≡ true
any_middle t [] rest x is = rw is refl
any_middle t (y ∷ front) rest x is = or_right (t y) (list_any t (front ++ x ∷ rest)) (any_middle t front rest x is)

-- where each passes its own test, and nothing else that may not pass
pub any_self : {A : Type 0} (R : A → A → Bool) (t : A → Bool) (whole front rest : List A) → whole ≡ front ++ rest → ((x : A) → R x x ≡ t x) → ((y x : A) → t x ≡ false → R y x ≡ false) → AllByRecursion (λ x. list_any (λ y. R y x) whole ≡ t x) rest
any_self R t whole front [] is own none = tt
any_self R t whole front (x ∷ rest) is own none = (at (cases_Bool (t x)), any_self R t whole (front ++ x ∷ []) rest (is ∙ sym (append_assoc front (x ∷ []) rest)) own none)
  where
    at : (t x ≡ true) ⊎ (t x ≡ false) → list_any (λ y. R y x) whole ≡ t x
    at (inl passes) = ap (list_any (λ y. R y x)) is ∙ (any_middle (λ y. R y x) front rest x (own x ∙ passes) ∙ sym passes)
    at (inr fails) = any_none (λ y. R y x) whole (λ y. none y x fails) ∙ sym fails

pub any_filter : {A : Type 0} (t p : A → Bool) (xs : List A) → list_any t (filter p xs) ≡ list_any (λ x. p x && t x) xs
any_filter t p [] = refl
any_filter t p (x ∷ xs) = at (cases_Bool (p x)) (any_filter t p xs)
  where
    at : (p x ≡ true) ⊎ (p x ≡ false) → list_any t (filter p xs) ≡ list_any (λ x. p x && t x) xs → list_any t (filter p (x ∷ xs)) ≡ list_any (λ x. p x && t x) (x ∷ xs)
    at (inl is) rest = rw (is, rest) refl
    at (inr is) rest = rw (is, rest) refl

pub some_is : {A : Type 0} (x y : A) → ◌≡◌ {A = Option A} (Some x) (Some y) → x ≡ y
some_is x y e = cc

pub none_is : {A : Type 0} (x : A) → ◌≡◌ {A = Option A} (Some x) None → ⊥
none_is x e = cc

pub none_some : {A : Type 0} (x : A) → ◌≡◌ {A = Option A} None (Some x) → ⊥
none_some x e = cc

pub length_filter : {A : Type 0} (t : A → Bool) (xs : List A) → length (filter t xs) ≤ length xs
length_filter t [] = omega arith
length_filter t (x ∷ xs) = at (cases_Bool (t x)) (length_filter t xs)
  where
    at : (t x ≡ true) ⊎ (t x ≡ false) → length (filter t xs) ≤ length xs → length (filter t (x ∷ xs)) ≤ length (x ∷ xs)
    at (inl is) rest = rw is (omega (arith, rest))
    at (inr is) rest = rw is (omega (arith, rest))
