-- Lists in which nothing stands twice grow by what is not there.
use Rattle.std.proofs.Common.{◌≡◌, ◌⊎◌, inl, inr, ℕ, zero, suc, List, [], ◌∷◌, ◌++◌, Option, None, Some, refl, sym, ◌∙◌, ap, subst, length, slice_get}
use Rattle.stream_index.specs.Distinct.{AreDistinct}

None-is_Some : {A : Type 0} (a : A) → None ≡ Some a → ⊥
None-is_Some a e = cc

pub Some-injective : {A : Type 0} (a b : A) → Some a ≡ Some b → a ≡ b
Some-injective a b e = cc

-- what stands at a place of a list with one more element
pub place_behind : {A : Type 0} (xs : List A) (x : A) (i : ℕ) (item : A) → slice_get (xs ++ x ∷ []) i ≡ Some item → (slice_get xs i ≡ Some item) ⊎ ((i ≡ length xs) × (x ≡ item))
place_behind [] x zero item at = inr (refl, Some-injective x item at)
place_behind [] x (suc i) item at = absurd (None-is_Some item at)
place_behind (y ∷ ys) x zero item at = inl at
place_behind (y ∷ ys) x (suc i) item at = elim (place_behind ys x i item at) [ inl before ↦ inl before | inr last ↦ inr (ap suc last.0, last.1) ]

-- and what stood there stands there still
pub place_before : {A : Type 0} (xs ys : List A) (i : ℕ) (item : A) → slice_get xs i ≡ Some item → slice_get (xs ++ ys) i ≡ Some item
place_before [] ys i item at = absurd (None-is_Some item at)
place_before (x ∷ xs) ys zero item at = at
place_before (x ∷ xs) ys (suc i) item at = place_before xs ys i item at

pub distinct_more : {A : Type 0} (xs : List A) (x : A) → AreDistinct xs → ((place : ℕ) → ¬ (slice_get xs place ≡ Some x)) → AreDistinct (xs ++ x ∷ [])
distinct_more {A} xs x distinct new i j item at also = both (place_behind xs x i item at) (place_behind xs x j item also)
  where
    both : (slice_get xs i ≡ Some item) ⊎ ((i ≡ length xs) × (x ≡ item)) → (slice_get xs j ≡ Some item) ⊎ ((j ≡ length xs) × (x ≡ item)) → i ≡ j
    both (inl a) (inl b) = distinct i j item a b
    both (inl a) (inr b) = absurd (new i (a ∙ ap (λ (y : A). Some y) (sym b.1)))
    both (inr a) (inl b) = absurd (new j (b ∙ ap (λ (y : A). Some y) (sym a.1)))
    both (inr a) (inr b) = a.0 ∙ sym b.0
