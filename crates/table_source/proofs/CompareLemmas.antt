-- Lists that are compared place by place.
use Rattle.std.proofs.Common.{◌≡◌, ◌∙◌, ◌⊎◌, inl, inr, ℕ, ◌+◌, ◌<◌, ◌≤◌, List, [], ◌∷◌, length, drop, get_or, map, suc, refl, sym, ap, arith, length-drop}
use Rattle.std.proofs.Math.Seq.{drop-cons}
use Rattle.std.specs.declared.cmp.Ordering.{Ordering}
use Rattle.std.specs.declared.cmp.Ordering.TheVariants.{Less, Equal, Greater}
use Rattle.std.specs.Ordering.{nat_cmp, ordering_then}
use Rattle.std.specs.Cmp.{nat_cmp_is}
use Rattle.std.specs.Cmp.Lexicographic.{slice_cmp}

-- what a comparison of mapped elements comes to
pub by_parts : {A B V : Type 0} (R : V → V → Ordering) (f : A → V) (g : B → V) (xs : List A) (ys : List B)
    → slice_cmp R (map f xs) (map g ys) ≡ slice_cmp (λ x y. R (f x) (g y)) xs ys
by_parts R f g [] [] = refl
by_parts R f g [] (y ∷ ys) = refl
by_parts R f g (x ∷ xs) [] = refl
by_parts R f g (x ∷ xs) (y ∷ ys) = ap (ordering_then (R (f x) (g y))) (by_parts R f g xs ys)

-- and where only the first are mapped
pub by_firsts : {A V : Type 0} (R : V → V → Ordering) (f : A → V) (xs : List A) (ys : List V) → slice_cmp R (map f xs) ys ≡ slice_cmp (λ x y. R (f x) y) xs ys
by_firsts R f [] [] = refl
by_firsts R f [] (y ∷ ys) = refl
by_firsts R f (x ∷ xs) [] = refl
by_firsts R f (x ∷ xs) (y ∷ ys) = ap (ordering_then (R (f x) y)) (by_firsts R f xs ys)

at_place : {A : Type 0} (xs : List A) (at : ℕ) (x : A) → at < length xs → x ≡ get_or xs at x → drop at xs ≡ x ∷ drop (suc at) xs
at_place {A} xs at x within is = drop-cons xs at x within ∙ ap (λ (e : A). e ∷ drop (suc at) xs) (sym is)

both_at : {A B : Type 0} (R : A → B → Ordering) (xs : List A) (ys : List B) (at : ℕ) (x : A) (y : B)
    → at < length xs → x ≡ get_or xs at x → at < length ys → y ≡ get_or ys at y
    → slice_cmp R (drop at xs) (drop at ys) ≡ ordering_then (R x y) (slice_cmp R (drop (suc at) xs) (drop (suc at) ys))
both_at {A} {B} R xs ys at x y in_xs x_is in_ys y_is =
    ap (λ (l : List A). slice_cmp R l (drop at ys)) (at_place xs at x in_xs x_is) ∙ ap (λ (l : List B). slice_cmp R (x ∷ drop (suc at) xs) l) (at_place ys at y in_ys y_is)

-- equal elements are passed over
pub passes : {A B : Type 0} (R : A → B → Ordering) (xs : List A) (ys : List B) (at : ℕ) (x : A) (y : B)
    → at < length xs → x ≡ get_or xs at x → at < length ys → y ≡ get_or ys at y → R x y ≡ Equal
    → slice_cmp R xs ys ≡ slice_cmp R (drop at xs) (drop at ys) → slice_cmp R xs ys ≡ slice_cmp R (drop (at + 1) xs) (drop (at + 1) ys)
passes R xs ys at x y in_xs x_is in_ys y_is same whole =
    let next : suc at ≡ at + 1 = omega arith in
    whole ∙ both_at R xs ys at x y in_xs x_is in_ys y_is
    ∙ ap (λ (first : Ordering). ordering_then first (slice_cmp R (drop (suc at) xs) (drop (suc at) ys))) same
    ∙ ap (λ (n : ℕ). slice_cmp R (drop n xs) (drop n ys)) next

then_apart : (first rest : Ordering) → (first ≡ Equal → ⊥) → ordering_then first rest ≡ first
then_apart Less rest apart = refl
then_apart Equal rest apart = absurd (apart refl)
then_apart Greater rest apart = refl

-- the first that differ decide
pub differs : {A B : Type 0} (R : A → B → Ordering) (xs : List A) (ys : List B) (at : ℕ) (x : A) (y : B)
    → at < length xs → x ≡ get_or xs at x → at < length ys → y ≡ get_or ys at y → (R x y ≡ Equal → ⊥)
    → slice_cmp R xs ys ≡ slice_cmp R (drop at xs) (drop at ys) → slice_cmp R xs ys ≡ R x y
differs R xs ys at x y in_xs x_is in_ys y_is apart whole =
    whole ∙ both_at R xs ys at x y in_xs x_is in_ys y_is ∙ then_apart (R x y) (slice_cmp R (drop (suc at) xs) (drop (suc at) ys)) apart

ends_of : {A B : Type 0} (R : A → B → Ordering) (xs : List A) (ys : List B) (at m n : ℕ) → (length xs ≡ 0) ⊎ (length ys ≡ 0) → length xs + at ≡ m → length ys + at ≡ n
    → slice_cmp R xs ys ≡ nat_cmp m n
ends_of R [] [] at m n over of_xs of_ys = nat_cmp_is m n Equal (omega (arith, of_xs, of_ys))
ends_of R [] (y ∷ ys) at m n over of_xs of_ys = nat_cmp_is m n Less (omega (arith, of_xs, of_ys))
ends_of R (x ∷ xs) [] at m n over of_xs of_ys = nat_cmp_is m n Greater (omega (arith, of_xs, of_ys))
ends_of R (x ∷ xs) (y ∷ ys) at m n (inl over) of_xs of_ys = absurd (omega (arith, over))
ends_of R (x ∷ xs) (y ∷ ys) at m n (inr over) of_xs of_ys = absurd (omega (arith, over))

left_none : {A : Type 0} (xs : List A) (at : ℕ) → length xs ≤ at → length (drop at xs) ≡ 0
left_none xs at over = length-drop at xs ∙ omega (arith, over)

left_some : {A : Type 0} (xs : List A) (at : ℕ) → at ≤ length xs → length (drop at xs) + at ≡ length xs
left_some xs at within = ap (λ (n : ℕ). n + at) (length-drop at xs) ∙ omega (arith, within)

over_one : {A B : Type 0} (xs : List A) (ys : List B) (at : ℕ) → (length xs ≤ at) ⊎ (length ys ≤ at) → (length (drop at xs) ≡ 0) ⊎ (length (drop at ys) ≡ 0)
over_one xs ys at (inl over) = inl (left_none xs at over)
over_one xs ys at (inr over) = inr (left_none ys at over)

-- and else the lengths do
pub ends : {A B : Type 0} (R : A → B → Ordering) (xs : List A) (ys : List B) (at : ℕ) → at ≤ length xs → at ≤ length ys → (length xs ≤ at) ⊎ (length ys ≤ at)
    → slice_cmp R (drop at xs) (drop at ys) ≡ nat_cmp (length xs) (length ys)
ends R xs ys at in_xs in_ys over = ends_of R (drop at xs) (drop at ys) at (length xs) (length ys) (over_one xs ys at over) (left_some xs at in_xs) (left_some ys at in_ys)
