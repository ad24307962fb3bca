-- A mask that is made lane by lane is compared with a test at each of the 256 bytes.
use Rattle.std.proofs.Common.{◌≡◌, ℕ, zero, suc, ◌%◌, ◌^◌, ◌<◌, ◌≤◌, ltb, Bool, true, false, not, ◌&&◌, cond, eqb, T, List, [], ◌∷◌, map, length, refl, sym, ap, ap₂, ◌∙◌, subst, arith, w8, Fits, ◌⊎◌, inl, inr, not-suc-le-zero}
use Rattle.std.proofs.lemmas.Simd.{mask_l-mod}
use Rattle.std.proofs.lemmas.List.{length-map}
use Rattle.std.proofs.lemmas.Bool.{cases_order}
use lib.Bits.{bit_or}
use lib.Lanes.{zip2, mask_l, top, Each1}

-- each number below n passes the test
abbrev pub all_below : (ℕ → Bool) → ℕ → Bool
all_below p zero = true
all_below p (suc n) = p n && all_below p n

both : (a b : Bool) → T (a && b) → T a × T b
both true b h = (tt, h)
both false b h = absurd h

below_passes : (p : ℕ → Bool) (n : ℕ) → T (all_below p n) → (i : ℕ) → i < n → T (p i)
below_passes p zero h i lt = absurd (not-suc-le-zero lt)
below_passes p (suc n) h i lt = by_order (below_passes p n (both (p n) (all_below p n) h).1 i) (cases_order i n)
  where
    by_order : (i < n → T (p i)) → (i ≡ n) ⊎ ((i < n) ⊎ (n < i)) → T (p i)
    by_order below (inl e) = subst (λ x. T (p x)) (sym e) (both (p n) (all_below p n) h).0
    by_order below (inr (inl l)) = below l
    by_order below (inr (inr g)) = let no : ⊥ = omega arith in absurd no

abbrev pub agree : Bool → Bool → Bool
agree true b = b
agree false b = not b

agree_is : (a b : Bool) → T (agree a b) → a ≡ b
agree_is true true h = refl
agree_is false false h = refl
agree_is true false h = absurd h
agree_is false true h = absurd h

-- a lane of a comparison: all its bits or none
abbrev pub hit : ℕ → ℕ → ℕ
hit a b = cond (eqb a b) 255 0

abbrev pub below : ℕ → ℕ → ℕ
below a b = cond (ltb a b) 255 0

zip2-map : (f g : ℕ → ℕ) (xs : List ℕ) → zip2 bit_or (map f xs) (map g xs) ≡ map (λ x. bit_or (f x) (g x)) xs
zip2-map f g [] = refl
zip2-map f g (x ∷ xs) = ap (λ r. bit_or (f x) (g x) ∷ r) (zip2-map f g xs)

pub either : (f g : ℕ → ℕ) (lanes : List ℕ) {a b : List ℕ} → a ≡ map f lanes → b ≡ map g lanes → zip2 bit_or a b ≡ map (λ x. bit_or (f x) (g x)) lanes
either f g lanes p q = ap₂ (zip2 bit_or) p q ∙ zip2-map f g lanes

each_byte : (f : ℕ → ℕ) (p : ℕ → Bool) → T (all_below (λ x. agree (top 7 (f x)) (p x)) 256) → (lanes : List ℕ) → Each1 (Fits w8) lanes → map (top 7) (map f lanes) ≡ map p lanes
each_byte f p all [] fits = refl
each_byte f p all (x ∷ xs) fits = ap₂ (λ a b. a ∷ b) (agree_is _ _ (below_passes (λ y. agree (top 7 (f y)) (p y)) 256 all x fits.0.fits)) (each_byte f p all xs fits.1)

pub masked : (f : ℕ → ℕ) (p : ℕ → Bool) (lanes made : List ℕ) → length lanes ≤ 64 → Each1 (Fits w8) lanes → made ≡ map f lanes → T (all_below (λ x. agree (top 7 (f x)) (p x)) 256)
    → mask_l (map (top 7) made) % 2 ^ 64 ≡ mask_l (map p lanes)
masked f p lanes made short fits e all =
    ap (λ l. mask_l l % 2 ^ 64) (ap (map (top 7)) e ∙ each_byte f p all lanes fits) ∙ mask_l-mod (map p lanes) 64 (omega (arith, length-map lanes p))
