-- Sizes of decimals: by the place of the first digit, and by digits.
use Rattle.std.proofs.Common.{◌≡◌, ◌≢◌, ◌⊎◌, inl, inr, ℕ, ◌+◌, ◌-◌, ◌*◌, ◌^◌, ◌<◌, ◌≤◌, arith, sym, ap, ◌∙◌, lit<}
use Rattle.std.proofs.lemmas.Bool.{cases_lt}
use Rattle.std.proofs.lemmas.Nat.{pow-add}
use Rattle.std.proofs.Math.Nat.{pow-le-pow_right, mul-le-mul_right}
use Rattle.std.specs.declared.cmp.Ordering.TheVariants.{Less, Equal, Greater}
use Rattle.std.specs.Ordering.{nat_cmp}
use Rattle.std.proofs.lemmas.Bool.Decides.{nat_tests}

-- a power of ten is not 0
pub ten_power : (n : ℕ) → 0 < 10 ^ n
ten_power n = let h = pow-le-pow_right {n = 10} (lit< tt) {i = 0} {j = n} (omega arith) in omega (arith, h)

-- the greater power has the greater exponent
pub power_below : (a b : ℕ) → 10 ^ a < 10 ^ b → a < b
power_below a b h = elim (cases_lt a b) [
  | inl less ↦ less
  | inr more ↦ absurd (let g = pow-le-pow_right {n = 10} (lit< tt) more in omega (arith, g))
]

pub power_up_to : (a b : ℕ) → a ≤ b → 10 ^ a ≤ 10 ^ b
power_up_to a b h = pow-le-pow_right {n = 10} (lit< tt) h

pub nat_cmp-less : (a b : ℕ) → a < b → nat_cmp a b ≡ Less
nat_cmp-less a b h = grind (arith, nat_tests)

pub nat_cmp-same : (a b : ℕ) → a ≡ b → nat_cmp a b ≡ Equal
nat_cmp-same a b h = grind (arith, nat_tests)

pub nat_cmp-more : (a b : ℕ) → b < a → nat_cmp a b ≡ Greater
nat_cmp-more a b h = grind (arith, nat_tests)

times_below : (a b n : ℕ) → 0 < n → a < b → a * n < b * n
times_below a b n some h = let g : (a + 1) * n ≤ b * n = mul-le-mul_right n (omega arith) in omega (arith, g)

-- numbers stand as they do times another
pub nat_cmp-times : (a b n : ℕ) → 0 < n → nat_cmp a b ≡ nat_cmp (a * n) (b * n)
nat_cmp-times a b n some = elim (cases_lt a b) [
  | inl less ↦ nat_cmp-less a b less ∙ sym (nat_cmp-less (a * n) (b * n) (times_below a b n some less))
  | inr least ↦ elim (cases_lt b a) [
    | inl more ↦ nat_cmp-more a b more ∙ sym (nat_cmp-more (a * n) (b * n) (times_below b a n some more))
    | inr most ↦ let same : a ≡ b = omega arith in nat_cmp-same a b same ∙ sym (nat_cmp-same (a * n) (b * n) (ap (λ (k : ℕ). k * n) same))
  ]
]

-- zero is zero at any place
pub nat_cmp-nought : (a b r s : ℕ) → (a ≡ 0) ⊎ (b ≡ 0) → nat_cmp a b ≡ nat_cmp (a * 10 ^ r) (b * 10 ^ s)
nat_cmp-nought a b r s (inl none) =
    let e : a * 10 ^ r ≡ a * 10 ^ s = ap (λ (k : ℕ). k * 10 ^ r) none ∙ omega arith ∙ ap (λ (k : ℕ). k * 10 ^ s) (sym none) in
    nat_cmp-times a b (10 ^ s) (ten_power s) ∙ ap (λ (k : ℕ). nat_cmp k (b * 10 ^ s)) (sym e)
nat_cmp-nought a b r s (inr none) =
    let e : b * 10 ^ s ≡ b * 10 ^ r = ap (λ (k : ℕ). k * 10 ^ s) none ∙ omega arith ∙ ap (λ (k : ℕ). k * 10 ^ r) (sym none) in
    nat_cmp-times a b (10 ^ r) (ten_power r) ∙ ap (λ (k : ℕ). nat_cmp (a * 10 ^ r) k) (sym e)

-- the power of a difference
pub split_power : (d r s : ℕ) → s ≤ r → d * 10 ^ r ≡ d * 10 ^ (r - s) * 10 ^ s
split_power d r s h =
    let e : 10 ^ r ≡ 10 ^ (r - s) * 10 ^ s = ap (λ (k : ℕ). 10 ^ k) (omega arith) ∙ pow-add 10 (r - s) s in
    ap (λ (k : ℕ). d * k) e ∙ omega arith

-- a number with its first digit at a lower place is less
pub lower_place : (d f c e r s : ℕ) → d < 10 ^ c → 10 ^ e ≤ f * 10 → c + r < e + s → d * 10 ^ r < f * 10 ^ s
lower_place d f c e r s below least lower =
    let one : d * 10 ^ r < 10 ^ c * 10 ^ r = times_below d (10 ^ c) (10 ^ r) (ten_power r) below in
    let two : 10 ^ c * 10 ^ r ≡ 10 ^ (c + r) = sym (pow-add 10 c r) in
    let three : 10 ^ (c + r + 1) ≤ 10 ^ (e + s) = power_up_to (c + r + 1) (e + s) (omega arith) in
    let four : 10 ^ (c + r + 1) ≡ 10 ^ (c + r) * 10 = pow-add 10 (c + r) 1 in
    let five : 10 ^ (e + s) ≡ 10 ^ e * 10 ^ s = pow-add 10 e s in
    let six : 10 ^ e * 10 ^ s ≤ f * 10 * 10 ^ s = mul-le-mul_right (10 ^ s) least in
    let seven : f * 10 * 10 ^ s ≡ f * 10 ^ s * 10 = omega arith in
    omega (arith, one, two, three, four, five, six, seven)

-- digits that get zeros up to the place of others have no more of them
pub aligned_short : (d c e r s : ℕ) → d < 10 ^ c → e ≤ 38 → c + r ≡ e + s → s ≤ r → d * 10 ^ (r - s) < 10 ^ 38
aligned_short d c e r s below short same up =
    let one : d * 10 ^ (r - s) < 10 ^ c * 10 ^ (r - s) = times_below d (10 ^ c) (10 ^ (r - s)) (ten_power (r - s)) below in
    let two : 10 ^ c * 10 ^ (r - s) ≡ 10 ^ e = sym (pow-add 10 c (r - s)) ∙ ap (λ (k : ℕ). 10 ^ k) (omega arith) in
    let three : 10 ^ e ≤ 10 ^ 38 = power_up_to e 38 short in
    omega (arith, one, two, three)

-- the zeros that they get are no more than 38
pub raise_short : (c e r s : ℕ) → e ≤ 38 → c + r ≡ e + s → 10 ^ (r - s) ≤ 10 ^ 38
raise_short c e r s short same = power_up_to (r - s) 38 (omega arith)

-- digits stand as the sizes do, once the others have got their zeros
pub aligned_order : (d e r s p : ℕ) → s ≤ r → p ≡ 10 ^ (r - s) → nat_cmp (d * p) e ≡ nat_cmp (d * 10 ^ r) (e * 10 ^ s)
aligned_order d e r s p up power =
    ap (λ (k : ℕ). nat_cmp (d * k) e) power ∙ nat_cmp-times (d * 10 ^ (r - s)) e (10 ^ s) (ten_power s)
    ∙ ap (λ (k : ℕ). nat_cmp k (e * 10 ^ s)) (sym (split_power d r s up))

pub aligned_order_other : (d e r s p : ℕ) → r ≤ s → p ≡ 10 ^ (s - r) → nat_cmp d (e * p) ≡ nat_cmp (d * 10 ^ r) (e * 10 ^ s)
aligned_order_other d e r s p up power =
    ap (λ (k : ℕ). nat_cmp d (e * k)) power ∙ nat_cmp-times d (e * 10 ^ (s - r)) (10 ^ r) (ten_power r)
    ∙ ap (λ (k : ℕ). nat_cmp (d * 10 ^ r) k) (sym (split_power e s r up))

-- what stands at different places
pub apart_order : (d f c e r s x y : ℕ) → d < 10 ^ c → 10 ^ c ≤ d * 10 → f < 10 ^ e → 10 ^ e ≤ f * 10 → x ≡ c + r → y ≡ e + s → nat_cmp x y ≢ Equal → nat_cmp x y ≡ nat_cmp (d * 10 ^ r) (f * 10 ^ s)
apart_order d f c e r s x y below least other_below other_least px py apart = elim (cases_lt x y) [
  | inl less ↦ nat_cmp-less x y less ∙ sym (nat_cmp-less (d * 10 ^ r) (f * 10 ^ s) (lower_place d f c e r s below other_least (omega arith)))
  | inr most ↦ elim (cases_lt y x) [
    | inl more ↦ nat_cmp-more x y more ∙ sym (nat_cmp-more (d * 10 ^ r) (f * 10 ^ s) (lower_place f d e c s r other_below least (omega arith)))
    | inr least ↦ absurd (apart (nat_cmp-same x y (omega arith)))
  ]
]
