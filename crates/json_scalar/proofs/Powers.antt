-- Products with powers of ten.
use Rattle.std.proofs.Common.{◌≡◌, ◌≢◌, ℕ, suc, ◌+◌, ◌-◌, ◌*◌, ◌/◌, ◌%◌, ◌^◌, ◌<◌, ◌≤◌, sym, ap, ◌∙◌, subst, Option, Some, None, arith, inl, inr}
use Rattle.std.proofs.lemmas.Nat.{pow-add}
use Rattle.std.proofs.Math.Nat.{pow-suc, one-le-pow, pow-le-pow_right, le-mul_of_pos_right, mul_assoc, mul-mod_left, mul-div_cancel, mul-add-mod_self_right, mod-eq_of_lt}
use Rattle.std.proofs.lemmas.Bool.{cases_lt, cases_eq}
use Rattle.std.specs.Option.{SomeIff, IfSome, IfNone}
use Rattle.json_scalar.specs.Digits.{IsLong, IsTrimmed, IsCapped, Meets}

positive : (k : ℕ) → 0 < 10 ^ k
positive k = let h : 1 ≤ 10 ^ k = one-le-pow k 10 (omega arith) in omega arith

pub power_next : (k : ℕ) → 10 ^ (k + 1) ≡ 10 ^ k * 10
power_next k = let e : k + 1 ≡ suc k = omega arith in ap (λ n. 10 ^ n) e ∙ pow-suc 10 k

pub times_ten : (n k : ℕ) → n * 10 ^ (k + 1) ≡ n * 10 ^ k * 10
times_ten n k = ap (λ p. n * p) (power_next k) ∙ sym (mul_assoc n (10 ^ k) 10)

pub times_one : (n : ℕ) → n * 10 ^ 0 ≡ n
times_one n = omega arith

-- one power more than the other
pub split_power : (n low high : ℕ) → low ≤ high → n * 10 ^ high ≡ n * 10 ^ (high - low) * 10 ^ low
split_power n low high le =
    let e : high ≡ (high - low) + low = omega arith in
    ap (λ k. n * 10 ^ k) e ∙ ap (λ p. n * p) (pow-add 10 (high - low) low) ∙ sym (mul_assoc n (10 ^ (high - low)) (10 ^ low))

pub cancel_power : (a b k : ℕ) → a * 10 ^ k ≡ b * 10 ^ k → a ≡ b
cancel_power a b k e = let p = positive k in sym (mul-div_cancel a p) ∙ ap (λ n. n / 10 ^ k) e ∙ mul-div_cancel b p

-- a power past the eighteenth is too large
pub past_eighteen : (n power : ℕ) → n ≢ 0 → 18 < power → n * 10 ^ power < 2 ^ 63 → ⊥
past_eighteen n power some far small =
    let large : 10 ^ 19 ≤ 10 ^ power = pow-le-pow_right (omega arith) far in
    let one : 1 ≤ n = omega arith in
    let more : 10 ^ power ≤ n * 10 ^ power = grind arith in
    omega arith

-- a power past the thirty-seventh has too many digits
pub past_thirty_seven : (n power : ℕ) → n ≢ 0 → 37 < power → n * 10 ^ power < 10 ^ 38 → ⊥
past_thirty_seven n power some far small =
    let large : 10 ^ 38 ≤ 10 ^ power = pow-le-pow_right (omega arith) far in
    let one : 1 ≤ n = omega arith in
    let more : 10 ^ power ≤ n * 10 ^ power = grind arith in
    omega arith

-- ---- core × 10^zeros × 10^raised = n × 10^lowered

joined : (core zeros raised : ℕ) → core * 10 ^ zeros * 10 ^ raised ≡ core * 10 ^ (zeros + raised)
joined core zeros raised = mul_assoc core (10 ^ zeros) (10 ^ raised) ∙ ap (λ p. core * p) (sym (pow-add 10 zeros raised))

-- a core that ends in no zero is no multiple of ten
pub meets_low : (core zeros raised lowered n : ℕ) → core ≢ 0 → (core % 10 ≡ 0 → core ≡ 0) → zeros + raised < lowered → Meets core zeros raised lowered n → ⊥
meets_low core zeros raised lowered n some ends less m =
    let up = zeros + raised in
    let e : core * 10 ^ up ≡ n * 10 ^ (lowered - up) * 10 ^ up = sym (joined core zeros raised) ∙ m.equal ∙ split_power n up lowered (omega arith) in
    let is : core ≡ n * 10 ^ (lowered - up) = cancel_power core _ up e in
    let next : lowered - up ≡ (lowered - up - 1) + 1 = omega arith in
    let tens : core ≡ n * 10 ^ (lowered - up - 1) * 10 = is ∙ ap (λ k. n * 10 ^ k) next ∙ times_ten n (lowered - up - 1) in
    some (ends (ap (λ x. x % 10) tens ∙ mul-mod_left (n * 10 ^ (lowered - up - 1)) 10))

pub meets_exact : (core zeros raised lowered n : ℕ) → lowered ≤ zeros + raised → Meets core zeros raised lowered n → n ≡ core * 10 ^ (zeros + raised - lowered)
meets_exact core zeros raised lowered n le m =
    cancel_power n _ lowered (sym m.equal ∙ joined core zeros raised ∙ split_power core lowered (zeros + raised) le)

pub meets_there : (core zeros raised lowered : ℕ) → lowered ≤ zeros + raised → Meets core zeros raised lowered (core * 10 ^ (zeros + raised - lowered))
meets_there core zeros raised lowered le = record { equal = joined core zeros raised ∙ split_power core lowered (zeros + raised) le }

pub meets_high : (core zeros raised lowered n : ℕ) → core ≢ 0 → lowered + 18 < zeros + raised → n < 2 ^ 63 → Meets core zeros raised lowered n → ⊥
meets_high core zeros raised lowered n some more small m =
    let is = meets_exact core zeros raised lowered n (omega arith) m in
    past_eighteen core (zeros + raised - lowered) some (omega arith) (subst (λ k. k < 2 ^ 63) is small)

pub meets_nothing : (core zeros raised lowered : ℕ) → core ≢ 0 → Meets core zeros raised lowered 0 → ⊥
meets_nothing core zeros raised lowered some m =
    let e : core * 10 ^ (zeros + raised) ≡ 0 * 10 ^ (zeros + raised) = sym (joined core zeros raised) ∙ m.equal ∙ omega arith in
    some (cancel_power core 0 (zeros + raised) e)

-- ---- a number whose core is too large

pub long_last : (m digit : ℕ) → 0 < digit → digit < 10 → 10 ^ 38 ≤ m * 10 + digit → IsLong (m * 10 + digit)
long_last m digit some small large = record {
  core = m * 10 + digit;
  zeros = 0;
  value = sym (times_one (m * 10 + digit));
  large = large;
  ends = λ e. let r : (m * 10 + digit) % 10 ≡ digit = mul-add-mod_self_right m 10 digit ∙ mod-eq_of_lt small in omega arith;
}

pub trimmed_last : (m digit : ℕ) → 0 < digit → digit < 10 → m * 10 + digit < 10 ^ 38 → IsTrimmed (m * 10 + digit)
trimmed_last m digit some small below = record {
  small = below;
  ends = λ e. let r : (m * 10 + digit) % 10 ≡ digit = mul-add-mod_self_right m 10 digit ∙ mod-eq_of_lt small in omega arith;
}

pub long_next : (n digit : ℕ) → digit < 10 → IsLong n → IsLong (n * 10 + digit)
long_next n digit small long = elim (cases_eq digit 0) [
  | inl nought ↦ record {
    core = long.core;
    zeros = long.zeros + 1;
    value = (let e : n * 10 + digit ≡ n * 10 = omega arith in e ∙ ap (λ k. k * 10) long.value ∙ sym (times_ten long.core long.zeros));
    large = long.large;
    ends = long.ends;
  }
  | inr some ↦ long_last n digit (omega arith) small (omega (arith, large_of n long))
]
  where
    large_of : (n : ℕ) → IsLong n → 10 ^ 38 ≤ n
    large_of n long =
        let more : long.core ≤ long.core * 10 ^ long.zeros = le-mul_of_pos_right long.core (positive long.zeros) in
        let v = long.value in
        let l = long.large in
        omega arith

pub long_meets : (n raised lowered m : ℕ) → IsLong n → n * 10 ^ raised ≡ m * 10 ^ lowered → m < 2 ^ 63 → ⊥
long_meets n raised lowered m long e small =
    let meets : Meets long.core long.zeros raised lowered m = record { equal = ap (λ k. k * 10 ^ raised) (sym long.value) ∙ e } in
    let l = long.large in
    let some : long.core ≢ 0 = λ z. omega arith in
    elim (cases_lt (long.zeros + raised) lowered) [
      | inl less ↦ meets_low long.core long.zeros raised lowered m some (λ z. absurd (long.ends z)) less meets
      | inr le ↦
          let is = meets_exact long.core long.zeros raised lowered m le meets in
          let more : long.core ≤ long.core * 10 ^ (long.zeros + raised - lowered) = le-mul_of_pos_right long.core (positive (long.zeros + raised - lowered)) in
          omega arith
    ]

-- a product that does not fit, with a digit behind it, and a sum that does not
pub product_large : (core k digit : ℕ) → (core * 10 ^ (k + 1) < 10 ^ 38 → ⊥) → 10 ^ 38 ≤ core * 10 ^ k * 10 + digit
product_large core k digit large = elim (cases_lt (core * 10 ^ (k + 1)) (10 ^ 38)) [
  | inl small ↦ absurd (large small)
  | inr le ↦ omega (arith, times_ten core k)
]

pub sum_large : (core k digit product : ℕ) → product ≡ core * 10 ^ (k + 1) → 10 ^ 38 ≤ product + digit → 10 ^ 38 ≤ core * 10 ^ k * 10 + digit
sum_large core k digit product e large = omega (arith, times_ten core k)

-- ---- what a product that may not fit tells

pub found_meets : (core k raised lowered : ℕ) (o : Option ℕ) → lowered ≤ k + raised → SomeIff o (core * 10 ^ (k + raised - lowered) < 2 ^ 63) (core * 10 ^ (k + raised - lowered)) → IfSome o (Meets core k raised lowered)
found_meets core k raised lowered None le s = tt
found_meets core k raised lowered (Some n) le s = subst (Meets core k raised lowered) (sym s.1) (meets_there core k raised lowered le)

pub none_meets : (core k raised lowered : ℕ) (o : Option ℕ) → lowered ≤ k + raised → SomeIff o (core * 10 ^ (k + raised - lowered) < 2 ^ 63) (core * 10 ^ (k + raised - lowered))
    → IfNone o ((n : ℕ) → n < 2 ^ 63 → ¬ Meets core k raised lowered n)
none_meets core k raised lowered None le s = λ n small m. s (subst (λ x. x < 2 ^ 63) (meets_exact core k raised lowered n le m) small)
none_meets core k raised lowered (Some n) le s = tt

-- ---- exponents that stop at the cap

pub capped_next : (capped n digit : ℕ) → IsCapped capped n → IsCapped (capped * 10 + digit) (n * 10 + digit)
capped_next capped n digit (inl e) = inl (ap (λ k. k * 10 + digit) e)
capped_next capped n digit (inr p) = let a = p.0 in let b = p.1 in inr (omega arith, omega arith)

pub capped_stays : (capped n digit : ℕ) → 2 ^ 66 ≤ capped → IsCapped capped n → IsCapped capped (n * 10 + digit)
capped_stays capped n digit large (inl e) = inr (large, omega arith)
capped_stays capped n digit large (inr p) = let b = p.1 in inr (large, omega arith)

-- ---- numbers that end in no zero

-- such a number is no other one with zeros behind it
longer_ends : (a b i j : ℕ) → (a % 10 ≡ 0 → ⊥) → i < j → a * 10 ^ i ≡ b * 10 ^ j → ⊥
longer_ends a b i j ends less e =
    let is : a ≡ b * 10 ^ (j - i) = cancel_power a (b * 10 ^ (j - i)) i (e ∙ split_power b i j (omega arith)) in
    let next : j - i ≡ (j - i - 1) + 1 = omega arith in
    let tens : a ≡ b * 10 ^ (j - i - 1) * 10 = is ∙ ap (λ k. b * 10 ^ k) next ∙ times_ten b (j - i - 1) in
    ends (ap (λ x. x % 10) tens ∙ mul-mod_left (b * 10 ^ (j - i - 1)) 10)

pub one_ending : (a b i j : ℕ) → (a % 10 ≡ 0 → ⊥) → (b % 10 ≡ 0 → ⊥) → a * 10 ^ i ≡ b * 10 ^ j → (a ≡ b) × (i ≡ j)
one_ending a b i j ends others e = elim (cases_lt i j) [
  | inl less ↦ absurd (longer_ends a b i j ends less e)
  | inr le ↦ elim (cases_eq i j) [
    | inl same ↦ (cancel_power a b j (ap (λ k. a * 10 ^ k) (sym same) ∙ e), same)
    | inr other ↦ absurd (longer_ends b a j i others (omega arith) (sym e))
  ]
]
