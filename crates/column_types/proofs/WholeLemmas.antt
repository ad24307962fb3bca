-- Whole numbers as decimals.
use Rattle.std.proofs.Common.{◌≡◌, ◌≢◌, inl, inr, ℕ, zero, suc, ◌+◌, ◌*◌, ◌/◌, ◌%◌, ◌^◌, ◌<◌, ◌≤◌, ℤ, pos, negsuc, Bool, true, false, List, length, refl, sym, ap, ◌∙◌, subst, arith, rules}
use Rattle.std.specs.Prelude.{FitsSigned}
use Rattle.std.specs.Int.{w64}
use Rattle.std.proofs.lemmas.Bool.{cases_eq, cases_lt}
use Rattle.std.proofs.lemmas.Int.{ints}
use Rattle.std.proofs.lemmas.Nat.{pow-add}
use Rattle.std.proofs.Math.Nat.{mul-le-mul_left, mul-le-mul_right}
use Rattle.json_scalar.specs.Number.{mantissa, raised, lowered, fraction_digits}
use Rattle.value_order.specs.Order.{signed}
use Rattle.value_order.specs.declared.decimal.Decimal.{Decimal}
use Rattle.value_order.proofs.SizeLemmas.{ten_power, power_up_to}
use Rattle.column_types.specs.Numbers.{IsInteger, IsNumberOf, raised_by, lowered_by}
use Rattle.column_types.specs.Ways.{IsWholeOf}

-- the size of a signed number that has 64 bits
pub small_size : (negative : Bool) (size : ℕ) (value : ℤ) → value ≡ signed negative size → FitsSigned w64 value → size ≤ 2 ^ 63
small_size negative size value is fits = go negative size (subst (λ (z : ℤ). FitsSigned w64 z) is fits)
  where
    go : (b : Bool) (n : ℕ) → FitsSigned w64 (signed b n) → n ≤ 2 ^ 63
    go false n f = let h = f.sfits in omega (arith, h)
    go true zero f = omega arith
    go true (suc n) f = let h = f.sfits in omega (arith, h)

-- a whole decimal of 64 bits has an exponent from 0 to 18
pub whole_exponent : (d : Decimal) (value : ℤ) → FitsSigned w64 value → IsWholeOf d value → (n : ℕ) × (d.exponent ≡ pos n) × (n ≤ 18)
whole_exponent d value fits whole = go d.exponent refl
  where
    big : (n : ℕ) → d.exponent ≡ pos n → 18 < n → ⊥
    big n e far = elim (cases_eq d.digits 0) [
      | inl none ↦ let zero_is = ap raised_by (sym e ∙ d.normal.unraised none) in omega (arith, zero_is)
      | inr some ↦
          let size = small_size d.negative (d.digits * 10 ^ raised_by d.exponent) value whole.is fits in
          let same : d.digits * 10 ^ raised_by d.exponent ≡ d.digits * 10 ^ n = ap (λ (z : ℤ). d.digits * 10 ^ raised_by z) e in
          let up : 10 ^ 19 ≤ 10 ^ n = power_up_to 19 n (omega arith) in
          let once : 1 * 10 ^ n ≤ d.digits * 10 ^ n = mul-le-mul_right (10 ^ n) (let h : d.digits ≢ 0 = some in omega arith) in
          omega (arith, size, same, up, once)
    ]

    go : (e : ℤ) → d.exponent ≡ e → (n : ℕ) × (d.exponent ≡ pos n) × (n ≤ 18)
    go (negsuc n) e = absurd (let low = ap lowered_by (sym e) ∙ whole.not_lowered in omega (arith, low))
    go (pos n) e = (n, e, elim (cases_lt 18 n) [ inl far ↦ absurd (big n e far) | inr near ↦ near ])

-- a number without the zeros at its end
record Stripped (m : ℕ) : Type 0 where
  core : ℕ
  zeros : ℕ
  is : m ≡ core * 10 ^ zeros
  ends : core % 10 ≡ 0 → core ≡ 0
  none : core ≡ 0 → zeros ≡ 0

one_more : (m : ℕ) → m % 10 ≡ 0 → m ≢ 0 → Stripped (m / 10) → Stripped m
one_more m ends some s = record {
  core = s.core;
  zeros = s.zeros + 1;
  is =
      let power : 10 ^ (s.zeros + 1) ≡ 10 ^ s.zeros * 10 = pow-add 10 s.zeros 1 in
      let whole : s.core * 10 ^ (s.zeros + 1) ≡ s.core * 10 ^ s.zeros * 10 = ap (λ (k : ℕ). s.core * k) power ∙ omega arith in
      let tenth = s.is in
      omega (arith, whole, tenth);
  ends = s.ends;
  none = λ none. absurd (some (let z : m / 10 ≡ 0 = s.is ∙ ap (λ (k : ℕ). k * 10 ^ s.zeros) none ∙ omega arith in omega (arith, z)));
}

strip : (fuel m : ℕ) → m ≤ fuel → Stripped m
strip zero m small = record { core = 0; zeros = 0; is = omega arith; ends = λ e. refl; none = λ e. refl }
strip (suc fuel) m small = elim (cases_eq m 0) [
  | inl none ↦ record { core = 0; zeros = 0; is = omega arith; ends = λ e. refl; none = λ e. refl }
  | inr some ↦ elim (cases_eq (m % 10) 0) [
    | inl ends ↦ one_more m ends some (strip fuel (m / 10) (let h : m ≢ 0 = some in omega arith))
    | inr digit ↦ record { core = m; zeros = 0; is = omega arith; ends = λ e. absurd (digit e); none = λ e. refl }
  ]
]

-- how many zeros a number of 64 bits can end in
few_zeros : (size core zeros : ℕ) → size ≤ 2 ^ 63 → size ≡ core * 10 ^ zeros → (core ≡ 0 → zeros ≡ 0) → zeros ≤ 18
few_zeros size core zeros small is none = elim (cases_lt 18 zeros) [
  | inr near ↦ near
  | inl far ↦ elim (cases_eq core 0) [
    | inl nought ↦ absurd (let z = none nought in omega (arith, z))
    | inr some ↦ absurd (
        let up : 10 ^ 19 ≤ 10 ^ zeros = power_up_to 19 zeros (omega arith) in
        let once : 1 * 10 ^ zeros ≤ core * 10 ^ zeros = mul-le-mul_right (10 ^ zeros) (let h : core ≢ 0 = some in omega arith) in
        omega (arith, is, up, once))
  ]
]

core_small : (size core zeros : ℕ) → size ≤ 2 ^ 63 → size ≡ core * 10 ^ zeros → core ≤ 2 ^ 63
core_small size core zeros small is =
    let once : core * 1 ≤ core * 10 ^ zeros = mul-le-mul_left core (let h = ten_power zeros in omega (arith, h)) in
    omega (arith, is, once)

-- a sign that zero does not have
abbrev sign_of : ℕ → Bool → Bool
sign_of zero negative = false
sign_of (suc n) negative = negative

sign_none : (n : ℕ) (negative : Bool) → n ≡ 0 → sign_of n negative ≡ false
sign_none zero negative e = refl
sign_none (suc n) negative e = absurd (omega arith)

sign_some : (n : ℕ) (negative : Bool) → n ≢ 0 → sign_of n negative ≡ negative
sign_some zero negative some = absurd (some refl)
sign_some (suc n) negative some = refl

signed_none : (a b : Bool) (size : ℕ) → size ≡ 0 → signed a size ≡ signed b size
signed_none a b zero e = go a b
  where
    go : (a b : Bool) → signed a 0 ≡ signed b 0
    go true true = refl
    go true false = refl
    go false true = refl
    go false false = refl
signed_none a b (suc n) e = absurd (omega arith)

nought_times : (n : ℕ) → 0 * n ≡ 0
nought_times n = omega arith

-- a product with a power of ten is 0 only where the number is
no_factor : (m k : ℕ) → m * 10 ^ k ≡ 0 → m ≡ 0
no_factor m k e = elim (cases_eq m 0) [
  | inl none ↦ none
  | inr some ↦ absurd (
      let once : 1 * 10 ^ k ≤ m * 10 ^ k = mul-le-mul_right (10 ^ k) (let h : m ≢ 0 = some in omega arith) in
      let power = ten_power k in
      omega (arith, e, once, power))
]

powers_joined : (n i j : ℕ) → n * 10 ^ i * 10 ^ j ≡ n * 10 ^ (i + j)
powers_joined n i j = let p : 10 ^ (i + j) ≡ 10 ^ i * 10 ^ j = pow-add 10 i j in let q : n * (10 ^ i * 10 ^ j) ≡ n * 10 ^ i * 10 ^ j = omega arith in sym q ∙ ap (λ (k : ℕ). n * k) (sym p)

-- the decimal of a whole number of 64 bits
pub record HasDecimal (text : List ℕ) (value : ℤ) : Type 0 where
  pub d : Decimal
  pub number : IsNumberOf text d
  pub whole : IsWholeOf d value

pub integer_decimal : (text : List ℕ) (value : ℤ) → IsInteger text value → FitsSigned w64 value → HasDecimal text value
integer_decimal text value is fits = record {
  d = made;
  number = record {
    literal = is.literal;
    spelled = is.spelled;
    sign = λ some. sign_some stripped.core is.literal.is_negative (λ none. some (nought_mantissa none));
    equal = cross;
  };
  whole = record { not_lowered = refl; is = value_is };
}
  where
    small : is.size ≤ 2 ^ 63
    small = small_size is.literal.is_negative is.size value is.signed_size fits

    stripped : Stripped is.size
    stripped = strip is.size is.size (omega arith)

    zeros_few : stripped.zeros ≤ 18
    zeros_few = few_zeros is.size stripped.core stripped.zeros small stripped.is stripped.none

    core_few : stripped.core ≤ 2 ^ 63
    core_few = core_small is.size stripped.core stripped.zeros small stripped.is

    made : Decimal
    made = record {
      negative = sign_of stripped.core is.literal.is_negative;
      digits = stripped.core;
      exponent = pos stripped.zeros;
      normal = record {
        short = let h = core_few in omega (arith, h);
        least = search rules;
        greatest = let h = zeros_few in omega (arith, ints, h);
        trimmed = stripped.ends;
        unsigned = λ none. sign_none stripped.core is.literal.is_negative none;
        unraised = λ none. ap pos (stripped.none none);
      };
    }

    cross : mantissa is.literal * 10 ^ (raised is.literal.exponent + 0) ≡ stripped.core * 10 ^ (stripped.zeros + (length (fraction_digits is.literal.fraction) + lowered is.literal.exponent))
    cross =
        ap (λ (k : ℕ). mantissa is.literal * 10 ^ k) (omega arith) ∙ is.equal
        ∙ ap (λ (k : ℕ). k * 10 ^ (length (fraction_digits is.literal.fraction) + lowered is.literal.exponent)) stripped.is
        ∙ powers_joined stripped.core stripped.zeros (length (fraction_digits is.literal.fraction) + lowered is.literal.exponent)

    nought_mantissa : stripped.core ≡ 0 → mantissa is.literal ≡ 0
    nought_mantissa none =
        no_factor (mantissa is.literal) (raised is.literal.exponent)
        (is.equal ∙ ap (λ (k : ℕ). k * 10 ^ (length (fraction_digits is.literal.fraction) + lowered is.literal.exponent)) (stripped.is ∙ ap (λ (k : ℕ). k * 10 ^ stripped.zeros) none ∙ nought_times (10 ^ stripped.zeros))
        ∙ nought_times (10 ^ (length (fraction_digits is.literal.fraction) + lowered is.literal.exponent)))

    value_is : value ≡ signed (sign_of stripped.core is.literal.is_negative) (stripped.core * 10 ^ stripped.zeros)
    value_is = is.signed_size ∙ ap (signed is.literal.is_negative) stripped.is ∙ elim (cases_eq stripped.core 0) [
      | inl none ↦ signed_none is.literal.is_negative (sign_of stripped.core is.literal.is_negative) (stripped.core * 10 ^ stripped.zeros) (ap (λ (k : ℕ). k * 10 ^ stripped.zeros) none ∙ nought_times (10 ^ stripped.zeros))
      | inr some ↦ ap (λ (b : Bool). signed b (stripped.core * 10 ^ stripped.zeros)) (sym (sign_some stripped.core is.literal.is_negative some))
    ]

-- the value of a text whose decimal is whole
pub whole_integer : (text : List ℕ) (d : Decimal) (value : ℤ) → IsNumberOf text d → IsWholeOf d value → IsInteger text value
whole_integer text d value number whole = record {
  literal = number.literal;
  spelled = number.spelled;
  size = d.digits * 10 ^ raised_by d.exponent;
  equal =
      ap (λ (k : ℕ). mantissa number.literal * 10 ^ k) (let low = whole.not_lowered in omega (arith, low)) ∙ number.equal
      ∙ sym (powers_joined d.digits (raised_by d.exponent) (length (fraction_digits number.literal.fraction) + lowered number.literal.exponent));
  signed_size = whole.is ∙ elim (cases_eq (mantissa number.literal) 0) [
    | inl none ↦ signed_none d.negative number.literal.is_negative (d.digits * 10 ^ raised_by d.exponent)
        (ap (λ (k : ℕ). k * 10 ^ raised_by d.exponent) (no_factor d.digits (raised_by d.exponent + (length (fraction_digits number.literal.fraction) + lowered number.literal.exponent))
        (sym number.equal ∙ ap (λ (k : ℕ). k * 10 ^ (raised number.literal.exponent + lowered_by d.exponent)) none ∙ nought_times (10 ^ (raised number.literal.exponent + lowered_by d.exponent))))
        ∙ nought_times (10 ^ raised_by d.exponent))
    | inr some ↦ ap (λ (b : Bool). signed b (d.digits * 10 ^ raised_by d.exponent)) (number.sign some)
  ];
}
