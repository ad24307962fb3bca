-- The decimal of a number: its parts give one exactly where its digits are few and its exponent is near, and no other.
use Rattle.std.proofs.Common.{◌≡◌, ◌≢◌, ℕ, ◌+◌, ◌*◌, ◌%◌, ◌^◌, ◌<◌, ◌⊎◌, inl, inr, Bool, true, false, cond, List, ◌++◌, length, Some, None, refl, sym, ap, ◌∙◌, subst, arith}
use Rattle.std.proofs.lemmas.List.{length-map}
use Rattle.std.proofs.lemmas.Nat.{pow-add}
use Rattle.std.proofs.Math.Nat.{mul_assoc}
use Rattle.std.proofs.lemmas.Bool.{cases_eq}
use Rattle.json_scalar.specs.Number.{Digit, Literal, fraction_digits}
use Rattle.json_scalar.specs.Digits.{spelled, IsLong, IsTrimmed}
use Rattle.json_scalar.specs.Parts.{Cut, cut, raised_by, lowered_by}
use Rattle.json_scalar.specs.Decimal.{HasDecimal, IsDecimal, IsNormal}
use Rattle.json_scalar.specs.DecimalParts.{IsDecimalOf, IsPlaced, IsFar}
use Rattle.json_scalar.specs.declared.decimal.Decimal.{Decimal}
use Rattle.json_scalar.proofs.Options.{some_inj}
use Rattle.json_scalar.proofs.Powers.{cancel_power, one_ending}
use Rattle.json_scalar.proofs.Cuts.{literal_cut, complete, sound}
use Rattle.json_scalar.proofs.Values.{Cored, mantissa_is, raised_is, lowered_is}

powers_join : (n i j : ℕ) → n * 10 ^ i * 10 ^ j ≡ n * 10 ^ (i + j)
powers_join n i j = mul_assoc n (10 ^ i) (10 ^ j) ∙ ap (λ p. n * p) (sym (pow-add 10 i j))

-- zero with a power is zero
nothing_times : (n k : ℕ) → n * 10 ^ k ≡ 0 → n ≡ 0
nothing_times n k e = cancel_power n 0 k (e ∙ omega arith)

-- a normal decimal that is not zero ends in no zero
ends_so : (d : Decimal) → IsNormal d → d.digits ≢ 0 → d.digits % 10 ≡ 0 → ⊥
ends_so d n some e = some (n.ends e).digits

-- The parts of a number whose digits are this core with these zeros.
core_is : (c : Cut) (core zeros : ℕ) (d : Decimal) → core * 10 ^ zeros ≡ spelled (c.whole ++ c.fraction) → IsDecimalOf c d → core * 10 ^ (zeros + (raised_by c + d.lowered)) ≡ d.digits * 10 ^ (d.raised + (length c.fraction + lowered_by c))
core_is c core zeros d number v = sym (powers_join core zeros (raised_by c + d.lowered)) ∙ ap (λ n. n * 10 ^ (raised_by c + d.lowered)) number ∙ v.equal

-- a decimal that has their value has this core
same_core : (c : Cut) (core zeros : ℕ) (d : Decimal) → core * 10 ^ zeros ≡ spelled (c.whole ++ c.fraction) → core ≢ 0 → (core % 10 ≡ 0 → ⊥) → IsNormal d → IsDecimalOf c d
    → (core ≡ d.digits) × (zeros + (raised_by c + d.lowered) ≡ d.raised + (length c.fraction + lowered_by c))
same_core c core zeros d number some ends n v =
    let e = core_is c core zeros d number v in
    let up = zeros + (raised_by c + d.lowered) in
    let down = d.raised + (length c.fraction + lowered_by c) in
    let other : d.digits ≢ 0 = λ (z : d.digits ≡ 0). some (nothing_times core up (e ∙ ap (λ k. k * 10 ^ down) z ∙ omega arith)) in
    one_ending core d.digits up down ends (ends_so d n other) e

pub long_decimal : (c : Cut) (d : Decimal) → IsLong (spelled (c.whole ++ c.fraction)) → IsNormal d → IsDecimalOf c d → ⊥
long_decimal c d long n v =
    let large = long.large in
    let few = n.few in
    let is = (same_core c long.core long.zeros d (sym long.value) (λ z. omega arith) long.ends n v).0 in
    omega arith

-- the decimal of zero
abbrev nought : Decimal
nought = record { is_negative = false; digits = 0; raised = 0; lowered = 0 }

pub nought_decimal : (c : Cut) → spelled (c.whole ++ c.fraction) ≡ 0 → IsDecimalOf c nought
nought_decimal c e = record { sign = λ some. absurd (some e); equal = ap (λ n. n * 10 ^ (raised_by c + 0)) e ∙ omega arith }

pub nought_normal : IsNormal nought
nought_normal = record { few = omega arith; raised_near = omega arith; lowered_near = omega arith; one_way = inl refl; ends = λ e. record { digits = refl; raised = refl; lowered = refl; unsigned = refl } }

pub placed_normal : (negative : Bool) (core up down : ℕ) (d : Decimal) → IsTrimmed core → core ≢ 0 → IsPlaced negative core up down d → IsNormal d
placed_normal negative core up down d t some p =
    let small = t.small in
    let digits = p.digits in
    let raised = p.raised_near in
    let lowered = p.lowered_near in
    record { few = omega arith; raised_near = omega arith; lowered_near = omega arith; one_way = p.one_way; ends = λ e. absurd (some (t.ends (ap (λ k. k % 10) (sym digits) ∙ e))) }

placed_decimal : (c : Cut) (core zeros : ℕ) (d : Decimal) → core * 10 ^ zeros ≡ spelled (c.whole ++ c.fraction) → IsPlaced c.is_negative core (zeros + raised_by c) (length c.fraction + lowered_by c) d → IsDecimalOf c d
placed_decimal c core zeros d number p =
    let e : zeros + (raised_by c + d.lowered) ≡ d.raised + (length c.fraction + lowered_by c) = let x = p.exponent in omega arith in
    record {
      sign = λ some. p.sign;
      equal =
          ap (λ n. n * 10 ^ (raised_by c + d.lowered)) (sym number)
          ∙ powers_join core zeros (raised_by c + d.lowered)
          ∙ ap (λ k. core * 10 ^ k) e
          ∙ ap (λ k. k * 10 ^ (d.raised + (length c.fraction + lowered_by c))) (sym p.digits);
    }

far_none : (c : Cut) (core zeros : ℕ) (d : Decimal) → core * 10 ^ zeros ≡ spelled (c.whole ++ c.fraction) → core ≢ 0 → (core % 10 ≡ 0 → core ≡ 0) → IsFar (zeros + raised_by c) (length c.fraction + lowered_by c) → IsNormal d → IsDecimalOf c d → ⊥
far_none c core zeros d number some ends far n v =
    let is = (same_core c core zeros d number some (λ e. some (ends e)) n v).1 in
    let raised = n.raised_near in
    let lowered = n.lowered_near in
    elim far [ inl more ↦ omega arith | inr less ↦ omega arith ]

module _ (c : Cut) (raises : c.lowers ≡ false) where
  up_is : spelled c.exponent ≡ raised_by c
  up_is = sym (ap (λ b. cond b 0 (spelled c.exponent)) raises)

  down_is : length c.fraction ≡ length c.fraction + lowered_by c
  down_is = let e : length c.fraction ≡ length c.fraction + 0 = omega arith in e ∙ sym (ap (λ b. length c.fraction + cond b (spelled c.exponent) 0) raises)

  pub decimal_raised : (core zeros capped : ℕ) (d : Decimal) → Cored c core zeros capped → IsPlaced c.is_negative core (zeros + capped) (length c.fraction) d → IsDecimalOf c d
  decimal_raised core zeros capped d k p = elim k.exponent [
    | inl e ↦ placed_decimal c core zeros d k.number (subst (λ n. IsPlaced c.is_negative core (zeros + n) (length c.fraction + lowered_by c) d) (e ∙ up_is) (subst (λ n. IsPlaced c.is_negative core (zeros + capped) n d) down_is p))
    | inr far ↦ let s = k.short in let x = p.exponent in let r = p.raised_near in absurd (omega (arith, far.0))
  ]

  pub no_decimal_raised : (core zeros capped : ℕ) → Cored c core zeros capped → IsFar (zeros + capped) (length c.fraction) → (d : Decimal) → IsNormal d → IsDecimalOf c d → ⊥
  no_decimal_raised core zeros capped k far d n v = elim k.exponent [
    | inl e ↦ far_none c core zeros d k.number k.some k.ends (subst (λ i. IsFar (zeros + i) (length c.fraction + lowered_by c)) (e ∙ up_is) (subst (λ i. IsFar (zeros + capped) i) down_is far)) n v
    | inr large ↦
        let s = k.short in
        let more : length c.fraction + lowered_by c + 400 < zeros + raised_by c = omega (arith, large.1, up_is, down_is) in
        far_none c core zeros d k.number k.some k.ends (inl more) n v
  ]

module _ (c : Cut) (lowers : c.lowers ≡ true) where
  nothing_up : 0 ≡ raised_by c
  nothing_up = sym (ap (λ b. cond b 0 (spelled c.exponent)) lowers)

  down_by : spelled c.exponent ≡ lowered_by c
  down_by = sym (ap (λ b. cond b (spelled c.exponent) 0) lowers)

  same_up : (n : ℕ) → n ≡ n + raised_by c
  same_up n = omega (arith, nothing_up)

  pub decimal_lowered : (core zeros capped : ℕ) (d : Decimal) → Cored c core zeros capped → IsPlaced c.is_negative core zeros (length c.fraction + capped) d → IsDecimalOf c d
  decimal_lowered core zeros capped d k p = elim k.exponent [
    | inl e ↦ placed_decimal c core zeros d k.number (subst (λ n. IsPlaced c.is_negative core n (length c.fraction + lowered_by c) d) (same_up zeros) (subst (λ n. IsPlaced c.is_negative core zeros (length c.fraction + n) d) (e ∙ down_by) p))
    | inr far ↦ let s = k.few in let x = p.exponent in let l = p.lowered_near in absurd (omega (arith, far.0))
  ]

  pub no_decimal_lowered : (core zeros capped : ℕ) → Cored c core zeros capped → IsFar zeros (length c.fraction + capped) → (d : Decimal) → IsNormal d → IsDecimalOf c d → ⊥
  no_decimal_lowered core zeros capped k far d n v = elim k.exponent [
    | inl e ↦ far_none c core zeros d k.number k.some k.ends (subst (λ i. IsFar i (length c.fraction + lowered_by c)) (same_up zeros) (subst (λ i. IsFar zeros (length c.fraction + i)) (e ∙ down_by) far)) n v
    | inr large ↦
        let s = k.few in
        let less : zeros + raised_by c + 400 < length c.fraction + lowered_by c = omega (arith, large.1, nothing_up, down_by) in
        far_none c core zeros d k.number k.some k.ends (inr less) n v
  ]

-- ---- a text and its parts

of_literal : (l : Literal) (d : Decimal) → HasDecimal l d → IsDecimalOf (literal_cut l) d
of_literal l d v = record {
  sign = λ some. v.sign (λ z. some (mantissa_is l ∙ z));
  equal = (λ i. mantissa_is l i * 10 ^ (raised_is l.exponent i + d.lowered)) ∙ v.equal ∙ sym (λ i. d.digits * 10 ^ (d.raised + (length-map (fraction_digits l.fraction) (λ (g : Digit). 48 + g.value) i + lowered_is l.exponent i)));
}

to_literal : (l : Literal) (d : Decimal) → IsDecimalOf (literal_cut l) d → HasDecimal l d
to_literal l d v = record {
  sign = λ some. v.sign (λ z. some (sym (mantissa_is l) ∙ z));
  equal = sym (λ i. mantissa_is l i * 10 ^ (raised_is l.exponent i + d.lowered)) ∙ v.equal ∙ (λ i. d.digits * 10 ^ (d.raised + (length-map (fraction_digits l.fraction) (λ (g : Digit). 48 + g.value) i + lowered_is l.exponent i)));
}

pub cut_decimal : (text : List ℕ) (c : Cut) (d : Decimal) → cut text ≡ Some c → IsDecimalOf c d → IsDecimal text d
cut_decimal text c d e v =
    let s = sound text c e in
    record { literal = s.literal; spelled = s.spelled; value = to_literal s.literal d (subst (λ k. IsDecimalOf k d) s.is v) }

pub decimal_cut : (text : List ℕ) (c : Cut) (d : Decimal) → cut text ≡ Some c → IsDecimal text d → IsDecimalOf c d
decimal_cut text c d e w =
    let is = some_inj _ _ (sym (ap cut w.spelled ∙ complete w.literal) ∙ e) in
    subst (λ k. IsDecimalOf k d) is (of_literal w.literal d w.value)

pub no_cut_decimal : (text : List ℕ) (d : Decimal) → cut text ≡ None → IsDecimal text d → ⊥
no_cut_decimal text d e w = let clash : Some (literal_cut w.literal) ≡ None = sym (ap cut w.spelled ∙ complete w.literal) ∙ e in cc

-- ---- one decimal alone

decimal_equal : (a b : Decimal) → a.is_negative ≡ b.is_negative → a.digits ≡ b.digits → a.raised ≡ b.raised → a.lowered ≡ b.lowered → a ≡ b
decimal_equal a b e f g h = λ i. record { is_negative = e i; digits = f i; raised = g i; lowered = h i }

one_power : (ar al br bl : ℕ) → (ar ≡ 0) ⊎ (al ≡ 0) → (br ≡ 0) ⊎ (bl ≡ 0) → ar + bl ≡ br + al → (ar ≡ br) × (al ≡ bl)
one_power ar al br bl (inl p) (inl q) e = (omega arith, omega arith)
one_power ar al br bl (inl p) (inr q) e = (omega arith, omega arith)
one_power ar al br bl (inr p) (inl q) e = (omega arith, omega arith)
one_power ar al br bl (inr p) (inr q) e = (omega arith, omega arith)

none_of : (c : Cut) (d : Decimal) → spelled (c.whole ++ c.fraction) ≡ 0 → IsDecimalOf c d → d.digits ≡ 0
none_of c d e v = nothing_times d.digits (d.raised + (length c.fraction + lowered_by c)) (sym v.equal ∙ ap (λ n. n * 10 ^ (raised_by c + d.lowered)) e ∙ omega arith)

some_of : (c : Cut) (d : Decimal) → spelled (c.whole ++ c.fraction) ≢ 0 → IsDecimalOf c d → d.digits ≢ 0
some_of c d some v z = some (nothing_times (spelled (c.whole ++ c.fraction)) (raised_by c + d.lowered) (v.equal ∙ ap (λ n. n * 10 ^ (d.raised + (length c.fraction + lowered_by c))) z ∙ omega arith))

-- two decimals of one number, each with the power by which the other is divided
crossed : (c : Cut) (a b : Decimal) → IsDecimalOf c a → IsDecimalOf c b → a.digits * 10 ^ (a.raised + (length c.fraction + lowered_by c) + b.lowered) ≡ b.digits * 10 ^ (b.raised + (length c.fraction + lowered_by c) + a.lowered)
crossed c a b v w =
    let n = spelled (c.whole ++ c.fraction) in
    let r = raised_by c in
    let down = length c.fraction + lowered_by c in
    let swap : r + a.lowered + b.lowered ≡ r + b.lowered + a.lowered = omega arith in
    sym (powers_join a.digits (a.raised + down) b.lowered)
    ∙ ap (λ k. k * 10 ^ b.lowered) (sym v.equal)
    ∙ powers_join n (r + a.lowered) b.lowered
    ∙ ap (λ k. n * 10 ^ k) swap
    ∙ sym (powers_join n (r + b.lowered) a.lowered)
    ∙ ap (λ k. k * 10 ^ a.lowered) w.equal
    ∙ powers_join b.digits (b.raised + down) a.lowered

pub one_decimal : (c : Cut) (a b : Decimal) → IsNormal a → IsNormal b → IsDecimalOf c a → IsDecimalOf c b → a ≡ b
one_decimal c a b n m v w = elim (cases_eq (spelled (c.whole ++ c.fraction)) 0) [
  | inl e ↦
      let x = n.ends (ap (λ k. k % 10) (none_of c a e v)) in
      let y = m.ends (ap (λ k. k % 10) (none_of c b e w)) in
      decimal_equal a b (x.unsigned ∙ sym y.unsigned) (x.digits ∙ sym y.digits) (x.raised ∙ sym y.raised) (x.lowered ∙ sym y.lowered)
  | inr some ↦
      let same = one_ending a.digits b.digits (a.raised + (length c.fraction + lowered_by c) + b.lowered) (b.raised + (length c.fraction + lowered_by c) + a.lowered) (ends_so a n (some_of c a some v)) (ends_so b m (some_of c b some w)) (crossed c a b v w) in
      let powers = one_power a.raised a.lowered b.raised b.lowered n.one_way m.one_way (omega (arith, same.1)) in
      decimal_equal a b (v.sign some ∙ sym (w.sign some)) same.0 powers.0 powers.1
]
