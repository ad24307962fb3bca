-- Signs of decimals, and decimals that stand at one place.
use Rattle.std.proofs.Common.{◌≡◌, inl, inr, ℕ, zero, suc, ◌*◌, ◌^◌, ◌<◌, true, false, arith, refl, sym, ◌∙◌}
use Rattle.std.proofs.lemmas.Bool.{cases_eq, true≢false}
use Rattle.std.specs.declared.cmp.Ordering.TheVariants.{Less, Greater}
use Rattle.std.specs.Ordering.{int_cmp}
use Rattle.value_order.specs.Order.{signed, size_of, raised}
use Rattle.value_order.specs.declared.decimal.Decimal.{Decimal}
use Rattle.value_order.proofs.SizeLemmas.{ten_power}

-- a product of numbers above 0 is above 0
pub times_above : (a b : ℕ) → 0 < a → 0 < b → 0 < a * b
times_above a b p q = grind arith

-- a decimal below zero is not zero
pub size_above : (d : Decimal) → d.negative ≡ true → 0 < size_of d
size_above d below = elim (cases_eq d.digits 0) [
  | inl none ↦ absurd (true≢false (sym below ∙ d.normal.unsigned none))
  | inr some ↦ times_above d.digits (10 ^ raised d.exponent) (omega arith) (ten_power (raised d.exponent))
]

pub below_zero_first : (m n : ℕ) → 0 < m → int_cmp (signed true m) (signed false n) ≡ Less
below_zero_first zero n some = absurd (omega arith)
below_zero_first (suc m) n some = refl

pub above_zero_last : (m n : ℕ) → 0 < n → int_cmp (signed false m) (signed true n) ≡ Greater
above_zero_last m zero some = absurd (omega arith)
above_zero_last m (suc n) some = refl
