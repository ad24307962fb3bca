-- The parts of a decimal.
use Rattle.std.specs.Prelude.{◌≡◌, ℕ, ℤ, Bool}
use Rattle.value_order.specs.declared.decimal.Decimal.{Decimal}

-- the decimal has this sign, these digits and this exponent
pub record HasParts (negative : Bool) (digits : ℕ) (exponent : ℤ) (d : Decimal) : Type 0 where
  pub sign : d.negative ≡ negative
  pub number : d.digits ≡ digits
  pub power : d.exponent ≡ exponent
