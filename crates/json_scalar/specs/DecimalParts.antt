-- For private clauses: the decimal of a number's parts.
use Rattle.std.specs.Prelude.{◌≡◌, ◌≢◌, ◌⊎◌, ℕ, ◌+◌, ◌*◌, ◌^◌, ◌<◌, ◌++◌, Bool, length}
use Rattle.json_scalar.specs.Digits.{spelled}
use Rattle.json_scalar.specs.Parts.{Cut, raised_by, lowered_by}
use Rattle.json_scalar.specs.declared.decimal.Decimal.{Decimal}

-- the parts have the value of the decimal
pub record IsDecimalOf (c : Cut) (d : Decimal) : Type 0 where
  pub sign : spelled (c.whole ++ c.fraction) ≢ 0 → d.is_negative ≡ c.is_negative
  pub equal : spelled (c.whole ++ c.fraction) * 10 ^ (raised_by c + d.lowered) ≡ d.digits * 10 ^ (d.raised + (length c.fraction + lowered_by c))

-- these digits with this exponent, which is the difference of two
pub record IsPlaced (is_negative : Bool) (core up down : ℕ) (d : Decimal) : Type 0 where
  pub sign : d.is_negative ≡ is_negative
  pub digits : d.digits ≡ core
  pub exponent : up + d.lowered ≡ d.raised + down
  pub raised_near : d.raised < 401
  pub lowered_near : d.lowered < 401
  pub one_way : (d.raised ≡ 0) ⊎ (d.lowered ≡ 0)

-- the difference is too great either way
abbrev pub IsFar : ℕ → ℕ → Type 0
IsFar up down = (down + 400 < up) ⊎ (up + 400 < down)
