-- For private clauses: decimals whose first digits have the same place.
use Rattle.std.specs.Prelude.{◌≡◌, ℕ, ◌+◌, ◌^◌, ◌<◌, ◌≤◌}
use Rattle.value_order.specs.Order.{raised}
use Rattle.value_order.specs.declared.decimal.Decimal.{Decimal}

-- at most so many digits, of which the first would have the same place, counted from that of 10^-400
pub record SamePlace (a b : Decimal) : Type 0 where
  pub count : ℕ
  pub other : ℕ
  pub below : a.digits < 10 ^ count
  pub other_below : b.digits < 10 ^ other
  pub short : count ≤ 38
  pub other_short : other ≤ 38
  pub same : count + raised a.exponent ≡ other + raised b.exponent
