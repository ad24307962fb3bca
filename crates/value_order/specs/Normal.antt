-- The normal form of a decimal, which each number has once.
use Rattle.std.specs.Prelude.{◌≡◌, ℕ, ◌%◌, ◌^◌, ◌<◌, ℤ, pos, negsuc, ◌≤ℤ◌, Bool, false}

-- At most 38 digits, which do not end in 0, and an exponent from -400 to 400. Zero has the digits 0, no sign and the
-- exponent 0.
pub record IsNormal (negative : Bool) (digits : ℕ) (exponent : ℤ) : Type 0 where
  pub short : digits < 10 ^ 38
  pub least : negsuc 399 ≤ℤ exponent
  pub greatest : exponent ≤ℤ pos 400
  pub trimmed : digits % 10 ≡ 0 → digits ≡ 0
  pub unsigned : digits ≡ 0 → negative ≡ false
  pub unraised : digits ≡ 0 → exponent ≡ pos 0
