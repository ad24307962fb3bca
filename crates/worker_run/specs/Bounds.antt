-- Bounds of the counts of a plain world.
use Rattle.std.specs.Prelude.{ℕ, ◌≤◌}

-- the counts of a world never pass the bytes that were read
pub record IsBounded (at number records since size : ℕ) : Type 0 where
  pub inside : at ≤ size
  pub lines : number ≤ at
  pub rows : records ≤ number
  pub few : since ≤ records
