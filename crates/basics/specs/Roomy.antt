-- A list with reserved room.
use Rattle.std.specs.Prelude.{ℕ, List}

-- the elements, and how many more can be put behind them without taking memory
pub record Roomy (T : Type 0) : Type 0 where
  pub elements : List T
  pub room : ℕ
