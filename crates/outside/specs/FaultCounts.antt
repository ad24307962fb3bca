-- Counts of faults.
use Rattle.std.specs.Prelude.{◌≡◌, ℕ, Result, Ok, Err}
use Rattle.outside.specs.declared.fault.Fault.{Fault}
use Rattle.outside.specs.declared.fault.Fault.TheVariants as fault

-- a count of faults stays where the call did not fail: at Ok, and where memory was wanting
abbrev pub StaysUnlessFailed : {T : Type 0} → Result T Fault → ℕ → ℕ → Type 0
StaysUnlessFailed (Ok done) before now = now ≡ before
StaysUnlessFailed (Err fault.Failed) before now = Unit {0}
StaysUnlessFailed (Err fault.NoMemory) before now = now ≡ before
