-- Counts of faults over a run.
use Rattle.std.specs.Prelude.{◌≡◌, ◌≢◌, ℕ}
use Rattle.worker_run.specs.declared.end.End.{End}
use Rattle.worker_run.specs.declared.end.End.TheVariants as how

-- the count of faults of saying stays, unless the run ends with one
abbrev pub StaysUnlessSayFault : End → ℕ → ℕ → Type 0
StaysUnlessSayFault end before now = end ≢ how.SayFault → now ≡ before
