use Rattle.std.proofs.Common.{length, ◌-◌, ◌≤◌}
use Rattle.json_span.specs.Machine.{IsSkipped, between}
use Rattle.json_span.specs.declared.phase.Run.TheVariants as runs
use Rattle.json_span.proofs.skip.skip_digits.Given as goal

abbrev pub invariant-loop-at : goal.invariant-loop-at
invariant-loop-at l = (l.from ≤ l.at) × (l.at ≤ length l.text) × IsSkipped runs.Digits (between l.text l.from l.at)

abbrev pub decreases-loop-at : goal.decreases-loop-at
decreases-loop-at l = length l.text - l.at
