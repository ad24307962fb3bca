use Rattle.std.proofs.Common.{length, ◌-◌, ◌≡◌, ◌≤◌, ◌<◌, ◌++◌, drop, slice_range}
use Rattle.json_squeeze.specs.Squeeze.{squeezed}
use Rattle.json_squeeze.proofs.run_end.Given as goal

abbrev pub invariant-loop-at : goal.invariant-loop-at
invariant-loop-at l = record {
  further : l.from < l.at;
  inside : l.at ≤ length l.text;
  kept : squeezed (drop l.from l.text) ≡ slice_range l.text l.from l.at ++ squeezed (drop l.at l.text);
}

abbrev pub decreases-loop-at : goal.decreases-loop-at
decreases-loop-at l = length l.text - l.at
