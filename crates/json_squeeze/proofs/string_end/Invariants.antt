use Rattle.std.proofs.Common.{length, ◌-◌, ◌≡◌, ◌≤◌, ◌++◌, drop, slice_range}
use Rattle.json_squeeze.specs.Squeeze.{in_string}
use Rattle.json_squeeze.proofs.string_end.Given as goal

abbrev pub invariant-loop-at : goal.invariant-loop-at
invariant-loop-at l = record {
  not_before : l.from ≤ l.at;
  inside : l.at ≤ length l.text;
  kept : in_string (drop l.from l.text) ≡ slice_range l.text l.from l.at ++ in_string (drop l.at l.text);
}

abbrev pub decreases-loop-at : goal.decreases-loop-at
decreases-loop-at l = length l.text - l.at
