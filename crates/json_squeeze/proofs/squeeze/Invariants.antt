use Rattle.std.proofs.Common.{length, ◌-◌, ◌≡◌, ◌≤◌, ◌++◌, drop}
use Rattle.json_squeeze.specs.Squeeze.{squeezed}
use Rattle.json_squeeze.proofs.squeeze.Given as goal

-- what is made so far, before what is left, is the whole
abbrev pub invariant-loop-at : goal.invariant-loop-at
invariant-loop-at l = record {
  inside : l.at ≤ length l.text;
  made : l.made.items ++ squeezed (drop l.at l.text) ≡ squeezed l.text;
}

abbrev pub decreases-loop-at : goal.decreases-loop-at
decreases-loop-at l = length l.text - l.at
