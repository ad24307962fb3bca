use Rattle.std.proofs.Common.{◌≤◌, length, drop, None}
use Rattle.json_fields.specs.Fields.{Holds}
use Rattle.json_fields.proofs.lookup.place_of.Given as goal

-- no member behind has the name
abbrev pub invariant-loop-left : goal.invariant-loop-left
invariant-loop-left l = record {
  within : l.left ≤ length l.members;
  none : Holds l.text l.name (drop l.left l.members) None;
}

abbrev pub decreases-loop-left : goal.decreases-loop-left
decreases-loop-left l = l.left
