use Rattle.std.proofs.Common.{drop, length, reverse, ◌≡◌, ◌≤◌}
use Rattle.column_types.specs.Columns.{ListsColumns, names_of}
use Rattle.column_types.proofs.columns.listed.Given as goal

abbrev pub invariant-loop-at : goal.invariant-loop-at
invariant-loop-at l = record {
  within : l.at ≤ length l.members;
  listed : ListsColumns l.text (drop l.at l.members) (reverse l.columns.items);
  names : l.names ≡ names_of l.columns.items;
}

abbrev pub decreases-loop-at : goal.decreases-loop-at
decreases-loop-at l = l.at
