use Rattle.std.proofs.Common.{◌≡◌, ◌++◌}
use Rattle.std.specs.BTreeMap.{values}
use Rattle.outside.proofs.winner_map.WinnerMap.copied.Given as goal

-- the copies so far, and the rows that are left
abbrev pub invariant-loop-row : goal.invariant-loop-row
invariant-loop-row l = l.copied ++ l.row-iterator ≡ l.self
