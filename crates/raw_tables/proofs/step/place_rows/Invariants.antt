use Rattle.std.proofs.Common.{◌≡◌, ◌+◌, take}
use Rattle.outside.specs.Tables.{placed_after}
use Rattle.raw_tables.proofs.step.place_rows.Given as goal

-- the rows so far were placed
abbrev pub invariant-loop-row : goal.invariant-loop-row
invariant-loop-row l = record {
  made : l.made.items ≡ placed_after l.before (take l.row-index l.rows);
  place : l.place ≡ l.before + l.row-index;
}
