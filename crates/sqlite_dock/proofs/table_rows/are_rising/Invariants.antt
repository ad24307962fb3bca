use Rattle.std.proofs.Common.{◌↔◌, drop}
use Rattle.outside.specs.Rows.{AreRising}
use Rattle.sqlite_dock.proofs.table_rows.are_rising.Given as goal

-- all rise where those that are left do
abbrev pub invariant-loop-row : goal.invariant-loop-row
invariant-loop-row l = AreRising (drop l.row-index l.rows) l.before ↔ AreRising l.fn.rows l.fn.after
