use Rattle.std.proofs.Common.{drop}
use Rattle.std.specs.List.{AllByRecursion}
use Rattle.outside.specs.Places.{RowsRise}
use Rattle.file_dock.proofs.places.all_rise.Given as goal

-- all rise where those of the tables that are left do
abbrev pub invariant-loop-table : goal.invariant-loop-table
invariant-loop-table l = AllByRecursion (RowsRise l.places) (drop l.table-index l.tables) → AllByRecursion (RowsRise l.fn.places) l.fn.tables
