use Rattle.std.proofs.Common.{◌≡◌, ◌++◌, drop}
use Rattle.csv.specs.Records.{fields_of}
use Rattle.csv_sheet.proofs.sheet.push_row.Given as goal

abbrev pub invariant-loop-place : goal.invariant-loop-place
invariant-loop-place l = fields_of l.cells ++ drop l.place (fields_of l.row) ≡ fields_of l.fn.cells ++ fields_of l.row
