use Rattle.std.proofs.Common.{◌≡◌, ◌++◌, Some, slice_get, take}
use Rattle.json_write.specs.Objects.{open_object}
use Rattle.csv_sheet.specs.Sheet.{Fields}
use Rattle.file_source.specs.Rows.{columns_with}
use Rattle.file_source.proofs.rows.put_object.Given as goal

-- the columns so far stand there, and the object is open
abbrev pub invariant-loop-column : goal.invariant-loop-column
invariant-loop-column l = (fields : Fields) → slice_get l.sheet.records l.row ≡ Some fields → l.line ≡ l.fn.line ++ open_object (columns_with (take l.column l.sheet.header) (take l.column fields))
