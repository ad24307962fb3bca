use Rattle.std.proofs.Common.{◌≡◌, ◌++◌, take}
use Rattle.json_write.specs.Objects.{open_object}
use Rattle.file_source.specs.Discovered.{column_parts}
use Rattle.file_source.proofs.said.put_columns.Given as goal

-- the columns so far stand there, and the object is open
abbrev pub invariant-loop-column : goal.invariant-loop-column
invariant-loop-column l = l.text ≡ l.fn.text ++ open_object (column_parts (take l.column l.sheet.header))
