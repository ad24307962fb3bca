use Rattle.csv.specs.Records.{fields_of}
use Rattle.csv_sheet.specs.Reads.{RowsSoFar}
use Rattle.csv_sheet.proofs.read.read_sheet.Given as goal

abbrev pub invariant-loop-count : goal.invariant-loop-count
invariant-loop-count l = RowsSoFar l.fn.text (fields_of l.header) l.count (fields_of l.cells) l.reader
