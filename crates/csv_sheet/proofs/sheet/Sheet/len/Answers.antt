use Rattle.std.proofs.Common.{◌∙◌, length, sym, ap}
use Rattle.csv.specs.Records.{fields_of}
use Rattle.csv_sheet.specs.Sheet.{Sheet}
use Rattle.csv_sheet.proofs.CellLemmas.{cut_length}
use Rattle.csv_sheet.proofs.sheet.Sheet.len.Goals as goal

pub returns : goal.returns
returns c = sym (cut_length (length (fields_of c.self.inside.header)) c.self.inside.count (fields_of c.self.inside.cells)) ∙ ap (λ (s : Sheet). length s.records) c.self.view_is
