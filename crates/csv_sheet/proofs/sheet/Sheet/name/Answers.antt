use Rattle.std.proofs.Common.{◌≡◌, ◌∙◌, ◌<◌, length, slice_get, sym, ap, subst}
use Rattle.csv.specs.Records.{fields_of}
use Rattle.csv_sheet.specs.Sheet.{Fields, Sheet}
use Rattle.csv_sheet.proofs.CellLemmas.{field_is}
use Rattle.csv_sheet.proofs.FitLemmas.{field_there}
use Rattle.csv_sheet.proofs.sheet.Sheet.name.Goals as goal

pub unreachable-requires : goal.unreachable-requires
unreachable-requires c =
    let header = fields_of c.self.inside.header in
    let same : header ≡ c.args.self.now.header = ap (λ (s : Sheet). s.header) c.self.view_is in
    field_there header c.args.column (subst (λ (h : Fields). c.args.column < length h) (sym same) c.requires) c.in-None.ensures.value

pub returns : goal.returns
returns c =
    let header = fields_of c.self.inside.header in
    let same : header ≡ c.args.self.now.header = ap (λ (s : Sheet). s.header) c.self.view_is in
    ap (λ (h : Fields). slice_get h c.args.column) (sym same) ∙ sym (field_is header c.args.column) ∙ sym c.in-Some.ensures.value
