use Rattle.std.proofs.Common.{◌≡◌, ◌∙◌, ◌++◌, ℕ, List, Some, slice_get, length, sym, ap, arith}
use Rattle.file_source.specs.Rows.{RowsSeen, body_of}
use Rattle.file_source.proofs.ObjectLemmas.{on_ok}
use Rattle.file_source.proofs.RowLemmas.{row_behind}
use Rattle.file_source.proofs.rows.FileRowsListedRows.put_body.Goals as goal

pub put_object-requires-clause-row : goal.put_object-requires-clause-row
put_object-requires-clause-row c =
    let all : length c.self.inside.sheet.records ≡ length c.args.self.now.sheet.records = ap (λ (rows : RowsSeen). length rows.sheet.records) c.self.view_is in
    omega (arith, c.record_at.ensures.within, all)

pub returns : goal.returns
returns c =
    on_ok c.put_object.result (λ grown row made.
    let found = row_behind c.args.self.now c.args.place row made in
    let there : slice_get c.self.inside.sheet.records c.record_at.result ≡ Some found.fields =
    ap (λ (rows : RowsSeen). slice_get rows.sheet.records c.record_at.result) c.self.view_is ∙ ap (slice_get c.args.self.now.sheet.records) c.record_at.ensures.number ∙ found.there in
    grown found.fields there ∙ ap (λ (text : List ℕ). c.args.line.now ++ text) (ap (λ (rows : RowsSeen). body_of rows.sheet.header found.fields) c.self.view_is ∙ sym found.body)) c.put_object.ensures
