use Rattle.std.proofs.Common.{◌≡◌, ◌∙◌, ◌++◌, ◌+◌, ℕ, List, sym, ap, arith}
use Rattle.file_source.specs.Blob.{row_blob}
use Rattle.file_source.proofs.ObjectLemmas.{on_ok}
use Rattle.file_source.proofs.RowLemmas.{row_behind}
use Rattle.file_source.proofs.rows.FileRowsListedRows.put_blob.Goals as goal

pub returns : goal.returns
returns c =
    on_ok c.put_row_blob.result (λ grown row made.
    let found = row_behind c.args.self.now c.args.place row made in
    let number : c.record_at.result + 1 ≡ 1 + (c.args.self.now.behind + c.args.place) = omega (arith, c.record_at.ensures.number) in
    grown ∙ ap (λ (text : List ℕ). c.args.line.now ++ text) (ap row_blob number ∙ sym found.blob)) c.put_row_blob.ensures
