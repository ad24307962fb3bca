use Rattle.std.proofs.Common.{◌∙◌, ◌++◌, ℕ, List, Some, slice_get, length, ap, subst, arith, ◌≡◌}
use Rattle.table_source.specs.declared.keyed.KeyedRow.{KeyedRow}
use Rattle.table_source.proofs.RowLemmas.{blob_at, length_rows, on_ok}
use Rattle.table_source.proofs.table_rows.TableRowsListedRows.put_blob.Goals as goal

pub at-requires : goal.at-requires
at-requires c = omega (arith, c.requires, length_rows c.args.self.now, ap length c.self.view_is)

pub returns : goal.returns
returns c =
    let found = subst (λ (rows : List KeyedRow). slice_get rows c.args.place ≡ Some c.at.result.now) c.self.view_is c.at.ensures in
    on_ok c.put_blob_of.result (λ grown row made. grown ∙ ap (λ (text : List ℕ). c.args.line.now ++ text) (blob_at c.args.self.now c.args.place c.at.result.now row found made)) c.put_blob_of.ensures
