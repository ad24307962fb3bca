use Rattle.std.proofs.Common.{◌∙◌, length, sym, ap}
use Rattle.table_source.proofs.RowLemmas.{length_rows}
use Rattle.table_source.proofs.table_rows.TableRowsListedRows.len.Goals as goal

pub returns : goal.returns
returns c = c.len.ensures ∙ ap length c.self.view_is ∙ sym (length_rows c.args.self.now)
