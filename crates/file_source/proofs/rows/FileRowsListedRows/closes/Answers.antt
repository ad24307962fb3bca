use Rattle.std.proofs.Common.{sym}
use Rattle.file_source.proofs.RowLemmas.{row_behind}
use Rattle.file_source.proofs.rows.FileRowsListedRows.closes.Goals as goal

pub returns : goal.returns
returns c row made = sym (row_behind c.args.self.now _ row made).closes
