use Rattle.std.proofs.Common.{◌∙◌, ◌-◌, ℕ, length, sym, ap}
use Rattle.file_source.specs.Rows.{RowsSeen}
use Rattle.file_source.proofs.RowLemmas.{count_behind}
use Rattle.file_source.proofs.rows.FileRowsListedRows.len.Goals as goal

pub returns : goal.returns
returns c = ap (λ (n : ℕ). n - c.self.inside.behind) c.len.ensures ∙ ap (λ (rows : RowsSeen). length rows.sheet.records - rows.behind) c.self.view_is ∙ sym (count_behind c.args.self.now)
