use Rattle.std.proofs.Common.{◌≡◌, ℕ, ◌-◌, List, filter, take, drop, length, sym, ◌∙◌, ap, length-drop}
use Rattle.std.proofs.Math.Seq.{take-length}
use Rattle.outside.specs.declared.table.PlacedRow.{PlacedRow}
use Rattle.outside.specs.Tables.{is_unmerged}
use Rattle.raw_tables.proofs.BehindLemmas.{unmerged_behind}
use Rattle.raw_tables.proofs.read.rows_behind.Goals as goal

pub returns-clause-unmerged : goal.returns-clause-unmerged
returns-clause-unmerged c = λ plan marks.
    (let rows : List PlacedRow = c.args.rows.now in
    let n = c.count_up_to.result in
    let rest : take (length rows - n) (drop n rows) ≡ drop n rows = ap (λ (k : ℕ). take k (drop n rows)) (sym (length-drop n rows)) ∙ take-length (drop n rows) in
    ap (filter (is_unmerged plan marks c.args.mark)) rest ∙ unmerged_behind plan marks c.args.mark n rows c.count_up_to.ensures.up_to)
