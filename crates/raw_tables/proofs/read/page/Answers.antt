use Rattle.std.proofs.Common.{filter, arith, ap, sym, ◌∙◌}
use Rattle.outside.specs.declared.table.TableSide.{TableSide}
use Rattle.outside.specs.Tables.{is_unmerged}
use Rattle.raw_tables.proofs.PageLemmas.{page_full, page_behind}
use Rattle.raw_tables.proofs.read.page.Goals as goal

pub returns-then-len-most : goal.returns-then-len-most
returns-then-len-most c =
    let plan = c.args.plan.now in
    let table = c.args.table.now in
    let items = c.rows_behind-placed-items.result.now in
    let from = c.side.result.now.mark in
    let begins = ap (λ (s : TableSide). s.mark) c.side.ensures in
    page_full plan (record table { rows = items }) c.args.most from c.loop-placed.placed-index c.loop-placed.mark c.placed-item.result c.loop-placed.rows begins (omega arith) c.placed-item.is (sym c.is_next.ensures ∙ c.if-is_next.true) c.loop-placed.invariant.rows c.loop-placed.invariant.mark c.loop-placed.invariant.few (omega arith)
    ∙ page_behind plan table items c.args.most from begins (c.rows_behind-placed-items.ensures.unmerged plan table.marks ∙ ap (filter (is_unmerged plan table.marks from)) c.as_slice.ensures)
