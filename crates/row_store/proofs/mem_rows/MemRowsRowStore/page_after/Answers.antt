use Rattle.std.proofs.Common.{◌∙◌, ap, drop, List}
use Rattle.row_store.specs.MemRows.{rows_of, page_of}
use Rattle.row_store.specs.declared.mem_rows.TableRow.{TableRow}
use Rattle.row_store.proofs.PageLemmas.{is_page}
use Rattle.row_store.proofs.mem_rows.MemRowsRowStore.page_after.Goals as goal

pub returns-clause-page : goal.returns-clause-page
returns-clause-page c =
    let inside = c.self.inside.entries in
    let table = c.args.table.now in
    is_page (rows_of inside table) c.in_ok-page.page c.args.after c.args.most (c.self.invariant table)
    (c.in_ok-page.ensures.page ∙ (ap (λ (es : List TableRow). page_of (drop c.place_behind-from.result es) table c.args.after c.args.most) c.as_slice.ensures ∙ c.place_behind-from.ensures.same c.args.most))
