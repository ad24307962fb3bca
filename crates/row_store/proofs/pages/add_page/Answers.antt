use Rattle.std.proofs.Common.{◌∙◌, ap, ◌++◌, List}
use Rattle.outside.specs.declared.line.NumberedRow.{NumberedRow}
use Rattle.row_store.specs.Pages.{last_id_of}
use Rattle.row_store.proofs.PageLemmas.{adds, is_some}
use Rattle.row_store.proofs.pages.add_page.Goals as goal

pub returns-clause-more : goal.returns-clause-more
returns-clause-more g c =
    adds (g.R.RowStore.seen c.args.store.now).rows c.args.table.now c.args.after 1000 c.last_id-last.result c.args.rows.now c.in_ok-page.page c.append.new.self c.requires
    (is_some c.in_ok-page.page c.is_empty.result c.if-is_empty.false c.is_empty.ensures)
    c.in_ok-page.ensures.page.rising c.in_ok-page.ensures.first
    (c.last_id-last.ensures ∙ ap (λ (rows : List NumberedRow). last_id_of rows c.args.after) c.as_slice.ensures)
    (c.in_ok-append.ensures.ok ∙ ap (λ (rows : List NumberedRow). c.args.rows.now ++ rows) c.into_vec.ensures)
