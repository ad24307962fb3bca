use Rattle.std.proofs.Common.{List, sym, subst, refl}
use Rattle.outside.specs.declared.line.NumberedRow.{NumberedRow}
use Rattle.row_store.specs.Pages.{SoFar}
use Rattle.row_store.proofs.PageLemmas.{begins}
use Rattle.row_store.proofs.pages.all_rows.Goals as goal

pub loop-rows-init : goal.loop-rows-init
loop-rows-init g c =
    let told = (g.R.RowStore.seen c.args.store.now).rows in
    record {
      so_far = subst (λ (rows : List NumberedRow). SoFar told c.args.table.now 0 rows) (sym c.new-rows.ensures) (begins told c.args.table.now);
      stays = refl;
      others = refl;
    }
