use Rattle.std.proofs.Common.{◌≡◌, ◌-◌, ◌^◌}
use Rattle.row_store.specs.Pages.{SoFar}
use Rattle.row_store.proofs.pages.all_rows.Given as goal

abbrev pub invariant-loop-rows : goal.invariant-loop-rows
invariant-loop-rows g l = record {
  so_far : SoFar (g.R.RowStore.seen l.fn.store).rows l.table l.after l.rows;
  stays : (g.R.RowStore.seen l.store).faults ≡ (g.R.RowStore.seen l.fn.store).faults;
  others : g.R.RowStore.seen l.store ≡ record (g.R.RowStore.seen l.fn.store) { faults = (g.R.RowStore.seen l.store).faults };
}

abbrev pub decreases-loop-rows : goal.decreases-loop-rows
decreases-loop-rows g l = 2 ^ 63 - l.after
