use Rattle.std.proofs.Common.{length, ◌-◌}
use Rattle.row_store.proofs.MemLemmas.{Copied}
use Rattle.row_store.proofs.mem_rows.copy_page.Given as goal

abbrev pub invariant-loop-at : goal.invariant-loop-at
invariant-loop-at l = Copied l.entries l.table l.after l.most l.from l.at l.page

abbrev pub decreases-loop-at : goal.decreases-loop-at
decreases-loop-at l = length l.entries - l.at
