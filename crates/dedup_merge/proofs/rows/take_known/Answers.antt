use Rattle.std.proofs.Common.{◌≡◌, Some, sym, ◌∙◌, ap}
use Rattle.outside.specs.Winners.{winner_in}
use Rattle.dedup_merge.proofs.StepLemmas.{held_stays}
use Rattle.dedup_merge.proofs.rows.take_known.Goals as goal

pub returns-else-wins : goal.returns-else-wins
returns-else-wins c =
    let found : winner_in c.args.best.now c.args.row.now.key ≡ Some c.in-Some.held.now = ap (winner_in c.args.best.now) (sym c.as_slice.ensures) ∙ sym c.in-Some.ensures in
    held_stays c.args.row.now c.in-Some.held.now c.in_ok-wins-in-Some.wins c.args.best.now c.in_ok-wins-in-Some.ensures c.if-wins.false found
