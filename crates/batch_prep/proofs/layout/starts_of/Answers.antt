use Rattle.std.proofs.Common.{List, ℕ, subst}
use Rattle.batch_prep.specs.Places.{IsStart}
use Rattle.batch_prep.proofs.PlaceLemmas.{kept_along, starts_kept, starts_more}
use Rattle.batch_prep.proofs.layout.starts_of.Goals as goal

pub loop-path-preserved : goal.loop-path-preserved
loop-path-preserved c =
    let paths = c.as_slice-path-items.result.now in
    let columns = c.args.columns.now in
    let new = c.start_of.new.names in (
      starts_more new columns paths c.loop-path.path-index c.path-item.result c.loop-path.starts c.push.new.self c.in_ok-start.start c.loop-path-test.true
          (starts_kept c.loop-path.names new columns _ c.loop-path.starts c.in_ok-start.ensures.kept c.loop-path.invariant.0)
          (subst (λ (path : List (List ℕ)). IsStart new columns path c.in_ok-start.start) c.path-item.is c.in_ok-start.ensures.start) c.in_ok-push.ensures.ok,
      kept_along c.args.names.now c.loop-path.names new c.loop-path.invariant.1 c.in_ok-start.ensures.kept,
    )
