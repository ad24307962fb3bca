use Rattle.std.proofs.Common.{subst}
use Rattle.worker_run.specs.World.{World}
use Rattle.worker_run.specs.SafeSync.{IsSafeSync}
use Rattle.worker_run.proofs.StepLemmas.{world_of}
use Rattle.worker_run.proofs.SafeLemmas.{reached_safe}
use Rattle.worker_run.proofs.plain_world.PlainWorld.events.Goals as goal

pub returns-clause-safe : goal.returns-clause-safe
returns-clause-safe c =
    let w = c.self.inside in
    subst (λ (world : World). IsSafeSync world.stream world.events) c.self.view_is (reached_safe (world_of w.stream w.text w.at w.number w.records w.since w.events w.is_over) c.self.invariant.1)
