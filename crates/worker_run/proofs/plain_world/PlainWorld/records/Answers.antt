use Rattle.std.proofs.Common.{◌∙◌, length, ap}
use Rattle.worker_run.specs.World.{World}
use Rattle.worker_run.specs.Output.{committed_lines}
use Rattle.worker_run.proofs.StepLemmas.{world_of}
use Rattle.worker_run.proofs.OutputLemmas.{reached_count}
use Rattle.worker_run.proofs.plain_world.PlainWorld.records.Goals as goal

pub returns-clause-rows : goal.returns-clause-rows
returns-clause-rows c =
    let w = c.self.inside in
    reached_count (world_of w.stream w.text w.at w.number w.records w.since w.events w.is_over) c.self.invariant.1 ∙ ap (λ (world : World). length (committed_lines world.events)) c.self.view_is
