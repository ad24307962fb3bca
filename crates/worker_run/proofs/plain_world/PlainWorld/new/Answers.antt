use Rattle.std.proofs.Common.{List, sym, ◌∙◌, subst}
use Rattle.outside.specs.declared.event.Event.{Event}
use Rattle.worker_run.specs.SafeSync.{IsSafeSync}
use Rattle.worker_run.proofs.SafeLemmas.{first_safe}
use Rattle.worker_run.proofs.plain_world.PlainWorld.new.Goals as goal

pub returns-clause-safe : goal.returns-clause-safe
returns-clause-safe c =
    subst (λ (es : List Event). IsSafeSync c.args.stream es) (sym (c.from_vec-events.ensures ∙ c.in_ok-opening_events.ensures)) (first_safe c.args.stream).safe
