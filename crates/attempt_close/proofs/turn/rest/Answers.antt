use Rattle.std.proofs.Common.{ap, refl}
use Rattle.outside.specs.Desk.{DeskSeen}
use Rattle.outside.specs.declared.status.Status.TheVariants as status
use Rattle.attempt_turns.proofs.Ways.{grew_none}
use Rattle.attempt_close.proofs.Ways.{end_way, flushed, still_step}
use Rattle.attempt_close.proofs.turn.rest.Goals as goal

pub returns-in-Ok-clause-ok : goal.returns-in-Ok-clause-ok
returns-in-Ok-clause-ok g c = still_step _ _ _ _ _ c.wait.ensures.events c.wait.ensures.grew (ap (λ (it : DeskSeen). it.said) c.in-Ok.ensures.others) (flushed _ _ c.in-Ok.ensures.others c.in-Ok.ensures.faults.kept)

pub returns-in-Err-Failed-clause-err : goal.returns-in-Err-Failed-clause-err
returns-in-Err-Failed-clause-err g c = end_way status.SayFault _ _ _ _ _ c.requires.completed refl (grew_none _) (ap (λ (it : DeskSeen). it.said) c.in-Err-Failed.ensures.others) (flushed _ _ c.in-Err-Failed.ensures.others c.in-Err-Failed.ensures.faults.kept) (λ streams read own on. tt)
