use Rattle.attempt_close.proofs.Turning.{rests_so}
use Rattle.attempt_close.proofs.turn.close_turn.Goals as goal

pub returns-in-Ok-rest-clause-ok : goal.returns-in-Ok-rest-clause-ok
returns-in-Ok-rest-clause-ok g c = rests_so _ _ _ _ _ _ _ c.in-No.is c.in-Ok-rest.ensures.ok
