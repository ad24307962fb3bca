use Rattle.attempt_turns.proofs.BackLemmas.{heard_nothing, heard_state}
use Rattle.attempt_turns.proofs.dest.take_got.Goals as goal

pub returns-in-Ok-State-clause-ok : goal.returns-in-Ok-State-clause-ok
returns-in-Ok-State-clause-ok g c = heard_state _ _ _ _ _ _ c.in-Ok-State.field-0-is c.in-Ok-State.ensures.ok

pub returns-in-Ok-Nothing-clause-ok : goal.returns-in-Ok-Nothing-clause-ok
returns-in-Ok-Nothing-clause-ok g c = heard_nothing _ _ _ _ _ c.in-Ok-Nothing.field-0-is c.in-Ok-Nothing.ensures.ok
