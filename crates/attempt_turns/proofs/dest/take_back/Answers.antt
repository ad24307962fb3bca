use Rattle.attempt_turns.proofs.BackEnds.{back_ends_way}
use Rattle.attempt_turns.proofs.BackLemmas.{back_saved, back_unsaved, goes_heard}
use Rattle.attempt_turns.proofs.dest.take_back.Goals as goal

pub returns-in-Ok-Some-clause-ok : goal.returns-in-Ok-Some-clause-ok
returns-in-Ok-Some-clause-ok g c = back_saved _ _ _ _ _ _ _ _ _ _ _ _ c.in-Ok-Some.field-0-is c.in-Ok-Some.ensures.ok c.save_taken.ensures.ok

pub returns-in-Ok-Some-clause-err : goal.returns-in-Ok-Some-clause-err
returns-in-Ok-Some-clause-err g c = back_unsaved _ _ _ _ _ _ _ _ _ _ _ _ c.in-Ok-Some.field-0-is c.in-Ok-Some.ensures.ok c.save_taken.ensures.err

pub returns-in-Ok-None-clause-ok : goal.returns-in-Ok-None-clause-ok
returns-in-Ok-None-clause-ok g c = goes_heard _ _ _ _ _ _ _ c.in-Ok-None.field-0-is c.in-Ok-None.ensures.ok

pub returns-in-Err-clause-err : goal.returns-in-Err-clause-err
returns-in-Err-clause-err g c = back_ends_way _ _ _ _ _ _ _ c.in-Err.ensures.err c.requires.live.completed
