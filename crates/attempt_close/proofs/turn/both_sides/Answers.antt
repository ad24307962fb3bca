use Rattle.attempt_turns.proofs.Ways.{ran_then}
use Rattle.attempt_close.proofs.Turning.{cause_then, fewer_both, keeps_same, quiet_both, rested_both, steps_then}
use Rattle.attempt_close.proofs.turn.both_sides.Goals as goal

pub returns-in-Ok-source_side-clause-ok : goal.returns-in-Ok-source_side-clause-ok
returns-in-Ok-source_side-clause-ok g c = rw c.either.ensures (steps_then _ _ _ _ _ _ _ _ _ _ _ (keeps_same _ _ c.in-Ok-source_side.ensures.codes) c.in-Ok.ensures.codes c.in-Ok.ensures.ok c.in-Ok-source_side.ensures.ok)

pub returns-in-Ok-source_side-clause-quiet : goal.returns-in-Ok-source_side-clause-quiet
returns-in-Ok-source_side-clause-quiet g c = rw c.either.ensures (λ settled. quiet_both _ _ _ _ _ _ _ c.in-Ok.ensures.codes c.in-Ok.ensures.ok.ran.grew c.in-Ok-source_side.ensures.ok.ran.grew c.in-Ok.ensures.rested c.in-Ok.ensures.quiet c.in-Ok-source_side.ensures.quiet settled)

pub returns-in-Ok-source_side-clause-rested : goal.returns-in-Ok-source_side-clause-rested
returns-in-Ok-source_side-clause-rested g c = rw c.either.ensures (rested_both _ _ _ _ _ c.in-Ok.ensures.rested c.in-Ok-source_side.ensures.rested)

pub returns-in-Ok-source_side-clause-fewer : goal.returns-in-Ok-source_side-clause-fewer
returns-in-Ok-source_side-clause-fewer g c = rw c.either.ensures (fewer_both _ _ _ _ _ c.in-Ok.ensures.rested c.in-Ok-source_side.ensures.rested c.in-Ok.ensures.fewer c.in-Ok-source_side.ensures.fewer)

pub returns-in-Err-source_side-clause-err : goal.returns-in-Err-source_side-clause-err
returns-in-Err-source_side-clause-err g c = ran_then _ _ _ _ _ _ _ _ _ c.in-Ok.ensures.ok.ran c.in-Err-source_side.ensures.err

pub returns-in-Err-source_side-clause-cause : goal.returns-in-Err-source_side-clause-cause
returns-in-Err-source_side-clause-cause g c = cause_then _ _ _ _ _ _ _ c.in-Ok.ensures.ok.ran.grew c.in-Ok.ensures.ok.ran.desk c.in-Err-source_side.ensures.cause
