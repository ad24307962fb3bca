use Rattle.attempt_close.proofs.Turning.{turn_ends, turn_step, turn_turned}
use Rattle.attempt_close.proofs.turn.turn.Goals as goal

pub returns-in-Ok-close_turn-clause-ok : goal.returns-in-Ok-close_turn-clause-ok
returns-in-Ok-close_turn-clause-ok g c =
    turn_step _ _ _ _ _ _ _ _ _ _ _ _ _ _ c.either-moved.ensures c.in-Ok.ensures.codes c.close_turn.ensures.codes c.learn_codes-learned.ensures.looked c.learn_codes-learned.ensures.learns c.in-Ok.ensures.ok c.in-Ok-close_turn.ensures.ok

pub returns-in-Ok-close_turn-clause-turned : goal.returns-in-Ok-close_turn-clause-turned
returns-in-Ok-close_turn-clause-turned g c =
    turn_turned _ _ _ _ _ _ _ _ _ _ _ _ _ _ c.either-moved.ensures c.in-Ok.ensures.kept c.in-Ok.ensures.codes c.close_turn.ensures.codes c.learn_codes-learned.ensures.looked c.in-Ok-close_turn.ensures.ok.ran.grew c.in-Ok.ensures.ok c.in-Ok.ensures.rested c.in-Ok.ensures.fewer
    (c.in-Ok.ensures.quiet c.requires.settled) c.learn_codes-learned.ensures.learns c.in-Ok-close_turn.ensures.settled

pub returns-in-Err-close_turn-clause-err : goal.returns-in-Err-close_turn-clause-err
returns-in-Err-close_turn-clause-err g c = turn_ends _ _ _ _ _ _ _ _ _ _ _ _ _ _ c.learn_codes-learned.ensures.looked c.learn_codes-learned.ensures.learns c.in-Ok.ensures.ok c.in-Err-close_turn.ensures.err
