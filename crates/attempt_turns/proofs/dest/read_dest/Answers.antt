use Rattle.std.proofs.Common.{◌∙◌, ap, refl}
use Rattle.outside.specs.declared.link.LinkFace.{LinkFace}
use Rattle.attempt_turns.proofs.BackEnds.{back_end_step, first_back_end, too_long_back, too_many_back}
use Rattle.attempt_turns.proofs.BackLemmas.{polled_way}
use Rattle.attempt_turns.proofs.EndLemmas.{coded, failed_way, lacked_way, stays_step, unfinished_going}
use Rattle.attempt_turns.proofs.StepLemmas.{back_step}
use Rattle.attempt_turns.proofs.Ways.{ran_then}
use Rattle.attempt_turns.proofs.dest.read_dest.Goals as goal

-- one line too many came back before
pub returns-then-w-gt-MOST_LINES-clause-err : goal.returns-then-w-gt-MOST_LINES-clause-err
returns-then-w-gt-MOST_LINES-clause-err g c = too_many_back _ _ _ c.requires.live.completed c.if-w-gt-MOST_LINES.true c.requires.live.few_got

-- a line
pub returns-in-Ok-clause-ok : goal.returns-in-Ok-clause-ok
returns-in-Ok-clause-ok g c = back_step _ _ _ _ _ _ _ _ c.requires.going c.in-Line.ensures.events c.in-Line.ensures.grew c.in-Ok.ensures.ok

pub returns-in-Line-clause-err : goal.returns-in-Line-clause-err
returns-in-Line-clause-err g c = ran_then _ _ _ _ _ _ _ _ _ (polled_way _ _ _ _ _ c.requires.going c.in-Line.ensures.events c.in-Line.ensures.grew).ran c.in-Err.ensures.err

-- a torn piece
pub returns-in-Ok-take_back-clause-ok : goal.returns-in-Ok-take_back-clause-ok
returns-in-Ok-take_back-clause-ok g c = back_step _ _ _ _ _ _ _ _ c.requires.going c.in-Torn.ensures.events c.in-Torn.ensures.grew c.in-Ok-take_back.ensures.ok

pub returns-in-Torn-clause-err : goal.returns-in-Torn-clause-err
returns-in-Torn-clause-err g c = ran_then _ _ _ _ _ _ _ _ _ (polled_way _ _ _ _ _ c.requires.going c.in-Torn.ensures.events c.in-Torn.ensures.grew).ran c.in-Err-take_back.ensures.err

-- none
pub returns-in-TooLong-clause-err : goal.returns-in-TooLong-clause-err
returns-in-TooLong-clause-err g c = too_long_back _ _ _ _ _ (coded _ _ (g.L.Link.seen c.poll_dest.new.self) c.requires.live (ap (λ (it : LinkFace). it.codes.source) c.in-TooLong.ensures.face)) refl c.in-TooLong.ensures.events c.in-TooLong.ensures.grew (ap (λ (it : LinkFace). it.dest_poll) c.in-TooLong.ensures.face)

pub returns-in-NotYet-clause-ok : goal.returns-in-NotYet-clause-ok
returns-in-NotYet-clause-ok g c = stays_step _ _ _ _ c.in-NotYet.ensures.events c.in-NotYet.ensures.grew

pub returns-in-End-clause-ok : goal.returns-in-End-clause-ok
returns-in-End-clause-ok g c = back_end_step _ _ _ _ c.requires.going (c.in-End.ensures.events ∙ first_back_end _ _ c.requires.going c.requires.live.got_told) c.in-End.ensures.grew

pub returns-in-Failed-clause-err : goal.returns-in-Failed-clause-err
returns-in-Failed-clause-err g c = failed_way _ _ _ _ (unfinished_going c.args.w.now c.requires.going) (coded _ _ (g.L.Link.seen c.poll_dest.new.self) c.requires.live (ap (λ (it : LinkFace). it.codes.source) c.in-Failed.ensures.face)) c.in-Failed.ensures.events c.in-Failed.ensures.grew

pub returns-clause-err : goal.returns-clause-err
returns-clause-err g c = lacked_way _ _ _ _ (coded _ _ (g.L.Link.seen c.poll_dest.new.self) c.requires.live (ap (λ (it : LinkFace). it.codes.source) c.in-NoMemory.ensures.face)) c.in-NoMemory.ensures.events c.in-NoMemory.ensures.grew
