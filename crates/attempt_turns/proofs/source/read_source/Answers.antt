use Rattle.std.proofs.Common.{◌∙◌, ◌+◌, ◌-◌, ◌^◌, min, ap}
use Rattle.outside.specs.declared.link.LinkFace.{LinkFace}
use Rattle.attempt_turns.proofs.ReadLemmas.{reads_step}
use Rattle.attempt_turns.proofs.EndLemmas.{coded, failed_way, lacked_way, line_cause, line_ends_way, stays_step, too_long_way, unfinished_open}
use Rattle.attempt_turns.proofs.EndOfOutput.{end_step}
use Rattle.attempt_turns.proofs.LiveLemmas.{live_end, live_read, live_torn}
use Rattle.attempt_turns.proofs.StepLemmas.{fewer_end, fewer_read}
use Rattle.attempt_turns.proofs.source.read_source.Goals as goal

-- a line
pub returns-in-Ok-clause-ok : goal.returns-in-Ok-clause-ok
returns-in-Ok-clause-ok g c = reads_step _ _ _ _ _ _ _ c.requires.readable c.in-Line.ensures.events c.in-Line.ensures.grew c.in-Ok.ensures.ok

pub returns-in-Ok-clause-live : goal.returns-in-Ok-clause-live
returns-in-Ok-clause-live g c = live_read _ _ _ _ _ _ _ c.requires.readable c.requires.live c.in-Ok.ensures.ok c.in-Line.ensures.face c.in-Line.ensures.events

pub returns-in-Err-clause-err : goal.returns-in-Err-clause-err
returns-in-Err-clause-err g c = line_ends_way _ _ _ _ _ _ _ _ c.requires.readable c.in-Line.ensures.events c.in-Line.ensures.grew c.in-Err.ensures.err

-- a torn piece
pub returns-in-Ok-take_read-clause-ok : goal.returns-in-Ok-take_read-clause-ok
returns-in-Ok-take_read-clause-ok g c = reads_step _ _ _ _ _ _ _ c.requires.readable c.in-Torn.ensures.events c.in-Torn.ensures.grew c.in-Ok-take_read.ensures.ok

pub returns-in-Ok-take_read-clause-live : goal.returns-in-Ok-take_read-clause-live
returns-in-Ok-take_read-clause-live g c = live_torn _ _ _ _ _ _ _ c.requires.readable c.requires.live c.in-Ok-take_read.ensures.ok c.in-Torn.ensures.face c.in-Torn.ensures.events

pub returns-in-Err-take_read-clause-err : goal.returns-in-Err-take_read-clause-err
returns-in-Err-take_read-clause-err g c = line_ends_way _ _ _ _ _ _ _ _ c.requires.readable c.in-Torn.ensures.events c.in-Torn.ensures.grew c.in-Err-take_read.ensures.err

-- none
pub returns-in-NotYet-clause-ok : goal.returns-in-NotYet-clause-ok
returns-in-NotYet-clause-ok g c = stays_step _ _ _ _ c.in-NotYet.ensures.events c.in-NotYet.ensures.grew

pub returns-in-End-clause-ok : goal.returns-in-End-clause-ok
returns-in-End-clause-ok g c = end_step _ _ _ _ c.requires.readable c.requires.live c.in-End.ensures.events c.in-End.ensures.grew

pub returns-in-End-clause-live : goal.returns-in-End-clause-live
returns-in-End-clause-live g c = live_end _ _ _ c.requires.readable c.requires.live c.in-End.ensures.face c.in-End.ensures.events

pub returns-in-Failed-clause-err : goal.returns-in-Failed-clause-err
returns-in-Failed-clause-err g c = failed_way _ _ _ _ (unfinished_open c.args.w.now c.requires.readable.opened) (coded _ _ (g.L.Link.seen c.poll_source.new.self) c.requires.live (ap (λ (it : LinkFace). it.codes.source) c.in-Failed.ensures.face)) c.in-Failed.ensures.events c.in-Failed.ensures.grew

pub returns-in-NoMemory-clause-err : goal.returns-in-NoMemory-clause-err
returns-in-NoMemory-clause-err g c = lacked_way _ _ _ _ (coded _ _ (g.L.Link.seen c.poll_source.new.self) c.requires.live (ap (λ (it : LinkFace). it.codes.source) c.in-NoMemory.ensures.face)) c.in-NoMemory.ensures.events c.in-NoMemory.ensures.grew

pub returns-in-TooLong-clause-err : goal.returns-in-TooLong-clause-err
returns-in-TooLong-clause-err g c = too_long_way c.saturating_add.result c.args.w.now _ _ _ (coded _ _ (g.L.Link.seen c.poll_source.new.self) c.requires.live (ap (λ (it : LinkFace). it.codes.source) c.in-TooLong.ensures.face)) (c.saturating_add.ensures ∙ ap (λ n. min (n + 1) (2 ^ 64 - 1)) c.lines.ensures) c.in-TooLong.ensures.events c.in-TooLong.ensures.grew (ap (λ (it : LinkFace). it.source_poll) c.in-TooLong.ensures.face)

-- causes
pub returns-in-Err-clause-cause : goal.returns-in-Err-clause-cause
returns-in-Err-clause-cause g c = line_cause _ _ _ _ _ _ _ _ c.in-Err.ensures.err

pub returns-in-Err-take_read-clause-cause : goal.returns-in-Err-take_read-clause-cause
returns-in-Err-take_read-clause-cause g c = line_cause _ _ _ _ _ _ _ _ c.in-Err-take_read.ensures.err

-- how many may still come
pub returns-in-Ok-clause-fewer : goal.returns-in-Ok-clause-fewer
returns-in-Ok-clause-fewer g c = fewer_read _ _ _ _ _ c.requires.readable c.in-Ok.ensures.ok

pub returns-in-Ok-take_read-clause-fewer : goal.returns-in-Ok-take_read-clause-fewer
returns-in-Ok-take_read-clause-fewer g c = fewer_read _ _ _ _ _ c.requires.readable c.in-Ok-take_read.ensures.ok

pub returns-in-End-clause-fewer : goal.returns-in-End-clause-fewer
returns-in-End-clause-fewer g c = fewer_end c.args.w.now c.requires.readable.going
