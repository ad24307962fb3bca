use Rattle.std.proofs.Common.{ap, refl}
use Rattle.outside.specs.declared.link.LinkFace.{LinkFace}
use Rattle.attempt_turns.proofs.EndLemmas.{coded, desk_same, failed_way, lacked_way, unfinished_open}
use Rattle.attempt_close.proofs.Completing.{completes_taken, live_completed}
use Rattle.attempt_close.proofs.Ways.{still_step}
use Rattle.attempt_close.proofs.close.offer_completion.Goals as goal

pub returns-in-Taken-clause-ok : goal.returns-in-Taken-clause-ok
returns-in-Taken-clause-ok g c = λ desk. completes_taken _ _ _ _ desk _ _ c.requires.held refl c.requires.own c.requires.opened c.as_slice.ensures c.in-Some.is c.in-Taken.ensures.events c.in-Taken.ensures.grew

pub returns-in-Taken-clause-live : goal.returns-in-Taken-clause-live
returns-in-Taken-clause-live g c = live_completed _ _ _ _ c.requires.opened c.requires.live c.in-Taken.ensures.face c.in-Taken.ensures.events

pub returns-in-NotYet-clause-ok : goal.returns-in-NotYet-clause-ok
returns-in-NotYet-clause-ok g c = λ desk. still_step _ _ _ desk desk c.in-NotYet.ensures.events c.in-NotYet.ensures.grew refl (desk_same desk)

pub returns-in-Failed-clause-err : goal.returns-in-Failed-clause-err
returns-in-Failed-clause-err g c = λ desk. failed_way _ _ _ desk (unfinished_open _ c.requires.opened) (coded _ (g.L.Link.seen c.args.link.now) (g.L.Link.seen c.offer_dest.new.self) c.requires.live (ap (λ (it : LinkFace). it.codes.source) c.in-Failed.ensures.face)) c.in-Failed.ensures.events c.in-Failed.ensures.grew

pub returns-in-NoMemory-clause-err : goal.returns-in-NoMemory-clause-err
returns-in-NoMemory-clause-err g c = λ desk. lacked_way _ _ _ desk (coded _ (g.L.Link.seen c.args.link.now) (g.L.Link.seen c.offer_dest.new.self) c.requires.live (ap (λ (it : LinkFace). it.codes.source) c.in-NoMemory.ensures.face)) c.in-NoMemory.ensures.events c.in-NoMemory.ensures.grew
