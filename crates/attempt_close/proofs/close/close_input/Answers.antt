use Rattle.std.proofs.Common.{ap}
use Rattle.outside.specs.declared.link.LinkFace.{LinkFace}
use Rattle.attempt_turns.proofs.EndLemmas.{coded, lacked_way}
use Rattle.attempt_close.proofs.Closing.{close_failed, closes_way}
use Rattle.attempt_close.proofs.close.close_input.Goals as goal

pub returns-in-Ok-clause-ok : goal.returns-in-Ok-clause-ok
returns-in-Ok-clause-ok g c = λ desk. closes_way _ _ _ desk c.requires.over c.requires.going c.requires.opened c.in-Ok.ensures.events c.in-Ok.ensures.grew

pub returns-in-Err-Failed-clause-err : goal.returns-in-Err-Failed-clause-err
returns-in-Err-Failed-clause-err g c = λ desk.
    close_failed _ _ _ desk c.requires.over c.requires.going c.requires.opened (coded _ (g.L.Link.seen c.args.link.now) (g.L.Link.seen c.close_dest.new.self) c.requires.live (ap (λ (it : LinkFace). it.codes.source) c.in-Err-Failed.ensures.face)) (ap (λ (it : LinkFace). it.input_open) c.in-Err-Failed.ensures.face)
    (rw c.in-Err-Failed.field-0-is at c.in-Err-Failed.ensures.events) c.in-Err-Failed.ensures.grew

pub returns-in-Err-NoMemory-clause-err : goal.returns-in-Err-NoMemory-clause-err
returns-in-Err-NoMemory-clause-err g c = λ desk. lacked_way _ _ _ desk (coded _ (g.L.Link.seen c.args.link.now) (g.L.Link.seen c.close_dest.new.self) c.requires.live (ap (λ (it : LinkFace). it.codes.source) c.in-Err-NoMemory.ensures.face)) (rw c.in-Err-NoMemory.field-0-is at c.in-Err-NoMemory.ensures.events) c.in-Err-NoMemory.ensures.grew
