use Rattle.attempt_turns.proofs.Ways.{grew_none, ran_then}
use Rattle.attempt_close.proofs.Completing.{holds_by, lacks_by, leaves_by}
use Rattle.attempt_close.proofs.close.complete.Goals as goal

pub returns-then-is_held-clause-ok : goal.returns-then-is_held-clause-ok
returns-then-is_held-clause-ok g c = λ desk. holds_by _ _ _ _ _ desk c.if-is_held.true c.requires.fits.ids_are c.requires.empty c.requires.over c.in-Ok.ensures.ok (grew_none _)

pub returns-in-Ok-close_input-clause-ok : goal.returns-in-Ok-close_input-clause-ok
returns-in-Ok-close_input-clause-ok g c = λ desk. ran_then _ _ _ _ _ _ desk desk desk (leaves_by _ _ _ _ (g.L.Link.seen c.args.link.now) desk c.if-is_held.false c.requires.over c.in-Ok.ensures.ok (grew_none _)) (c.in-Ok-close_input.ensures.ok desk)

pub returns-in-Err-close_input-clause-err : goal.returns-in-Err-close_input-clause-err
returns-in-Err-close_input-clause-err g c = λ desk. ran_then _ _ _ _ _ _ desk desk desk (leaves_by _ _ _ _ (g.L.Link.seen c.args.link.now) desk c.if-is_held.false c.requires.over c.in-Ok.ensures.ok (grew_none _)) (c.in-Err-close_input.ensures.err desk)

pub returns-in-Err-clause-err : goal.returns-in-Err-clause-err
returns-in-Err-clause-err g c = λ desk. lacks_by _ _ (g.L.Link.seen c.args.link.now) desk c.in-Err.ensures.err c.requires.live.completed
