use Rattle.std.proofs.Common.{◌++◌, ◌∙◌, ap, codes, refl}
use Rattle.outside.specs.declared.link.LinkFace.{LinkFace}
use Rattle.attempt_turns.proofs.EndLemmas.{coded}
use Rattle.attempt_turns.proofs.SaveLemmas.{lacked_owed, live_said, said_saved, save_ends, unsaid_saved}
use Rattle.attempt_turns.proofs.Ways.{grew_none}
use Rattle.attempt_turns.proofs.dest.save_taken.Goals as goal

-- memory lacked
pub returns-in_default-clause-err : goal.returns-in_default-clause-err
returns-in_default-clause-err g c = lacked_owed _ c.args.w.now c.args.w.now _ _ _ refl c.requires.live.completed refl (grew_none _)

pub returns-in_default-write_store-clause-err : goal.returns-in_default-write_store-clause-err
returns-in_default-write_store-clause-err g c = lacked_owed _ c.args.w.now _ _ _ _ refl c.requires.live.completed refl (grew_none _)

-- it was saved
pub returns-in-Ok-save_text-clause-ok : goal.returns-in-Ok-save_text-clause-ok
returns-in-Ok-save_text-clause-ok g c =
    said_saved _ c.args.taken c.in-Ok-write_store.text c.in-Ok.line c.put_taken.new.set c.args.w.now _ _ _ _ c.put_taken.ensures c.in-Ok-write_store.ensures (c.in-Ok.ensures ∙ ap (λ it. codes "saved " ++ it) c.object.ensures.object)
    c.in-Ok-save_text.ensures.ok c.save_text.ensures.grew c.say_line.ensures.ok

pub returns-in-Ok-save_text-clause-live : goal.returns-in-Ok-save_text-clause-live
returns-in-Ok-save_text-clause-live g c = live_said _ c.put_taken.new.set c.in-Ok-write_store.text c.args.w.now (g.L.Link.seen c.args.link.now) _ c.requires.live c.save_text.ensures.face c.in-Ok-save_text.ensures.ok

pub returns-in-Ok-save_text-clause-err : goal.returns-in-Ok-save_text-clause-err
returns-in-Ok-save_text-clause-err g c =
    unsaid_saved _ c.args.taken c.in-Ok-write_store.text c.in-Ok.line c.put_taken.new.set c.args.w.now _ _ _ _ c.put_taken.ensures c.in-Ok-write_store.ensures (c.in-Ok.ensures ∙ ap (λ it. codes "saved " ++ it) c.object.ensures.object)
    c.requires.live c.save_text.ensures.face c.in-Ok-save_text.ensures.ok c.save_text.ensures.grew c.say_line.ensures.err

-- it was not
pub returns-clause-err : goal.returns-clause-err
returns-clause-err g c =
    save_ends _ c.args.taken c.in-Ok-write_store.text c.put_taken.new.set c.args.w.now _ _ _ c.put_taken.ensures c.in-Ok-write_store.ensures
    (coded c.args.w.now (g.L.Link.seen c.args.link.now) (g.L.Link.seen c.save_text.new.link) c.requires.live (ap (λ (it : LinkFace). it.codes.source) c.save_text.ensures.face)) c.in-Err.ensures.err c.save_text.ensures.grew
