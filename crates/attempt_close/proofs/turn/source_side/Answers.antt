use Rattle.std.proofs.Common.{refl}
use Rattle.attempt_turns.proofs.EndLemmas.{desk_same}
use Rattle.attempt_turns.proofs.Ways.{grew_none}
use Rattle.attempt_close.proofs.Ways.{still_step}
use Rattle.attempt_close.proofs.turn.source_side.Goals as goal

pub returns-then-w-clause-ok : goal.returns-then-w-clause-ok
returns-then-w-clause-ok g c = still_step _ _ _ _ _ refl (grew_none _) refl (desk_same _)

pub returns-then-w-2-clause-ok : goal.returns-then-w-2-clause-ok
returns-then-w-2-clause-ok g c = still_step _ _ _ _ _ refl (grew_none _) refl (desk_same _)

pub returns-then-is_some-clause-ok : goal.returns-then-is_some-clause-ok
returns-then-is_some-clause-ok g c = c.offer.ensures.ok (g.K.Desk.seen c.args.desk.now)

pub returns-then-is_some-clause-err : goal.returns-then-is_some-clause-err
returns-then-is_some-clause-err g c = c.offer.ensures.err (g.K.Desk.seen c.args.desk.now)
