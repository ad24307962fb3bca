use Rattle.std.proofs.Common.{refl}
use Rattle.attempt_turns.proofs.EndLemmas.{desk_same}
use Rattle.attempt_turns.proofs.Ways.{grew_none}
use Rattle.attempt_close.proofs.Ways.{still_step}
use Rattle.attempt_close.proofs.turn.dest_side.Goals as goal

pub returns-then-w-clause-ok : goal.returns-then-w-clause-ok
returns-then-w-clause-ok g c = still_step _ _ _ _ _ refl (grew_none _) refl (desk_same _)
