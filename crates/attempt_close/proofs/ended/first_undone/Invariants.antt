use Rattle.std.proofs.Common.{◌≡◌, ℕ, ◌<◌, Some, true}
use Rattle.attempt_close.specs.Ended.{is_done_at}
use Rattle.attempt_close.proofs.ended.first_undone.Given as goal

abbrev pub invariant-loop-n : goal.invariant-loop-n
invariant-loop-n l = (other : ℕ) → other < l.n → is_done_at l.ledger other ≡ Some true
