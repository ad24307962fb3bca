use Rattle.std.proofs.Common.{◌≡◌, ℕ, ◌<◌, ◌≤◌, Some, false}
use Rattle.attempt_close.specs.Completions.{is_untold_at}
use Rattle.attempt_close.proofs.complete.next_untold.Given as goal

abbrev pub invariant-loop-n : goal.invariant-loop-n
invariant-loop-n l = (other : ℕ) → l.from ≤ other → other < l.n → is_untold_at l.ledger other ≡ Some false
