use Rattle.std.proofs.Common.{◌≡◌, drop}
use Rattle.sync_ledger.proofs.pending.pass_over.Given as goal

abbrev pub invariant-loop-step : goal.invariant-loop-step
invariant-loop-step l = l.pending ≡ drop l._step l.fn.pending
