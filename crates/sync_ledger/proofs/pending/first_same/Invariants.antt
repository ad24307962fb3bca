use Rattle.std.proofs.Common.{length}
use Rattle.sync_ledger.proofs.TakeLemmas.{HasPassed}
use Rattle.sync_ledger.proofs.pending.first_same.Given as goal

abbrev pub decreases-loop-other : goal.decreases-loop-other
decreases-loop-other l = length l.rest

abbrev pub invariant-loop-other : goal.invariant-loop-other
invariant-loop-other l = HasPassed l.pending l.rest l.got l.place
