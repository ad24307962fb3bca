use Rattle.std.proofs.Common.{◌≡◌, length}
use Rattle.sync_ledger.specs.Noted.{least_line}
use Rattle.sync_ledger.proofs.pending.least_line.Given as goal

abbrev pub decreases-loop-other : goal.decreases-loop-other
decreases-loop-other l = length l.rest

abbrev pub invariant-loop-other : goal.invariant-loop-other
invariant-loop-other l = least_line l.least l.rest ≡ least_line l.fn.least l.pending
