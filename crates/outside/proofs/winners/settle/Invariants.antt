use Rattle.std.proofs.Common.{◌≡◌, vec_len}
use Rattle.outside.specs.Winners.{still_waiting}
use Rattle.outside.proofs.winners.settle.Given as goal

-- the winners stay
abbrev pub invariant-loop-row : goal.invariant-loop-row
invariant-loop-row l = still_waiting l.placed l.waiting.items ≡ still_waiting l.fn.placed l.fn.waiting.items

abbrev pub decreases-loop-row : goal.decreases-loop-row
decreases-loop-row l = vec_len l.waiting
