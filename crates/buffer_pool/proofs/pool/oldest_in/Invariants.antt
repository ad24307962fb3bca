use Rattle.std.proofs.Common.{◌≡◌, drop}
use Rattle.buffer_pool.specs.Content.{oldest_of}
use Rattle.buffer_pool.proofs.pool.oldest_in.Given as goal

abbrev pub invariant-loop-slot : goal.invariant-loop-slot
invariant-loop-slot l = oldest_of l.held ≡ oldest_of (drop l.slot-index l.held)
