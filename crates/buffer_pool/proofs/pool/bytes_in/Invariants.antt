use Rattle.std.proofs.Common.{◌≡◌, ◌+◌, take}
use Rattle.buffer_pool.specs.Content.{bytes_of, without_chain}
use Rattle.buffer_pool.proofs.pool.bytes_in.Given as goal

abbrev pub invariant-loop-slot : goal.invariant-loop-slot
invariant-loop-slot l = l.sum + bytes_of (without_chain l.chain (take l.slot-index l.held)) ≡ bytes_of (take l.slot-index l.held)
