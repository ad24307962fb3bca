use Rattle.std.proofs.Common.{◌≡◌, ◌++◌, drop}
use Rattle.buffer_pool.specs.Content.{chain_of}
use Rattle.buffer_pool.proofs.pool.copy_chain.Given as goal

abbrev pub invariant-loop-slot : goal.invariant-loop-slot
invariant-loop-slot l = chain_of l.chain l.held ≡ l.lines ++ chain_of l.chain (drop l.slot-index l.held)
