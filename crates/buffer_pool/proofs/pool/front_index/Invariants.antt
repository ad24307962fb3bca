use Rattle.std.proofs.Common.{◌≡◌, ◌++◌, ℕ, take, drop}
use Rattle.buffer_pool.specs.Content.{first_of, with_chain}
use Rattle.buffer_pool.proofs.pool.front_index.Given as goal

abbrev pub invariant-loop-index : goal.invariant-loop-index
invariant-loop-index l = record {
  first : first_of l.stream l.held ≡ first_of l.stream (drop l.index l.held);
  detached : (chain most : ℕ) → with_chain chain l.stream most l.held ≡ take l.index l.held ++ with_chain chain l.stream most (drop l.index l.held);
}
