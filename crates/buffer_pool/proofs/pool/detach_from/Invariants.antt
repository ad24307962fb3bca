use Rattle.std.proofs.Common.{◌≡◌, ◌++◌, take, drop, length, vec_capacity}
use Rattle.buffer_pool.specs.Content.{with_chain}
use Rattle.buffer_pool.proofs.pool.detach_from.Given as goal

abbrev pub invariant-loop-index : goal.invariant-loop-index
invariant-loop-index l = record {
  behind : drop l.index l.held.items ≡ drop l.index l.initial.held.items;
  so_far : take l.index l.held.items ++ with_chain l.chain l.stream l.left (drop l.index l.initial.held.items) ≡ take l.from l.initial.held.items ++ with_chain l.chain l.stream l.most (drop l.from l.initial.held.items);
  same : length l.held.items ≡ length l.initial.held.items;
  capacity : vec_capacity l.held ≡ vec_capacity l.initial.held;
}
