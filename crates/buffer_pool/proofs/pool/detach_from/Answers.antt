use Rattle.buffer_pool.proofs.Chains.{none_left}
use Rattle.buffer_pool.proofs.pool.detach_from.Goals as goal

pub returns-then-left-eq0-clause-items : goal.returns-then-left-eq0-clause-items
returns-then-left-eq0-clause-items c = none_left _ _ _ _ _ _ _ c.if-left-eq0.true c.loop-index.invariant.behind c.loop-index.invariant.so_far
