use Rattle.std.proofs.Common.{arith}
use Rattle.buffer_pool.proofs.Fronts.{restored_named}
use Rattle.buffer_pool.proofs.Keeping.{alike_pool, alike_restored}
use Rattle.buffer_pool.proofs.pool.Pool.restore.Goals as goal

pub invariant_of-self : goal.invariant_of-self
invariant_of-self c = (rw c.restore_chain.ensures.items (alike_pool _ _ _ _ _ _ (alike_restored _ _) (restored_named _ _ c.self.invariant.0.named) c.self.invariant.0), omega (arith, c.self.invariant.1, c.restore_chain.ensures.capacity))
