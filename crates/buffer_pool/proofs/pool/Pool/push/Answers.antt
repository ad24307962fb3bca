use Rattle.std.proofs.Common.{arith, ◌≤◌, sym, subst, refl}
use Rattle.buffer_pool.proofs.Keeping.{push_pool, below_next}
use Rattle.buffer_pool.proofs.Fronts.{push_named}
use Rattle.buffer_pool.proofs.pool.Pool.push.Goals as goal

pub invariant_of-self : goal.invariant_of-self
invariant_of-self c =
    let above : c.self.inside.next ≤ c.args.seq = subst (λ pool. pool.next ≤ c.args.seq) (sym c.self.view_is) c.requires.above
    in (
      rw c.push_reserved.ensures.items
          (rw c.len-bytes.ensures
          (push_pool _ _ _ _ _ c.self.inside.next c.self.invariant.0 above
          (grind (arith, c.len.ensures, c.if-len-self.false))
          (omega (arith, c.len-bytes.ensures, c.if-bytes-self.false, c.self.invariant.0.sum_is, c.self.invariant.0.small))
          (push_named _ _ refl c.self.invariant.0.named (below_next c.self.inside.next c.args.seq c.self.inside.held.items above c.self.invariant.0.below)))),
      omega (arith, c.self.invariant.1, c.push_reserved.ensures.capacity),
    )
