use Rattle.std.proofs.Common.{arith, ◌≡◌, ◌+◌, subst}
use Rattle.buffer_pool.specs.Content.{bytes_of, without_chain}
use Rattle.buffer_pool.proofs.Keeping.{free_pool}
use Rattle.buffer_pool.proofs.Fronts.{freed_named}
use Rattle.buffer_pool.proofs.pool.Pool.free.Goals as goal

pub invariant_of-self : goal.invariant_of-self
invariant_of-self c =
    let freed = subst (λ held. c.bytes_in.result + bytes_of (without_chain c.front.result held) ≡ bytes_of held) c.deref.ensures.value c.bytes_in.ensures
    in (
      rw c.drop_chain.ensures.items (rw c.front-2.ensures (free_pool c.args.chain c.bytes_in.result c.self.inside.held.items _ _ _ _ c.self.invariant.0 (subst (λ chain. c.bytes_in.result + bytes_of (without_chain chain c.self.inside.held.items) ≡ bytes_of c.self.inside.held.items) c.front.ensures freed) (freed_named c.args.chain c.self.inside.held.items c.self.invariant.0.named))),
      omega (arith, c.self.invariant.1, c.drop_chain.ensures.capacity),
    )
