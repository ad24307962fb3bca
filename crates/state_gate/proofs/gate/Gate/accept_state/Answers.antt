use Rattle.std.proofs.Common.{arith, ◌≤◌, sym, subst, refl}
use Rattle.state_gate.proofs.Orders.{bounds_push, counts_take}
use Rattle.state_gate.proofs.gate.Gate.accept_state.Goals as goal

pub invariant_of-self : goal.invariant_of-self
invariant_of-self c =
    let room : 1 ≤ c.self.inside.state_room = subst (λ gate. 1 ≤ gate.state_room) (sym c.self.view_is) c.requires.room
    in (
      c.self.invariant.0,
      omega (arith, c.self.invariant.1, c.push_reserved.ensures.len, c.push_reserved.ensures.capacity, room),
      record { records = c.self.invariant.2.records; states = rw c.push_reserved.ensures.items (bounds_push _ _ _ _ c.self.invariant.2.states refl) },
      rw c.take-count.ensures.own (rw c.take-count.ensures.all (counts_take _ _ _ c.args.lane c.self.invariant.3)),
      omega (arith, c.self.invariant.4, c.take-count.ensures.len, c.take-count.ensures.streams),
    )
