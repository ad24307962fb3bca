use Rattle.std.proofs.Common.{rules, arith, ◌≤◌, sym, subst}
use Rattle.state_gate.proofs.Orders.{records_push, bounds_higher, counts_add}
use Rattle.state_gate.proofs.gate.Gate.accept_record.Goals as goal

pub add-requires : goal.add-requires
add-requires c =
    let above : c.self.inside.next ≤ c.args.seq = subst (λ gate. gate.next ≤ c.args.seq) (sym c.self.view_is) c.requires.above
    in record { stream = search rules; room = (c.self.inside.next, omega (arith, above, c.requires.below), c.self.invariant.3) }

pub invariant_of-self : goal.invariant_of-self
invariant_of-self c =
    let above : c.self.inside.next ≤ c.args.seq = subst (λ gate. gate.next ≤ c.args.seq) (sym c.self.view_is) c.requires.above
    in let room : 1 ≤ c.self.inside.record_room = subst (λ gate. 1 ≤ gate.record_room) (sym c.self.view_is) c.requires.room
    in (
      omega (arith, c.self.invariant.0, c.push_reserved.ensures.len, c.push_reserved.ensures.capacity, room),
      c.self.invariant.1,
      record { records = rw c.push_reserved.ensures.items (records_push _ _ _ _ _ c.self.invariant.2.records above); states = bounds_higher _ c.self.inside.next _ _ (omega (arith, above)) c.self.invariant.2.states },
      rw c.add.ensures.own (rw c.add.ensures.all (counts_add _ _ _ _ _ above c.self.invariant.3)),
      omega (arith, c.self.invariant.4, c.add.ensures.len, c.add.ensures.streams),
    )
