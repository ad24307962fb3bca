use Rattle.std.proofs.Common.{arith}
use Rattle.state_gate.proofs.Orders.{records_filter}
use Rattle.state_gate.proofs.gate.Gate.committed.Goals as goal

pub invariant_of-self : goal.invariant_of-self
invariant_of-self c = (
  omega (arith, c.self.invariant.0, c.drop_committed.ensures.len, c.drop_committed.ensures.capacity),
  c.self.invariant.1,
  record { records = rw c.drop_committed.ensures.items (records_filter _ _ _ _ c.self.invariant.2.records); states = c.self.invariant.2.states },
  c.self.invariant.3,
  c.self.invariant.4,
)
