use Rattle.std.proofs.Common.{arith}
use Rattle.state_gate.proofs.Merging.{dropped_in_order, dropped_in_two}
use Rattle.state_gate.proofs.merge.drop_committed.Goals as goal

pub returns-then-met-seqs-clause-items : goal.returns-then-met-seqs-clause-items
returns-then-met-seqs-clause-items c = dropped_in_two _ _ _ _ _ c.requires c.drop_in_order-met.ensures.left c.drop_in_order-met.ensures.items c.drop_among.ensures.items

pub returns-else-met-seqs-clause-items : goal.returns-else-met-seqs-clause-items
returns-else-met-seqs-clause-items c = dropped_in_order _ _ _ _ c.requires c.drop_in_order-met.ensures.left (omega arith) c.drop_in_order-met.ensures.items
