use Rattle.std.proofs.Common.{arith}
use Rattle.std.proofs.lemmas.Grind.{common_steps}
use Rattle.state_gate.proofs.Merging.{passed_none, left_none}
use Rattle.state_gate.proofs.merge.drop_in_order.Goals as goal

pub returns-clause-left : goal.returns-clause-left
returns-clause-left c = grind (arith, common_steps, left_none)

pub returns-clause-items : goal.returns-clause-items
returns-clause-items c = grind (arith, common_steps, passed_none)
