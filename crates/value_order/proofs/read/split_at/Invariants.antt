use Rattle.std.proofs.Common.{take}
use Rattle.value_order.specs.Marks.{Lacks}
use Rattle.value_order.proofs.read.split_at.Given as goal

abbrev pub invariant-loop-at : goal.invariant-loop-at
invariant-loop-at l = Lacks l.byte (take l.at l.text)
