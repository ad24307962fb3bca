use Rattle.std.proofs.Common.{take}
use Rattle.book_rules.specs.Starts.{ArePlansOf}
use Rattle.book_parts.proofs.plan.plans_of.Given as goal

abbrev pub invariant-loop-number : goal.invariant-loop-number
invariant-loop-number l = ArePlansOf (take l.number l.marks) (take l.number l.catalog) l.plans
