use Rattle.std.proofs.Common.{take}
use Rattle.book_rules.specs.Starts.{AreColumnsOf}
use Rattle.book_parts.proofs.plan.columns_in.Given as goal

abbrev pub invariant-loop-number : goal.invariant-loop-number
invariant-loop-number l = AreColumnsOf (take l.number l.catalog) l.columns
