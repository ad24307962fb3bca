use Rattle.std.proofs.Common.{take}
use Rattle.batch_prep.specs.Items.{AreRows}
use Rattle.batch_prep.proofs.batch.rows_of.Given as goal

-- the rows of the lines so far
abbrev pub invariant-loop-line : goal.invariant-loop-line
invariant-loop-line l = AreRows l.item.plan (take l.line-index l.line-items) l.rows
