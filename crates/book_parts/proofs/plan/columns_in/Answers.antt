use Rattle.std.proofs.Common.{List, subst, ℕ}
use Rattle.column_types.specs.Columns.{AreColumns}
use Rattle.book_parts.proofs.Planning.{columns_step}
use Rattle.book_parts.proofs.plan.columns_in.Goals as goal

pub loop-number-preserved : goal.loop-number-preserved
loop-number-preserved c = columns_step c.args.catalog.now c.loop-number.number c.loop-number.columns c.push.new.self c.stream.result.now c.in_ok-columns_of.field-0 c.stream.ensures.stream c.in_ok-push.ensures.ok c.loop-number.invariant (subst (λ (schema : List ℕ). AreColumns schema c.in_ok-columns_of.field-0) c.as_slice.ensures c.in_ok-columns_of.ensures)
