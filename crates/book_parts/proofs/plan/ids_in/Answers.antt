use Rattle.book_parts.proofs.Planning.{ids_step}
use Rattle.book_parts.proofs.plan.ids_in.Goals as goal

pub loop-number-preserved : goal.loop-number-preserved
loop-number-preserved c = ids_step c.args.catalog.now c.loop-number.number c.loop-number.ids c.push.new.self c.stream.result.now c.in_ok-copy.field-0 c.stream.ensures.stream c.in_ok-push.ensures.ok c.in_ok-copy.ensures.copied c.loop-number.invariant
