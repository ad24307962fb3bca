use Rattle.std.proofs.Common.{arith}
use Rattle.json_span.specs.declared.phase.Run.TheVariants as runs
use Rattle.json_span.proofs.Run.{blanks_more, skipped_none}
use Rattle.json_span.proofs.skip.skip_blanks.Goals as goal

pub loop-at-init : goal.loop-at-init
loop-at-init c = (omega arith, omega arith, skipped_none runs.Blanks c.args.text.now c.args.from)

pub loop-at-preserved : goal.loop-at-preserved
loop-at-preserved c = (omega arith, omega arith, blanks_more c.args.text.now c.args.from c.loop-at.at c.loop-at.invariant.2 c.loop-at.invariant.0 c.loop-at-test.true (c.is_blank.ensures c.if-is_blank.true))
