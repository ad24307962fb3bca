use Rattle.std.proofs.Common.{arith}
use Rattle.json_span.specs.declared.phase.Run.TheVariants as runs
use Rattle.json_span.proofs.Run.{digits_more, skipped_none}
use Rattle.json_span.proofs.skip.skip_digits.Goals as goal

pub loop-at-init : goal.loop-at-init
loop-at-init c = (omega arith, omega arith, skipped_none runs.Digits c.args.text.now c.args.from)

pub loop-at-preserved : goal.loop-at-preserved
loop-at-preserved c = (omega arith, omega arith, digits_more c.args.text.now c.args.from c.loop-at.at c.loop-at.invariant.2 c.loop-at.invariant.0 c.loop-at-test.true c.if-text-at-ge48.true c.if-text-at-le57.true)
