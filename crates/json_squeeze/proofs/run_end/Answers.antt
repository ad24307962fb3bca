use Rattle.std.proofs.Common.{drop, arith}
use Rattle.json_squeeze.specs.Squeeze.{squeezed}
use Rattle.json_squeeze.proofs.Runs.{kept_more}
use Rattle.json_squeeze.proofs.run_end.Goals as goal

pub loop-at-preserved : goal.loop-at-preserved
loop-at-preserved c =
    let next = c.shown_end-at-in-loop-at in
    let range = next.ensures.range in
    record {
      further = omega arith;
      inside = range.1;
      kept = kept_more c.args.text.now (squeezed (drop c.args.from c.args.text.now)) c.args.from c.loop-at.at next.result squeezed squeezed (omega arith) (omega arith) c.loop-at.invariant.kept next.ensures.kept;
    }
