use Rattle.std.proofs.Common.{◌+◌, drop, arith}
use Rattle.json_squeeze.specs.Squeeze.{squeezed, in_string}
use Rattle.json_squeeze.proofs.Runs.{end_kept, kept_more}
use Rattle.json_squeeze.proofs.string_end.Goals as goal

pub returns-then-text-at-eq34-clause-kept : goal.returns-then-text-at-eq34-clause-kept
returns-then-text-at-eq34-clause-kept c =
    let at = c.loop-at.at in
    kept_more c.args.text.now (in_string (drop c.args.from c.args.text.now)) c.args.from at (at + 1) in_string squeezed c.loop-at.invariant.not_before (omega arith) c.loop-at.invariant.kept
    (end_kept c.args.text.now at c.loop-at-test.true c.if-text-at-eq34.true)

pub loop-at-preserved : goal.loop-at-preserved
loop-at-preserved c =
    let range = c.piece_end-at.ensures.range in
    record {
      not_before = omega arith;
      inside = range.1;
      kept = kept_more c.args.text.now (in_string (drop c.args.from c.args.text.now)) c.args.from c.loop-at.at c.piece_end-at.result in_string in_string c.loop-at.invariant.not_before (omega arith) c.loop-at.invariant.kept c.piece_end-at.ensures.kept;
    }
