use Rattle.std.proofs.Common.{arith}
use Rattle.json_write.proofs.Strings.{plain_more}
use Rattle.json_write.proofs.text.plain_end.Goals as goal

pub loop-end-preserved : goal.loop-end-preserved
loop-end-preserved c =
    let known = c.loop-end.invariant in
    record {
      after = omega arith;
      within = omega arith;
      plain = plain_more c.args.bytes.now c.args.from c.loop-end.end known.after c.loop-end-test.true c.if-bytes-end-ne34.true c.if-bytes-end-ne92.true c.if-bytes-end-ge32.true known.plain;
    }
