use Rattle.std.proofs.Common.{◌-◌, get_or, arith}
use Rattle.json_scalar.proofs.Powers.{capped_next, capped_stays}
use Rattle.json_scalar.proofs.Spellings.{digit_bounds, spelled_behind-more}
use Rattle.json_scalar.proofs.number.capped_exponent.Goals as goal
use Rattle.json_scalar.proofs.number.capped_exponent.Goals.{then-exponent-lt-EXPONENT_CAP, else-exponent-lt-EXPONENT_CAP}

pub loop-byte-preserved : goal.loop-byte-preserved
loop-byte-preserved c =
    let i = c.loop-byte.byte-index in
    let digits = c.args.digits.now in
    let bounds = digit_bounds (get_or digits i 0) (c.requires i 0 c.loop-byte-test.true) in
    let more = spelled_behind-more 0 digits i c.loop-byte-test.true in
    elim c.if-exponent-lt-EXPONENT_CAP.branch [
      | then-exponent-lt-EXPONENT_CAP w ↦ (rw (more, w.exponent-is) (capped_next c.loop-byte.exponent _ (get_or digits i 0 - 48) c.loop-byte.invariant.0), omega (arith, bounds.1))
      | else-exponent-lt-EXPONENT_CAP w ↦ (rw (more, w.exponent-is) (capped_stays c.loop-byte.exponent _ (get_or digits i 0 - 48) w.if-exponent-lt-EXPONENT_CAP.false c.loop-byte.invariant.0), omega arith)
    ]
