use Rattle.std.proofs.Common.{◌*◌, ◌+◌, ◌-◌, get_or, subst}
use Rattle.json_scalar.specs.Digits.{IsLong}
use Rattle.json_scalar.specs.Seen.{number_of}
use Rattle.json_scalar.proofs.Spellings.{long_from}
use Rattle.json_scalar.proofs.number.Significand.followed_by.Goals as goal

pub returns-in_err-number-clause-long : goal.returns-in_err-number-clause-long
returns-in_err-number-clause-long c =
    let i = c.loop-byte.byte-index in
    let digit = get_or c.args.digits.now i 0 - 48 in
    rw c.from_residual.ensures
    (long_from (number_of c.args.self) c.args.digits.now i c.requires.digits c.loop-byte-test.true
    (subst (λ n. IsLong (n * 10 + digit)) c.loop-byte.invariant.value (c.in_err-number.ensures {u = tt}).long))
