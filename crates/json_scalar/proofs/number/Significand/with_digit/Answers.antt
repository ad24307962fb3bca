use Rattle.std.proofs.Common.{ap, ◌∙◌, ◌+◌, sym, subst, arith}
use Rattle.json_scalar.specs.Digits.{IsTrimmed}
use Rattle.json_scalar.specs.Seen.{number_of}
use Rattle.json_scalar.proofs.Powers.{times_ten, times_one, long_last, trimmed_last, product_large, sum_large}
use Rattle.json_scalar.proofs.number.Significand.with_digit.Goals as goal

pub returns-else-self-eq0-clause-value : goal.returns-else-self-eq0-clause-value
returns-else-self-eq0-clause-value c = let nought = c.if-digit-eq0.true in times_ten c.args.self.core c.args.self.zeros ∙ omega arith

pub returns-in_err-core-clause-long : goal.returns-in_err-core-clause-long
returns-in_err-core-clause-long c =
    rw c.from_residual.ensures
    (long_last (number_of c.args.self) c.args.digit (omega arith) c.requires.digit
    (product_large c.args.self.core c.args.self.zeros c.args.digit (c.in_err-core.ensures {u = tt})))

pub returns-then-core-ge-DECIMAL_LIMIT-clause-long : goal.returns-then-core-ge-DECIMAL_LIMIT-clause-long
returns-then-core-ge-DECIMAL_LIMIT-clause-long c =
    long_last (number_of c.args.self) c.args.digit (omega arith) c.requires.digit
    (sum_large c.args.self.core c.args.self.zeros c.args.digit c.in_ok-core.field-0 (c.in_ok-core.ensures {u = tt}).1 c.if-core-ge-DECIMAL_LIMIT.true)

pub returns-clause-value : goal.returns-clause-value
returns-clause-value c =
    times_one (c.in_ok-core.field-0 + c.args.digit) ∙ ap (λ k. k + c.args.digit) ((c.in_ok-core.ensures {u = tt}).1 ∙ times_ten c.args.self.core c.args.self.zeros)

pub returns-clause-trimmed : goal.returns-clause-trimmed
returns-clause-trimmed c =
    let is = ap (λ k. k + c.args.digit) ((c.in_ok-core.ensures {u = tt}).1 ∙ times_ten c.args.self.core c.args.self.zeros) in
    subst IsTrimmed (sym is) (trimmed_last (number_of c.args.self) c.args.digit (omega arith) c.requires.digit (let b = c.if-core-ge-DECIMAL_LIMIT.false in omega (arith, is)))
