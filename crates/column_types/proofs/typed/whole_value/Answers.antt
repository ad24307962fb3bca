use Rattle.std.proofs.Common.{arith}
use Rattle.std.proofs.lemmas.Int.{ints}
use Rattle.column_types.proofs.WholeLemmas.{whole_exponent}
use Rattle.column_types.proofs.typed.whole_value.Goals.{then-number-lt0-via-then-number-lt0, then-number-lt0-via-else-number-lt0+then-number-gt18}
use Rattle.column_types.proofs.typed.whole_value.Goals as goal

pub returns-then-number-lt0-clause-none : goal.returns-then-number-lt0-clause-none
returns-then-number-lt0-clause-none c = λ value fits whole.
    let near = whole_exponent c.args.number.now value fits whole in
    let is = near.1 in
    let few = near.2 in
    elim c.then-number-lt0.branch [
      | then-number-lt0-via-then-number-lt0 w ↦ let below = w.if-number-lt0.true in omega (arith, ints, is, few, below)
      | then-number-lt0-via-else-number-lt0+then-number-gt18 w ↦ let above = w.if-number-gt18.true in omega (arith, ints, is, few, above)
    ]
