use Rattle.std.proofs.Common.{◌∙◌}
use Rattle.std.specs.Fmt.{decimal, signed_decimal}
use Rattle.value_order.proofs.ReadLemmas.{at_none, decimal_cut, lacking_mark}
use Rattle.value_order.proofs.read.decimal_behind.Goals as goal

pub returns-in-Some-clause-none : goal.returns-in-Some-clause-none
returns-in-Some-clause-none c =
    at_none c.decimal_from.result _ _
    (λ none d sign e. let cut = decimal_cut d c.in-Some.digits.now c.in-Some.exponent.now c.in-Some.ensures.found.1 (e ∙ c.in-Some.ensures.found.0) in none d sign cut.0 cut.1)
    c.decimal_from.ensures.none

pub returns-in-None-clause-none : goal.returns-in-None-clause-none
returns-in-None-clause-none c = λ d sign e. lacking_mark 101 c.args.text.now (decimal d.digits) (signed_decimal d.exponent) c.in-None.ensures.none e
