use Rattle.std.proofs.Common.{◌∙◌}
use Rattle.value_order.proofs.ReadLemmas.{at_none, signed_decimal_text}
use Rattle.value_order.proofs.read.decimal_of.Goals as goal

pub returns-in-Some-clause-none : goal.returns-in-Some-clause-none
returns-in-Some-clause-none c =
    at_none c.decimal_behind.result _ _
    (λ none d e. let parts = signed_decimal_text d c.in-Some.rest.now (e ∙ c.in-Some.ensures.found) in none d parts.0 parts.1)
    c.decimal_behind.ensures.none
