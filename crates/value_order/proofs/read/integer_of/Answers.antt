use Rattle.std.proofs.Common.{arith}
use Rattle.value_order.proofs.ReadLemmas.{at_none, negative_none, negative_large, positive_large}
use Rattle.value_order.proofs.read.integer_of.Goals as goal

pub returns-in-Some-natural_of-clause-none : goal.returns-in-Some-natural_of-clause-none
returns-in-Some-natural_of-clause-none c =
    at_none c.below_zero.result _ _ (λ large. negative_large c.in-Some-natural_of.number c.in-Some.digits.now c.args.text.now c.in-Some.ensures.found (omega arith) c.in-Some-natural_of.ensures.found large) c.below_zero.ensures.none

pub returns-in-None-natural_of-clause-none : goal.returns-in-None-natural_of-clause-none
returns-in-None-natural_of-clause-none c = negative_none c.in-Some.digits.now c.args.text.now c.in-Some.ensures.found c.in-None-natural_of.ensures.none

pub returns-in-Some-natural_of-2-clause-none : goal.returns-in-Some-natural_of-2-clause-none
returns-in-Some-natural_of-2-clause-none c =
    at_none c.from_zero.result _ _ (λ large. positive_large c.in-Some-natural_of-2.number c.args.text.now c.in-None.ensures.none (omega arith) c.in-Some-natural_of-2.ensures.found large) c.from_zero.ensures.none
