use Rattle.std.proofs.Common.{arith, rules}
use Rattle.std.specs.Prelude.{FitsSigned}
use Rattle.std.specs.Int.{w128}
use Rattle.std.proofs.lemmas.Int.{to_z-of_z}
use Rattle.value_order.proofs.ReadLemmas.{at_none, parts_none}
use Rattle.value_order.proofs.TextLemmas.{small_instant}
use Rattle.value_order.proofs.read.decimal_from.Goals as goal

pub returns-in-Some-integer_of-clause-none : goal.returns-in-Some-integer_of-clause-none
returns-in-Some-integer_of-clause-none c =
    let fits : FitsSigned w128 c.in-Some-integer_of.power = search rules in
    let none = simp to_z-of_z at c.normal.ensures.none in
    at_none c.normal.result _ _ (parts_none c.args.negative c.in-Some.number c.in-Some-integer_of.power c.args.digits.now c.args.exponent.now (omega arith) (small_instant c.in-Some-integer_of.power fits) c.in-Some.ensures.found c.in-Some-integer_of.ensures.found) none
