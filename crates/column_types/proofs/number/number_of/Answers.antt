use Rattle.column_types.proofs.NumberLemmas.{parts_of, number_to_decimal, decimal_to_number, normal_parts, same_converted}
use Rattle.column_types.proofs.number.number_of.Goals as goal

pub returns-in-Some-clause-found : goal.returns-in-Some-clause-found
returns-in-Some-clause-found c = decimal_to_number c.args.text.now c.in-Some.parts c.converted.result c.converted.ensures c.in-Some.ensures.found

pub returns-in-Some-clause-only : goal.returns-in-Some-clause-only
returns-in-Some-clause-only c = λ other is.
    same_converted c.in-Some.parts c.converted.result other c.converted.ensures (c.in-Some.ensures.only (parts_of other) (normal_parts other) (number_to_decimal c.args.text.now other is))

pub returns-in-None-clause-none : goal.returns-in-None-clause-none
returns-in-None-clause-none c = λ d is. c.in-None.ensures.none (parts_of d) (normal_parts d) (number_to_decimal c.args.text.now d is)
