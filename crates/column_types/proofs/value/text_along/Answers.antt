use Rattle.column_types.proofs.ValueLemmas.{walk_on, walk_ends, walk_done}
use Rattle.column_types.proofs.value.text_along.Goals as goal

pub loop-name-preserved : goal.loop-name-preserved
loop-name-preserved c =
    let field = rw c.in-Some.is at c.in_ok-held.ensures.field in
    let value = rw c.in-Some.is at c.in_ok-held.ensures.value in
    walk_on c.args.text.now c.args.names.now c.loop-name.name-index c.loop-name.at.now c.name-item.result c.in-Some.held.now c.loop-name-test.true c.name-item.is c.loop-name.invariant field.is value

pub returns-in-None-clause-reached : goal.returns-in-None-clause-reached
returns-in-None-clause-reached c =
    let none = rw c.in-None.is at c.in_ok-held.ensures.field in
    walk_ends c.args.text.now c.args.names.now c.loop-name.name-index c.loop-name.at.now c.name-item.result c.loop-name-test.true c.name-item.is c.loop-name.invariant none

pub returns-clause-reached : goal.returns-clause-reached
returns-clause-reached c = walk_done c.args.text.now c.args.names.now c.loop-name.name-index c.loop-name.at.now c.loop-name-test.false c.loop-name.invariant
