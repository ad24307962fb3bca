use Rattle.json_span.proofs.ArrayTheorems.{finds_array, finds_only_array, finds_no_array, finds_deeper_array, read_array}
use Rattle.json_span.proofs.ArrayParts.{are_elements}
use Rattle.json_span.proofs.array.elements_within.Goals as goal

pub returns-then-not-is_done-clause-not_array : goal.returns-then-not-is_done-clause-not_array
returns-then-not-is_done-clause-not_array c = λ is. finds_no_array c.args.text.now c.in_ok-machine.machine c.in_ok-machine.ensures (λ done. let e = c.is_done.ensures.1 done in let f = c.if-not-is_done.true in cc (e, f))

pub returns-then-machine-limit-clause-too_deep : goal.returns-then-machine-limit-clause-too_deep
returns-then-machine-limit-clause-too_deep c = λ is. finds_deeper_array c.args.text.now c.in_ok-machine.machine c.in_ok-machine.ensures (c.is_utf8.ensures.0 c.if-not-is_utf8.false) (c.is_done.ensures.0 c.if-not-is_done.false) c.args.limit c.if-machine-limit.true

pub returns-clause-found : goal.returns-clause-found
returns-clause-found c = finds_array c.args.text.now c.in_ok-machine.machine c.in_ok-machine.ensures (c.is_utf8.ensures.0 c.if-not-is_utf8.false) (c.is_done.ensures.0 c.if-not-is_done.false) c.args.limit c.if-machine-limit.false

pub returns-clause-only : goal.returns-clause-only
returns-clause-only c = finds_only_array c.args.text.now c.in_ok-machine.machine c.in_ok-machine.ensures c.args.limit c.if-machine-limit.false

pub returns-clause-parts : goal.returns-clause-parts
returns-clause-parts c =
    are_elements c.args.text.now c.in_ok-machine.machine.deepest c.in_ok-machine.machine.cutter.elements
    (read_array c.args.text.now c.in_ok-machine.machine c.in_ok-machine.ensures (c.is_utf8.ensures.0 c.if-not-is_utf8.false) (c.is_done.ensures.0 c.if-not-is_done.false))
