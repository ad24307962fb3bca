use Rattle.json_span.proofs.Theorems.{finds, finds_only, finds_none, finds_deeper, read_object}
use Rattle.json_span.proofs.Parts.{are_parts}
use Rattle.json_span.proofs.cut.members_within.Goals as goal

pub returns-then-not-is_done-clause-not_object : goal.returns-then-not-is_done-clause-not_object
returns-then-not-is_done-clause-not_object c = λ is. finds_none c.args.text.now c.in_ok-machine.machine c.in_ok-machine.ensures (λ done. let e = c.is_done.ensures.1 done in let f = c.if-not-is_done.true in cc (e, f))

pub returns-then-machine-limit-clause-too_deep : goal.returns-then-machine-limit-clause-too_deep
returns-then-machine-limit-clause-too_deep c = λ is. finds_deeper c.args.text.now c.in_ok-machine.machine c.in_ok-machine.ensures (c.is_utf8.ensures.0 c.if-not-is_utf8.false) (c.is_done.ensures.0 c.if-not-is_done.false) c.args.limit c.if-machine-limit.true

pub returns-clause-found : goal.returns-clause-found
returns-clause-found c = finds c.args.text.now c.in_ok-machine.machine c.in_ok-machine.ensures (c.is_utf8.ensures.0 c.if-not-is_utf8.false) (c.is_done.ensures.0 c.if-not-is_done.false) c.args.limit c.if-machine-limit.false

pub returns-clause-only : goal.returns-clause-only
returns-clause-only c = finds_only c.args.text.now c.in_ok-machine.machine c.in_ok-machine.ensures c.args.limit c.if-machine-limit.false

pub returns-clause-parts : goal.returns-clause-parts
returns-clause-parts c =
    are_parts c.args.text.now c.in_ok-machine.machine.deepest c.in_ok-machine.machine.cutter.members
    (read_object c.args.text.now c.in_ok-machine.machine c.in_ok-machine.ensures (c.is_utf8.ensures.0 c.if-not-is_utf8.false) (c.is_done.ensures.0 c.if-not-is_done.false))
