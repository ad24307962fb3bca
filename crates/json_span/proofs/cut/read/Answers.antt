use Rattle.std.proofs.Common.{◌∙◌, ap, sym, arith}
use Rattle.json_span.specs.Machine.{read_to, initial}
use Rattle.json_span.specs.declared.machine.Machine.{Machine}
use Rattle.json_span.proofs.Run.{read_on, read_none, read_to-whole}
use Rattle.json_span.proofs.cut.read.Goals as goal

pub loop-at-init : goal.loop-at-init
loop-at-init c = (omega arith, c.new-machine.ensures ∙ sym (read_none c.args.text.now (initial c.args.frame) 0))

pub loop-at-preserved : goal.loop-at-preserved
loop-at-preserved c =
    let text = c.args.text.now in
    let taken = c.in_ok-at.ensures.taken in
    (taken.inside, taken.made ∙ ap (λ (m : Machine). read_to text m c.loop-at.at c.in_ok-at.at) c.loop-at.invariant.1 ∙ read_on text (initial c.args.frame) 0 c.loop-at.at c.in_ok-at.at (omega arith) taken.ordered taken.inside)

pub returns : goal.returns
returns c = c.loop-at.invariant.1 ∙ read_to-whole c.args.frame c.args.text.now c.loop-at.at c.loop-at.invariant.0 c.loop-at-test.false
