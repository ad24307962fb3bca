use Rattle.std.proofs.Common.{ap, sym, ◌∙◌, arith}
use Rattle.json_span.specs.Machine.{read_to, initial}
use Rattle.json_span.specs.declared.phase.Frame.TheVariants as frame
use Rattle.json_span.specs.declared.machine.Machine.{Machine}
use Rattle.json_span.proofs.Run.{read_on, read_none, read_to-whole}
use Rattle.json_span.proofs.ListReading.{none_yet}
use Rattle.json_span.proofs.lists.ListReader.read.Goals as goal

pub loop-at-init : goal.loop-at-init
loop-at-init c = record {
  place = omega arith;
  outside = c.requires.outside ∙ sym (read_none c.args.text.now (initial frame.Object) 0);
  list = none_yet c.args.text.now c.args.self.now.outside.cutter.members c.args.self.now.listed c.args.self.now.inside.cutter.elements c.requires.listed;
}

pub loop-at-preserved : goal.loop-at-preserved
loop-at-preserved c =
    let text = c.args.text.now in
    let taken = c.in_ok-at.ensures.taken in
    let ordered = taken.ordered in
    record {
      place = taken.inside;
      outside = taken.made ∙ ap (λ (m : Machine). read_to text m c.loop-at.at c.in_ok-at.at) c.loop-at.invariant.outside ∙ read_on text (initial frame.Object) 0 c.loop-at.at c.in_ok-at.at (omega arith) ordered taken.inside;
      list = c.in_ok-at.ensures.list;
    }

pub returns-clause-outside : goal.returns-clause-outside
returns-clause-outside c = c.loop-at.invariant.outside ∙ read_to-whole frame.Object c.args.text.now c.loop-at.at c.loop-at.invariant.place c.loop-at-test.false
