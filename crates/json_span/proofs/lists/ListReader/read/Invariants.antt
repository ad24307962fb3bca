use Rattle.std.proofs.Common.{length, ◌-◌, ◌≡◌, ◌≤◌}
use Rattle.json_span.specs.Machine.{read_to, initial}
use Rattle.json_span.specs.Lists.{IsListRead}
use Rattle.json_span.specs.declared.phase.Frame.TheVariants as frame
use Rattle.json_span.proofs.lists.ListReader.read.Given as goal

abbrev pub invariant-loop-at : goal.invariant-loop-at
invariant-loop-at l = record {
  place : l.at ≤ length l.text;
  outside : l.self.outside ≡ read_to l.text (initial frame.Object) 0 l.at;
  list : IsListRead l.text l.self.outside.cutter.members l.self.listed l.self.inside.cutter.elements;
}

abbrev pub decreases-loop-at : goal.decreases-loop-at
decreases-loop-at l = length l.text - l.at
