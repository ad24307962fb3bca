use Rattle.std.proofs.Common.{◌-◌, length}
use Rattle.json_span.proofs.Turns.{AreTaken}
use Rattle.json_span.proofs.machine.Machine.take_members.Given as goal

abbrev pub invariant-loop-is_more : goal.invariant-loop-is_more
invariant-loop-is_more l = AreTaken l.text l.fn.self l.fn.at l.self l.place l.is_more

abbrev pub decreases-loop-is_more : goal.decreases-loop-is_more
decreases-loop-is_more l = length l.text - l.place
