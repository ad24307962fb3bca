use Rattle.std.proofs.Common.{◌≤◌, length}
use Rattle.batch_prep.specs.Places.{AreHeldFrom}
use Rattle.batch_prep.proofs.finder.locate.Given as goal

abbrev pub invariant-loop-at : goal.invariant-loop-at
invariant-loop-at l = (l.at ≤ length l.members) × AreHeldFrom l.body l.layout.names l.members l.at l.places.items

abbrev pub decreases-loop-at : goal.decreases-loop-at
decreases-loop-at l = l.at
