use Rattle.std.proofs.Common.{take}
use Rattle.batch_prep.specs.Places.{AreLabels}
use Rattle.batch_prep.proofs.layout.labels_of.Given as goal

abbrev pub invariant-loop-place : goal.invariant-loop-place
invariant-loop-place l = AreLabels (take l.place l.names) l.labels
