use Rattle.batch_prep.specs.Places.{AreUnknown}
use Rattle.batch_prep.proofs.finder.clear.Given as goal

abbrev pub invariant-loop : goal.invariant-loop
invariant-loop l = AreUnknown l.counter l.places.items
