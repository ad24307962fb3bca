use Rattle.std.proofs.Common.{length}
use Rattle.book_rules.specs.Releases.{ReleasesSoFar}
use Rattle.book_parts.specs.Steps.{MayRelease}
use Rattle.book_parts.proofs.release.release.Given as goal

abbrev pub invariant-heads : goal.invariant-heads
invariant-heads g l = record {
  can : MayRelease l.emitted l.gate;
  so_far : ReleasesSoFar (record { gate = l.initial.gate; seen = g.D.Dock.seen l.initial.dock; emitted = l.initial.emitted }) (record { gate = l.gate; seen = g.D.Dock.seen l.dock; emitted = l.emitted });
}

abbrev pub decreases-heads : goal.decreases-heads
decreases-heads g l = length l.gate.kept.waiting
