use Rattle.std.proofs.Common.{◌-◌, length}
use Rattle.local_world.proofs.FileLemmas.{HasPassed}
use Rattle.local_world.proofs.front.read_front.Given as goal

abbrev pub decreases-lines : goal.decreases-lines
decreases-lines l = length l.text - l.behind

abbrev pub invariant-lines : goal.invariant-lines
invariant-lines l = HasPassed l.text l.fn.states l.awaited l.places.items l.behind l.number
