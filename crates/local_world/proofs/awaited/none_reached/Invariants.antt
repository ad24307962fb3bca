use Rattle.std.proofs.Common.{◌≡◌, None, replicate}
use Rattle.local_world.proofs.awaited.none_reached.Given as goal

abbrev pub invariant-loop : goal.invariant-loop
invariant-loop l = l.reached.items ≡ replicate l.counter None
