use Rattle.std.proofs.Common.{◌≡◌, drop}
use Rattle.state_gate.specs.Content.{is_clear}
use Rattle.state_gate.proofs.gate.clears.Given as goal

abbrev pub invariant-loop-accepted : goal.invariant-loop-accepted
invariant-loop-accepted l = is_clear l.uncommitted l.state ≡ is_clear (drop l.accepted-index l.uncommitted) l.state
