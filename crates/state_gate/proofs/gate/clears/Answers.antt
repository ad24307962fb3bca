use Rattle.std.proofs.Common.{ap, sym, ◌∙◌, not}
use Rattle.state_gate.proofs.Heads.{none_from}
use Rattle.state_gate.proofs.gate.clears.Goals as goal

pub returns-then-accepted-state : goal.returns-then-accepted-state
returns-then-accepted-state c = sym (c.loop-accepted.invariant ∙ ap not (none_from 0 c.args.state.now c.args.uncommitted.now c.loop-accepted.accepted-index _ c.requires c.loop-accepted-test.true c.if-accepted-state.true))
