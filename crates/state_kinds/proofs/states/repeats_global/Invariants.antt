use Rattle.state_kinds.proofs.StateListLemmas.{HasCounted}
use Rattle.state_kinds.proofs.states.repeats_global.Given as goal

-- the states of all streams so far
abbrev pub invariant-loop-state : goal.invariant-loop-state
invariant-loop-state l = HasCounted l.states l.state-index l.count
