use Rattle.std.proofs.Common.{take}
use Rattle.catalog.proofs.ListLemmas.{AreOnly}
use Rattle.state_kinds.proofs.StateListLemmas.{IsStateAt}
use Rattle.state_kinds.proofs.states.states_at.Given as goal

-- the elements so far
abbrev pub invariant-loop-span : goal.invariant-loop-span
invariant-loop-span l = AreOnly (IsStateAt l.list) (take l.span-index l.spans) l.states
