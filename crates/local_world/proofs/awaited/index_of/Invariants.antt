use Rattle.std.proofs.Common.{take}
use Rattle.std.specs.List.{filter_map}
use Rattle.state_kinds.specs.StateLists.{stream_of}
use Rattle.state_kinds.proofs.OnceLemmas.{HasIndexed}
use Rattle.local_world.proofs.awaited.index_of.Given as goal

-- the streams so far
abbrev pub invariant-loop-state : goal.invariant-loop-state
invariant-loop-state l = HasIndexed (filter_map (λ state. stream_of state.kind) (take l.state-index l.states)) l.index
