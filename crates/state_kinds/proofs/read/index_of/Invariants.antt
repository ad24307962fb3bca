use Rattle.std.proofs.Common.{take}
use Rattle.state_kinds.specs.Store.{stored_ids}
use Rattle.state_kinds.proofs.OnceLemmas.{HasIndexed}
use Rattle.state_kinds.proofs.read.index_of.Given as goal

-- the streams so far
abbrev pub invariant-loop-entry : goal.invariant-loop-entry
invariant-loop-entry l = HasIndexed (stored_ids (take l.entry-index l.entries)) l.index
