use Rattle.std.proofs.Common.{take}
use Rattle.catalog.specs.Reading.{ids_of}
use Rattle.state_kinds.specs.Saved.{state_of}
use Rattle.state_kinds.proofs.ListLemmas.{HasListed}
use Rattle.state_kinds.proofs.write.put_states.Given as goal

-- the states so far
abbrev pub invariant-loop-n : goal.invariant-loop-n
invariant-loop-n l = HasListed (state_of l.set.entries) (take l.n (ids_of l.configured)) l.fn.text l.is_first l.text
