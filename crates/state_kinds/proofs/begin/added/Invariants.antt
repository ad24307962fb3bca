use Rattle.state_kinds.specs.Changes.{given_of}
use Rattle.state_kinds.proofs.BeginLemmas.{HasAdded}
use Rattle.state_kinds.proofs.begin.added.Given as goal

-- the entries so far
abbrev pub invariant-loop-n : goal.invariant-loop-n
invariant-loop-n l = HasAdded (given_of l.configured l.gens) l.n l.initial.index l.index l.added.items
