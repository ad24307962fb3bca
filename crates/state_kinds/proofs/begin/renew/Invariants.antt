use Rattle.state_kinds.specs.Changes.{given_of}
use Rattle.state_kinds.proofs.BeginLemmas.{HasRenewed}
use Rattle.state_kinds.proofs.begin.renew.Given as goal

-- the first of the entries are renewed, and no others
abbrev pub invariant-loop-i : goal.invariant-loop-i
invariant-loop-i l = HasRenewed (given_of l.configured l.gens) l.i l.initial.entries.items l.entries.items
