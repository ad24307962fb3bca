use Rattle.std.proofs.Common.{◌≡◌, take, false}
use Rattle.std.specs.List.{list_any}
use Rattle.state_kinds.specs.Changes.{given_of, is_changed}
use Rattle.state_kinds.proofs.begin.is_changed.Given as goal

-- none so far is changed
abbrev pub invariant-loop-n : goal.invariant-loop-n
invariant-loop-n l = list_any (is_changed l.entries) (take l.n (given_of l.configured l.gens)) ≡ false
