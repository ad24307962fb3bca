use Rattle.std.proofs.Common.{◌≡◌, ◌++◌, take, drop, find}
use Rattle.state_gate.specs.Content.{is_clear, without_first}
use Rattle.state_gate.proofs.gate.head_index.Given as goal

abbrev pub invariant-loop-index : goal.invariant-loop-index
invariant-loop-index l = record {
  first : find (is_clear l.uncommitted) l.waiting ≡ find (is_clear l.uncommitted) (drop l.index l.waiting);
  rest : without_first (is_clear l.uncommitted) l.waiting ≡ take l.index l.waiting ++ without_first (is_clear l.uncommitted) (drop l.index l.waiting);
}
