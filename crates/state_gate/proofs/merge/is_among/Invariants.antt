use Rattle.std.proofs.Common.{◌≡◌, ◌==◌, drop}
use Rattle.std.specs.List.{list_any}
use Rattle.state_gate.proofs.merge.is_among.Given as goal

abbrev pub invariant-loop-other : goal.invariant-loop-other
invariant-loop-other l = list_any (λ other. other == l.seq) l.seqs ≡ list_any (λ other. other == l.seq) (drop l.other-index l.seqs)
