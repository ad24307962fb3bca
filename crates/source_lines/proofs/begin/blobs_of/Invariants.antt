use Rattle.std.proofs.Common.{◌≡◌, take}
use Rattle.source_lines.proofs.BeginLemmas.{blobs_behind}
use Rattle.source_lines.proofs.begin.blobs_of.Given as goal

-- what the states so far say
abbrev pub invariant-loop-state : goal.invariant-loop-state
invariant-loop-state l = l.blobs ≡ blobs_behind (take l.state-index l.states) l.streams
