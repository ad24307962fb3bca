use Rattle.std.proofs.Common.{◌≡◌}
use Rattle.source_lines.specs.Begins.{no_blobs as blobs_of_none}
use Rattle.source_lines.proofs.begin.no_blobs.Given as goal

abbrev pub invariant-loop-i : goal.invariant-loop-i
invariant-loop-i l = l.blobs ≡ blobs_of_none l._i
