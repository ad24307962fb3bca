use Rattle.std.proofs.Common.{◌≡◌, drop}
use Rattle.source_lines.specs.Begins.{first_unknown}
use Rattle.source_lines.proofs.begin.unknown_stream.Given as goal

abbrev pub invariant-loop-number : goal.invariant-loop-number
invariant-loop-number g l = first_unknown (g.S.StreamSource.seen l.source).is_known 0 l.streams ≡ first_unknown (g.S.StreamSource.seen l.source).is_known l.number (drop l.number l.streams)
