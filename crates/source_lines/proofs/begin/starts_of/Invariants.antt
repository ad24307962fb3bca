use Rattle.std.proofs.Common.{take}
use Rattle.source_lines.specs.Begins.{blob_in}
use Rattle.catalog.proofs.ListLemmas.{AreOnly}
use Rattle.source_lines.proofs.begin.starts_of.Given as goal

-- where the streams so far start
abbrev pub invariant-loop-number : goal.invariant-loop-number
invariant-loop-number g l = AreOnly (λ stream start. g.S.StreamSource.Starts stream (blob_in l.states stream.id) start) (take l.number l.streams) l.starts
