use Rattle.std.proofs.Common.{◌≡◌, take}
use Rattle.catalog.specs.Parts.{part_of}
use Rattle.catalog.proofs.configured.Configured.part.Given as goal

-- the streams of the lane so far
abbrev pub invariant-loop-n : goal.invariant-loop-n
invariant-loop-n l = l.part ≡ part_of l.lanes l.lane (take l.n l.self)
