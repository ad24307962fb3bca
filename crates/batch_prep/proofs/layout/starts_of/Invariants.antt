use Rattle.std.proofs.Common.{take}
use Rattle.batch_prep.specs.Places.{AreKept, AreStarts}
use Rattle.batch_prep.proofs.layout.starts_of.Given as goal

abbrev pub invariant-loop-path : goal.invariant-loop-path
invariant-loop-path l = AreStarts l.names l.columns (take l.path-index l.path-items) l.starts × AreKept l.fn.names l.names
