use Rattle.std.proofs.Common.{take}
use Rattle.batch_prep.specs.Places.{AreKept, AreSlots}
use Rattle.batch_prep.proofs.layout.column_slots.Given as goal

abbrev pub invariant-loop-column : goal.invariant-loop-column
invariant-loop-column l = AreSlots l.names (take l.column-index l.column-items) l.slots × AreKept l.fn.names l.names
