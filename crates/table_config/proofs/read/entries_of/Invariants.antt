use Rattle.std.proofs.Common.{take}
use Rattle.catalog.proofs.ListLemmas.{AreOnly}
use Rattle.table_config.specs.Config.{IsEntry}
use Rattle.table_config.proofs.read.entries_of.Given as goal

-- the entries so far
abbrev pub invariant-loop-part : goal.invariant-loop-part
invariant-loop-part l = AreOnly IsEntry (take l.part-index l.parts) l.entries
