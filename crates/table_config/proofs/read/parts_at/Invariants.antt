use Rattle.std.proofs.Common.{take}
use Rattle.catalog.proofs.ListLemmas.{AreOnly}
use Rattle.table_config.proofs.ConfigLemmas.{IsPartAt}
use Rattle.table_config.proofs.read.parts_at.Given as goal

-- the entries so far
abbrev pub invariant-loop-span : goal.invariant-loop-span
invariant-loop-span l = AreOnly (IsPartAt l.list) (take l.span-index l.spans) l.parts
