use Rattle.std.proofs.Common.{take}
use Rattle.catalog.proofs.EntryLemmas.{IsNameAt}
use Rattle.catalog.proofs.ListLemmas.{AreOnly}
use Rattle.table_config.proofs.read.names_at.Given as goal

-- the elements so far
abbrev pub invariant-loop-span : goal.invariant-loop-span
invariant-loop-span l = AreOnly (IsNameAt l.text) (take l.span-index l.spans) l.names
