use Rattle.std.proofs.Common.{take}
use Rattle.catalog.proofs.EntryLemmas.{IsPathAt}
use Rattle.catalog.proofs.ListLemmas.{AreOnly}
use Rattle.catalog.proofs.paths.paths_at.Given as goal

-- the elements so far
abbrev pub invariant-loop-span : goal.invariant-loop-span
invariant-loop-span l = AreOnly (IsPathAt l.text) (take l.span-index l.spans) l.paths
