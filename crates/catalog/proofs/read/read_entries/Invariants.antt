use Rattle.catalog.proofs.ReadLemmas.{GoesOn}
use Rattle.catalog.proofs.read.read_entries.Given as goal

-- what the entries that are left read as, all read as
abbrev pub invariant-loop-span : goal.invariant-loop-span
invariant-loop-span l = GoesOn l.list l.spans l.span-index l.configured
