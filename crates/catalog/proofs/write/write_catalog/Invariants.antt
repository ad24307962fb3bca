use Rattle.catalog.proofs.WriteLemmas.{GrowsByEntries}
use Rattle.catalog.proofs.write.write_catalog.Given as goal

-- the entries so far
abbrev pub invariant-loop-n : goal.invariant-loop-n
invariant-loop-n l = GrowsByEntries l.configured l.gens l.n l.text
