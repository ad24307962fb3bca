use Rattle.std.proofs.Common.{◌≡◌, map, take}
use Rattle.table_source.specs.Discovered.{table_text}
use Rattle.table_source.proofs.said.table_texts_of.Given as goal

abbrev pub invariant-loop-entry : goal.invariant-loop-entry
invariant-loop-entry l = l.texts ≡ map table_text (take l.entry-index l.tables)
