use Rattle.std.proofs.Common.{◌∙◌, ◌++◌, [], ◌∷◌, ℕ, List, ap}
use Rattle.table_source.specs.Discovered.{table_text}
use Rattle.table_source.proofs.SaidLemmas.{mapped_more}
use Rattle.table_source.proofs.said.table_texts_of.Goals as goal

pub loop-entry-preserved : goal.loop-entry-preserved
loop-entry-preserved c =
    mapped_more table_text c.args.tables.now c.loop-entry.entry-index c.entry-item.result c.loop-entry.texts c.push.new.self c.loop-entry-test.true c.entry-item.is c.loop-entry.invariant
    (c.in_ok-push.ensures.ok ∙ ap (λ (t : List ℕ). c.loop-entry.texts ++ t ∷ []) c.in_ok-text.ensures)
