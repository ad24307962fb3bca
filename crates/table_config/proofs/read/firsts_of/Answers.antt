use Rattle.std.proofs.Common.{◌∙◌, List, ap, sym}
use Rattle.table_config.specs.Tables.{with_table}
use Rattle.table_config.specs.declared.config.TableEntry.{TableEntry}
use Rattle.table_config.proofs.TableLemmas.{firsts_more}
use Rattle.table_config.proofs.read.firsts_of.Goals as goal

pub loop-entry-preserved : goal.loop-entry-preserved
loop-entry-preserved c =
    c.in_ok-tables.ensures ∙ ap (λ (tables : List TableEntry). with_table tables c.in-Some.entry) c.loop-entry.invariant ∙ sym (firsts_more c.loop-entry.yielded c.in-Some.entry)
