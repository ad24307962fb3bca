use Rattle.std.proofs.Common.{Err, List, ℕ, Ok, subst}
use Rattle.std.proofs.lemmas.Result.{IfOk-weaker}
use Rattle.json_fields.specs.Answer.{IsOnly}
use Rattle.table_config.specs.Config.{ReadsConfig}
use Rattle.table_run.specs.Runs.{NoConfig, outside_of}
use Rattle.table_run.proofs.RunLemmas.{store_checked}
use Rattle.table_run.proofs.run.checked.Goals as goal

pub returns-in-Ok-read_table_config-clause-line : goal.returns-in-Ok-read_table_config-clause-line
returns-in-Ok-read_table_config-clause-line g c =
    let old = outside_of (g.K.Desk.seen c.args.desk.now) (g.R.RowStore.seen c.args.rows.now) in
    let new = outside_of (g.K.Desk.seen c.read_text.new.self) (g.R.RowStore.seen c.open_store.new.rows) in
    let reads = subst (λ (text : List ℕ). IsOnly (ReadsConfig text) (Ok c.in-Ok-read_table_config.config)) c.as_slice.ensures c.in-Ok-read_table_config.ensures.read in
    IfOk-weaker c.open_store.result _ _
    (λ line is. store_checked c.args.config.now line c.in-Ok-read_table_config.config old new (record { text = c.in-Ok.text; under = c.in-Ok.ensures.text; reads = reads }) is) c.open_store.ensures.line

pub returns-clause-line : goal.returns-clause-line
returns-clause-line g c =
    IfOk-weaker c.refused.result _ _
    (λ line is. NoConfig c.in-Err.fault (record { text = c.in-Ok.text; under = c.in-Ok.ensures.text; reads = subst (λ (text : List ℕ). IsOnly (ReadsConfig text) (Err c.in-Err.fault)) c.as_slice.ensures (c.in-Err.ensures.refused is.0) }) is.1) c.refused.ensures
