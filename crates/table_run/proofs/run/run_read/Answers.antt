use Rattle.std.proofs.Common.{List, ℕ, Err, Ok, subst}
use Rattle.json_fields.specs.Answer.{IsOnly}
use Rattle.table_config.specs.Config.{ReadsConfig}
use Rattle.table_run.specs.Runs.{MayReadTables, outside_of}
use Rattle.table_run.proofs.RunLemmas.{no_config, read_run}
use Rattle.table_run.proofs.run.run_read.Goals as goal

pub returns-in-Ok-clause-runs : goal.returns-in-Ok-clause-runs
returns-in-Ok-clause-runs g c =
    read_run c.say_tables.result.status c.args.given.now (g.R.RowStore.seen c.args.rows).rows c.args.now_ms c.in-Ok.config (outside_of (g.K.Desk.seen c.args.desk.now) (g.R.RowStore.seen c.args.rows))
    (outside_of (g.K.Desk.seen c.say_tables.new.desk) (g.R.RowStore.seen c.say_tables.result.rows))
    (subst (λ (text : List ℕ). IsOnly (ReadsConfig text) (Ok c.in-Ok.config)) c.as_slice.ensures c.in-Ok.ensures.read) c.say_tables.ensures.runs

pub returns-in-Err-clause-runs : goal.returns-in-Err-clause-runs
returns-in-Err-clause-runs g c =
    no_config c.from.result c.in-Err.fault c.args.given.now.config (λ config. MayReadTables (g.R.RowStore.seen c.args.rows).rows c.args.now_ms config c.args.given.now.catalog c.args.given.now.states)
    (outside_of (g.K.Desk.seen c.args.desk.now) (g.R.RowStore.seen c.args.rows)) c.from.ensures
    (λ other. subst (λ (text : List ℕ). IsOnly (ReadsConfig text) (Err c.in-Err.fault)) c.as_slice.ensures (c.in-Err.ensures.refused other))
