use Rattle.std.proofs.Common.{Err, subst, sym}
use Rattle.std.specs.Option.{option_copied}
use Rattle.outside.specs.declared.status.Status.{Status}
use Rattle.table_run.specs.Runs.{MayReadBy, RunsAs, outside_of}
use Rattle.table_run.proofs.RunLemmas.{not_read, read_behind, read_where}
use Rattle.table_run.proofs.run.run_read_by.Goals as goal

pub returns-in-Ok-clause-runs : goal.returns-in-Ok-clause-runs
returns-in-Ok-clause-runs g c =
    read_behind c.run_read.result.status c.args.config.now c.args.catalog.now (option_copied c.args.state) c.in-Ok.given (g.R.RowStore.seen c.args.rows).rows c.args.now_ms (g.K.Desk.seen c.args.desk.now) (g.K.Desk.seen c.read_given.new.desk)
    (g.K.Desk.seen c.run_read.new.desk) (g.R.RowStore.seen c.args.rows) (g.R.RowStore.seen c.run_read.result.rows)
    (read_where _ ⊥ (g.K.Desk.seen c.args.desk.now) (g.K.Desk.seen c.read_given.new.desk) (λ none. absurd none) c.in-Ok.ensures.only) c.in-Ok.ensures.texts c.run_read.ensures.runs

pub returns-in-Err-clause-runs : goal.returns-in-Err-clause-runs
returns-in-Err-clause-runs g c =
    let texts = (g.K.Desk.seen c.args.desk.now).texts in
    let told = (g.R.RowStore.seen c.args.rows).rows in
    subst (λ (why : Status). RunsAs why (λ opened failed. MayReadBy texts told c.args.now_ms c.args.config.now c.args.catalog.now (option_copied c.args.state)) (outside_of (g.K.Desk.seen c.args.desk.now) (g.R.RowStore.seen c.args.rows))
    (outside_of (g.K.Desk.seen c.read_given.new.desk) (g.R.RowStore.seen c.args.rows))) (sym c.read_fault.ensures)
    (not_read c.in-Err.fault (λ opened failed. MayReadBy texts told c.args.now_ms c.args.config.now c.args.catalog.now (option_copied c.args.state)) _ (g.K.Desk.seen c.args.desk.now) (g.K.Desk.seen c.read_given.new.desk) (g.R.RowStore.seen c.args.rows)
    (λ e. λ k. Err (e k)) c.in-Err.ensures.only)
