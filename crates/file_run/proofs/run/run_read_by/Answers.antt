use Rattle.std.proofs.Common.{option_copied}
use Rattle.file_run.specs.Runs.{MayRead, MayReadBy}
use Rattle.file_run.proofs.RunLemmas.{err_of_fault, not_read_by, runs_behind}
use Rattle.file_run.proofs.run.run_read_by.Goals as goal

pub returns-in-Ok-clause-runs : goal.returns-in-Ok-clause-runs
returns-in-Ok-clause-runs g c =
    runs_behind c.run_read.result _ (λ failed by_name. MayReadBy by_name c.args.now_ms c.args.config.now c.args.catalog.now (option_copied c.args.state)) (λ failed by_name. MayRead by_name c.args.now_ms c.in-Ok.given) (g.K.Desk.seen c.args.desk.now) (g.K.Desk.seen c.read_given.new.desk) (g.K.Desk.seen c.run_read.new.desk)
    c.in-Ok.ensures.only (λ told may. (c.in-Ok.given, c.in-Ok.ensures.texts, may)) c.run_read.ensures.runs

pub returns-in-Err-clause-runs : goal.returns-in-Err-clause-runs
returns-in-Err-clause-runs g c =
    not_read_by c.in-Err.fault c.read_fault.result (λ failed by_name. MayReadBy by_name c.args.now_ms c.args.config.now c.args.catalog.now (option_copied c.args.state)) _ (g.K.Desk.seen c.args.desk.now) (g.K.Desk.seen c.read_given.new.desk) c.read_fault.ensures (λ e. err_of_fault e) c.in-Err.ensures.only
