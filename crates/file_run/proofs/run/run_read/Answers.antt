use Rattle.std.proofs.Common.{List, ℕ, subst}
use Rattle.file_run.specs.Runs.{Files, HasFiles, MayByConfig, MayRead, MaySayFiles, RunsAs}
use Rattle.file_run.proofs.RunLemmas.{fault_of_err, files_not_read, runs_behind}
use Rattle.file_run.proofs.run.run_read.Goals as goal

pub returns-in-Ok-clause-runs : goal.returns-in-Ok-clause-runs
returns-in-Ok-clause-runs g c =
    let old = g.K.Desk.seen c.args.desk.now in
    let has = subst (λ (t : List ℕ). HasFiles old.texts t c.in-Ok.files) c.as_slice.ensures c.in-Ok.ensures.files in
    runs_behind c.say_files.result _ (λ failed by_name. MayRead by_name c.args.now_ms c.args.given.now) (λ failed by_name. MaySayFiles c.args.now_ms c.in-Ok.files c.args.given.now) old (g.K.Desk.seen c.read_files.new.desk) (g.K.Desk.seen c.say_files.new.desk)
    c.in-Ok.ensures.only (λ told may. Files c.in-Ok.files has may) c.say_files.ensures.runs

pub returns-in-Err-clause-runs : goal.returns-in-Err-clause-runs
returns-in-Err-clause-runs g c =
    let old = g.K.Desk.seen c.args.desk.now in
    let now = g.K.Desk.seen c.read_files.new.desk in
    subst (λ (t : List ℕ). RunsAs c.in-Err.why (λ failed by_name. MayByConfig by_name t (λ files. MaySayFiles c.args.now_ms files c.args.given.now)) old now) c.as_slice.ensures
    (files_not_read c.in-Err.why c.as_slice.result.now (λ files. MaySayFiles c.args.now_ms files c.args.given.now) _ old now c.in-Err.ensures.refused c.in-Err.ensures.only (λ e. fault_of_err e))
