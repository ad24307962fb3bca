use Rattle.std.proofs.Common.{List, subst}
use Rattle.file_source.specs.declared.source.FileText.{FileText}
use Rattle.file_run.specs.Runs.{Files, MayDiscover, MaySayStreams, RunsAs, streams_in}
use Rattle.file_run.proofs.RunLemmas.{fault_of_err, files_not_read, runs_behind}
use Rattle.file_run.proofs.run.discover_by.Goals as goal

pub returns-in-Ok-clause-runs : goal.returns-in-Ok-clause-runs
returns-in-Ok-clause-runs g c =
    let mid = g.K.Desk.seen c.read_files.new.desk in
    let now = g.K.Desk.seen c.say_streams.new.desk in
    let runs = subst (λ (fs : List FileText). RunsAs c.say_streams.result (λ failed by_name. MaySayStreams (streams_in fs)) mid now) c.as_slice.ensures c.say_streams.ensures.runs in
    runs_behind c.say_streams.result _ (λ failed by_name. MayDiscover by_name c.args.text.now) (λ failed by_name. MaySayStreams (streams_in c.in-Ok.files)) (g.K.Desk.seen c.args.desk.now) mid now c.in-Ok.ensures.only
    (λ told may. Files c.in-Ok.files c.in-Ok.ensures.files may) runs

pub returns-in-Err-clause-runs : goal.returns-in-Err-clause-runs
returns-in-Err-clause-runs g c =
    files_not_read c.in-Err.why c.args.text.now (λ files. MaySayStreams (streams_in files)) _ (g.K.Desk.seen c.args.desk.now) (g.K.Desk.seen c.read_files.new.desk) c.in-Err.ensures.refused c.in-Err.ensures.only (λ e. fault_of_err e)
