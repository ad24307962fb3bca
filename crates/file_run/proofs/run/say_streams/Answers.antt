use Rattle.std.proofs.Common.{List, ℕ, Result, subst, sym}
use Rattle.outside.specs.declared.status.Status.{Status}
use Rattle.file_source.specs.Discovered.{discover_line}
use Rattle.file_run.specs.Runs.{MaySayOne, MaySayStreams, streams_in}
use Rattle.file_run.proofs.RunLemmas.{runs_so}
use Rattle.file_run.proofs.WholeLemmas.{streams_not_said}
use Rattle.file_run.proofs.run.say_streams.Goals as goal

pub returns-in-Ok-clause-runs : goal.returns-in-Ok-clause-runs
returns-in-Ok-clause-runs g c =
    runs_so c.say_discovered.result (λ failed by_name. MaySayStreams (streams_in c.args.files.now)) (λ failed by_name. MaySayOne (discover_line c.in-Ok.texts)) (g.K.Desk.seen c.args.desk.now) (g.K.Desk.seen c.say_discovered.new.desk)
    (λ told may. subst (λ (r : Result (List (List ℕ)) Status). MaySayStreams r told) (sym c.in-Ok.ensures.texts) may) c.say_discovered.ensures.runs

pub returns-in-Err-clause-runs : goal.returns-in-Err-clause-runs
returns-in-Err-clause-runs g c = streams_not_said c.in-Err.why c.args.files.now (g.K.Desk.seen c.args.desk.now) c.in-Err.ensures.refused
