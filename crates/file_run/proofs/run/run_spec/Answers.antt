use Rattle.file_source.specs.Discovered.{spec_line}
use Rattle.file_run.specs.Runs.{MaySayOne}
use Rattle.file_run.proofs.RunLemmas.{no_memory}
use Rattle.file_run.proofs.run.run_spec.Goals as goal

pub returns-in-Err-clause-runs : goal.returns-in-Err-clause-runs
returns-in-Err-clause-runs g c = no_memory (λ failed by_name. MaySayOne spec_line) (g.K.Desk.seen c.args.desk.now)
