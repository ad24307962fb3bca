use Rattle.std.proofs.Common.{◌∙◌, List, ℕ, subst}
use Rattle.table_source.specs.Discovered.{spec_line}
use Rattle.table_run.specs.Runs.{MaySayOne, RunsAs, outside_of}
use Rattle.table_run.proofs.RunLemmas.{no_memory}
use Rattle.table_run.proofs.run.run_spec.Goals as goal

pub returns-in-Ok-clause-runs : goal.returns-in-Ok-clause-runs
returns-in-Ok-clause-runs g c =
    λ rows. subst (λ (line : List ℕ). RunsAs c.say_answer.result (λ opened failed. MaySayOne line) (outside_of (g.K.Desk.seen c.args.desk.now) rows) (outside_of (g.K.Desk.seen c.say_answer.new.desk) rows))
    (c.as_slice.ensures ∙ c.in-Ok.ensures) (c.say_answer.ensures.runs rows)

pub returns-in-Err-clause-runs : goal.returns-in-Err-clause-runs
returns-in-Err-clause-runs g c = λ rows. no_memory (λ opened failed. MaySayOne spec_line) (outside_of (g.K.Desk.seen c.args.desk.now) rows)
