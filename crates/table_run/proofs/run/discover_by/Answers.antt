use Rattle.std.proofs.Common.{◌∙◌}
use Rattle.table_source.specs.Discovered.{discover_line}
use Rattle.table_run.specs.Runs.{MayDiscover, MaySayOne, outside_of}
use Rattle.table_run.proofs.RunLemmas.{discovered_run, no_config, no_memory}
use Rattle.table_run.proofs.run.discover_by.Goals as goal

pub returns-in-Err-clause-runs : goal.returns-in-Err-clause-runs
returns-in-Err-clause-runs g c =
    λ rows. no_config c.from.result c.in-Err.fault c.args.text.now (λ config. MaySayOne (discover_line config)) (outside_of (g.K.Desk.seen c.args.desk.now) rows) c.from.ensures c.in-Err.ensures.refused

pub returns-in-Ok-discovered-clause-runs : goal.returns-in-Ok-discovered-clause-runs
returns-in-Ok-discovered-clause-runs g c =
    λ rows. discovered_run c.say_answer.result c.args.text.now c.as_slice.result.now c.in-Ok.config (outside_of (g.K.Desk.seen c.args.desk.now) rows) (outside_of (g.K.Desk.seen c.say_answer.new.desk) rows)
    c.in-Ok.ensures.read (c.as_slice.ensures ∙ c.in-Ok-discovered.ensures) (c.say_answer.ensures.runs rows)

pub returns-clause-runs : goal.returns-clause-runs
returns-clause-runs g c = λ rows. no_memory (λ opened failed. MayDiscover c.args.text.now) (outside_of (g.K.Desk.seen c.args.desk.now) rows)
