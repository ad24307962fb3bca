use Rattle.std.proofs.Common.{List, ℕ, subst}
use Rattle.file_run.specs.Runs.{MayDiscover, MayDiscoverBy, RunsAs}
use Rattle.file_run.proofs.RunLemmas.{err_of_fault, not_read_by, runs_behind}
use Rattle.file_run.proofs.run.run_discover.Goals as goal

pub returns-in-Ok-clause-runs : goal.returns-in-Ok-clause-runs
returns-in-Ok-clause-runs g c =
    let mid = g.K.Desk.seen c.read_text.new.self in
    let now = g.K.Desk.seen c.discover_by.new.desk in
    let runs = subst (λ (t : List ℕ). RunsAs c.discover_by.result (λ failed by_name. MayDiscover by_name t) mid now) c.as_slice.ensures c.discover_by.ensures.runs in
    runs_behind c.discover_by.result _ (λ failed by_name. MayDiscoverBy by_name c.args.config.now) (λ failed by_name. MayDiscover by_name c.in-Ok.text) (g.K.Desk.seen c.args.desk.now) mid now
    (record { faults = c.in-Ok.ensures.faults; others = c.in-Ok.ensures.others }) (λ told may. (c.in-Ok.text, c.in-Ok.ensures.text, may)) runs

pub returns-in-Err-clause-runs : goal.returns-in-Err-clause-runs
returns-in-Err-clause-runs g c =
    not_read_by c.in-Err.fault c.read_fault.result (λ failed by_name. MayDiscoverBy by_name c.args.config.now) _ (g.K.Desk.seen c.args.desk.now) (g.K.Desk.seen c.read_text.new.self) c.read_fault.ensures (λ e. err_of_fault e)
    (record { faults = c.in-Err.ensures.faults; others = c.in-Err.ensures.others })
