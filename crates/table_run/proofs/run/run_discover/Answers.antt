use Rattle.std.proofs.Common.{Err, List, ℕ, subst, sym}
use Rattle.outside.specs.declared.status.Status.{Status}
use Rattle.table_run.specs.Runs.{MayDiscover, MayDiscoverBy, RunsAs, outside_of}
use Rattle.table_run.proofs.RunLemmas.{discovered_behind, not_read, read_where}
use Rattle.table_run.proofs.run.run_discover.Goals as goal

pub returns-in-Ok-clause-runs : goal.returns-in-Ok-clause-runs
returns-in-Ok-clause-runs g c =
    λ rows. discovered_behind c.discover_by.result c.args.config.now c.in-Ok.text (g.K.Desk.seen c.args.desk.now) (g.K.Desk.seen c.read_text.new.self) (g.K.Desk.seen c.discover_by.new.desk) rows
    (read_where _ ⊥ (g.K.Desk.seen c.args.desk.now) (g.K.Desk.seen c.read_text.new.self) (λ none. absurd none) (record { faults = c.in-Ok.ensures.faults; others = c.in-Ok.ensures.others })) c.in-Ok.ensures.text
    (subst (λ (text : List ℕ). RunsAs c.discover_by.result (λ opened failed. MayDiscover text) (outside_of (g.K.Desk.seen c.read_text.new.self) rows) (outside_of (g.K.Desk.seen c.discover_by.new.desk) rows)) c.as_slice.ensures (c.discover_by.ensures.runs rows))

pub returns-in-Err-clause-runs : goal.returns-in-Err-clause-runs
returns-in-Err-clause-runs g c =
    λ rows. subst (λ (why : Status). RunsAs why (λ opened failed. MayDiscoverBy (g.K.Desk.seen c.args.desk.now).texts c.args.config.now) (outside_of (g.K.Desk.seen c.args.desk.now) rows) (outside_of (g.K.Desk.seen c.read_text.new.self) rows))
    (sym c.read_fault.ensures)
    (not_read c.in-Err.fault (λ opened failed. MayDiscoverBy (g.K.Desk.seen c.args.desk.now).texts c.args.config.now) _ (g.K.Desk.seen c.args.desk.now) (g.K.Desk.seen c.read_text.new.self) rows (λ e. λ k. Err (e k))
    (record { faults = c.in-Err.ensures.faults; others = c.in-Err.ensures.others }))
