use Rattle.file_run.proofs.WholeLemmas.{complete, no_words, usage_as, whole_of}
use Rattle.file_run.proofs.run.run_source.Goals as goal

pub returns-in-Some-Check-clause-complete : goal.returns-in-Some-Check-clause-complete
returns-in-Some-Check-clause-complete g c =
    let e = rw c.in-Some-Check.field-0-is at c.in-Some-Check.ensures in
    complete c.args.now_ms _ c.run_check.result (g.K.Desk.seen c.args.desk.now) (g.K.Desk.seen c.run_check.new.desk) (whole_of c.args.now_ms _ _ c.run_check.result (g.K.Desk.seen c.args.desk.now) (g.K.Desk.seen c.run_check.new.desk) e c.run_check.ensures.runs)

pub returns-in-Some-Discover-clause-usage : goal.returns-in-Some-Discover-clause-usage
returns-in-Some-Discover-clause-usage g c =
    let e = rw c.in-Some-Discover.field-0-is at c.in-Some-Discover.ensures in
    usage_as c.args.now_ms _ _ c.run_discover.result (g.K.Desk.seen c.args.desk.now) (g.K.Desk.seen c.run_discover.new.desk) e c.run_discover.ensures.runs

pub returns-in-Some-Discover-clause-complete : goal.returns-in-Some-Discover-clause-complete
returns-in-Some-Discover-clause-complete g c =
    let e = rw c.in-Some-Discover.field-0-is at c.in-Some-Discover.ensures in
    complete c.args.now_ms _ c.run_discover.result (g.K.Desk.seen c.args.desk.now) (g.K.Desk.seen c.run_discover.new.desk) (whole_of c.args.now_ms _ _ c.run_discover.result (g.K.Desk.seen c.args.desk.now) (g.K.Desk.seen c.run_discover.new.desk) e c.run_discover.ensures.runs)

pub returns-in-Some-Read-clause-usage : goal.returns-in-Some-Read-clause-usage
returns-in-Some-Read-clause-usage g c =
    let e = rw c.in-Some-Read.field-0-is at c.in-Some-Read.ensures in
    usage_as c.args.now_ms _ _ c.run_read_by.result (g.K.Desk.seen c.args.desk.now) (g.K.Desk.seen c.run_read_by.new.desk) e c.run_read_by.ensures.runs

pub returns-in-Some-Read-clause-complete : goal.returns-in-Some-Read-clause-complete
returns-in-Some-Read-clause-complete g c =
    let e = rw c.in-Some-Read.field-0-is at c.in-Some-Read.ensures in
    complete c.args.now_ms _ c.run_read_by.result (g.K.Desk.seen c.args.desk.now) (g.K.Desk.seen c.run_read_by.new.desk) (whole_of c.args.now_ms _ _ c.run_read_by.result (g.K.Desk.seen c.args.desk.now) (g.K.Desk.seen c.run_read_by.new.desk) e c.run_read_by.ensures.runs)

pub returns-in-None-clause-runs : goal.returns-in-None-clause-runs
returns-in-None-clause-runs g c = no_words c.args.now_ms _ (g.K.Desk.seen c.args.desk.now) c.in-None.ensures
