use Rattle.std.proofs.Common.{sym, subst}
use Rattle.outside.specs.declared.status.Status.{Status}
use Rattle.book_rules.specs.Starts.{KeepsDock, RefusedFor}
use Rattle.book_parts.proofs.Planning.{plans_fit}
use Rattle.book_parts.proofs.Starting.{opens, refused_open}
use Rattle.book_parts.proofs.start.open_load.Goals as goal

pub open_load-requires : goal.open_load-requires
open_load-requires g c = c.in_ok-plan.ensures.ok.own_ids

pub new-requires-clause-plan : goal.new-requires-clause-plan
new-requires-clause-plan g c = plans_fit _ _ _ c.in_ok-plan.ensures.ok.plans

pub returns-in-Ok-clause-ok : goal.returns-in-Ok-clause-ok
returns-in-Ok-clause-ok g c =
    let e = c.in-Ok.ensures in
    opens c.args.catalog (g.D.Dock.seen c.args.dock.now) (g.D.Dock.seen c.plan_load.new.dock) (g.D.Dock.seen c.open_load.new.self) c.in_ok-plan.plan c.in-Ok.load c.new.result c.in_ok-plan.ensures.ok e.grew e.events e.face e.rows_read e.counts c.new.ensures

pub returns-in-Err-clause-refused : goal.returns-in-Err-clause-refused
returns-in-Err-clause-refused g c =
    let e = c.in-Err.ensures in
    subst (λ (stop : Status). RefusedFor stop c.args.catalog (g.D.Dock.seen c.args.dock.now) (g.D.Dock.seen c.open_load.new.self) × KeepsDock (g.D.Dock.seen c.args.dock.now) (g.D.Dock.seen c.open_load.new.self)) (sym c.store_status.ensures)
    (refused_open c.in-Err.why c.args.catalog (g.D.Dock.seen c.args.dock.now) (g.D.Dock.seen c.plan_load.new.dock) (g.D.Dock.seen c.open_load.new.self) c.in_ok-plan.plan c.in_ok-plan.ensures.ok e.grew e.events e.face e.rows_read e.faults e.counts)
