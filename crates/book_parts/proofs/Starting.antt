-- A load is opened, or not.
use Rattle.std.proofs.Common.{arith, ◌≡◌, ◌⊎◌, inl, inr, ℕ, ◌≤◌, List, refl, sym, ◌∙◌, ap, subst, Option, Err}
use Rattle.std.specs.Prelude.{IsErrOf}
use Rattle.basics.specs.Told.{Rose, RoseIf}
use Rattle.outside.specs.Dock.{AddsOpened, DockFace, DockGrew, DockSeen, OpenAdds, OpenedAs, OpensFace, dock_events}
use Rattle.outside.specs.declared.dock.DockTally.{DockTally}
use Rattle.outside.specs.declared.event.Event.{Event}
use Rattle.outside.specs.declared.event.StreamPlan.{StreamPlan}
use Rattle.outside.specs.declared.fault.Fault.{Fault}
use Rattle.outside.specs.declared.fault.Fault.TheVariants as fault
use Rattle.outside.specs.declared.load.Load.{Load}
use Rattle.outside.proofs.DockLaws.{dock_grew_trans}
use Rattle.catalog.specs.declared.stream.ConfStream.{ConfStream}
use Rattle.book_rules.specs.Starts.{KeepsDock, OpenedFor, RefusedFor}
use Rattle.book_parts.specs.Opened.{OpenedView}
use Rattle.book_parts.specs.Starting.{Opens, PlansLoad, store_stop}

-- counts of the store's faults alone
counts_on : (old mid new : DockTally) → mid ≡ record old { store_faults = mid.store_faults } → new ≡ record mid { store_faults = new.store_faults } → new ≡ record old { store_faults = new.store_faults }
counts_on old mid new first second = second ∙ ap (λ (one : DockTally). record one { store_faults = new.store_faults }) first

pub opens : (streams : List ConfStream) (old mid new : DockSeen) (plan : List StreamPlan) (load : Load) (opened : OpenedView) → PlansLoad streams old mid plan → DockGrew mid new → OpenedAs load plan mid.face.moment (dock_events mid) (dock_events new) → OpensFace plan mid.face new.face → new.rows_read ≡ mid.rows_read → new.counts ≡ record (mid.counts) { store_faults = new.counts.store_faults } → opened ≡ record { catalog = streams; opening = record { load = load.load; moment = load.moment; plan = plan } } → Opens streams old new opened
opens streams old mid new plan load opened plans grew opened_as face rows_read counts is =
    let from_mid : OpenedAs load plan old.face.moment (dock_events mid) (dock_events new) = subst (λ (one : DockFace). OpenedAs load plan one.moment (dock_events mid) (dock_events new)) plans.keeps.face opened_as in
    let from_old : OpenedAs load plan old.face.moment (dock_events old) (dock_events new) = subst (λ (one : Option (List Event)). OpenedAs load plan old.face.moment one (dock_events new)) plans.same from_mid in
    let here : Opens streams old new (record { catalog = streams; opening = record { load = load.load; moment = load.moment; plan = plan } }) = record {
      catalog_is = refl;
      marks = plans.marks;
      marks_are = plans.marks_are;
      plans = plans.plans;
      opened_as = from_old;
      face = subst (λ (one : DockFace). OpensFace plan one new.face) plans.keeps.face face;
      grew = dock_grew_trans old mid new plans.keeps.grew grew;
      rows_read = rows_read ∙ plans.keeps.rows_read;
      counts = counts_on old.counts mid.counts new.counts plans.keeps.counts counts;
    } in
    subst (λ (one : OpenedView). Opens streams old new one) (sym is) here

rose_from : (low mid high : ℕ) → low ≤ mid → Rose mid high → Rose low high
rose_from low mid high kept rose = omega (arith, kept, rose)

failed_by : (streams : List ConfStream) (old mid new : DockSeen) (plan : List StreamPlan) → PlansLoad streams old mid plan → (dock_events new ≡ dock_events mid) ⊎ AddsOpened plan mid.face.moment (dock_events mid) (dock_events new) → (dock_events new ≡ dock_events old) ⊎ OpenedFor streams old new
failed_by streams old mid new plan plans (inl same) = inl (same ∙ plans.same)
failed_by streams old mid new plan plans (inr adds) =
    let from_mid : AddsOpened plan old.face.moment (dock_events mid) (dock_events new) = subst (λ (one : DockFace). AddsOpened plan one.moment (dock_events mid) (dock_events new)) plans.keeps.face adds in
    inr (record {
      marks = plans.marks;
      marks_are = plans.marks_are;
      plan = plan;
      plans = plans.plans;
      added = subst (λ (one : Option (List Event)). AddsOpened plan old.face.moment one (dock_events new)) plans.same from_mid;
    })

refused_for : (why : Fault) (streams : List ConfStream) (old mid new : DockSeen) (plan : List StreamPlan) → PlansLoad streams old mid plan → OpenAdds (Err why) plan mid.face.moment (dock_events mid) (dock_events new) → RoseIf (IsErrOf {T = Load} {E = Fault} (Err why) fault.Failed) mid.counts.store_faults new.counts.store_faults → RefusedFor (store_stop why) streams old new
refused_for fault.Failed streams old mid new plan plans adds rose = (rose_from old.counts.store_faults mid.counts.store_faults new.counts.store_faults plans.keeps.grew.counts.store_faults (rose.rose refl), failed_by streams old mid new plan plans adds)
refused_for fault.NoMemory streams old mid new plan plans adds rose = adds ∙ plans.same

pub refused_open : (why : Fault) (streams : List ConfStream) (old mid new : DockSeen) (plan : List StreamPlan) → PlansLoad streams old mid plan → DockGrew mid new → OpenAdds (Err why) plan mid.face.moment (dock_events mid) (dock_events new) → new.face ≡ mid.face → new.rows_read ≡ mid.rows_read → RoseIf (IsErrOf {T = Load} {E = Fault} (Err why) fault.Failed) mid.counts.store_faults new.counts.store_faults → new.counts ≡ record (mid.counts) { store_faults = new.counts.store_faults } → RefusedFor (store_stop why) streams old new × KeepsDock old new
refused_open why streams old mid new plan plans grew adds face rows_read rose counts = (
  refused_for why streams old mid new plan plans adds rose,
  record {
    grew = dock_grew_trans old mid new plans.keeps.grew grew;
    face = face ∙ plans.keeps.face;
    rows_read = rows_read ∙ plans.keeps.rows_read;
    counts = counts_on old.counts mid.counts new.counts plans.keeps.counts counts;
  },
)
