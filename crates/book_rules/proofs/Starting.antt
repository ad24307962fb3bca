-- A book that is started, and a start that is refused.
use Rattle.std.proofs.Common.{arith, ◌≡◌, ◌⊎◌, inl, inr, ℕ, ◌+◌, ◌<◌, List, [], ◌∷◌, ◌++◌, length, Option, None, Some, true, false, refl, sym, ◌∙◌, ap, subst}
use Rattle.std.specs.Prelude.{IfSome, map, nat_lt, replicate, slice_get}
use Rattle.std.specs.List.{AllByRecursion}
use Rattle.std.proofs.lemmas.List.{length-replicate, get_or-replicate}
use Rattle.std.proofs.lemmas.List.Sums.{fold-append}
use Rattle.std.proofs.lemmas.Option.{slice_get_within, slice_get-get_or}
use Rattle.basics.specs.Told.{told_by}
use Rattle.basics.specs.declared.stream.StreamId.{StreamId}
use Rattle.catalog.specs.Configured.{AreConfigured}
use Rattle.catalog.specs.Reading.{ids_of}
use Rattle.catalog.specs.declared.stream.ConfStream.{ConfStream}
use Rattle.airbyte_message.specs.declared.stream_status.StreamStatus.{StreamStatus}
use Rattle.outside.specs.Dock.{DockSeen, OpenedAs, dock_events, opening as opening_event, tables, took_over_after}
use Rattle.outside.specs.Limits.{AreLimits}
use Rattle.outside.specs.Tables.{marks_in, tables_of}
use Rattle.outside.specs.declared.event.Event.{Event}
use Rattle.outside.specs.declared.event.Event.TheVariants.{Opened}
use Rattle.outside.specs.declared.event.StreamPlan.{StreamPlan}
use Rattle.outside.specs.declared.load.Limits.{Limits}
use Rattle.outside.specs.declared.load.Marks.{Marks}
use Rattle.outside.specs.declared.table.Tables.{Tables}
use Rattle.dedup_merge.proofs.FitLemmas.{tables_next}
use Rattle.outside.specs.declared.status.Status.{Status}
use Rattle.outside.specs.declared.status.Status.TheVariants as status
use Rattle.state_gate.specs.Content.{nothing_for}
use Rattle.state_gate.specs.Views.{GateView, Stands}
use Rattle.load_rules.specs.Bounded.{IsBounded}
use Rattle.load_rules.specs.Engine.{PlansFit}
use Rattle.load_rules.specs.Lines.{Reading}
use Rattle.load_rules.specs.Loads.{Opening, loads}
use Rattle.load_rules.specs.Machine.{start}
use Rattle.load_rules.specs.Stores.{HidesRight, OpenedFits}
use Rattle.load_rules.proofs.LoadFronts.{loads-append, opening_is_safe}
use Rattle.book_rules.specs.Books.{IsBook, KeepsSafeOf, OwnLoadIsSafe, StaySafe, Tells}
use Rattle.book_rules.specs.Laws.{RefusedKeeps, StartsBegin}
use Rattle.book_rules.specs.Starts.{AreMarks, RefusedBy, ArePlansOf, OpenedFor, RefusedFor, Starts}
use Rattle.book_rules.specs.Views.{BookView, HasPlans, plans_now}
use Rattle.book_rules.proofs.Lists.{length_of_map, some_is}
use Rattle.book_rules.proofs.Planned.{own_ids, plans_long, plans_none}
use Rattle.book_rules.proofs.Running.{PlansAre, StayRun, in_tables, of_tables, run_one}
use Rattle.book_rules.proofs.Safe.{own_is_safe}
use Rattle.book_rules.proofs.Whole.{IsWhole, book_of_whole}

plans_fit : (marks : List Marks) (streams : List ConfStream) (plans : List StreamPlan) → ArePlansOf marks streams plans → PlansFit streams plans
plans_fit [] [] [] are = tt
plans_fit (mark ∷ marks) (stream ∷ streams) (plan ∷ plans) are = (are.0.fits, plans_fit marks streams plans are.1)
plans_fit _ _ _ are = absurd are

-- a load that is opened, in the trace

opened_loads : (trace : List Event) (load moment : ℕ) (plan : List StreamPlan) → loads (trace ++ Opened load moment plan ∷ []) ≡ record { opening = record { load = load; moment = moment; plan = plan }; events = [] } ∷ loads trace
opened_loads trace load moment plan = loads-append trace (Opened load moment plan ∷ [])

tells_opened : (opening : Opening) (trace : List Event) → opening.load ≡ (tables_of trace).load + 1 → Tells opening [] [] (trace ++ Opened ((tables_of trace).load + 1) opening.moment opening.plan ∷ [])
tells_opened opening trace number = record {
  load = record { opening = record { load = (tables_of trace).load + 1; moment = opening.moment; plan = opening.plan }; events = [] };
  older = loads trace;
  last = opened_loads trace ((tables_of trace).load + 1) opening.moment opening.plan;
  opened = ap (λ (n : ℕ). record { load = n; moment = opening.moment; plan = opening.plan }) (sym number);
  over = fold-append took_over_after true trace (Opened ((tables_of trace).load + 1) opening.moment opening.plan ∷ []);
  acts_are = λ read reads. tt;
}

told_opened : (opening : Opening) (fixed : Option ℕ) (before now : Option (List Event)) → OpenedAs (record { load = opening.load; moment = opening.moment }) opening.plan fixed before now → IfSome now (Tells opening [] [])
told_opened opening fixed None now o = subst (λ (it : Option (List Event)). IfSome it (Tells opening [] [])) (sym o.added) tt
told_opened opening fixed (Some trace) now o = subst (λ (it : Option (List Event)). IfSome it (Tells opening [] [])) (sym o.added) (tells_opened opening trace o.number)

-- the book that is new

abbrev absent : Option StreamStatus
absent = None

none_status : (n number : ℕ) → number < n → slice_get (replicate n (absent)) number ≡ Some absent
none_status n number lt =
    let long = length-replicate n absent in
    slice_get-get_or (replicate n absent) number absent (omega (arith, long, lt)) ∙ ap (λ (it : Option StreamStatus). Some it) (get_or-replicate n number absent absent lt)

abbrev fresh_book : List ConfStream → Limits → DockSeen → Opening → GateView → BookView
fresh_book streams limits seen opening gate = record {
  seen = seen;
  catalog = streams;
  opening = opening;
  gate = gate;
  queue = record { held = []; parked = None; streams = length streams; slots = limits.slots; bytes = limits.bytes; batch = limits.batch; next = 0; next_batch = 0 };
  tally = record { lines = 0; emitted = 0; lanes = None; is_ended = false; broken = None };
  statuses = replicate (length streams) None;
  shown = replicate (length streams) false;
  limits = limits;
}

ids_long : (streams : List ConfStream) → length (ids_of streams) ≡ length streams
ids_long streams = length_of_map (λ (stream : ConfStream). stream.id) streams

number_low : (streams : List ConfStream) (number : ℕ) (id : StreamId) → slice_get (ids_of streams) number ≡ Some id → number < length streams
number_low streams number id named = let lt = slice_get_within (ids_of streams) number id named in let long = ids_long streams in omega (arith, lt, long)

fresh_whole : (streams : List ConfStream) (limits : Limits) (seen : DockSeen) (opening : Opening) (gate : GateView) → Stands (nothing_for (length streams)) gate → gate.streams ≡ length streams → gate.next ≡ 0 → gate.states ≡ 0 → IfSome (dock_events seen) (Tells opening [] []) → IsWhole (fresh_book streams limits seen opening gate) start
fresh_whole streams limits seen opening gate stands streams_is next states told = record {
  ran = record { steps = []; runs = refl; safe = tt; bounded = tt; good = tt; unused_are = tt; told = told };
  tallied = record { lines = refl; most = omega arith; records = next; lanes = refl; emitted = refl; ended = refl };
  holds = record {
    content = nothing_for (length streams);
    gate = stands;
    uncommitted = refl;
    waiting = tt;
    as_many = length-replicate (length streams) 0 ∙ sym (ids_long streams);
    since_own = λ number id named. get_or-replicate (length streams) number 0 0 (number_low streams number id named);
    since_all = refl;
    gate_streams = streams_is ∙ sym (ids_long streams);
    gate_next = next;
    gate_states = omega (arith, states);
    states = omega (arith, states);
    held = tt;
    queue_streams = sym (ids_long streams);
    queue_next = refl;
    room = omega arith;
    slots = refl;
    bytes = refl;
    batch = refl;
    fresh = tt;
    parked = tt;
    alike = λ number. record { stream = 0; all = tt };
    few = omega arith;
    statuses_many = length-replicate (length streams) absent ∙ sym (ids_long streams);
    statuses = λ number id named. none_status (length streams) number (number_low streams number id named);
  };
  whole = refl;
}

fresh_is_book : (streams : List ConfStream) (limits : Limits) (seen : DockSeen) (opening : Opening) (gate : GateView) → AreConfigured streams → AreLimits limits → PlansFit streams opening.plan → length seen.face.side_marks ≡ length streams → IfSome (tables seen) (HasPlans (fresh_book streams limits seen opening gate)) → IsWhole (fresh_book streams limits seen opening gate) start → IsBook (fresh_book streams limits seen opening gate)
fresh_is_book streams limits seen opening gate configured limits_are planned as_many plans w = record { configured = configured; planned = planned; as_many = as_many; listed = length-replicate (length streams) false; queue_streams = refl; limits_are = limits_are; slots = refl; bytes = refl; batch = refl; parked_small = tt; plans = λ none. plans; machine = start; is = book_of_whole (fresh_book streams limits seen opening gate) start w refl }

-- the store's load has the plans that it was opened with

told_plans : (streams : ℕ) (opening : Opening) (fixed : Option ℕ) (before now : Option (List Event)) → OpenedAs (record { load = opening.load; moment = opening.moment }) opening.plan fixed before now → PlansAre (plans_now opening.plan (replicate streams false)) now
told_plans streams opening fixed None now o = subst (PlansAre (plans_now opening.plan (replicate streams false))) (sym o.added) tt
told_plans streams opening fixed (Some trace) now o =
    subst (PlansAre (plans_now opening.plan (replicate streams false))) (sym o.added) (ap (λ (store : Tables). store.plan) (tables_next trace (Opened ((tables_of trace).load + 1) opening.moment opening.plan)) ∙ sym (plans_none opening.plan streams))

-- A load that is opened fits behind a trace: its plans are the catalog's, and hide by the marks that stand.

hides_right : (trace : List Event) (marks : List Marks) (streams : List ConfStream) (plans : List StreamPlan) → marks ≡ map (marks_in (tables_of trace)) (ids_of streams) → ArePlansOf marks streams plans → AllByRecursion (HidesRight trace) plans
hides_right trace [] [] [] same are = tt
hides_right trace (mark ∷ marks) (stream ∷ streams) (plan ∷ plans) same are = (
  are.0.hidden ∙ ap (λ (it : Marks). nat_lt it.floor plan.minimum) (first_mark mark marks (marks_in (tables_of trace) stream.id) (map (marks_in (tables_of trace)) (ids_of streams)) same ∙ ap (marks_in (tables_of trace)) (sym are.0.fits.id)),
  hides_right trace marks streams plans (rest_marks mark marks (marks_in (tables_of trace) stream.id) (map (marks_in (tables_of trace)) (ids_of streams)) same) are.1,
)
  where
    first_mark : (a : Marks) (xs : List Marks) (b : Marks) (ys : List Marks) → a ∷ xs ≡ b ∷ ys → a ≡ b
    first_mark a xs b ys e = cc

    rest_marks : (a : Marks) (xs : List Marks) (b : Marks) (ys : List Marks) → a ∷ xs ≡ b ∷ ys → xs ≡ ys
    rest_marks a xs b ys e = cc
hides_right trace _ _ _ same are = absurd are

opened_fits : (trace : List Event) (marks : List Marks) (streams : List ConfStream) (plans : List StreamPlan) → AreConfigured streams → marks ≡ map (marks_in (tables_of trace)) (ids_of streams) → ArePlansOf marks streams plans → OpenedFits trace ((tables_of trace).load + 1) plans
opened_fits trace marks streams plans configured same are = record {
  later = omega arith;
  own = own_ids streams plans (plans_fit marks streams plans are) configured.distinct;
  hidden = hides_right trace marks streams plans same are;
}

-- An opening keeps a trace as it was in all this

opens_well : (streams : List ConfStream) (most : ℕ) (read : Reading) (trace : List Event) (moment : ℕ) (marks : List Marks) (plan : List StreamPlan) → AreConfigured streams → marks ≡ map (marks_in (tables_of trace)) (ids_of streams) → ArePlansOf marks streams plan → StaySafe streams most read trace (trace ++ Opened ((tables_of trace).load + 1) moment plan ∷ [])
opens_well streams most read trace moment marks plan configured same are = record {
  safe = opening_is_safe streams read trace ((tables_of trace).load + 1) moment plan;
  bounded = λ each. subst (AllByRecursion (IsBounded most read)) (sym (opened_loads trace ((tables_of trace).load + 1) moment plan)) (tt, each);
  store = run.store;
  engine = λ loads_are. record { safe = opening_is_safe streams read trace ((tables_of trace).load + 1) moment plan loads_are.safe; store = run.store loads_are.store; fit = run.fit loads_are.fit };
}
  where
    run : StayRun streams read trace (trace ++ Opened ((tables_of trace).load + 1) moment plan ∷ [])
    run = run_one streams read trace (Opened ((tables_of trace).load + 1) moment plan) (λ before. opened_fits trace marks streams plan configured same are) (plans_fit marks streams plan are)

told_by_is : (moment : ℕ) (plan : List StreamPlan) (before now : List Event) (old new : Option (List Event)) → new ≡ told_by (opening_event moment plan) old → old ≡ Some before → new ≡ Some now → now ≡ before ++ Opened ((tables_of before).load + 1) moment plan ∷ []
told_by_is moment plan before now old new grew first second = some_is now (before ++ Opened ((tables_of before).load + 1) moment plan ∷ []) (sym second ∙ (grew ∙ ap (told_by (opening_event moment plan)) first))

opening_stays : (streams : List ConfStream) (most moment : ℕ) (marks : List Marks) (plan : List StreamPlan) (before now : DockSeen) → AreConfigured streams → AreMarks before (ids_of streams) marks → ArePlansOf marks streams plan → dock_events now ≡ told_by (opening_event moment plan) (dock_events before) → KeepsSafeOf streams most before now
opening_stays streams most moment marks plan before now configured marks_are are grew read old new first second reads =
    let store : marks ≡ map (marks_in (tables_of old)) (ids_of streams) = subst (λ (it : Option (List Event)). IfSome it (λ events. marks ≡ map (marks_in (tables_of events)) (ids_of streams))) first (of_tables (λ it. marks ≡ map (marks_in it) (ids_of streams)) (dock_events before) marks_are.told) in
    subst (StaySafe streams most read old) (sym (told_by_is moment plan old new (dock_events before) (dock_events now) grew first second)) (opens_well streams most read old moment marks plan configured store are)

nothing_opened : (streams : List ConfStream) (most : ℕ) (before now : DockSeen) → dock_events now ≡ dock_events before → KeepsSafeOf streams most before now
nothing_opened streams most before now same read old new first second reads =
    let is : new ≡ old = some_is new old (sym second ∙ (same ∙ first)) in
    subst (StaySafe streams most read old) (sym is) (record { safe = λ it. it; bounded = λ it. it; store = λ it. it; engine = λ it. it })

pub starts_begin : StartsBegin
starts_begin streams limits before book configured limits_are s =
    let fits = plans_fit s.marks streams book.opening.plan s.plans in
    let long = plans_long streams book.opening.plan fits in
    let gate_streams : book.gate.streams ≡ length streams = ap (λ (it : GateView). it.streams) s.gate_is in
    let gate_next : book.gate.next ≡ 0 = ap (λ (it : GateView). it.next) s.gate_is in
    let gate_states : book.gate.states ≡ 0 = ap (λ (it : GateView). it.states) s.gate_is in
    let told = told_opened book.opening before.face.moment (dock_events before) (dock_events book.seen) s.opened in
    let w = fresh_whole streams limits book.seen book.opening book.gate s.gate gate_streams gate_next gate_states told in
    let plans = in_tables (HasPlans (fresh_book streams limits book.seen book.opening book.gate)) (dock_events book.seen) (told_plans (length streams) book.opening before.face.moment (dock_events before) (dock_events book.seen) s.opened) in
    let fresh = fresh_is_book streams limits book.seen book.opening book.gate configured limits_are fits (s.face.streams.one_each ∙ long) plans w in
    let same : book ≡ fresh_book streams limits book.seen book.opening book.gate = λ i. record { seen = book.seen; catalog = s.catalog i; opening = book.opening; gate = book.gate; queue = s.queue i; tally = s.tally i; statuses = s.statuses i; shown = s.shown i; limits = s.limits_are i } in
    let is : IsBook book = subst (λ (it : BookView). IsBook it) (sym same) fresh in
    record { book = is; own = own_is_safe book is; safe = subst (λ (it : List ConfStream). KeepsSafeOf it (book.limits.slots + 1) before book.seen) (sym s.catalog) (opening_stays streams (book.limits.slots + 1) book.opening.moment s.marks book.opening.plan before book.seen configured s.marks_are s.plans s.opened.added) }

refused_for : (stop : Status) (streams : List ConfStream) (most : ℕ) (before now : DockSeen) → AreConfigured streams → RefusedFor stop streams before now → KeepsSafeOf streams most before now
refused_for (status.BadCatalog why) streams most before now configured r = nothing_opened streams most before now r.3
refused_for status.StoreFault streams most before now configured r = at r.1
  where
    at : (dock_events now ≡ dock_events before) ⊎ OpenedFor streams before now → KeepsSafeOf streams most before now
    at (inl same) = nothing_opened streams most before now same
    at (inr o) = opening_stays streams most o.added.moment o.marks o.plan before now configured o.marks_are o.plans o.added.added
refused_for status.NoMemory streams most before now configured r = nothing_opened streams most before now r
refused_for _ streams most before now configured r = absurd r

pub refused_keeps : RefusedKeeps
refused_keeps stop streams most before now configured r = refused_for stop streams most before now configured r.0

-- The same, clause by clause, as a start cites them.

pub started_book : (streams : List ConfStream) (limits : Limits) (before : DockSeen) (book : BookView) → AreConfigured streams → AreLimits limits → Starts streams limits before book → IsBook book
started_book streams limits before book configured limits_are s = (starts_begin streams limits before book configured limits_are s).book

pub started_safe : (streams : List ConfStream) (limits : Limits) (before : DockSeen) (book : BookView) → AreConfigured streams → AreLimits limits → Starts streams limits before book → KeepsSafeOf book.catalog (book.limits.slots + 1) before book.seen
started_safe streams limits before book configured limits_are s = (starts_begin streams limits before book configured limits_are s).safe

pub started_own : (streams : List ConfStream) (limits : Limits) (before : DockSeen) (book : BookView) → AreConfigured streams → AreLimits limits → Starts streams limits before book → OwnLoadIsSafe book
started_own streams limits before book configured limits_are s = (starts_begin streams limits before book configured limits_are s).own

pub refused_safe : (stop : Status) (streams : List ConfStream) (most : ℕ) (before now : DockSeen) → AreConfigured streams → RefusedBy stop streams before now → KeepsSafeOf streams most before now
refused_safe stop streams most before now configured r = refused_keeps stop streams most before now configured r
