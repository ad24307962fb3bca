-- How a run of a store goes on, and the loads of a run of the engine.
use Rattle.std.proofs.Common.{◌≡◌, List, [], ◌∷◌, ◌++◌, Option, None, Some, false, refl, sym, ◌∙◌, ap, subst, append_assoc}
use Rattle.std.specs.Prelude.{IfSome, fold, not, option_map}
use Rattle.std.specs.List.{AllByRecursion}
use Rattle.std.proofs.lemmas.List.{append-nil}
use Rattle.basics.specs.Told.{told_more}
use Rattle.catalog.specs.declared.stream.ConfStream.{ConfStream}
use Rattle.outside.specs.Dock.{DockMoves, DockSeen, dock_events, is_opening}
use Rattle.outside.specs.Event.{is_links}
use Rattle.outside.specs.Tables.{plan_at, tables_after, tables_committed, tables_of}
use Rattle.outside.specs.declared.event.Event.{Event}
use Rattle.outside.specs.declared.event.Event.TheVariants.{Opened, Took, TookEnd, Committed, Emitted}
use Rattle.outside.specs.declared.event.RawRow.{RawRow}
use Rattle.outside.specs.declared.event.StreamPlan.{StreamPlan}
use Rattle.outside.specs.declared.table.Tables.{Tables}
use Rattle.outside.proofs.PlaceLaws.{all_filtered}
use Rattle.dedup_merge.proofs.FitLemmas.{tables_next}
use Rattle.load_rules.specs.Acts.{Act, AreActs}
use Rattle.load_rules.specs.Engine.{LoadFits}
use Rattle.load_rules.specs.Laws.{IsSafeLast, OpensNothing}
use Rattle.load_rules.specs.Lines.{IsReading, Reading, ReadsEvent}
use Rattle.load_rules.specs.Loads.{Load, loads, loads_after, store_events, with_event}
use Rattle.load_rules.specs.Prefixes.{EachFits, with_first}
use Rattle.load_rules.specs.SafeDest.{Fits, IsSafeLoad}
use Rattle.load_rules.specs.Stores.{IsStoreRun, StoreFits}
use Rattle.load_rules.proofs.Fronts.{each_front}
use Rattle.load_rules.proofs.LoadFronts.{goes_on, loads-append}
use Rattle.load_rules.proofs.SafeCommits.{safe_commits_fit}
use Rattle.load_rules.proofs.TakenLists.{each_more}
use Rattle.book_rules.specs.Books.{LastIsSafe, OwnLoadIsSafe}
use Rattle.book_rules.specs.Endings.{ReadersReadLast, ReadsFirst}
use Rattle.book_rules.specs.Views.{BookView}
use Rattle.book_rules.proofs.Lists.{all_append, all_first, some_is}
use Rattle.book_rules.proofs.Moving.{AddsPlain, IsPlain}

-- The loads of a trace that is read rightly are

first_reads : (read : Reading) (event : Event) (list : List Load) → ReadsEvent read event → AllByRecursion (λ load. IsReading read load.events) list → AllByRecursion (λ load. IsReading read load.events) (with_first (with_event event) list)
first_reads read event [] reads each = tt
first_reads read event (load ∷ older) reads each = (all_append (ReadsEvent read) load.events (event ∷ []) each.0 (reads, tt), each.1)

loads_read_after : (read : Reading) (event : Event) (list : List Load) → ReadsEvent read event → AllByRecursion (λ load. IsReading read load.events) list → AllByRecursion (λ load. IsReading read load.events) (loads_after list event)
loads_read_after read (Opened load moment plan) list reads each = (tt, each)
loads_read_after read event list reads each = first_reads read event list reads each

fold_reads : (read : Reading) (events : List Event) (list : List Load) → AllByRecursion (ReadsEvent read) events → AllByRecursion (λ load. IsReading read load.events) list → AllByRecursion (λ load. IsReading read load.events) (fold loads_after list events)
fold_reads read [] list reads each = each
fold_reads read (event ∷ events) list reads each = fold_reads read events (loads_after list event) reads.1 (loads_read_after read event list reads.0 each)

pub loads_read : (read : Reading) (trace : List Event) → IsReading read trace → AllByRecursion (λ load. IsReading read load.events) (loads trace)
loads_read read trace reads = fold_reads read (store_events trace) [] (all_filtered (ReadsEvent read) (λ event. not (is_links event)) trace reads) tt

pub readers_read_last : ReadersReadLast
readers_read_last read trace reads = at (loads trace) (loads_read read trace reads)
  where
    at : (list : List Load) → AllByRecursion (λ load. IsReading read load.events) list → ReadsFirst read list
    at [] each = tt
    at (load ∷ older) each = each.0

-- Runs

-- what goes on: the store's events fit one another, and the loads are the catalog's
pub record StayRun (streams : List ConfStream) (read : Reading) (before now : List Event) : Type 0 where
  pub store : IsStoreRun before → IsStoreRun now
  pub fit : EachFits (LoadFits streams read) [] before → EachFits (LoadFits streams read) [] now

pub run_same : (streams : List ConfStream) (read : Reading) (before now : List Event) → now ≡ before → StayRun streams read before now
run_same streams read before now same = subst (StayRun streams read before) (sym same) (record { store = λ run. run; fit = λ each. each })

pub run_both : (streams : List ConfStream) (read : Reading) (a b c : List Event) → StayRun streams read a b → StayRun streams read b c → StayRun streams read a c
run_both streams read a b c one two = record { store = λ run. two.store (one.store run); fit = λ each. two.fit (one.fit each) }

-- one event more, which fits behind a run
pub run_one : (streams : List ConfStream) (read : Reading) (before : List Event) (event : Event) → (IsStoreRun before → StoreFits before event) → LoadFits streams read before event → StayRun streams read before (before ++ event ∷ [])
run_one streams read before event store load = record {
  store = λ run. each_more StoreFits [] before event run (store run);
  fit = λ each. each_more (LoadFits streams read) [] before event each load;
}

-- A load that is safe is so without its last events

record FrontActs (read : Reading) (acts : List Act) (events : List Event) : Type 0 where
  front : List Act
  act : Act
  is : acts ≡ front ++ act ∷ []
  are : AreActs read front events

acts_front : (read : Reading) (acts : List Act) (events : List Event) (last : Event) → AreActs read acts (events ++ last ∷ []) → FrontActs read acts events
acts_front read [] [] last are = absurd are
acts_front read [] (event ∷ events) last are = absurd are
acts_front read (act ∷ []) [] last are = record { front = []; act = act; is = refl; are = tt }
acts_front read (act ∷ (other ∷ more)) [] last are = absurd are.1
acts_front read (act ∷ acts) (event ∷ events) last are =
    let deeper = acts_front read acts events last are.1 in
    record { front = act ∷ deeper.front; act = deeper.act; is = ap (λ list. act ∷ list) deeper.is; are = (are.0, deeper.are) }

load_front : (streams : List ConfStream) (read : Reading) (event : Event) (load : Load) → IsSafeLoad streams read (with_event event load) → IsSafeLoad streams read load
load_front streams read event load safe =
    let split = acts_front read safe.acts load.events event safe.are in
    record { acts = split.front; are = split.are; fit = each_front (Fits streams load.opening) [] split.front (split.act ∷ []) (subst (λ acts. EachFits (Fits streams load.opening) [] acts) split.is safe.fit) }

last_back : (streams : List ConfStream) (read : Reading) (event : Event) (list : List Load) → IsSafeLast streams read (with_first (with_event event) list) → IsSafeLast streams read list
last_back streams read event [] safe = safe
last_back streams read event (load ∷ older) safe = load_front streams read event load safe

all_back : (streams : List ConfStream) (read : Reading) (list : List Load) (events : List Event) → OpensNothing events → IsSafeLast streams read (fold loads_after list events) → IsSafeLast streams read list
all_back streams read list [] opens safe = safe
all_back streams read list (event ∷ events) opens safe = last_back streams read event list (subst (IsSafeLast streams read) (goes_on list event opens.0) (all_back streams read (loads_after list event) events opens.1 safe))

safe_front : (streams : List ConfStream) (read : Reading) (front rest : List Event) → OpensNothing rest → IsSafeLast streams read (loads (front ++ rest)) → IsSafeLast streams read (loads front)
safe_front streams read front rest opens safe = all_back streams read (loads front) (store_events rest) (all_filtered (λ event. is_opening event ≡ false) (λ event. not (is_links event)) rest opens) (subst (IsSafeLast streams read) (loads-append front rest) safe)

-- Events that take, commit and emit

plain_opens : (event : Event) → IsPlain event → is_opening event ≡ false
plain_opens (Took text) is = refl
plain_opens TookEnd is = refl
plain_opens (Committed number rows) is = refl
plain_opens (Emitted text) is = refl
plain_opens _ is = absurd is

opens_nothing : (more : List Event) → AllByRecursion IsPlain more → OpensNothing more
opens_nothing [] plain = tt
opens_nothing (event ∷ more) plain = (plain_opens event plain.0, opens_nothing more plain.1)

plain_load : (streams : List ConfStream) (read : Reading) (before : List Event) (event : Event) → IsPlain event → LoadFits streams read before event
plain_load streams read before (Took text) is = tt
plain_load streams read before TookEnd is = tt
plain_load streams read before (Committed number rows) is = tt
plain_load streams read before (Emitted text) is = tt
plain_load streams read before _ is = absurd is

plain_store : (streams : List ConfStream) (read : Reading) (before : List Event) (event : Event) → IsPlain event → IsSafeLast streams read (loads (before ++ event ∷ [])) → StoreFits before event
plain_store streams read before (Took text) is safe = tt
plain_store streams read before TookEnd is safe = tt
plain_store streams read before (Committed number rows) is safe = safe_commits_fit streams read before number rows safe
plain_store streams read before (Emitted text) is safe = tt
plain_store streams read before _ is safe = absurd is

plain_run : (streams : List ConfStream) (read : Reading) (before more : List Event) → AllByRecursion IsPlain more → IsSafeLast streams read (loads (before ++ more)) → StayRun streams read before (before ++ more)
plain_run streams read before [] plain safe = run_same streams read before (before ++ []) (append-nil before)
plain_run streams read before (event ∷ more) plain safe =
    let next : List Event = before ++ event ∷ [] in
    let same : next ++ more ≡ before ++ event ∷ more = append_assoc before (event ∷ []) more in
    let here : IsSafeLast streams read (loads (next ++ more)) = subst (λ (it : List Event). IsSafeLast streams read (loads it)) (sym same) safe in
    let own : IsSafeLast streams read (loads next) = safe_front streams read next more (opens_nothing more plain.1) here in
    subst (StayRun streams read before) same (run_both streams read before next (next ++ more) (run_one streams read before event (λ run. plain_store streams read before event plain.0 own) (plain_load streams read before event plain.0)) (plain_run streams read next more plain.1 here))

-- Docks

-- what a call on a dock leaves of runs, where the dock tells its trace
abbrev pub KeepsRunOf : List ConfStream → DockSeen → DockSeen → Type 0
KeepsRunOf streams old new = (read : Reading) (before now : List Event) → dock_events old ≡ Some before → dock_events new ≡ Some now → IsReading read now → StayRun streams read before now

pub told_is : (more before now : List Event) (old new : Option (List Event)) → new ≡ told_more more old → old ≡ Some before → new ≡ Some now → now ≡ before ++ more
told_is more before now old new grew first second = some_is now (before ++ more) (sym second ∙ (grew ∙ ap (told_more more) first))

pub keeps_run_same : (streams : List ConfStream) (old new : DockSeen) → dock_events new ≡ dock_events old → KeepsRunOf streams old new
keeps_run_same streams old new same read before now first second reads = run_same streams read before now (some_is now before (sym second ∙ (same ∙ first)))

pub keeps_run_both : (streams : List ConfStream) (a b c : DockSeen) → DockMoves a b → DockMoves b c → KeepsRunOf streams a b → KeepsRunOf streams b c → KeepsRunOf streams a c
keeps_run_both streams a b c first_moves second_moves one two read before now first second reads =
    let mid : List Event = before ++ first_moves.more in
    let told : dock_events b ≡ Some mid = first_moves.events ∙ ap (told_more first_moves.more) first in
    let same : now ≡ mid ++ second_moves.more = told_is second_moves.more mid now (dock_events b) (dock_events c) second_moves.events told second in
    run_both streams read before mid now (one read before mid first told (all_first (ReadsEvent read) mid second_moves.more (subst (IsReading read) same reads))) (two read mid now told second reads)

pub plain_keeps : (book : BookView) (old : DockSeen) → OwnLoadIsSafe book → AddsPlain (dock_events old) (dock_events book.seen) → KeepsRunOf book.catalog old book.seen
plain_keeps book old own adds read before now first second reads =
    let same = told_is adds.more before now (dock_events old) (dock_events book.seen) adds.added first second in
    let last : LastIsSafe book now = subst (λ (it : Option (List Event)). IfSome it (LastIsSafe book)) second own in
    let right : IsReading read last.load.events = (subst (AllByRecursion (λ load. IsReading read load.events)) last.last (loads_read read now reads)).0 in
    let safe : IsSafeLast book.catalog read (loads now) = subst (IsSafeLast book.catalog read) (sym last.last) (last.safe read right) in
    subst (StayRun book.catalog read before) (sym same) (plain_run book.catalog read before adds.more adds.plain (subst (λ (it : List Event). IsSafeLast book.catalog read (loads it)) same safe))

-- Such events leave the plans of the store's load

committed_plan : (found : Option StreamPlan) (rows : List RawRow) (store : Tables) → (tables_committed found rows store).plan ≡ store.plan
committed_plan None rows store = refl
committed_plan (Some plan) rows store = refl

plain_plan : (store : Tables) (event : Event) → IsPlain event → (tables_after store event).plan ≡ store.plan
plain_plan store (Took text) is = refl
plain_plan store TookEnd is = refl
plain_plan store (Committed number rows) is = committed_plan (plan_at store number) rows store
plain_plan store (Emitted text) is = refl
plain_plan store _ is = absurd is

plain_plans : (before more : List Event) → AllByRecursion IsPlain more → (tables_of (before ++ more)).plan ≡ (tables_of before).plan
plain_plans before [] plain = ap (λ (it : List Event). (tables_of it).plan) (append-nil before)
plain_plans before (event ∷ more) plain =
    ap (λ (it : List Event). (tables_of it).plan) (sym (append_assoc before (event ∷ []) more))
    ∙ (plain_plans (before ++ event ∷ []) more plain.1
    ∙ (ap (λ (store : Tables). store.plan) (tables_next before event)
    ∙ plain_plan (tables_of before) event plain.0))

-- the plans of the store's load are these, where the trace is told
abbrev pub PlansAre : List StreamPlan → Option (List Event) → Type 0
PlansAre plans told = IfSome told (λ events. (tables_of events).plan ≡ plans)

pub plain_stay : (plans : List StreamPlan) (before now : Option (List Event)) → AddsPlain before now → PlansAre plans before → PlansAre plans now
plain_stay plans None now adds are = subst (PlansAre plans) (sym adds.added) tt
plain_stay plans (Some before) now adds are = subst (PlansAre plans) (sym adds.added) (plain_plans before adds.more adds.plain ∙ are)

-- the tables are told where the trace is
pub in_tables : (P : Tables → Type 0) (told : Option (List Event)) → IfSome told (λ events. P (tables_of events)) → IfSome (option_map tables_of told) P
in_tables P None holds = tt
in_tables P (Some events) holds = holds

pub of_tables : (P : Tables → Type 0) (told : Option (List Event)) → IfSome (option_map tables_of told) P → IfSome told (λ events. P (tables_of events))
of_tables P None holds = tt
of_tables P (Some events) holds = holds
