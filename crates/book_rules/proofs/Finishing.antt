-- A finish is merges and a showing: the machine turns, and all else of the book stays.
use Rattle.std.proofs.Common.{arith, ◌≡◌, ◌⊎◌, inl, inr, ℕ, zero, suc, ◌+◌, ◌<◌, List, [], ◌∷◌, ◌++◌, length, Option, None, Some, Bool, true, false, Result, Ok, Err, refl, sym, ◌∙◌, ap, subst, slice_set}
use Rattle.std.specs.Prelude.{IsSome, filter_map, not, slice_get}
use Rattle.std.specs.List.{AllByRecursion, list_any}
use Rattle.std.proofs.lemmas.List.{append-nil, length-set}
use Rattle.std.proofs.lemmas.List.Elements.{filter_map-append}
use Rattle.std.proofs.lemmas.Bool.{and_parts, false≢true}
use Rattle.std.proofs.lemmas.Option.{slice_get_within}
use Rattle.basics.specs.Told.{told_by, told_more}
use Rattle.basics.specs.declared.stream.StreamId.{StreamId}
use Rattle.catalog.specs.declared.stream.ConfStream.{ConfStream}
use Rattle.airbyte_message.specs.Lanes as lanes
use Rattle.dedup_merge.specs.Pages.{MergesPage, PageAdds}
use Rattle.dedup_merge.specs.declared.pages.MergeFault.{MergeFault}
use Rattle.dedup_merge.specs.declared.pages.MergeFault.TheVariants as merge_fault
use Rattle.dedup_merge.specs.declared.pages.Merged.{Merged as MergedPage}
use Rattle.outside.specs.Dock.{DockFace, DockGrew, DockMoves, DockSeen, ShowAdds, dock_events, showing}
use Rattle.outside.specs.Tables.{plan_at, same_id, shown_event, shown_event_for, shown_plan, tables_of}
use Rattle.outside.specs.declared.event.Event.{Event}
use Rattle.outside.specs.declared.event.Event.TheVariants.{Merged, Shown}
use Rattle.outside.specs.declared.event.StreamPlan.{StreamPlan}
use Rattle.outside.specs.declared.fault.Fault.{Fault}
use Rattle.outside.specs.declared.fault.Fault.TheVariants as fault
use Rattle.outside.specs.declared.link.PollKind.{PollKind}
use Rattle.outside.specs.declared.status.Status.{Status}
use Rattle.outside.specs.declared.status.Status.TheVariants as status
use Rattle.load_rules.specs.Acts.{Act, Turns, committed, taken, state_echoed}
use Rattle.outside.proofs.DockLaws.{dock_grew_refl, dock_grew_trans, moves_none}
use Rattle.load_rules.specs.Engine.{PlanFits, PlansFit, ShowsComplete}
use Rattle.load_rules.specs.Finished.{last_status}
use Rattle.load_rules.specs.Lines.{IsReading, Reading, ReadsEvent, lines_read}
use Rattle.load_rules.specs.Loads.{tooks}
use Rattle.load_rules.specs.Machine.{Machine, Step, Accept, End, Seal, HandOut, Commit, TakeBack, Release, Turn, happens, run}
use Rattle.load_rules.specs.Taken.{entries, since}
use Rattle.load_rules.proofs.Machines.{committed-more, taken-more}
use Rattle.load_rules.proofs.SafeRuns.{runs_grow}
use Rattle.load_rules.proofs.Sides.{IdsDiffer}
use Rattle.book_rules.specs.declared.answer.Finished.{Finished}
use Rattle.book_rules.specs.Books.{BrokeBy, IsBook, IsBookOf, IsFinishRun, IsQuiet, IsTurning, KeepsOpened, KeepsSafe, OwnLoadIsSafe, Runs}
use Rattle.book_rules.specs.Finishes.{BreaksFinish, FinishAnswer, FinishUnless, MergesOne, MergesTo, MergesUpTo, MergesWhere, ShownAnswer, ShowsBehind, ShowsStream, ShowsWhere, is_complete_in, is_drained, is_marked, is_to_show, merge_stop, show_stop}
use Rattle.book_rules.specs.Holds.{is_end, lanes_among}
use Rattle.book_rules.specs.Laws.{BooksCanFinish, FinishKeeps}
use Rattle.book_rules.specs.Views.{BookView, HasPlans, ids, plan_now, plans_now}
use Rattle.book_rules.proofs.Accepting.{Went, broke, broke_still, releasable_by, went_as, went_runs}
use Rattle.book_rules.proofs.Acts.{Adds, ends_more, or_false, ran_act}
use Rattle.book_rules.proofs.Ended.{drained_ends_load}
use Rattle.book_rules.proofs.Kept.{HasOwnPlans, Remains, keeps, kept}
use Rattle.book_rules.proofs.Lists.{all_append, all_first, none_is, none_some, some_is}
use Rattle.book_rules.proofs.Moving.{moves_both}
use Rattle.book_rules.proofs.Planned.{now_at, now_differ, now_set, own_ids, plans_long}
use Rattle.book_rules.proofs.Releasing.{few_held}
use Rattle.book_rules.proofs.Running.{KeepsRunOf, PlansAre, StayRun, in_tables, keeps_run_both, keeps_run_same, of_tables, readers_read_last, run_one}
use Rattle.book_rules.proofs.Turning.{MergeStays, ShowStays, merge_none, merge_page, show_stays, shown_is}
use Rattle.book_rules.proofs.Whole.{IsWhole, Leads, book_of_whole, leads_on, leads_still, whole_of}

-- One turn

abbrev pub IsTurnEvent : Event → Type 0
IsTurnEvent (Merged stream winners mark) = Unit {0}
IsTurnEvent (Shown stream floor top) = Unit {0}
IsTurnEvent event = ⊥

-- a merge or a showing was added, where events are told
pub record AddsTurn (before now : Option (List Event)) : Type 0 where
  pub event : Event
  pub is : IsTurnEvent event
  pub added : now ≡ told_more (event ∷ []) before

turn_adds : (before now : Option (List Event)) → AddsTurn before now → Adds Turns before now
turn_adds before now a = at a.event a.is a.added
  where
    at : (event : Event) → IsTurnEvent event → now ≡ told_more (event ∷ []) before → Adds Turns before now
    at (Merged stream winners mark) is added = record { event = Merged stream winners mark; added = added; store = refl; opens = refl; is = λ read reads. tt; over = λ b. sym (or_false b) }
    at (Shown stream floor top) is added = record { event = Shown stream floor top; added = added; store = refl; opens = refl; is = λ read reads. tt; over = λ b. sym (or_false b) }
    at _ is added = absurd is

turn_whole : (book : BookView) (m : Machine) (seen : DockSeen) → IsWhole book m → AddsTurn (dock_events book.seen) (dock_events seen) → IsWhole (record book { seen = seen }) (happens book.catalog m Turn)
turn_whole book m seen w a = record {
  ran = ran_act book.catalog book.opening book.limits.slots m Turn Turns (dock_events book.seen) (dock_events seen) w.ran refl tt tt (few_held book m w) (turn_adds (dock_events book.seen) (dock_events seen) a);
  tallied = record {
    lines = w.tallied.lines ∙ ap (λ list. length list + 0) (sym same);
    most = w.tallied.most;
    records = w.tallied.records ∙ ap (λ list. length (entries list)) (sym same);
    lanes = w.tallied.lanes ∙ ap lanes_among (sym same);
    emitted = rw echoed w.tallied.emitted;
    ended = ends_more m.acts Turns ∙ (or_false (list_any is_end m.acts) ∙ w.tallied.ended);
  };
  holds = record {
    content = w.holds.content;
    gate = w.holds.gate;
    uncommitted = w.holds.uncommitted;
    waiting = w.holds.waiting;
    as_many = w.holds.as_many;
    since_own = λ number id named. w.holds.since_own number id named ∙ ap (since (lanes.one id)) (sym same);
    since_all = w.holds.since_all ∙ ap (since lanes.all) (sym same);
    gate_streams = w.holds.gate_streams;
    gate_next = w.holds.gate_next;
    gate_states = w.holds.gate_states;
    states = w.holds.states;
    held = w.holds.held;
    queue_streams = w.holds.queue_streams;
    queue_next = w.holds.queue_next;
    room = w.holds.room;
    slots = w.holds.slots;
    bytes = w.holds.bytes;
    batch = w.holds.batch;
    fresh = w.holds.fresh;
    parked = w.holds.parked;
    alike = w.holds.alike;
    few = w.holds.few;
    statuses_many = w.holds.statuses_many;
    statuses = λ number id named. w.holds.statuses number id named ∙ ap (λ list. Some (last_status id list)) (sym same);
  };
  whole = w.whole;
}
  where
    same : taken (m.acts ++ Turns ∷ []) ≡ taken m.acts
    same = taken-more m.acts Turns ∙ append-nil (taken m.acts)

    echoed : filter_map state_echoed (m.acts ++ Turns ∷ []) ≡ filter_map state_echoed m.acts
    echoed = filter_map-append state_echoed m.acts (Turns ∷ []) ∙ append-nil (filter_map state_echoed m.acts)

turn_leads : (book : BookView) (m : Machine) (seen : DockSeen) → AddsTurn (dock_events book.seen) (dock_events seen) → IsWhole book m → Leads IsTurning book.catalog (record book { seen = seen }) m
turn_leads book m seen a w = record { steps = Turn ∷ []; all = (tt, tt); leads = turn_whole book m seen w a }

-- a turn commits nothing and releases nothing
turn_quiet : (catalog : List ConfStream) (m : Machine) → IsQuiet m → IsQuiet (happens catalog m Turn)
turn_quiet catalog m quiet = releasable_by m (happens catalog m Turn) (committed-more m.acts Turns ∙ append-nil (committed m.acts)) refl quiet

turned_quiet : (catalog : List ConfStream) (steps : List Step) (m : Machine) → AllByRecursion IsTurning steps → IsQuiet m → IsQuiet (run catalog steps m)
turned_quiet catalog [] m all quiet = quiet
turned_quiet catalog (Turn ∷ steps) m all quiet = turned_quiet catalog steps (happens catalog m Turn) all.1 (turn_quiet catalog m quiet)
turned_quiet catalog (Accept line ∷ steps) m all quiet = absurd all.0
turned_quiet catalog (End ∷ steps) m all quiet = absurd all.0
turned_quiet catalog (Seal id count ∷ steps) m all quiet = absurd all.0
turned_quiet catalog (HandOut id count batch ∷ steps) m all quiet = absurd all.0
turned_quiet catalog (Commit number id batch rows ∷ steps) m all quiet = absurd all.0
turned_quiet catalog (TakeBack id batch ∷ steps) m all quiet = absurd all.0
turned_quiet catalog (Release ∷ steps) m all quiet = absurd all.0

-- Turns that lead to a book

went_on : (catalog : List ConfStream) (mid new : BookView) (m : Machine) → Leads IsTurning catalog mid m → ((now : Machine) → IsWhole mid now → Went IsFinishRun catalog new now) → Went IsFinishRun catalog new m
went_on catalog mid new m first more =
    let then = more (run catalog first.steps m) first.leads in
    record { steps = first.steps ++ then.steps; shaped = all_append IsTurning first.steps then.steps first.all then.shaped; leads = subst (IsBookOf new) (sym (runs_grow catalog first.steps then.steps m)) then.leads }

went_whole : (catalog : List ConfStream) (new : BookView) (m : Machine) → IsQuiet m → Leads IsTurning catalog new m → Went IsFinishRun catalog new m
went_whole catalog new m quiet l = record { steps = l.steps; shaped = l.all; leads = book_of_whole new (run catalog l.steps m) l.leads (turned_quiet catalog l.steps m l.all quiet) }

-- what a finish breaks a book by
abbrev IsOwnStop : Status → Type 0
IsOwnStop status.StoreFault = Unit {0}
IsOwnStop status.NoMemory = Unit {0}
IsOwnStop stop = ⊥

own_why : (stop : Status) (ids_ : List StreamId) (lines : ℕ) (poll : PollKind) (acts : List Act) → IsOwnStop stop → BrokeBy ids_ lines poll acts [] stop
own_why status.StoreFault ids_ lines poll acts own = tt
own_why status.NoMemory ids_ lines poll acts own = tt
own_why _ ids_ lines poll acts own = absurd own

breaks_still : (book : BookView) (m : Machine) (seen : DockSeen) (stop : Status) → IsOwnStop stop → dock_events seen ≡ dock_events book.seen → IsWhole book m → Went IsFinishRun book.catalog (broke (record book { seen = seen }) stop) m
breaks_still book m seen stop own same w = record { steps = []; shaped = tt; leads = broke_still book m seen stop w same (own_why stop (ids book) book.tally.lines seen.face.poll m.acts own) }

-- the call that failed has made its change or not
breaks_went : (book : BookView) (m : Machine) (seen : DockSeen) (stop : Status) → IsOwnStop stop → (dock_events seen ≡ dock_events book.seen) ⊎ AddsTurn (dock_events book.seen) (dock_events seen) → IsWhole book m → Went IsFinishRun book.catalog (broke (record book { seen = seen }) stop) m
breaks_went book m seen stop own (inl same) w = breaks_still book m seen stop own same w
breaks_went book m seen stop own (inr adds) w = went_on book.catalog (record book { seen = seen }) (broke (record book { seen = seen }) stop) m (turn_leads book m seen adds w) (λ now whole. breaks_still (record book { seen = seen }) now seen stop own refl whole)

-- Merges

page_adds : (answer : MergedPage) (stream page : ℕ) (old new : DockSeen) → MergesOne (Ok answer) stream page old new → AddsTurn (dock_events old) (dock_events new)
page_adds answer stream page old new p = record { event = Merged stream p.merges.merges.written p.merges.merges.mark; is = tt; added = p.merges.merges.added }

page_fails : (stop : MergeFault) (stream page : ℕ) (old new : DockSeen) → MergesOne (Err stop) stream page old new → (dock_events new ≡ dock_events old) ⊎ AddsTurn (dock_events old) (dock_events new)
page_fails merge_fault.NoMemory stream page old new p = inl p.merges.events
page_fails merge_fault.StoreFault stream page old new p = at p.merges.merges
  where
    at : (dock_events new ≡ dock_events old) ⊎ MergesPage stream page old new → (dock_events new ≡ dock_events old) ⊎ AddsTurn (dock_events old) (dock_events new)
    at (inl same) = inl same
    at (inr merges) = inr (record { event = Merged stream merges.written merges.mark; is = tt; added = merges.added })

merge_own : (stop : MergeFault) → IsOwnStop (merge_stop stop)
merge_own merge_fault.StoreFault = tt
merge_own merge_fault.NoMemory = tt

seen_leads : (book : BookView) (m : Machine) (seen : DockSeen) → seen ≡ book.seen → IsWhole book m → Leads IsTurning book.catalog (record book { seen = seen }) m
seen_leads book m seen same w = subst (λ (it : DockSeen). Leads IsTurning book.catalog (record book { seen = it }) m) (sym same) (leads_still IsTurning book.catalog book m w)

merges_lead : (count stream page : ℕ) (book : BookView) (m : Machine) (seen : DockSeen) → MergesTo count stream page book.seen seen → IsWhole book m → Leads IsTurning book.catalog (record book { seen = seen }) m
merges_lead zero stream page book m seen r w = seen_leads book m seen r w
merges_lead (suc count) stream page book m seen r w = leads_on IsTurning book.catalog (record book { seen = r.0 }) (record book { seen = seen }) m (merges_lead count stream page book m r.0 r.1 w) (λ now whole. turn_leads (record book { seen = r.0 }) now seen (page_adds _ stream page r.0 seen r.2) whole)

where_lead : (dedup : Bool) (stream page : ℕ) (book : BookView) (m : Machine) (seen : DockSeen) → MergesWhere {T = Unit {0}} dedup (Ok tt) stream page book.seen seen → IsWhole book m → Leads IsTurning book.catalog (record book { seen = seen }) m
where_lead true stream page book m seen r w = leads_on IsTurning book.catalog (record book { seen = r.mid }) (record book { seen = seen }) m (merges_lead r.count stream page book m r.mid r.merges w) (λ now whole. turn_leads (record book { seen = r.mid }) now seen (page_adds _ stream page r.mid seen r.ends) whole)
where_lead false stream page book m seen same w = seen_leads book m seen same w

where_breaks : (dedup : Bool) (stop : MergeFault) (stream page : ℕ) (book : BookView) (m : Machine) (seen : DockSeen) → MergesWhere {T = Unit {0}} dedup (Err stop) stream page book.seen seen → IsWhole book m → Went IsFinishRun book.catalog (broke (record book { seen = seen }) (merge_stop stop)) m
where_breaks true stop stream page book m seen r w = went_on book.catalog (record book { seen = r.mid }) (broke (record book { seen = seen }) (merge_stop stop)) m (merges_lead r.count stream page book m r.mid r.merges w) (λ now whole. breaks_went (record book { seen = r.mid }) now seen (merge_stop stop) (merge_own stop) (page_fails stop stream page r.mid seen r.ends) whole)
where_breaks false stop stream page book m seen none w = absurd none

-- Showing

show_own : (stop : Fault) → IsOwnStop (show_stop stop)
show_own fault.Failed = tt
show_own fault.NoMemory = tt

shown_adds : (stream : ℕ) (before now : Option (List Event)) → now ≡ told_by (showing stream) before → AddsTurn before now
shown_adds stream None now added = record { event = Shown stream 0 0; is = tt; added = added }
shown_adds stream (Some events) now added = at (plan_at (tables_of events) stream) refl
  where
    at : (plan : Option StreamPlan) → plan_at (tables_of events) stream ≡ plan → AddsTurn (Some events) now
    at None is = record { event = shown_event_for None (tables_of events) stream; is = tt; added = added ∙ ap (λ (p : Option StreamPlan). Some (events ++ shown_event_for p (tables_of events) stream ∷ [])) is }
    at (Some plan) is = record { event = shown_event_for (Some plan) (tables_of events) stream; is = tt; added = added ∙ ap (λ (p : Option StreamPlan). Some (events ++ shown_event_for p (tables_of events) stream ∷ [])) is }

show_adds : (stream : ℕ) (old new : DockSeen) → ShowsStream {T = Unit {0}} (Ok tt) stream old new → AddsTurn (dock_events old) (dock_events new)
show_adds stream old new s = shown_adds stream (dock_events old) (dock_events new) s.events

show_fails : (stop : Fault) (stream : ℕ) (old new : DockSeen) → ShowsStream {T = Unit {0}} (Err stop) stream old new → (dock_events new ≡ dock_events old) ⊎ AddsTurn (dock_events old) (dock_events new)
show_fails fault.NoMemory stream old new s = inl s.events
show_fails fault.Failed stream old new s = at s.events
  where
    at : (dock_events new ≡ dock_events old) ⊎ (dock_events new ≡ told_by (showing stream) (dock_events old)) → (dock_events new ≡ dock_events old) ⊎ AddsTurn (dock_events old) (dock_events new)
    at (inl same) = inl same
    at (inr added) = inr (shown_adds stream (dock_events old) (dock_events new) added)

-- which streams were shown is no matter to the machine
listed_whole : (book : BookView) (m : Machine) (shown : List Bool) → IsWhole book m → IsWhole (record book { shown = shown }) m
listed_whole book m shown w = record {
  ran = w.ran;
  tallied = w.tallied;
  holds = record {
    content = w.holds.content;
    gate = w.holds.gate;
    uncommitted = w.holds.uncommitted;
    waiting = w.holds.waiting;
    as_many = w.holds.as_many;
    since_own = w.holds.since_own;
    since_all = w.holds.since_all;
    gate_streams = w.holds.gate_streams;
    gate_next = w.holds.gate_next;
    gate_states = w.holds.gate_states;
    states = w.holds.states;
    held = w.holds.held;
    queue_streams = w.holds.queue_streams;
    queue_next = w.holds.queue_next;
    room = w.holds.room;
    slots = w.holds.slots;
    bytes = w.holds.bytes;
    batch = w.holds.batch;
    fresh = w.holds.fresh;
    parked = w.holds.parked;
    alike = w.holds.alike;
    few = w.holds.few;
    statuses_many = w.holds.statuses_many;
    statuses = w.holds.statuses;
  };
  whole = w.whole;
}

listed_leads : (book : BookView) (m : Machine) (shown : List Bool) → Leads IsTurning book.catalog book m → Leads IsTurning book.catalog (record book { shown = shown }) m
listed_leads book m shown l = record { steps = l.steps; all = l.all; leads = listed_whole book (run book.catalog l.steps m) shown l.leads }

hidden_went : (shown : Result (Unit {0}) Fault) (stream : ℕ) (result : Result Finished Status) (book : BookView) (seen : DockSeen) (new : BookView) (m : Machine) → ShowsStream shown stream book.seen seen → ShownAnswer shown stream result (record book { seen = seen }) new → IsQuiet m → IsWhole book m → Went IsFinishRun book.catalog new m
hidden_went (Ok done) stream result book seen new m s answer quiet w = went_as IsFinishRun book.catalog (record book { seen = seen; shown = slice_set book.shown stream true }) new m answer.is (went_whole book.catalog (record book { seen = seen; shown = slice_set book.shown stream true }) m quiet (listed_leads (record book { seen = seen }) m (slice_set book.shown stream true) (turn_leads book m seen (show_adds stream book.seen seen s) w)))
hidden_went (Err stop) stream result book seen new m s answer quiet w = went_as IsFinishRun book.catalog (broke (record book { seen = seen }) (show_stop stop)) new m answer.is (breaks_went book m seen (show_stop stop) (show_own stop) (show_fails stop stream book.seen seen s) w)

shows_went : (to_show : Bool) (stream : ℕ) (result : Result Finished Status) (book new : BookView) (m : Machine) → ShowsWhere to_show stream result book new → IsQuiet m → IsWhole book m → Went IsFinishRun book.catalog new m
shows_went true stream result book new m s quiet w = hidden_went s.shown stream result book s.seen new m s.shows s.answer quiet w
shows_went false stream result book new m s quiet w = went_as IsFinishRun book.catalog book new m s.is (went_whole book.catalog book m quiet (leads_still IsTurning book.catalog book m w))

-- Finishes

by_went : (merged : Result (Unit {0}) MergeFault) (dedup : Bool) (to_show : Bool) (stream : ℕ) (result : Result Finished Status) (book : BookView) (seen : DockSeen) (new : BookView) (m : Machine) → MergesWhere dedup merged stream book.limits.page book.seen seen → ShowsBehind merged to_show stream result (record book { seen = seen }) new → IsQuiet m → IsWhole book m → Went IsFinishRun book.catalog new m
by_went (Ok done) dedup to_show stream result book seen new m merges shows quiet w =
    let l = where_lead dedup stream book.limits.page book m seen merges w in
    let now : Machine = run book.catalog l.steps m in
    let then = shows_went to_show stream result (record book { seen = seen }) new now shows (turned_quiet book.catalog l.steps m l.all quiet) l.leads in
    record { steps = l.steps ++ then.steps; shaped = all_append IsTurning l.steps then.steps l.all then.shaped; leads = subst (IsBookOf new) (sym (runs_grow book.catalog l.steps then.steps m)) then.leads }
by_went (Err stop) dedup to_show stream result book seen new m merges shows quiet w = went_as IsFinishRun book.catalog (broke (record book { seen = seen }) (merge_stop stop)) new m shows.is (where_breaks dedup stop stream book.limits.page book m seen merges w)

still_went : (old new : BookView) (m : Machine) → new ≡ old → IsBookOf old m → Went IsFinishRun old.catalog new m
still_went old new m same is = record { steps = []; shaped = tt; leads = subst (λ (it : BookView). IsBookOf it m) (sym same) is }

unless_went : (broken : Option Status) (drained complete : Bool) (stream : ℕ) (result : Result Finished Status) (old new : BookView) (m : Machine) → old.tally.broken ≡ broken → FinishUnless broken drained complete stream result old new → IsBookOf old m → Went IsFinishRun old.catalog new m
unless_went (Some first) drained complete stream result old new m broken f is = still_went old new m f.1 is
unless_went None false complete stream result old new m broken f is = still_went old new m f.1 is
unless_went None true false stream result old new m broken f is = still_went old new m f.1 is
unless_went None true true stream result old new m broken f is = by_went f.finishes.merged f.plan.dedup (is_to_show stream f.plan.hidden old) stream result old f.finishes.seen new m f.finishes.merges f.finishes.shows (is.quiet broken) (whole_of old m broken is)

runs : (stream : ℕ) (result : Result Finished Status) (old new : BookView) → FinishAnswer stream result old new → Runs IsFinishRun old new
runs stream result old new answer m is = went_runs IsFinishRun old new m (unless_went old.tally.broken (is_drained old) (is_complete_in stream old) stream result old new m refl answer is)

-- What stays

-- the dock moved, and knows as many streams as before
pub record SeenTurns (old new : DockSeen) : Type 0 where
  pub many : length new.face.side_marks ≡ length old.face.side_marks
  pub moves : DockMoves old new
  pub grew : DockGrew old new

turns_same : (seen : DockSeen) → SeenTurns seen seen
turns_same seen = record { many = refl; moves = moves_none seen seen refl refl; grew = dock_grew_refl seen }

turns_both : (a b c : DockSeen) → SeenTurns a b → SeenTurns b c → SeenTurns a c
turns_both a b c one two = record { many = two.many ∙ one.many; moves = moves_both a b c one.moves two.moves; grew = dock_grew_trans a b c one.grew two.grew }

-- pages of a stream were merged, or not
pub record SeenMerges (stream : ℕ) (old new : DockSeen) : Type 0 where
  pub many : length new.face.side_marks ≡ length old.face.side_marks
  pub turns : SeenTurns old new
  pub stays : MergeStays stream old new

merges_is : (stream : ℕ) (old new : DockSeen) → new ≡ old → SeenMerges stream old new
merges_is stream old new same = subst (SeenMerges stream old) (sym same) (record { many = refl; turns = turns_same old; stays = merge_none stream old old refl })

merges_both : (stream : ℕ) (a b c : DockSeen) → SeenMerges stream a b → SeenMerges stream b c → SeenMerges stream a c
merges_both stream a b c one two = record {
  many = two.many ∙ one.many;
  turns = turns_both a b c one.turns two.turns;
  stays = record {
    plans = λ plans are. two.stays.plans plans (one.stays.plans plans are);
    left = λ plans differ are number none. two.stays.left plans differ (one.stays.plans plans are) number (one.stays.left plans differ are number none);
    run = λ streams plans known are. keeps_run_both streams a b c one.turns.moves two.turns.moves (one.stays.run streams plans known are) (two.stays.run streams plans known (one.stays.plans plans are));
  };
}

one_merges : (result : Result MergedPage MergeFault) (stream page : ℕ) (old new : DockSeen) → PageAdds result stream page old new → MergeStays stream old new
one_merges (Ok answer) stream page old new done = merge_page stream page old new done.merges
one_merges (Err merge_fault.NoMemory) stream page old new left = merge_none stream old new left.events
one_merges (Err merge_fault.StoreFault) stream page old new failed = at failed.merges
  where
    at : (dock_events new ≡ dock_events old) ⊎ MergesPage stream page old new → MergeStays stream old new
    at (inl same) = merge_none stream old new same
    at (inr merges) = merge_page stream page old new merges

pub one_stays : (result : Result MergedPage MergeFault) (stream page : ℕ) (old new : DockSeen) → MergesOne result stream page old new → SeenMerges stream old new
one_stays result stream page old new p = record { many = many; turns = record { many = many; moves = p.moves; grew = p.grew }; stays = one_merges result stream page old new p.merges }
  where
    at : (result : Result MergedPage MergeFault) → PageAdds result stream page old new → length new.face.side_marks ≡ length old.face.side_marks
    at (Ok answer) done = ap (λ (it : DockFace). length it.side_marks) done.face ∙ length-set old.face.side_marks stream done.merges.mark
    at (Err merge_fault.StoreFault) failed = ap (λ (it : DockFace). length it.side_marks) failed.face
    at (Err merge_fault.NoMemory) left = ap (λ (it : DockFace). length it.side_marks) left.face

    many : length new.face.side_marks ≡ length old.face.side_marks
    many = at result p.merges

to_stays : (count stream page : ℕ) (old new : DockSeen) → MergesTo count stream page old new → SeenMerges stream old new
to_stays zero stream page old new r = merges_is stream old new r
to_stays (suc count) stream page old new r = merges_both stream old r.0 new (to_stays count stream page old r.0 r.1) (one_stays _ stream page r.0 new r.2)

up_to_stays : (last : Result MergedPage MergeFault) (stream page : ℕ) (old new : DockSeen) → MergesUpTo last stream page old new → SeenMerges stream old new
up_to_stays last stream page old new r = merges_both stream old r.mid new (to_stays r.count stream page old r.mid r.merges) (one_stays last stream page r.mid new r.ends)

pub where_stays : (dedup : Bool) (merged : Result (Unit {0}) MergeFault) (stream page : ℕ) (old new : DockSeen) → MergesWhere dedup merged stream page old new → SeenMerges stream old new
where_stays true (Ok done) stream page old new r = up_to_stays _ stream page old new r
where_stays true (Err stop) stream page old new r = up_to_stays _ stream page old new r
where_stays false (Ok done) stream page old new same = merges_is stream old new same
where_stays false (Err stop) stream page old new none = absurd none

show_turns : (shown : Result (Unit {0}) Fault) (stream : ℕ) (old new : DockSeen) → ShowsStream shown stream old new → SeenTurns old new
show_turns shown stream old new s = record { many = ap (λ (it : DockFace). length it.side_marks) s.face; moves = s.moves; grew = s.grew }

-- the dock may have moved, and how the book stands and what was shown may be new
abbrev turned : BookView → DockSeen → List Bool → Option Status → BookView
turned book seen shown broken = record book { seen = seen; shown = shown; tally = record (book.tally) { broken = broken } }

turned_remains : (old new : BookView) (seen : DockSeen) (shown : List Bool) (broken : Option Status) → length shown ≡ length old.shown → SeenTurns old.seen seen → new ≡ turned old seen shown broken → Remains old new
turned_remains old new seen shown broken long s is = subst (Remains old) (sym is) (record { catalog = refl; opening = refl; limits = refl; listed = long; queue = record { streams = refl; slots = refl; bytes = refl; batch = refl; small = λ small. small }; many = s.many; moves = s.moves; grew = s.grew })

same_remains : (old new : BookView) → new ≡ old → Remains old new
same_remains old new same = turned_remains old new old.seen old.shown old.tally.broken refl (turns_same old.seen) same

shown_remains : (shown : Result (Unit {0}) Fault) (stream : ℕ) (result : Result Finished Status) (old : BookView) (seen : DockSeen) (new : BookView) → SeenTurns old.seen seen → ShownAnswer shown stream result (record old { seen = seen }) new → Remains old new
shown_remains (Ok done) stream result old seen new s answer = turned_remains old new seen (slice_set old.shown stream true) old.tally.broken (length-set old.shown stream true) s answer.is
shown_remains (Err stop) stream result old seen new s answer = turned_remains old new seen old.shown (Some (show_stop stop)) refl s answer.is

shows_remain : (to_show : Bool) (stream : ℕ) (result : Result Finished Status) (old : BookView) (seen : DockSeen) (new : BookView) → SeenTurns old.seen seen → ShowsWhere to_show stream result (record old { seen = seen }) new → Remains old new
shows_remain true stream result old seen new s shows = shown_remains shows.shown stream result old shows.seen new (turns_both old.seen seen shows.seen s (show_turns shows.shown stream seen shows.seen shows.shows)) shows.answer
shows_remain false stream result old seen new s shows = turned_remains old new seen old.shown old.tally.broken refl s shows.is

behind_remains : (merged : Result (Unit {0}) MergeFault) (to_show : Bool) (stream : ℕ) (result : Result Finished Status) (old : BookView) (seen : DockSeen) (new : BookView) → SeenTurns old.seen seen → ShowsBehind merged to_show stream result (record old { seen = seen }) new → Remains old new
behind_remains (Ok done) to_show stream result old seen new s shows = shows_remain to_show stream result old seen new s shows
behind_remains (Err stop) to_show stream result old seen new s shows = turned_remains old new seen old.shown (Some (merge_stop stop)) refl s shows.is

unless_remains : (broken : Option Status) (drained complete : Bool) (stream : ℕ) (result : Result Finished Status) (old new : BookView) → FinishUnless broken drained complete stream result old new → Remains old new
unless_remains (Some first) drained complete stream result old new f = same_remains old new f.1
unless_remains None false complete stream result old new f = same_remains old new f.1
unless_remains None true false stream result old new f = same_remains old new f.1
unless_remains None true true stream result old new f = behind_remains f.finishes.merged (is_to_show stream f.plan.hidden old) stream result old f.finishes.seen new (where_stays f.plan.dedup f.finishes.merged stream old.limits.page old.seen f.finishes.seen f.finishes.merges).turns f.finishes.shows

-- A book that is not broken, of which a stream may be finished

pub record MayFinish (stream : ℕ) (plan : StreamPlan) (book : BookView) : Type 0 where
  pub is : IsBook book
  pub whole : book.tally.broken ≡ None
  pub drained : is_drained book ≡ true
  pub complete : is_complete_in stream book ≡ true
  pub planned : slice_get book.opening.plan stream ≡ Some plan

pub plans_told : (book : BookView) → IsBook book → book.tally.broken ≡ None → PlansAre (plans_now book.opening.plan book.shown) (dock_events book.seen)
plans_told book is whole = of_tables (HasPlans book) (dock_events book.seen) (is.plans whole)

pub plan_known : (stream : ℕ) (plan : StreamPlan) (book : BookView) → slice_get book.opening.plan stream ≡ Some plan → IsSome (slice_get (plans_now book.opening.plan book.shown) stream)
plan_known stream plan book planned = subst (λ (it : Option StreamPlan). IsSome it) (sym (now_at book.opening.plan book.shown stream plan planned)) refl

pub plans_differ : (book : BookView) → IsBook book → IdsDiffer (plans_now book.opening.plan book.shown)
plans_differ book is = now_differ book.opening.plan book.shown (own_ids book.catalog book.opening.plan is.planned is.configured.distinct)

-- behind its merges it is such a book still
pub merged_may : (dedup : Bool) (stream : ℕ) (plan : StreamPlan) (book : BookView) (seen : DockSeen) → MayFinish stream plan book → MergesWhere {T = Unit {0}} dedup (Ok tt) stream book.limits.page book.seen seen → MayFinish stream plan (record book { seen = seen })
merged_may dedup stream plan book seen may merges =
    let s = where_stays dedup (Ok tt) stream book.limits.page book.seen seen merges in
    record {
      is = kept IsFinishRun book (record book { seen = seen }) may.is (turned_remains book (record book { seen = seen }) seen book.shown book.tally.broken refl s.turns refl)
          (λ none. in_tables (HasPlans book) (dock_events seen) (s.stays.plans (plans_now book.opening.plan book.shown) (plans_told book may.is may.whole)))
          (λ m of. went_runs IsFinishRun book (record book { seen = seen }) m (went_whole book.catalog (record book { seen = seen }) m (of.quiet may.whole) (where_lead dedup stream book.limits.page book m seen merges (whole_of book m may.whole of))));
      whole = may.whole;
      drained = may.drained;
      complete = may.complete;
      planned = may.planned;
    }

-- a stream that is to be shown: its plan hides it still
pub record MayShow (stream : ℕ) (plan : StreamPlan) (book : BookView) : Type 0 where
  pub may : MayFinish stream plan book
  pub hidden : plan.hidden ≡ true
  pub marked : is_marked (slice_get book.shown stream) ≡ false
  pub now : slice_get (plans_now book.opening.plan book.shown) stream ≡ Some plan

not_is : (b : Bool) → not b ≡ true → b ≡ false
not_is true e = absurd (false≢true e)
not_is false e = refl

pub may_show : (stream : ℕ) (plan : StreamPlan) (book : BookView) → MayFinish stream plan book → is_to_show stream plan.hidden book ≡ true → MayShow stream plan book
may_show stream plan book may to_show =
    let parts = and_parts plan.hidden (not (is_marked (slice_get book.shown stream))) to_show in
    let marked = not_is (is_marked (slice_get book.shown stream)) parts.1 in
    record { may = may; hidden = parts.0; marked = marked; now = now_at book.opening.plan book.shown stream plan may.planned ∙ ap (λ (flag : Bool). Some (plan_now plan flag)) marked }

-- the store's plan of it
pub show_planned : (stream : ℕ) (plan : StreamPlan) (book : BookView) (events : List Event) → MayShow stream plan book → dock_events book.seen ≡ Some events → plan_at (tables_of events) stream ≡ Some plan
show_planned stream plan book events may told = ap (λ (plans : List StreamPlan). slice_get plans stream) (subst (PlansAre (plans_now book.opening.plan book.shown)) told (plans_told book may.may.is may.may.whole)) ∙ may.now

pub show_differ : (stream : ℕ) (plan : StreamPlan) (book : BookView) (events : List Event) → MayShow stream plan book → dock_events book.seen ≡ Some events → IdsDiffer (tables_of events).plan
show_differ stream plan book events may told = subst IdsDiffer (sym (subst (PlansAre (plans_now book.opening.plan book.shown)) told (plans_told book may.may.is may.may.whole))) (plans_differ book may.may.is)

-- what was shown stands in the tables
pub show_now : (stream : ℕ) (plan : StreamPlan) (book : BookView) (events : List Event) → MayShow stream plan book → dock_events book.seen ≡ Some events → ShowStays stream plan (tables_of events) (tables_of (events ++ shown_event (tables_of events) stream ∷ []))
show_now stream plan book events may told = show_stays events stream plan (show_differ stream plan book events may told) (show_planned stream plan book events may told) may.hidden

listed_low : (stream : ℕ) (plan : StreamPlan) (book : BookView) → IsBook book → slice_get book.opening.plan stream ≡ Some plan → stream < length book.shown
listed_low stream plan book is planned =
    let low = slice_get_within book.opening.plan stream plan planned in
    let long = plans_long book.catalog book.opening.plan is.planned in
    let listed = is.listed in
    omega (arith, low, long, listed)

shown_plans_are : (stream : ℕ) (plan : StreamPlan) (book : BookView) (told now : Option (List Event)) → MayShow stream plan book → dock_events book.seen ≡ told → now ≡ told_by (showing stream) told → PlansAre (plans_now book.opening.plan (slice_set book.shown stream true)) now
shown_plans_are stream plan book None now may told added = subst (PlansAre (plans_now book.opening.plan (slice_set book.shown stream true))) (sym added) tt
shown_plans_are stream plan book (Some events) now may told added =
    let were : (tables_of events).plan ≡ plans_now book.opening.plan book.shown = subst (PlansAre (plans_now book.opening.plan book.shown)) told (plans_told book may.may.is may.may.whole) in
    subst (PlansAre (plans_now book.opening.plan (slice_set book.shown stream true))) (sym added)
    ((show_now stream plan book events may told).plans
    ∙ (ap (λ (plans : List StreamPlan). slice_set plans stream (shown_plan plan)) were
    ∙ (ap (λ (flag : Bool). slice_set (plans_now book.opening.plan book.shown) stream (shown_plan (plan_now plan flag))) (sym may.marked)
    ∙ now_set book.opening.plan book.shown stream plan may.may.planned (listed_low stream plan book may.may.is may.may.planned))))

-- Plans

same_plans : (old new : BookView) → IsBook old → new ≡ old → HasOwnPlans new
same_plans old new is same = subst HasOwnPlans (sym same) is.plans

broken_plans : (stop : Status) (result : Result Finished Status) (old new : BookView) → BreaksFinish stop result old new → HasOwnPlans new
broken_plans stop result old new b none = absurd (none_is stop (ap (λ (it : BookView). it.tally.broken) (sym b.is) ∙ none))

shown_own_plans : (shown : Result (Unit {0}) Fault) (stream : ℕ) (plan : StreamPlan) (result : Result Finished Status) (book : BookView) (seen : DockSeen) (new : BookView) → MayShow stream plan book → ShowsStream shown stream book.seen seen → ShownAnswer shown stream result (record book { seen = seen }) new → HasOwnPlans new
shown_own_plans (Ok done) stream plan result book seen new may s answer = subst HasOwnPlans (sym answer.is) (λ none. in_tables (HasPlans (record book { seen = seen; shown = slice_set book.shown stream true })) (dock_events seen) (shown_plans_are stream plan book (dock_events book.seen) (dock_events seen) may refl s.events))
shown_own_plans (Err stop) stream plan result book seen new may s answer = broken_plans (show_stop stop) result (record book { seen = seen }) new answer

shows_plans : (to_show : Bool) (stream : ℕ) (plan : StreamPlan) (result : Result Finished Status) (book new : BookView) → MayFinish stream plan book → is_to_show stream plan.hidden book ≡ to_show → ShowsWhere to_show stream result book new → HasOwnPlans new
shows_plans true stream plan result book new may to_show shows = shown_own_plans shows.shown stream plan result book shows.seen new (may_show stream plan book may to_show) shows.shows shows.answer
shows_plans false stream plan result book new may to_show shows = same_plans book new may.is shows.is

behind_plans : (merged : Result (Unit {0}) MergeFault) (dedup : Bool) (stream : ℕ) (plan : StreamPlan) (result : Result Finished Status) (book : BookView) (seen : DockSeen) (new : BookView) → MayFinish stream plan book → MergesWhere dedup merged stream book.limits.page book.seen seen → ShowsBehind merged (is_to_show stream plan.hidden book) stream result (record book { seen = seen }) new → HasOwnPlans new
behind_plans (Ok done) dedup stream plan result book seen new may merges shows = shows_plans (is_to_show stream plan.hidden book) stream plan result (record book { seen = seen }) new (merged_may dedup stream plan book seen may merges) refl shows
behind_plans (Err stop) dedup stream plan result book seen new may merges shows = broken_plans (merge_stop stop) result (record book { seen = seen }) new shows

pub may_finish : (stream : ℕ) (result : Result Finished Status) (old new : BookView) (f : FinishUnless None true true stream result old new) → IsBook old → old.tally.broken ≡ None → is_drained old ≡ true → is_complete_in stream old ≡ true → MayFinish stream f.plan old
may_finish stream result old new f is whole drained complete = record { is = is; whole = whole; drained = drained; complete = complete; planned = f.planned }

unless_plans : (broken : Option Status) (drained complete : Bool) (stream : ℕ) (result : Result Finished Status) (old new : BookView) → old.tally.broken ≡ broken → is_drained old ≡ drained → is_complete_in stream old ≡ complete → IsBook old → FinishUnless broken drained complete stream result old new → HasOwnPlans new
unless_plans (Some first) drained complete stream result old new b d c is f = same_plans old new is f.1
unless_plans None false complete stream result old new b d c is f = same_plans old new is f.1
unless_plans None true false stream result old new b d c is f = same_plans old new is f.1
unless_plans None true true stream result old new b d c is f = behind_plans f.finishes.merged f.plan.dedup stream f.plan result old f.finishes.seen new (may_finish stream result old new f is b d c) f.finishes.merges f.finishes.shows

-- Runs

-- the stream of a plan
record ConfAt (streams : List ConfStream) (plan : StreamPlan) (n : ℕ) : Type 0 where
  stream : ConfStream
  configured : slice_get streams n ≡ Some stream
  fits : PlanFits stream plan

conf_at : (streams : List ConfStream) (plans : List StreamPlan) (n : ℕ) (plan : StreamPlan) → PlansFit streams plans → slice_get plans n ≡ Some plan → ConfAt streams plan n
conf_at streams [] n plan fit at = absurd (none_some plan at)
conf_at [] (first ∷ plans) n plan fit at = absurd fit
conf_at (stream ∷ streams) (first ∷ plans) zero plan fit at = record { stream = stream; configured = refl; fits = subst (PlanFits stream) (some_is first plan at) fit.0 }
conf_at (stream ∷ streams) (first ∷ plans) (suc n) plan fit at = let deeper = conf_at streams plans n plan fit.1 at in record { stream = deeper.stream; configured = deeper.configured; fits = deeper.fits }

shows_complete : (stream : ℕ) (plan : StreamPlan) (book : BookView) (read : Reading) (before : List Event) → MayShow stream plan book → dock_events book.seen ≡ Some before → IsReading read before → ShowsComplete read before (shown_event_for (Some plan) (tables_of before) stream) stream
shows_complete stream plan book read before may told reads =
    let conf = conf_at book.catalog book.opening.plan stream plan may.may.is.planned may.may.planned in
    let ends = drained_ends_load book read before (record { book_is = may.may.is; whole = may.may.whole; drained = may.may.drained; told = told }) (readers_read_last read before reads) in
    record {
      marks = sym (shown_is before stream plan (show_planned stream plan book before may told));
      plan = plan;
      planned = show_planned stream plan book before may told;
      load = ends.load;
      older = ends.done.older;
      last = ends.done.last;
      complete = ap (λ (id : StreamId). last_status id (lines_read read (tooks ends.load.events))) conf.fits.id ∙ (ends.complete stream conf.stream conf.configured).0 may.may.complete;
      committed_are = subst (λ list. AllByRecursion (λ entry. same_id plan.id entry.content.id ≡ false) list) (sym ends.done.committed_are) tt;
    }

show_run : (stream : ℕ) (plan : StreamPlan) (book : BookView) (seen : DockSeen) → MayShow stream plan book → dock_events seen ≡ told_by (showing stream) (dock_events book.seen) → KeepsRunOf book.catalog book.seen seen
show_run stream plan book seen may added read before now first second reads =
    let planned = show_planned stream plan book before may first in
    let event = shown_event_for (Some plan) (tables_of before) stream in
    let is : now ≡ before ++ event ∷ [] = some_is now (before ++ event ∷ []) (sym second ∙ (added ∙ (ap (told_by (showing stream)) first ∙ ap (λ (it : Event). Some (before ++ it ∷ [])) (shown_is before stream plan planned)))) in
    let right : IsReading read before = all_first (ReadsEvent read) before (event ∷ []) (subst (IsReading read) is reads) in
    subst (StayRun book.catalog read before) (sym is) (run_one book.catalog read before event (λ run. record { plan = plan; planned = planned; hidden = may.hidden }) (shows_complete stream plan book read before may first right))

shown_run : (shown : Result (Unit {0}) Fault) (stream : ℕ) (plan : StreamPlan) (book : BookView) (seen : DockSeen) → MayShow stream plan book → ShowAdds shown stream (dock_events book.seen) (dock_events seen) → KeepsRunOf book.catalog book.seen seen
shown_run (Ok done) stream plan book seen may added = show_run stream plan book seen may added
shown_run (Err fault.Failed) stream plan book seen may (inl same) = keeps_run_same book.catalog book.seen seen same
shown_run (Err fault.Failed) stream plan book seen may (inr added) = show_run stream plan book seen may added
shown_run (Err fault.NoMemory) stream plan book seen may same = keeps_run_same book.catalog book.seen seen same

-- what a showing leads to has the dock that was shown to
shown_seen : (shown : Result (Unit {0}) Fault) (stream : ℕ) (result : Result Finished Status) (book : BookView) (seen : DockSeen) (new : BookView) → ShownAnswer shown stream result (record book { seen = seen }) new → new.seen ≡ seen
shown_seen (Ok done) stream result book seen new answer = ap (λ (it : BookView). it.seen) answer.is
shown_seen (Err stop) stream result book seen new answer = ap (λ (it : BookView). it.seen) answer.is

shows_run : (to_show : Bool) (stream : ℕ) (plan : StreamPlan) (result : Result Finished Status) (book new : BookView) → MayFinish stream plan book → is_to_show stream plan.hidden book ≡ to_show → ShowsWhere to_show stream result book new → SeenTurns book.seen new.seen × KeepsRunOf book.catalog book.seen new.seen
shows_run true stream plan result book new may to_show shows = subst (λ (it : DockSeen). SeenTurns book.seen it × KeepsRunOf book.catalog book.seen it) (sym (shown_seen shows.shown stream result book shows.seen new shows.answer)) (show_turns shows.shown stream book.seen shows.seen shows.shows, shown_run shows.shown stream plan book shows.seen (may_show stream plan book may to_show) shows.shows.events)
shows_run false stream plan result book new may to_show shows = subst (λ (it : DockSeen). SeenTurns book.seen it × KeepsRunOf book.catalog book.seen it) (sym (ap (λ (it : BookView). it.seen) shows.is)) (turns_same book.seen, keeps_run_same book.catalog book.seen book.seen refl)

behind_run : (merged : Result (Unit {0}) MergeFault) (dedup : Bool) (stream : ℕ) (plan : StreamPlan) (result : Result Finished Status) (book : BookView) (seen : DockSeen) (new : BookView) → MayFinish stream plan book → MergesWhere dedup merged stream book.limits.page book.seen seen → ShowsBehind merged (is_to_show stream plan.hidden book) stream result (record book { seen = seen }) new → KeepsRunOf book.catalog book.seen new.seen
behind_run merged dedup stream plan result book seen new may merges shows = at merged merges shows
  where
    run_to : (merged : Result (Unit {0}) MergeFault) → MergesWhere dedup merged stream book.limits.page book.seen seen → KeepsRunOf book.catalog book.seen seen
    run_to merged merges = (where_stays dedup merged stream book.limits.page book.seen seen merges).stays.run book.catalog (plans_now book.opening.plan book.shown) (plan_known stream plan book may.planned) (plans_told book may.is may.whole)

    at : (merged : Result (Unit {0}) MergeFault) → MergesWhere dedup merged stream book.limits.page book.seen seen → ShowsBehind merged (is_to_show stream plan.hidden book) stream result (record book { seen = seen }) new → KeepsRunOf book.catalog book.seen new.seen
    at (Ok done) merges shows =
        let then = shows_run (is_to_show stream plan.hidden book) stream plan result (record book { seen = seen }) new (merged_may dedup stream plan book seen may merges) refl shows in
        keeps_run_both book.catalog book.seen seen new.seen (where_stays dedup (Ok done) stream book.limits.page book.seen seen merges).turns.moves then.0.moves (run_to (Ok done) merges) then.1
    at (Err stop) merges shows = subst (KeepsRunOf book.catalog book.seen) (sym (ap (λ (it : BookView). it.seen) shows.is)) (run_to (Err stop) merges)

same_run : (old new : BookView) → new ≡ old → KeepsRunOf old.catalog old.seen new.seen
same_run old new same = keeps_run_same old.catalog old.seen new.seen (ap (λ (it : BookView). dock_events it.seen) same)

unless_run : (broken : Option Status) (drained complete : Bool) (stream : ℕ) (result : Result Finished Status) (old new : BookView) → old.tally.broken ≡ broken → is_drained old ≡ drained → is_complete_in stream old ≡ complete → IsBook old → FinishUnless broken drained complete stream result old new → KeepsRunOf old.catalog old.seen new.seen
unless_run (Some first) drained complete stream result old new b d c is f = same_run old new f.1
unless_run None false complete stream result old new b d c is f = same_run old new f.1
unless_run None true false stream result old new b d c is f = same_run old new f.1
unless_run None true true stream result old new b d c is f = behind_run f.finishes.merged f.plan.dedup stream f.plan result old f.finishes.seen new (may_finish stream result old new f is b d c) f.finishes.merges f.finishes.shows

-- The laws

pub finish_keeps : FinishKeeps
finish_keeps stream result old new is answer =
    let remains = unless_remains old.tally.broken (is_drained old) (is_complete_in stream old) stream result old new answer in
    let plans = unless_plans old.tally.broken (is_drained old) (is_complete_in stream old) stream result old new refl refl refl is answer in
    let run = unless_run old.tally.broken (is_drained old) (is_complete_in stream old) stream result old new refl refl refl is answer in
    keeps IsFinishRun old new is remains plans (λ book. subst (λ (streams : List ConfStream). KeepsRunOf streams old.seen new.seen) (sym remains.catalog) run) (runs stream result old new answer)

pub books_can_finish : BooksCanFinish
books_can_finish stream book is below = record {
  known = subst (λ n. stream < n) (sym is.as_many) below;
  planned = subst (λ n. stream < n) (sym (plans_long book.catalog book.opening.plan is.planned)) below;
  listed = subst (λ n. stream < n) (sym is.listed) below;
  some = is.limits_are.8;
}

-- The same, clause by clause, as a book's calls cite them.

pub finish_book : (stream : ℕ) (result : Result Finished Status) (old new : BookView) → IsBook old → FinishAnswer stream result old new → IsBook new
finish_book stream result old new is answer = (finish_keeps stream result old new is answer).book

pub finish_opened : (stream : ℕ) (result : Result Finished Status) (old new : BookView) → IsBook old → FinishAnswer stream result old new → KeepsOpened old new
finish_opened stream result old new is answer = (finish_keeps stream result old new is answer).opened

pub finish_runs : (stream : ℕ) (result : Result Finished Status) (old new : BookView) → IsBook old → FinishAnswer stream result old new → Runs IsFinishRun old new
finish_runs stream result old new is answer = (finish_keeps stream result old new is answer).runs

pub finish_moves : (stream : ℕ) (result : Result Finished Status) (old new : BookView) → IsBook old → FinishAnswer stream result old new → DockMoves old.seen new.seen
finish_moves stream result old new is answer = (finish_keeps stream result old new is answer).moves

pub finish_grew : (stream : ℕ) (result : Result Finished Status) (old new : BookView) → IsBook old → FinishAnswer stream result old new → DockGrew old.seen new.seen
finish_grew stream result old new is answer = (finish_keeps stream result old new is answer).grew

pub finish_own : (stream : ℕ) (result : Result Finished Status) (old new : BookView) → IsBook old → FinishAnswer stream result old new → OwnLoadIsSafe new
finish_own stream result old new is answer = (finish_keeps stream result old new is answer).own

pub finish_safe : (stream : ℕ) (result : Result Finished Status) (old new : BookView) → IsBook old → FinishAnswer stream result old new → KeepsSafe old new
finish_safe stream result old new is answer = (finish_keeps stream result old new is answer).safe
