-- What a call on the input does is a run of the machine: a line at most, then seals, then releases.
use Rattle.std.proofs.Common.{arith, ◌≡◌, ◌⊎◌, inl, inr, ℕ, ◌+◌, ◌<◌, ◌≤◌, ◌^◌, eqb, get_or, List, [], ◌∷◌, ◌++◌, length, Option, None, Some, Bool, true, false, cond, Result, Ok, Err, refl, sym, ◌∙◌, ap, subst, slice_set}
use Rattle.std.specs.Prelude.{filter_map, find, nat_lt, IsTrue, ◌↔◌, slice_get}
use Rattle.std.specs.List.{AllByRecursion}
use Rattle.std.proofs.lemmas.List.{append-nil, length-set, get_or-set_same, get_or-set_other}
use Rattle.std.proofs.lemmas.Bool.{cases_eq, eq-eqb, ne_eqb, false_from_ne_true, ltb-false, ltb-true}
use Rattle.std.proofs.lemmas.Option.{slice_get_within, slice_get-get_or}
use Rattle.basics.specs.Told.{told_more}
use Rattle.basics.specs.declared.stream.StreamId.{StreamId}
use Rattle.catalog.specs.declared.stream.ConfStream.{ConfStream}
use Rattle.stream_index.specs.Distinct.{AreDistinct}
use Rattle.json_fields.specs.Answer.{IsAnswer}
use Rattle.airbyte_message.specs.Lanes.{Lane, lane_of}
use Rattle.airbyte_message.specs.Lanes as lanes
use Rattle.airbyte_message.specs.Messages.{IsMessage}
use Rattle.airbyte_message.specs.State.{State}
use Rattle.airbyte_message.specs.declared.message.Message.{Message}
use Rattle.airbyte_message.specs.declared.message.Message.TheVariants as message
use Rattle.airbyte_message.specs.declared.message.RecordMsg.{RecordMsg}
use Rattle.airbyte_message.specs.declared.message.TraceMsg.{TraceMsg}
use Rattle.airbyte_message.specs.declared.stream_status.StreamStatus.{StreamStatus}
use Rattle.outside.specs.Dock.{DockSeen, dock_events}
use Rattle.outside.specs.Tables.{same_id}
use Rattle.outside.proofs.TableLaws.{id_is}
use Rattle.outside.specs.declared.event.Event.TheVariants.{Took}
use Rattle.outside.specs.declared.fault.Fault.{Fault}
use Rattle.outside.specs.declared.faults.InputKind.{InputKind}
use Rattle.outside.specs.declared.faults.InputKind.TheVariants as input
use Rattle.outside.specs.declared.link.PollKind.TheVariants as poll_kind
use Rattle.outside.specs.declared.status.Status.{Status}
use Rattle.outside.specs.declared.status.Status.TheVariants as status
use Rattle.book_queue.specs.Content.{all_of, queued, HasRoom}
use Rattle.state_gate.specs.declared.pending.Lane.{Lane as GateLane}
use Rattle.state_gate.specs.declared.pending.Lane.TheVariants as gate_lane
use Rattle.load_rules.specs.Acts.{Act, taken, committed, state_echoed}
use Rattle.load_rules.specs.Finished.{last_status, status_after}
use Rattle.load_rules.specs.Lines.{Line, Status as Told, record_in, state_in, status_in, status_told}
use Rattle.load_rules.specs.Machine.{Machine, Step, Accept, End, Seal, HandOut, Commit, TakeBack, Release, Turn, run, happens, accepts, is_releasable}
use Rattle.load_rules.proofs.SafeRuns.{runs_grow}
use Rattle.book_rules.specs.declared.answer.Accepted.{Accepted}
use Rattle.book_rules.specs.declared.answer.Lanes.{Lanes}
use Rattle.book_rules.specs.declared.answer.Lanes.TheVariants as kinds
use Rattle.book_rules.specs.Accepts.{AcceptAnswer, AnswersUnless, Breaks, Ends as EndsBook, GoesOn, MakesRoom, Notes, Reads, Refuses, Rests, TakesCounted, TakesFound, TakesLine, TakesMessage, TakesNext, TakesRecord, TakesRecordOf, TakesState, TakesStateBy, TakesStateIn, TakesStateOf, TakesStateUnless, TakesStatus, Unparks, broken_by, fault_of, is_other, lane_fault, state_fault, lanes_of, sealed_by, with_line, with_status}
use Rattle.book_rules.specs.Accepts as accepts_
use Rattle.book_rules.specs.Books.{BrokeBy, CountsEchoes, IsAcceptRun, IsBookOf, IsQuiet, IsReleasing, IsSealing, IsTaking, RunsTo}
use Rattle.book_rules.specs.Holds.{IsLane, lanes_among}
use Rattle.book_rules.specs.Releases.{Point, ReleaseAnswer, stop_of}
use Rattle.book_rules.specs.Views.{BookView, ids}
use Rattle.book_rules.proofs.Acts.{ran_still, ran_unused}
use Rattle.book_rules.proofs.Moves.{number_same}
use Rattle.book_rules.proofs.Releasing.{at_point, broke_at, counts_of_none, releases_all_lead, releases_some_lead}
use Rattle.book_rules.proofs.Sealing.{seal_all_leads, seal_full_leads, seal_leads, seal_oldest_leads}
use Rattle.book_rules.proofs.Stating.{state_whole, took_state}
use Rattle.book_rules.proofs.Taking.{empty_few, line_as, releasable_as, other_whole, pushed_aside, pushed_in, quiet_line, record_whole, StatusesFit, took_other, took_record, unknown_fault}
use Rattle.book_rules.proofs.Whole.{IsWhole, Leads, book_of_whole, broken_counts, broken_of, whole_counts}

-- A run of this shape leads to the book.
pub record Went (shape : List Step → Type 0) (catalog : List ConfStream) (new : BookView) (m : Machine) : Type 0 where
  pub steps : List Step
  pub shaped : shape steps
  pub leads : IsBookOf new (run catalog steps m)

pub went_runs : (shape : List Step → Type 0) (old new : BookView) (m : Machine) → Went shape old.catalog new m → RunsTo shape old new m
went_runs shape old new m went = record { steps = went.steps; shaped = went.shaped; leads = went.leads }

pub went_as : (shape : List Step → Type 0) (catalog : List ConfStream) (one other : BookView) (m : Machine) → other ≡ one → Went shape catalog one m → Went shape catalog other m
went_as shape catalog one other m same went = subst (λ (book : BookView). Went shape catalog book m) (sym same) went

accept_shape : (takes seals frees : List Step) → length takes ≤ 1 → AllByRecursion IsTaking takes → AllByRecursion IsSealing seals → AllByRecursion IsReleasing frees → IsAcceptRun (takes ++ (seals ++ frees))
accept_shape takes seals frees once taking sealing freeing = record { takes = takes; seals = seals; frees = frees; splits = refl; once = once; taking = taking; sealing = sealing; freeing = freeing }

-- no step
pub went_none : (catalog : List ConfStream) (new : BookView) (m : Machine) → IsBookOf new m → Went IsAcceptRun catalog new m
went_none catalog new m is = record { steps = []; shaped = accept_shape [] [] [] (omega arith) tt tt tt; leads = is }

-- seals change no act and no state

record KeepsActs (m now : Machine) : Type 0 where
  acts : now.acts ≡ m.acts
  waiting : now.waiting ≡ m.waiting

seals_keep : (catalog : List ConfStream) (steps : List Step) (m : Machine) → AllByRecursion IsSealing steps → KeepsActs m (run catalog steps m)
seals_keep catalog [] m all = record { acts = refl; waiting = refl }
seals_keep catalog (Seal id count ∷ steps) m all =
    let then = seals_keep catalog steps (happens catalog m (Seal id count)) all.1 in
    record { acts = then.acts; waiting = then.waiting }
seals_keep catalog (Accept line ∷ steps) m all = absurd all.0
seals_keep catalog (End ∷ steps) m all = absurd all.0
seals_keep catalog (HandOut id count batch ∷ steps) m all = absurd all.0
seals_keep catalog (Commit number id batch rows ∷ steps) m all = absurd all.0
seals_keep catalog (TakeBack id batch ∷ steps) m all = absurd all.0
seals_keep catalog (Release ∷ steps) m all = absurd all.0
seals_keep catalog (Turn ∷ steps) m all = absurd all.0

-- nor does what commits nothing
pub releasable_by : (m now : Machine) → committed now.acts ≡ committed m.acts → now.waiting ≡ m.waiting → IsQuiet m → IsQuiet now
releasable_by m now done waiting quiet = releasable_as m.acts now.acts done now.waiting ∙ (ap (find (is_releasable m.acts)) waiting ∙ quiet)

pub quiet_as : (m now : Machine) → now.acts ≡ m.acts → now.waiting ≡ m.waiting → IsQuiet m → IsQuiet now
quiet_as m now acts waiting quiet = ap (λ (it : List Act). find (is_releasable it) now.waiting) acts ∙ (ap (find (is_releasable m.acts)) waiting ∙ quiet)

quiet_sealed : (catalog : List ConfStream) (steps : List Step) (m : Machine) → AllByRecursion IsSealing steps → IsQuiet m → IsQuiet (run catalog steps m)
quiet_sealed catalog steps m all quiet = let keeps = seals_keep catalog steps m all in quiet_as m (run catalog steps m) keeps.acts keeps.waiting quiet

-- a step at most, and seals
pub went_sealed : (catalog : List ConfStream) (new : BookView) (m : Machine) (takes : List Step) → length takes ≤ 1 → AllByRecursion IsTaking takes → IsQuiet (run catalog takes m) → Leads IsSealing catalog new (run catalog takes m) → Went IsAcceptRun catalog new m
went_sealed catalog new m takes once taking quiet l = record {
  steps = takes ++ (l.steps ++ []);
  shaped = accept_shape takes l.steps [] once taking l.all tt;
  leads = subst (IsBookOf new) (sym (ap (λ list. run catalog (takes ++ list) m) (append-nil l.steps) ∙ runs_grow catalog takes l.steps m)) (book_of_whole new (run catalog l.steps (run catalog takes m)) l.leads (quiet_sealed catalog l.steps (run catalog takes m) l.all quiet));
}

-- a step, seals, and releases
run_three : (catalog : List ConfStream) (takes seals frees : List Step) (m : Machine) → run catalog (takes ++ (seals ++ frees)) m ≡ run catalog frees (run catalog seals (run catalog takes m))
run_three catalog takes seals frees m = runs_grow catalog takes (seals ++ frees) m ∙ runs_grow catalog seals frees (run catalog takes m)

went_freed : (catalog : List ConfStream) (new : BookView) (m : Machine) (takes seals frees : List Step) → length takes ≤ 1 → AllByRecursion IsTaking takes → AllByRecursion IsSealing seals → AllByRecursion IsReleasing frees → IsBookOf new (run catalog frees (run catalog seals (run catalog takes m))) → Went IsAcceptRun catalog new m
went_freed catalog new m takes seals frees once taking sealing freeing is = record {
  steps = takes ++ (seals ++ frees);
  shaped = accept_shape takes seals frees once taking sealing freeing;
  leads = subst (IsBookOf new) (sym (run_three catalog takes seals frees m)) is;
}

-- Breaks

pub counts_any : (stop : Status) (counted emitted : ℕ) → emitted ≡ counted → CountsEchoes (Some stop) counted emitted
counts_any status.WriteFault counted emitted same = inl same
counts_any _ counted emitted same = same

abbrev pub broke : BookView → Status → BookView
broke book stop = record book { tally = record (book.tally) { broken = Some stop } }

pub broke_still : (book : BookView) (m : Machine) (seen : DockSeen) (stop : Status) → IsWhole book m → dock_events seen ≡ dock_events book.seen → BrokeBy (ids book) book.tally.lines seen.face.poll m.acts [] stop → IsBookOf (broke (record book { seen = seen }) stop) m
broke_still book m seen stop w same why =
    broken_of (broke (record book { seen = seen }) stop) m [] stop refl (ran_still book.catalog book.opening book.limits.slots m [] (dock_events book.seen) (dock_events seen) w.ran same) (record {
      lines = w.tallied.lines;
      most = w.tallied.most;
      records = w.tallied.records;
      lanes = w.tallied.lanes;
      emitted = counts_any stop book.tally.emitted (length (filter_map state_echoed m.acts)) (counts_of_none book.tally.broken book.tally.emitted (length (filter_map state_echoed m.acts)) w.whole w.tallied.emitted);
      ended = w.tallied.ended;
    }) (broken_counts stop book.gate.next (length (all_of book.queue)) book.gate.next m.acts m.acts refl refl (whole_counts book m w)) why

-- the book behind a poll that gave a line, which is counted
abbrev pub after : BookView → DockSeen → BookView
after book seen = with_line (record book { seen = seen })

broke_line : (book : BookView) (m : Machine) (seen : DockSeen) (text : List ℕ) (stop : Status) → IsWhole book m → book.queue.parked ≡ None → dock_events seen ≡ told_more (Took text ∷ []) (dock_events book.seen) → BrokeBy (ids book) (book.tally.lines + 1) seen.face.poll m.acts (text ∷ []) stop → IsBookOf (broke (after book seen) stop) m
broke_line book m seen text stop w empty added why =
    broken_of (broke (after book seen) stop) m (text ∷ []) stop refl (ran_unused book.catalog book.opening book.limits.slots m text (dock_events book.seen) (dock_events seen) w.ran (empty_few book m empty w) added) (record {
      lines = let before = w.tallied.lines in omega (arith, before);
      most = let few = w.holds.few in omega (arith, few);
      records = w.tallied.records;
      lanes = w.tallied.lanes;
      emitted = counts_any stop book.tally.emitted (length (filter_map state_echoed m.acts)) (counts_of_none book.tally.broken book.tally.emitted (length (filter_map state_echoed m.acts)) w.whole w.tallied.emitted);
      ended = w.tallied.ended;
    }) (broken_counts stop book.gate.next (length (all_of book.queue)) book.gate.next m.acts m.acts refl refl (whole_counts book m w)) why

-- What is known before a call goes on: the book is whole, and no releasable state waits.
pub record Begins (book : BookView) (m : Machine) : Type 0 where
  pub distinct : AreDistinct (ids book)
  pub w : IsWhole book m
  pub quiet : IsQuiet m

-- and what a poll gave
pub record Given (book : BookView) (m : Machine) (seen : DockSeen) (text : List ℕ) : Type 0 where
  pub b : Begins book m
  pub empty : book.queue.parked ≡ None
  pub added : dock_events seen ≡ told_more (Took text ∷ []) (dock_events book.seen)

pub went_refused : (book : BookView) (m : Machine) (seen : DockSeen) (text : List ℕ) (stop : Status) (result : Accepted) (new : BookView) → Given book m seen text → BrokeBy (ids book) (book.tally.lines + 1) seen.face.poll m.acts (text ∷ []) stop → Breaks stop result (after book seen) new → Went IsAcceptRun book.catalog new m
went_refused book m seen text stop result new g why r = went_as IsAcceptRun book.catalog (broke (after book seen) stop) new m r.is (went_none book.catalog (broke (after book seen) stop) m (broke_line book m seen text stop g.b.w g.empty g.added why))

-- Records

pub went_record : (book : BookView) (m : Machine) (seen : DockSeen) (text : List ℕ) (content : RecordMsg) (stream : ℕ) (result : Accepted) (new : BookView) → Given book m seen text → book.tally.lines + 1 < 2 ^ 32 → IsAnswer (IsMessage text) (Some (message.Rec content)) → slice_get (ids book) stream ≡ Some content.id → TakesRecord stream text result (after book seen) new → Went IsAcceptRun book.catalog new m
went_record book m seen text content stream result new g few answer named t = went_as IsAcceptRun book.catalog _ new m t.is (at t.fits t.room)
  where
    line : Line
    line = line_as text (Some (message.Rec content))

    now : Machine
    now = accepts m line

    quiet : IsQuiet now
    quiet = quiet_line m line refl g.b.quiet

    room_is : HasRoom book.queue (length text) → length book.queue.held < book.limits.slots
    room_is room = let lt = room.0 in let same = g.b.w.holds.slots in omega (arith, lt, same)

    at : (fits : Bool) → IsTrue fits ↔ HasRoom book.queue (length text) → Went IsAcceptRun book.catalog (record (after book seen) { gate = new.gate; queue = accepts_.pushed fits stream book.gate.next text book.queue }) m
    at true room =
        let pushed = record (book.queue) { held = book.queue.held ++ queued book.gate.next stream text ∷ []; next = book.gate.next + 1 } in
        let w = record_whole book m seen new.gate pushed text content stream g.b.distinct g.b.w g.empty answer named g.added few t.gate (pushed_in book m book.gate.next stream text g.b.w g.empty (room_is (room.0 refl))) in
        went_sealed book.catalog (record (after book seen) { gate = new.gate; queue = accepts_.pushed true stream book.gate.next text book.queue }) m (Accept line ∷ []) (omega arith) (tt, tt) quiet (seal_full_leads (took_record book seen new.gate pushed) now stream content.id g.b.distinct named w)
    at false room =
        let pushed = record (book.queue) { parked = Some (queued book.gate.next stream text); next = book.gate.next + 1 } in
        let w = record_whole book m seen new.gate pushed text content stream g.b.distinct g.b.w g.empty answer named g.added few t.gate (pushed_aside book m book.gate.next stream text g.b.w g.empty) in
        went_sealed book.catalog (record (after book seen) { gate = new.gate; queue = accepts_.pushed false stream book.gate.next text book.queue }) m (Accept line ∷ []) (omega arith) (tt, tt) quiet (seal_oldest_leads (took_record book seen new.gate pushed) now g.b.distinct w)

-- States

abbrev IsOwnLane : List StreamId → Lane → GateLane → Lanes → Type 0
IsOwnLane ids_ lane own kind = IsLane ids_ lane own × (kind ≡ lanes_of lane)

seals_of : (book : BookView) (m : Machine) (lane : Lane) (own : GateLane) → AreDistinct (ids book) → book.queue.parked ≡ None → IsLane (ids book) lane own → IsWhole book m → Leads IsSealing book.catalog (record book { queue = sealed_by own book.queue }) m
seals_of book m lanes.all gate_lane.Global distinct empty is w = seal_all_leads book m empty w
seals_of book m (lanes.one id) (gate_lane.Stream stream) distinct empty is w = seal_leads book m stream id distinct is w
seals_of book m lanes.all (gate_lane.Stream stream) distinct empty is w = absurd is
seals_of book m (lanes.one id) gate_lane.Global distinct empty is w = absurd is

-- where it is not broken, that may be written again
pub unbroken : (book : BookView) → book.tally.broken ≡ None → record book { tally = record (book.tally) { broken = None } } ≡ book
unbroken book whole = ap (λ (stop : Option Status). record book { tally = record (book.tally) { broken = stop } }) (sym whole)

pub went_state : (book : BookView) (m : Machine) (seen : DockSeen) (text : List ℕ) (state : State) (lane : Lane) (own : GateLane) (kind : Lanes) (result : Accepted) (new : BookView) → Given book m seen text → book.tally.lines + 1 < 2 ^ 32 → IsAnswer (IsMessage text) (Some (message.State state)) → lane_of state.kind ≡ Some lane → is_other book.tally.lanes (lanes_of lane) ≡ false → IsOwnLane (ids book) lane own kind → TakesState own state kind result (after book seen) new → Went IsAcceptRun book.catalog new m
went_state book m seen text state lane own kind result new g few answer laned same is t = went_as IsAcceptRun book.catalog _ new m t.is (at t.released t.releases)
  where
    line : Line
    line = line_as text (Some (message.State state))

    now : Machine
    now = accepts m line

    took : BookView
    took = took_state book seen t.gate kind

    w : IsWhole took now
    w = state_whole book m seen t.gate text state lane own kind g.b.distinct g.b.w g.empty answer laned is.0 g.added few is.1 same t.takes

    sealed : BookView
    sealed = record took { queue = sealed_by own book.queue }

    seals : Leads IsSealing book.catalog sealed now
    seals = seals_of took now lane own g.b.distinct g.empty is.0 w

    old_point : Point
    old_point = record { gate = t.gate; seen = seen; emitted = book.tally.emitted }

    new_point : Point
    new_point = record { gate = new.gate; seen = new.seen; emitted = new.tally.emitted }

    at : (released : Result (Unit {0}) Fault) → ReleaseAnswer released old_point new_point → Went IsAcceptRun book.catalog (record (after book seen) { seen = new.seen; gate = new.gate; queue = sealed_by own book.queue; tally = record ((after book seen).tally) { emitted = new.tally.emitted; lanes = Some kind; broken = broken_by released } }) m
    at (Ok done) releases =
        let frees = releases_all_lead sealed old_point new_point (run book.catalog seals.steps now) g.b.distinct releases seals.leads in
        let final = at_point sealed new_point in
        went_as IsAcceptRun book.catalog final _ m (unbroken final g.b.w.whole) (went_freed book.catalog final m (Accept line ∷ []) seals.steps frees.steps (omega arith) (tt, tt) seals.all frees.all (book_of_whole final (run book.catalog frees.steps (run book.catalog seals.steps now)) frees.leads frees.quiet))
    at (Err fault) releases =
        let frees = releases_some_lead fault sealed old_point new_point (run book.catalog seals.steps now) g.b.distinct releases seals.leads in
        went_freed book.catalog (broke_at sealed new_point (stop_of fault)) m (Accept line ∷ []) seals.steps frees.steps (omega arith) (tt, tt) seals.all frees.all frees.leads

-- Other messages

pub went_other : (book : BookView) (m : Machine) (seen : DockSeen) (text : List ℕ) (found : Option Message) (statuses : List (Option StreamStatus)) (result : Accepted) (new : BookView) → Given book m seen text → book.tally.lines + 1 < 2 ^ 32 → IsAnswer (IsMessage text) found → record_in found ≡ None → state_in found ≡ None → fault_of input.BadLine (ids book) (lanes_among (taken m.acts)) found ≡ None → length statuses ≡ length (ids book) → StatusesFit book m found statuses → Notes statuses result (after book seen) new → Went IsAcceptRun book.catalog new m
went_other book m seen text found statuses result new g few answer no_record no_state fine many fit t =
    let line = line_as text found in
    let w = other_whole book m seen statuses text found g.b.w g.empty answer no_record no_state fine g.added few many fit in
    went_as IsAcceptRun book.catalog (took_other book seen statuses) new m t.is (went_sealed book.catalog (took_other book seen statuses) m (Accept line ∷ []) (omega arith) (tt, tt) (quiet_line m line no_state g.b.quiet) (record { steps = []; all = tt; leads = w }))

-- a message without a status changes none
same_statuses : (book : BookView) (m : Machine) (found : Option Message) → IsWhole book m → status_in found ≡ None → StatusesFit book m found book.statuses
same_statuses book m found w none number id named = w.holds.statuses number id named ∙ ap (λ (told : Option Told). Some (status_after id (last_status id (taken m.acts)) told)) (sym none)

status_other : (ids_ : List StreamId) (told id : StreamId) (number : ℕ) → ((value : ℕ) → ¬ (slice_get ids_ value ≡ Some told)) → slice_get ids_ number ≡ Some id → same_id told id ≡ false
status_other ids_ told id number none named = false_from_ne_true (same_id told id) (λ e. none number (named ∙ ap (λ (it : StreamId). Some it) (sym (id_is told id e))))

set_status : (ids_ : List StreamId) (statuses : List (Option StreamStatus)) (stream number : ℕ) (told id : StreamId) (now last : Option StreamStatus) → AreDistinct ids_ → length statuses ≡ length ids_ → slice_get ids_ stream ≡ Some told → slice_get ids_ number ≡ Some id → slice_get statuses number ≡ Some last → slice_get (slice_set statuses stream now) number ≡ Some (cond (same_id told id) now last)
set_status ids_ statuses stream number told id now last distinct many named own is = at (cases_eq number stream)
  where
    same_is : same_id told id ≡ eqb number stream
    same_is = number_same ids_ number stream id told distinct own named

    within : number < length (slice_set statuses stream now)
    within = let lt = slice_get_within ids_ number id own in let long = length-set statuses stream now in omega (arith, lt, long, many)

    here : slice_get (slice_set statuses stream now) number ≡ Some (get_or (slice_set statuses stream now) number None)
    here = slice_get-get_or (slice_set statuses stream now) number None within

    at : (number ≡ stream) ⊎ (number ≡ stream → ⊥) → slice_get (slice_set statuses stream now) number ≡ Some (cond (same_id told id) now last)
    at (inl same) =
        let lt : stream < length statuses = let it = slice_get_within ids_ stream told named in omega (arith, it, many) in
        rw (same_is, eq-eqb number stream same) (here ∙ ap (λ (it : Option StreamStatus). Some it) (ap (λ k. get_or (slice_set statuses stream now) k None) same ∙ get_or-set_same statuses stream now None lt))
    at (inr apart) =
        let lt : number < length statuses = let it = slice_get_within ids_ number id own in omega (arith, it, many) in
        rw (same_is, ne_eqb number stream apart) (here ∙ (ap (λ (it : Option StreamStatus). Some it) (get_or-set_other statuses stream number now None apart) ∙ (sym (slice_get-get_or statuses number None lt) ∙ is)))

pub went_trace : (book : BookView) (m : Machine) (seen : DockSeen) (text : List ℕ) (content : TraceMsg) (told : Option Told) (result : Accepted) (new : BookView) → Given book m seen text → book.tally.lines + 1 < 2 ^ 32 → IsAnswer (IsMessage text) (Some (message.Trace content)) → status_told content ≡ told → TakesStatus told result (after book seen) new → Went IsAcceptRun book.catalog new m
went_trace book m seen text content None result new g few answer is t = went_other book m seen text (Some (message.Trace content)) book.statuses result new g few answer refl refl refl g.b.w.holds.statuses_many (same_statuses book m (Some (message.Trace content)) g.b.w is) t
went_trace book m seen text content (Some told) result new g few answer is t = at t.0 t.1 t.2
  where
    at : (found : Option ℕ) → IsAnswer (λ number. slice_get (ids book) number ≡ Some told.id) found → Notes (with_status found told.status book.statuses) result (after book seen) new → Went IsAcceptRun book.catalog new m
    at None none notes = went_other book m seen text (Some (message.Trace content)) book.statuses result new g few answer refl refl refl g.b.w.holds.statuses_many (λ number id named. g.b.w.holds.statuses number id named ∙ sym (ap (λ (it : Option Told). Some (status_after id (last_status id (taken m.acts)) it)) is ∙ ap (λ (b : Bool). Some (cond b (Some told.status) (last_status id (taken m.acts)))) (status_other (ids book) told.id id number none named))) notes
    at (Some stream) found notes = went_other book m seen text (Some (message.Trace content)) (slice_set book.statuses stream (Some told.status)) result new g few answer refl refl refl (length-set book.statuses stream (Some told.status) ∙ g.b.w.holds.statuses_many) (λ number id named. set_status (ids book) book.statuses stream number told.id id (Some told.status) (last_status id (taken m.acts)) g.b.distinct g.b.w.holds.statuses_many found.is named (g.b.w.holds.statuses number id named) ∙ sym (ap (λ (it : Option Told). Some (status_after id (last_status id (taken m.acts)) it)) is)) notes

-- Messages

went_record_of : (book : BookView) (m : Machine) (seen : DockSeen) (text : List ℕ) (content : RecordMsg) (found : Option ℕ) (result : Accepted) (new : BookView) → Given book m seen text → book.tally.lines + 1 < 2 ^ 32 → IsAnswer (IsMessage text) (Some (message.Rec content)) → IsAnswer (λ number. slice_get (ids book) number ≡ Some content.id) found → TakesRecordOf found text result (after book seen) new → Went IsAcceptRun book.catalog new m
went_record_of book m seen text content None result new g few answer named t = went_refused book m seen text _ result new g (refl, record { line = text; last = refl; found = Some (message.Rec content); read = answer; fault = unknown_fault (ids book) content.id named }) t
went_record_of book m seen text content (Some stream) result new g few answer named t = went_record book m seen text content stream result new g few answer named.is t

-- the fault of a state, by what the states before it were of
state_faulty : (book : BookView) (m : Machine) (state : State) (lane : Lane) (b : Bool) → IsWhole book m → lane_of state.kind ≡ Some lane → is_other book.tally.lanes (lanes_of lane) ≡ b → state_fault (ids book) (lanes_among (taken m.acts)) (lane_of state.kind) ≡ cond b (Some input.Mixed) (lane_fault (ids book) lane)
state_faulty book m state lane b w laned is = ap (state_fault (ids book) (lanes_among (taken m.acts))) laned ∙ (ap (λ (known : Option Lanes). cond (is_other known (lanes_of lane)) (Some input.Mixed) (lane_fault (ids book) lane)) (sym w.tallied.lanes) ∙ ap (λ (it : Bool). cond it (Some input.Mixed) (lane_fault (ids book) lane)) is)

went_state_of : (book : BookView) (m : Machine) (seen : DockSeen) (text : List ℕ) (state : State) (id : StreamId) (found : Option ℕ) (result : Accepted) (new : BookView) → Given book m seen text → book.tally.lines + 1 < 2 ^ 32 → IsAnswer (IsMessage text) (Some (message.State state)) → lane_of state.kind ≡ Some (lanes.one id) → is_other book.tally.lanes kinds.Streams ≡ false → IsAnswer (λ number. slice_get (ids book) number ≡ Some id) found → TakesStateOf found state result (after book seen) new → Went IsAcceptRun book.catalog new m
went_state_of book m seen text state id None result new g few answer laned same named t = went_refused book m seen text _ result new g (refl, record { line = text; last = refl; found = Some (message.State state); read = answer; fault = state_faulty book m state (lanes.one id) false g.b.w laned same ∙ unknown_fault (ids book) id named }) t
went_state_of book m seen text state id (Some stream) result new g few answer laned same named t = went_state book m seen text state (lanes.one id) (gate_lane.Stream stream) kinds.Streams result new g few answer laned same (named.is, refl) t

went_state_in : (book : BookView) (m : Machine) (seen : DockSeen) (text : List ℕ) (state : State) (lane : Lane) (result : Accepted) (new : BookView) → Given book m seen text → book.tally.lines + 1 < 2 ^ 32 → IsAnswer (IsMessage text) (Some (message.State state)) → lane_of state.kind ≡ Some lane → is_other book.tally.lanes (lanes_of lane) ≡ false → TakesStateIn lane state result (after book seen) new → Went IsAcceptRun book.catalog new m
went_state_in book m seen text state (lanes.one id) result new g few answer laned same t = went_state_of book m seen text state id t.0 result new g few answer laned same t.1 t.2
went_state_in book m seen text state lanes.all result new g few answer laned same t = went_state book m seen text state lanes.all gate_lane.Global kinds.All result new g few answer laned same (tt, refl) t

went_state_by : (book : BookView) (m : Machine) (seen : DockSeen) (text : List ℕ) (state : State) (lane : Option Lane) (result : Accepted) (new : BookView) → Given book m seen text → book.tally.lines + 1 < 2 ^ 32 → IsAnswer (IsMessage text) (Some (message.State state)) → lane_of state.kind ≡ lane → TakesStateBy lane state result (after book seen) new → Went IsAcceptRun book.catalog new m
went_state_by book m seen text state None result new g few answer laned t = went_refused book m seen text _ result new g (refl, record { line = text; last = refl; found = Some (message.State state); read = answer; fault = ap (state_fault (ids book) (lanes_among (taken m.acts))) laned }) t
went_state_by book m seen text state (Some lane) result new g few answer laned t = at (is_other book.tally.lanes (lanes_of lane)) refl t
  where
    at : (b : Bool) → is_other book.tally.lanes (lanes_of lane) ≡ b → TakesStateUnless b lane state result (after book seen) new → Went IsAcceptRun book.catalog new m
    at true other t = went_refused book m seen text _ result new g (refl, record { line = text; last = refl; found = Some (message.State state); read = answer; fault = state_faulty book m state lane true g.b.w laned other }) t
    at false same t = went_state_in book m seen text state lane result new g few answer laned same t

pub went_message : (book : BookView) (m : Machine) (seen : DockSeen) (text : List ℕ) (content : Message) (result : Accepted) (new : BookView) → Given book m seen text → book.tally.lines + 1 < 2 ^ 32 → IsAnswer (IsMessage text) (Some content) → TakesMessage content text result (after book seen) new → Went IsAcceptRun book.catalog new m
went_message book m seen text (message.Rec content) result new g few answer t = went_record_of book m seen text content t.0 result new g few answer t.1 t.2
went_message book m seen text (message.State state) result new g few answer t = went_state_by book m seen text state (lane_of state.kind) result new g few answer refl t
went_message book m seen text (message.Trace content) result new g few answer t = went_trace book m seen text content (status_told content) result new g few answer refl t
went_message book m seen text (message.Log content) result new g few answer t = went_other book m seen text (Some (message.Log content)) book.statuses result new g few answer refl refl refl g.b.w.holds.statuses_many (same_statuses book m (Some (message.Log content)) g.b.w refl) t
went_message book m seen text (message.Spec content) result new g few answer t = went_other book m seen text (Some (message.Spec content)) book.statuses result new g few answer refl refl refl g.b.w.holds.statuses_many (same_statuses book m (Some (message.Spec content)) g.b.w refl) t
went_message book m seen text (message.Connection content) result new g few answer t = went_other book m seen text (Some (message.Connection content)) book.statuses result new g few answer refl refl refl g.b.w.holds.statuses_many (same_statuses book m (Some (message.Connection content)) g.b.w refl) t
went_message book m seen text (message.Catalog content) result new g few answer t = went_other book m seen text (Some (message.Catalog content)) book.statuses result new g few answer refl refl refl g.b.w.holds.statuses_many (same_statuses book m (Some (message.Catalog content)) g.b.w refl) t
went_message book m seen text (message.Control content) result new g few answer t = went_other book m seen text (Some (message.Control content)) book.statuses result new g few answer refl refl refl g.b.w.holds.statuses_many (same_statuses book m (Some (message.Control content)) g.b.w refl) t

-- Lines

-- how a line that is no message came
abbrev pub PollFits : InputKind → DockSeen → Type 0
PollFits input.BadLine seen = seen.face.poll ≡ poll_kind.Line
PollFits input.TornTail seen = seen.face.poll ≡ poll_kind.Torn
PollFits kind seen = ⊥

went_found : (book : BookView) (m : Machine) (seen : DockSeen) (text : List ℕ) (kind : InputKind) (found : Option Message) (result : Accepted) (new : BookView) → Given book m seen text → PollFits kind seen → book.tally.lines + 1 < 2 ^ 32 → IsAnswer (IsMessage text) found → TakesFound found kind text result (after book seen) new → Went IsAcceptRun book.catalog new m
went_found book m seen text input.BadLine None result new g poll few answer t = went_refused book m seen text _ result new g (refl, poll, record { line = text; last = refl; found = None; read = answer; fault = refl }) t
went_found book m seen text input.TornTail None result new g poll few answer t = went_refused book m seen text _ result new g (refl, poll, record { line = text; last = refl; found = None; read = answer; fault = refl }) t
went_found book m seen text _ None result new g poll few answer t = absurd poll
went_found book m seen text kind (Some content) result new g poll few answer t = went_message book m seen text content result new g few answer t

pub went_line : (book : BookView) (m : Machine) (seen : DockSeen) (text : List ℕ) (kind : InputKind) (result : Accepted) (new : BookView) → Given book m seen text → PollFits kind seen → TakesLine kind text result (record book { seen = seen }) new → Went IsAcceptRun book.catalog new m
went_line book m seen text kind result new g poll t = at (nat_lt (book.tally.lines + 1) (2 ^ 32)) refl t
  where
    read : book.tally.lines + 1 < 2 ^ 32 → Breaks status.NoMemory result (after book seen) new ⊎ Reads kind text result (after book seen) new → Went IsAcceptRun book.catalog new m
    read few (inl lacks) = went_refused book m seen text status.NoMemory result new g tt lacks
    read few (inr reads) = went_found book m seen text kind reads.found result new g poll few reads.read reads.takes

    at : (b : Bool) → nat_lt (book.tally.lines + 1) (2 ^ 32) ≡ b → TakesCounted b kind text result (after book seen) new → Went IsAcceptRun book.catalog new m
    at true few t = read (ltb-true (book.tally.lines + 1) (2 ^ 32) few) t
    at false many t = went_refused book m seen text status.TooManyLines result new g (let low = g.b.w.holds.few in let high = ltb-false (book.tally.lines + 1) (2 ^ 32) many in omega (arith, low, high)) t
