-- What each call leaves as it was, and what it moves in the dock.
use Rattle.std.proofs.Common.{◌≡◌, inl, inr, ℕ, zero, suc, List, [], ◌∷◌, ◌++◌, length, Option, None, Some, Bool, true, false, cond, Result, Ok, Err, refl, sym, ◌∙◌, ap, subst, append_assoc}
use Rattle.std.specs.Prelude.{◌+◌, ◌≤◌, ◌^◌, filter_map, nat_lt}
use Rattle.std.specs.List.{AllByRecursion}
use Rattle.std.proofs.lemmas.List.{append-nil}
use Rattle.std.proofs.lemmas.List.Elements.{filter_map-append}
use Rattle.basics.specs.Told.{told_more}
use Rattle.basics.specs.declared.limits.TheConstants.{LONGEST_LINE}
use Rattle.airbyte_message.specs.Lanes.{Lane, lane_of}
use Rattle.airbyte_message.specs.Lanes as lanes
use Rattle.airbyte_message.specs.State.{State}
use Rattle.airbyte_message.specs.declared.message.Message.{Message}
use Rattle.airbyte_message.specs.declared.message.Message.TheVariants as message
use Rattle.batch_prep.specs.Items.{Batch}
use Rattle.batch_prep.specs.declared.item.WorkItem.{WorkItem}
use Rattle.outside.specs.Dock.{DockFace, DockGrew, DockMoves, DockSeen, IsWithinLimit, TookAdds, dock_events, took_over}
use Rattle.outside.specs.Event.{emitted_in, took_in}
use Rattle.outside.specs.Hand.{Hand, HandMoved, HandMoves, unread}
use Rattle.outside.specs.Link.{AddsOn}
use Rattle.outside.specs.declared.event.Event.{Event}
use Rattle.outside.specs.declared.event.Event.TheVariants as event
use Rattle.outside.specs.declared.fault.Fault.{Fault}
use Rattle.outside.specs.declared.fault.Fault.TheVariants as fault
use Rattle.outside.specs.declared.faults.InputKind.{InputKind}
use Rattle.outside.specs.declared.faults.InputKind.TheVariants as input
use Rattle.outside.specs.declared.link.Polled.{Polled}
use Rattle.outside.specs.declared.link.Polled.TheVariants as polled
use Rattle.outside.specs.declared.status.Status.{Status}
use Rattle.outside.specs.declared.status.Status.TheVariants as status
use Rattle.outside.proofs.DockLaws.{dock_grew_refl, dock_grew_trans, moves_none}
use Rattle.outside.proofs.ToldLaws.{all_both, told_both, told_none}
use Rattle.book_queue.specs.Content.{Held, QueueView}
use Rattle.state_gate.specs.declared.pending.Lane.{Lane as GateLane}
use Rattle.state_gate.specs.declared.pending.Lane.TheVariants as gate_lane
use Rattle.load_rules.specs.Lines.{Status as Told, status_told}
use Rattle.book_rules.specs.declared.answer.Accepted.{Accepted}
use Rattle.book_rules.specs.declared.answer.Lanes.{Lanes}
use Rattle.book_rules.specs.declared.answer.Put.{Put}
use Rattle.book_rules.specs.declared.answer.Put.TheVariants as put
use Rattle.book_rules.specs.Accepts.{AcceptAnswer, AnswersUnless, Breaks, GoesOn, Notes, Takes, TakesCounted, TakesFound, TakesLine, TakesMessage, TakesRecord, TakesRecordOf, TakesState, TakesStateBy, TakesStateIn, TakesStateOf, TakesStateUnless, TakesStatus, Unparks, is_other, lanes_of, pushed, sealed_by, unparks, with_line}
use Rattle.book_rules.specs.Books.{IsSmall}
use Rattle.book_rules.specs.Docks.{Emits, Polls}
use Rattle.book_rules.specs.Puts.{BreaksPut, BrokenPut, Commits, CommitsRows, GiveBackAnswer, PickAnswer, PutAnswer, Stops, recalled}
use Rattle.book_rules.specs.Releases.{Point, ReleaseAnswer, ReleasesTo, StopsBy}
use Rattle.book_rules.specs.Views.{BookView}

-- Moves in a row

hand_both : (first second : List Event) (a b c : Option Hand) → HandMoves first a b → HandMoves second b c → HandMoves (first ++ second) a c
hand_both first second None b c one two = subst (λ (it : Option Hand). HandMoves second it c) one two
hand_both first second (Some hand) b c one two = on (subst (λ (it : Option Hand). HandMoves second it c) one.is two)
  where
    on : HandMoved second one.after c → HandMoved (first ++ second) hand c
    on moved = record {
      after = moved.after;
      is = moved.is;
      taken = one.taken ∙ (ap (λ list. filter_map took_in first ++ list) moved.taken ∙ (sym (append_assoc (filter_map took_in first) (filter_map took_in second) (unread moved.after)) ∙ ap (λ list. list ++ unread moved.after) (sym (filter_map-append took_in first second))));
      emitted = moved.emitted ∙ (ap (λ list. list ++ filter_map emitted_in second) one.emitted ∙ (append_assoc hand.output (filter_map emitted_in first) (filter_map emitted_in second) ∙ ap (λ list. hand.output ++ list) (sym (filter_map-append emitted_in first second))));
      open_is = moved.open_is ∙ one.open_is;
    }

pub moves_both : (a b c : DockSeen) → DockMoves a b → DockMoves b c → DockMoves a c
moves_both a b c one two = record {
  more = one.more ++ two.more;
  events = told_both one.more two.more (dock_events a) (dock_events b) (dock_events c) one.events two.events;
  goes_on = all_both _ one.more two.more one.goes_on two.goes_on;
  hand = hand_both one.more two.more a.face.hand b.face.hand c.face.hand one.hand two.hand;
}

-- What is added while lines are taken and committed: no merge, and no stream that is shown.

abbrev pub IsPlain : Event → Type 0
IsPlain (event.Took text) = Unit {0}
IsPlain event.TookEnd = Unit {0}
IsPlain (event.Committed number rows) = Unit {0}
IsPlain (event.Emitted text) = Unit {0}
IsPlain _ = ⊥

-- such events were added, where events are told
pub record AddsPlain (before now : Option (List Event)) : Type 0 where
  pub more : List Event
  pub added : now ≡ told_more more before
  pub plain : AllByRecursion IsPlain more

adds_none : (before now : Option (List Event)) → now ≡ before → AddsPlain before now
adds_none before now same = record { more = []; added = same ∙ sym (told_none before); plain = tt }

adds_one : (before now : Option (List Event)) (one : Event) → IsPlain one → now ≡ told_more (one ∷ []) before → AddsPlain before now
adds_one before now one is added = record { more = one ∷ []; added = added; plain = (is, tt) }

adds_both : (a b c : Option (List Event)) → AddsPlain a b → AddsPlain b c → AddsPlain a c
adds_both a b c one two = record { more = one.more ++ two.more; added = told_both one.more two.more a b c one.added two.added; plain = all_both IsPlain one.more two.more one.plain two.plain }

end_adds : (before now : Option (List Event)) → TookAdds polled.End before now → AddsPlain before now
end_adds None now added = adds_none None now added
end_adds (Some events) now added = at (took_over events) added
  where
    at : (over : Bool) → now ≡ Some (events ++ cond over [] (event.TookEnd ∷ [])) → AddsPlain (Some events) now
    at true same = adds_none (Some events) now (same ∙ ap (λ (it : List Event). Some it) (append-nil events))
    at false added = adds_one (Some events) now event.TookEnd tt added

poll_adds : (given : Polled) (before now : Option (List Event)) → TookAdds given before now → AddsPlain before now
poll_adds (polled.Line line) before now added = adds_one before now (event.Took line) tt added
poll_adds (polled.Torn line) before now added = adds_one before now (event.Took line) tt added
poll_adds polled.TooLong before now same = adds_none before now same
poll_adds polled.NotYet before now same = adds_none before now same
poll_adds polled.End before now added = end_adds before now added
poll_adds polled.Failed before now same = adds_none before now same
poll_adds polled.NoMemory before now same = adds_none before now same

on_adds : {T : Type 0} (result : Result T Fault) (one : Event) (before now : Option (List Event)) → IsPlain one → AddsOn result one before now → AddsPlain before now
on_adds (Ok done) one before now is added = adds_one before now one is added
on_adds (Err fault.Failed) one before now is (inl same) = adds_none before now same
on_adds (Err fault.Failed) one before now is (inr added) = adds_one before now one is added
on_adds (Err fault.NoMemory) one before now is same = adds_none before now same

-- the dock moved by such events, and knows as many streams as before
pub record SeenStays (old new : DockSeen) : Type 0 where
  pub many : length new.face.side_marks ≡ length old.face.side_marks
  pub moves : DockMoves old new
  pub grew : DockGrew old new
  pub adds : AddsPlain (dock_events old) (dock_events new)

pub seen_same : (seen : DockSeen) → SeenStays seen seen
seen_same seen = record { many = refl; moves = moves_none seen seen refl refl; grew = dock_grew_refl seen; adds = adds_none (dock_events seen) (dock_events seen) refl }

pub seen_is : (old new : DockSeen) → new ≡ old → SeenStays old new
seen_is old new same = subst (SeenStays old) (sym same) (seen_same old)

pub seen_both : (a b c : DockSeen) → SeenStays a b → SeenStays b c → SeenStays a c
seen_both a b c one two = record { many = two.many ∙ one.many; moves = moves_both a b c one.moves two.moves; grew = dock_grew_trans a b c one.grew two.grew; adds = adds_both (dock_events a) (dock_events b) (dock_events c) one.adds two.adds }

polls_stay : (given : Polled) (old new : DockSeen) → Polls given old new → SeenStays old new
polls_stay given old new p = record { many = ap (λ (it : DockFace). length it.side_marks) p.face; moves = p.moves; grew = p.grew; adds = poll_adds given (dock_events old) (dock_events new) p.events }

emits_stay : {T : Type 0} (result : Result T Fault) (line : List ℕ) (old new : DockSeen) → Emits result line old new → SeenStays old new
emits_stay result line old new e = record { many = ap (λ (it : DockFace). length it.side_marks) e.face; moves = e.moves; grew = e.grew; adds = on_adds result (event.Emitted line) (dock_events old) (dock_events new) tt e.events }

commits_stay : {T : Type 0} (result : Result T Fault) (number : ℕ) (rows : _) (old new : DockSeen) → CommitsRows result number rows old new → SeenStays old new
commits_stay result number rows old new c = record { many = ap (λ (it : DockFace). length it.side_marks) c.face; moves = c.moves; grew = c.grew; adds = on_adds result (event.Committed number rows) (dock_events old) (dock_events new) tt c.events }

-- Releases

releases_to_stay : (count : ℕ) (old new : Point) → ReleasesTo count old new → SeenStays old.seen new.seen
releases_to_stay zero old new r = seen_is old.seen new.seen (ap (λ (it : Point). it.seen) r)
releases_to_stay (suc count) old new r = seen_both old.seen r.0.seen new.seen (releases_to_stay count old r.0 r.1) (emits_stay (Ok tt) r.2.line r.0.seen new.seen r.2.emits)

stops_stay : (stop : Fault) (pending : _) (old new : DockSeen) → StopsBy stop pending old new → SeenStays old new
stops_stay fault.NoMemory pending old new (inl same) = seen_is old new same
stops_stay fault.NoMemory pending old new (inr tried) = emits_stay (Err fault.NoMemory) tried.0 old new tried.2
stops_stay fault.Failed pending old new tried = emits_stay (Err fault.Failed) tried.0 old new tried.2

releases_stay : (released : Result (Unit {0}) Fault) (old new : Point) → ReleaseAnswer released old new → SeenStays old.seen new.seen
releases_stay (Ok done) old new r = seen_both old.seen r.last.seen new.seen (releases_to_stay r.count old r.last r.releases) (seen_is r.last.seen new.seen r.seen)
releases_stay (Err stop) old new r = seen_both old.seen r.last.seen new.seen (releases_to_stay r.count old r.last r.releases) (stops_stay stop r.pending r.last.seen new.seen r.stops)

-- Books

-- the queue's limits stay, and a record that waits for room is no longer than a line may be
pub record QueueStays (old new : QueueView) : Type 0 where
  pub streams : new.streams ≡ old.streams
  pub slots : new.slots ≡ old.slots
  pub bytes : new.bytes ≡ old.bytes
  pub batch : new.batch ≡ old.batch
  pub small : IsSmall old.parked → IsSmall new.parked

-- what the book was opened with stays
pub record Stays (old new : BookView) : Type 0 where
  pub catalog : new.catalog ≡ old.catalog
  pub opening : new.opening ≡ old.opening
  pub limits : new.limits ≡ old.limits
  pub shown : new.shown ≡ old.shown
  pub queue : QueueStays old.queue new.queue
  pub seen : SeenStays old.seen new.seen

pub stays_as : (old mid new : BookView) → new ≡ mid → Stays old mid → Stays old new
stays_as old mid new same s = subst (Stays old) (sym same) s

pub stays_same : (old new : BookView) → new ≡ old → Stays old new
stays_same old new same = stays_as old old new same (record { catalog = refl; opening = refl; limits = refl; shown = refl; queue = record { streams = refl; slots = refl; bytes = refl; batch = refl; small = λ small. small }; seen = seen_same old.seen })

queue_both : (a b c : QueueView) → QueueStays a b → QueueStays b c → QueueStays a c
queue_both a b c one two = record { streams = two.streams ∙ one.streams; slots = two.slots ∙ one.slots; bytes = two.bytes ∙ one.bytes; batch = two.batch ∙ one.batch; small = λ small. two.small (one.small small) }

stays_both : (a b c : BookView) → Stays a b → Stays b c → Stays a c
stays_both a b c one two = record { catalog = two.catalog ∙ one.catalog; opening = two.opening ∙ one.opening; limits = two.limits ∙ one.limits; shown = two.shown ∙ one.shown; queue = queue_both a.queue b.queue c.queue one.queue two.queue; seen = seen_both a.seen b.seen c.seen one.seen two.seen }

breaks_stay : (stop : Status) (result : Accepted) (old new : BookView) → Breaks stop result old new → Stays old new
breaks_stay stop result old new r = stays_as old _ new r.is (record { catalog = refl; opening = refl; limits = refl; shown = refl; queue = record { streams = refl; slots = refl; bytes = refl; batch = refl; small = λ small. small }; seen = seen_same old.seen })

pushed_stays : (fits : Bool) (stream seq : ℕ) (line : List ℕ) (queue : QueueView) → length line ≤ LONGEST_LINE → QueueStays queue (pushed fits stream seq line queue)
pushed_stays true stream seq line queue short = record { streams = refl; slots = refl; bytes = refl; batch = refl; small = λ small. small }
pushed_stays false stream seq line queue short = record { streams = refl; slots = refl; bytes = refl; batch = refl; small = λ small. short }

unparks_queue : (fits : Bool) (one : Held) (queue : QueueView) → QueueStays queue (unparks fits one queue)
unparks_queue true one queue = record { streams = refl; slots = refl; bytes = refl; batch = refl; small = λ small. tt }
unparks_queue false one queue = record { streams = refl; slots = refl; bytes = refl; batch = refl; small = λ small. small }

sealed_stays : (lane : GateLane) (queue : QueueView) → QueueStays queue (sealed_by lane queue)
sealed_stays gate_lane.Global queue = record { streams = refl; slots = refl; bytes = refl; batch = refl; small = λ small. small }
sealed_stays (gate_lane.Stream stream) queue = record { streams = refl; slots = refl; bytes = refl; batch = refl; small = λ small. small }

record_stays : (stream : ℕ) (line : List ℕ) (result : Accepted) (old new : BookView) → length line ≤ LONGEST_LINE → TakesRecord stream line result old new → Stays old new
record_stays stream line result old new short t = stays_as old _ new t.is (record { catalog = refl; opening = refl; limits = refl; shown = refl; queue = pushed_stays t.fits stream old.gate.next line old.queue short; seen = seen_same old.seen })

unparks_stays : (one : Held) (result : Accepted) (old new : BookView) → Unparks one result old new → Stays old new
unparks_stays one result old new u = stays_as old _ new u.is (record { catalog = refl; opening = refl; limits = refl; shown = refl; queue = unparks_queue u.fits one old.queue; seen = seen_same old.seen })

state_stays : (lane : GateLane) (state : State) (kind : Lanes) (result : Accepted) (old new : BookView) → TakesState lane state kind result old new → Stays old new
state_stays lane state kind result old new t = stays_as old _ new t.is (record { catalog = refl; opening = refl; limits = refl; shown = refl; queue = sealed_stays lane old.queue; seen = releases_stay t.released (record { gate = t.gate; seen = old.seen; emitted = old.tally.emitted }) (record { gate = new.gate; seen = new.seen; emitted = new.tally.emitted }) t.releases })

notes_stay : (statuses : _) (result : Accepted) (old new : BookView) → Notes statuses result old new → Stays old new
notes_stay statuses result old new t = stays_as old _ new t.is (record { catalog = refl; opening = refl; limits = refl; shown = refl; queue = record { streams = refl; slots = refl; bytes = refl; batch = refl; small = λ small. small }; seen = seen_same old.seen })

record_of_stays : (found : Option ℕ) (line : List ℕ) (result : Accepted) (old new : BookView) → length line ≤ LONGEST_LINE → TakesRecordOf found line result old new → Stays old new
record_of_stays None line result old new short t = breaks_stay _ result old new t
record_of_stays (Some stream) line result old new short t = record_stays stream line result old new short t

state_of_stays : (found : Option ℕ) (state : State) (result : Accepted) (old new : BookView) → TakesStateOf found state result old new → Stays old new
state_of_stays None state result old new t = breaks_stay _ result old new t
state_of_stays (Some stream) state result old new t = state_stays (gate_lane.Stream stream) state _ result old new t

state_in_stays : (lane : Lane) (state : State) (result : Accepted) (old new : BookView) → TakesStateIn lane state result old new → Stays old new
state_in_stays (lanes.one id) state result old new t = state_of_stays t.0 state result old new t.2
state_in_stays lanes.all state result old new t = state_stays gate_lane.Global state _ result old new t

state_unless_stays : (b : Bool) (lane : Lane) (state : State) (result : Accepted) (old new : BookView) → TakesStateUnless b lane state result old new → Stays old new
state_unless_stays true lane state result old new t = breaks_stay _ result old new t
state_unless_stays false lane state result old new t = state_in_stays lane state result old new t

state_by_stays : (lane : Option Lane) (state : State) (result : Accepted) (old new : BookView) → TakesStateBy lane state result old new → Stays old new
state_by_stays None state result old new t = breaks_stay _ result old new t
state_by_stays (Some lane) state result old new t = state_unless_stays (is_other old.tally.lanes (lanes_of lane)) lane state result old new t

status_stays : (told : Option Told) (result : Accepted) (old new : BookView) → TakesStatus told result old new → Stays old new
status_stays None result old new t = notes_stay old.statuses result old new t
status_stays (Some told) result old new t = notes_stay _ result old new t.2

message_stays : (content : Message) (line : List ℕ) (result : Accepted) (old new : BookView) → length line ≤ LONGEST_LINE → TakesMessage content line result old new → Stays old new
message_stays (message.Rec content) line result old new short t = record_of_stays t.0 line result old new short t.2
message_stays (message.State state) line result old new short t = state_by_stays (lane_of state.kind) state result old new t
message_stays (message.Trace content) line result old new short t = status_stays (status_told content) result old new t
message_stays (message.Log content) line result old new short t = notes_stay old.statuses result old new t
message_stays (message.Spec content) line result old new short t = notes_stay old.statuses result old new t
message_stays (message.Connection content) line result old new short t = notes_stay old.statuses result old new t
message_stays (message.Catalog content) line result old new short t = notes_stay old.statuses result old new t
message_stays (message.Control content) line result old new short t = notes_stay old.statuses result old new t

found_stays : (found : Option Message) (kind : InputKind) (line : List ℕ) (result : Accepted) (old new : BookView) → length line ≤ LONGEST_LINE → TakesFound found kind line result old new → Stays old new
found_stays None kind line result old new short t = breaks_stay _ result old new t
found_stays (Some content) kind line result old new short t = message_stays content line result old new short t

counted_stays : (few : Bool) (kind : InputKind) (line : List ℕ) (result : Accepted) (old new : BookView) → length line ≤ LONGEST_LINE → TakesCounted few kind line result old new → Stays old new
counted_stays false kind line result old new short t = breaks_stay _ result old new t
counted_stays true kind line result old new short (inl lacks) = breaks_stay _ result old new lacks
counted_stays true kind line result old new short (inr reads) = found_stays reads.found kind line result old new short reads.takes

line_stays : (kind : InputKind) (line : List ℕ) (result : Accepted) (old new : BookView) → length line ≤ LONGEST_LINE → TakesLine kind line result old new → Stays old new
line_stays kind line result old new short t = stays_both old (with_line old) new (record { catalog = refl; opening = refl; limits = refl; shown = refl; queue = record { streams = refl; slots = refl; bytes = refl; batch = refl; small = λ small. small }; seen = seen_same old.seen }) (counted_stays (nat_lt (old.tally.lines + 1) (2 ^ 32)) kind line result (with_line old) new short t)

takes_stay : (given : Polled) (result : Accepted) (old new : BookView) → IsWithinLimit given → Takes given result old new → Stays old new
takes_stay (polled.Line line) result old new within t = line_stays input.BadLine line result old new within t
takes_stay (polled.Torn line) result old new within t = line_stays input.TornTail line result old new within t
takes_stay polled.TooLong result old new within t = breaks_stay _ result old new t
takes_stay polled.NotYet result old new within t = stays_same old new t.is
takes_stay polled.End result old new within t = stays_as old _ new t.is (record { catalog = refl; opening = refl; limits = refl; shown = refl; queue = record { streams = refl; slots = refl; bytes = refl; batch = refl; small = λ small. small }; seen = seen_same old.seen })
takes_stay polled.Failed result old new within t = breaks_stay _ result old new t
takes_stay polled.NoMemory result old new within t = breaks_stay _ result old new t

goes_stay : (parked : Option Held) (result : Accepted) (old new : BookView) → GoesOn parked result old new → Stays old new
goes_stay None result old new t = stays_both old (record old { seen = t.seen }) new (record { catalog = refl; opening = refl; limits = refl; shown = refl; queue = record { streams = refl; slots = refl; bytes = refl; batch = refl; small = λ small. small }; seen = polls_stay t.given old.seen t.seen t.polls }) (takes_stay t.given result (record old { seen = t.seen }) new t.polls.within t.takes)
goes_stay (Some one) result old new u = unparks_stays one result old new u

unless_stays : (broken : Option Status) (over : Bool) (result : Accepted) (old new : BookView) → AnswersUnless broken over result old new → Stays old new
unless_stays (Some stop) over result old new t = stays_same old new t.1
unless_stays None true result old new t = stays_same old new t.1
unless_stays None false result old new (inl lacks) = breaks_stay _ result old new lacks
unless_stays None false result old new (inr room) = stays_both old (record old { gate = room.gate }) new (record { catalog = refl; opening = refl; limits = refl; shown = refl; queue = record { streams = refl; slots = refl; bytes = refl; batch = refl; small = λ small. small }; seen = seen_same old.seen }) (goes_stay old.queue.parked result (record old { gate = room.gate }) new room.goes)

pub accept_stays : (result : Accepted) (old new : BookView) → AcceptAnswer result old new → Stays old new
accept_stays result old new answer = unless_stays old.tally.broken old.tally.is_ended result old new answer

-- Batches

pub pick_stays : {T : Type 0} (result : Result (Option WorkItem) T) (old new : BookView) → PickAnswer result old new → Stays old new
pick_stays (Ok (Some item)) old new p = stays_as old _ new p.is (record { catalog = refl; opening = refl; limits = refl; shown = refl; queue = record { streams = ap (λ (it : QueueView). it.streams) p.goes.goes; slots = ap (λ (it : QueueView). it.slots) p.goes.goes; bytes = ap (λ (it : QueueView). it.bytes) p.goes.goes; batch = ap (λ (it : QueueView). it.batch) p.goes.goes; small = λ small. subst IsSmall (sym (ap (λ (it : QueueView). it.parked) p.goes.goes)) small }; seen = seen_same old.seen })
pick_stays (Ok None) old new t = stays_same old new t.1
pick_stays (Err why) old new t = stays_same old new t

commits_book_stay : (batch : ℕ) (released : Result (Unit {0}) Fault) (old new : BookView) → Commits batch released old new → Stays old new
commits_book_stay batch released old new c = stays_as old _ new c.is (record { catalog = refl; opening = refl; limits = refl; shown = refl; queue = record { streams = refl; slots = refl; bytes = refl; batch = refl; small = λ small. small }; seen = seen_both old.seen c.seen new.seen (commits_stay (Ok tt) c.number c.rows old.seen c.seen c.commits) (releases_stay released (record { gate = c.gate; seen = c.seen; emitted = old.tally.emitted }) (record { gate = new.gate; seen = new.seen; emitted = new.tally.emitted }) c.releases) })

stops_book_stay : (stop : Status) (batch : ℕ) (result : Result (Unit {0}) Fault) (old new : BookView) → Stops stop batch result old new → Stays old new
stops_book_stay stop batch result old new s = stays_as old _ new s.5 (record { catalog = refl; opening = refl; limits = refl; shown = refl; queue = record { streams = refl; slots = refl; bytes = refl; batch = refl; small = λ small. small }; seen = commits_stay result s.0 s.1 old.seen s.2 s.4 })

breaks_put_stay : (stop : Status) (batch : ℕ) (old new : BookView) → BreaksPut stop batch old new → Stays old new
breaks_put_stay status.NoMemory batch old new (inl lacks) = stays_as old _ new lacks (record { catalog = refl; opening = refl; limits = refl; shown = refl; queue = record { streams = refl; slots = refl; bytes = refl; batch = refl; small = λ small. small }; seen = seen_same old.seen })
breaks_put_stay status.NoMemory batch old new (inr (inl s)) = stops_book_stay status.NoMemory batch (Err fault.NoMemory) old new s
breaks_put_stay status.NoMemory batch old new (inr (inr c)) = commits_book_stay batch (Err fault.NoMemory) old new c
breaks_put_stay status.StoreFault batch old new s = stops_book_stay status.StoreFault batch (Err fault.Failed) old new s
breaks_put_stay status.WriteFault batch old new c = commits_book_stay batch (Err fault.Failed) old new c
breaks_put_stay _ batch old new none = absurd none

broken_put_stays : (broken : Option Status) (stop : Status) (batch : ℕ) (old new : BookView) → BrokenPut broken stop batch old new → Stays old new
broken_put_stays (Some first) stop batch old new t = stays_same old new t.1
broken_put_stays None stop batch old new t = breaks_put_stay stop batch old new t.1

pub put_stays : (done : Batch) (result : Put) (old new : BookView) → PutAnswer done result old new → Stays old new
put_stays done put.Done old new t = commits_book_stay done.item.batch (Ok tt) old new t.1
put_stays done (put.Stranger back) old new t = stays_same old new t.3
put_stays done (put.Broken stop) old new t = broken_put_stays old.tally.broken stop done.item.batch old new t

pub give_back_stays : (item : WorkItem) (result : Option WorkItem) (old new : BookView) → GiveBackAnswer item result old new → Stays old new
give_back_stays item None old new t = stays_as old _ new t.1 (record { catalog = refl; opening = refl; limits = refl; shown = refl; queue = record { streams = refl; slots = refl; bytes = refl; batch = refl; small = λ small. small }; seen = seen_same old.seen })
give_back_stays item (Some back) old new t = stays_same old new t.2

pub recall_stays : (old new : BookView) → new ≡ recalled old → Stays old new
recall_stays old new same = stays_as old (recalled old) new same (record { catalog = refl; opening = refl; limits = refl; shown = refl; queue = record { streams = refl; slots = refl; bytes = refl; batch = refl; small = λ small. small }; seen = seen_same old.seen })
