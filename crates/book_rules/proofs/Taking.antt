-- A line that is taken, and used.
use Rattle.std.proofs.Common.{arith, ◌≡◌, ◌⊎◌, inl, inr, ℕ, zero, suc, ◌+◌, ◌<◌, ◌≤◌, ◌^◌, eqb, List, [], ◌∷◌, ◌++◌, map, length, Option, None, Some, true, false, cond, refl, sym, ◌∙◌, ap, subst, length-append, slice_set}
use Rattle.std.specs.Prelude.{filter_map, find, IfSome, option_to_list, slice_get, slice_index}
use Rattle.std.specs.List.{AllByRecursion, list_any, list_all}
use Rattle.std.proofs.lemmas.List.{append-nil, map-append, length-set, get_or-set_same, get_or-set_other}
use Rattle.std.proofs.lemmas.List.Elements.{filter_map-append}
use Rattle.std.proofs.lemmas.List.Sums.{fold-append}
use Rattle.std.proofs.lemmas.Bool.{cases_Bool, cases_eq, eq-eqb, ne_eqb, false≢true, false_from_ne_true, or_left, or_right}
use Rattle.std.proofs.lemmas.Option.{slice_get_within}
use Rattle.basics.specs.Told.{told_more}
use Rattle.basics.specs.declared.stream.StreamId.{StreamId}
use Rattle.stream_index.specs.Distinct.{AreDistinct}
use Rattle.json_fields.specs.Answer.{IsAnswer}
use Rattle.airbyte_message.specs.Lanes.{Lane, lane_of}
use Rattle.airbyte_message.specs.Lanes as lanes
use Rattle.airbyte_message.specs.Messages.{IsMessage}
use Rattle.airbyte_message.specs.State.{State}
use Rattle.airbyte_message.specs.declared.message.Message.{Message}
use Rattle.airbyte_message.specs.declared.message.Message.TheVariants as message
use Rattle.airbyte_message.specs.declared.message.RecordMsg.{RecordMsg}
use Rattle.airbyte_message.specs.declared.stream_status.StreamStatus.{StreamStatus}
use Rattle.outside.specs.Dock.{DockSeen, dock_events}
use Rattle.outside.specs.Tables.{same_id}
use Rattle.outside.proofs.TableLaws.{id_is, id_own}
use Rattle.outside.specs.declared.faults.InputKind.TheVariants as input
use Rattle.outside.specs.declared.event.Event.{Event}
use Rattle.outside.specs.declared.event.Event.TheVariants.{Took}
use Rattle.book_queue.specs.Content.{Held, QueueView, all_of, number_below, queued}
use Rattle.book_queue.specs.Content as queue
use Rattle.state_gate.specs.Content.{with_record}
use Rattle.state_gate.specs.Views.{GateView}
use Rattle.load_rules.specs.Acts.{Act, Takes, taken, committed, state_echoed}
use Rattle.load_rules.specs.Finished.{last_status, status_after}
use Rattle.load_rules.specs.Lines.{Line, is_known, record_in, state_in, status_in}
use Rattle.load_rules.specs.Machine.{Machine, Placed, Step, Accept, accepts, is_done, is_releasable}
use Rattle.load_rules.specs.Machine as machine
use Rattle.load_rules.specs.Taken.{Entry, LaneState, entries, entries_from, and_record, state_of, covers, covered, since, counts_record, counts_state, is_in}
use Rattle.load_rules.proofs.Machines.{taken-more, committed-more}
use Rattle.load_rules.proofs.TakenLists.{entries-append}
use Rattle.book_rules.specs.declared.answer.Tally.{Tally}
use Rattle.book_rules.specs.Accepts.{GateTakesRecord, fault_of, lane_fault}
use Rattle.book_rules.specs.Books.{IsQuiet, Tallied}
use Rattle.book_rules.specs.Holds.{AreWaiting, IsHeld, AreHeld, accepted_of, is_end, lanes_after, lanes_among, still}
use Rattle.book_rules.specs.Views.{BookView, ids}
use Rattle.book_rules.proofs.Acts.{Ran, ran_act, ends_more, or_false}
use Rattle.book_rules.proofs.Lists.{all_append, length_of_map, some_is}
use Rattle.book_rules.proofs.Moves.{held_length, held_push, number_same, still_more}
use Rattle.book_rules.proofs.Sealing.{alike_push}
use Rattle.book_rules.proofs.Whole.{IsWhole}

-- Readings

pub one_answer : {A : Type 0} (P : A → Type 0) (a b : Option A) → IsAnswer P a → IsAnswer P b → a ≡ b
one_answer P None None first second = refl
one_answer P None (Some y) first second = absurd (first y second.is)
one_answer P (Some x) None first second = absurd (second x first.is)
one_answer P (Some x) (Some y) first second = ap (λ value. Some value) (second.only x first.is)

abbrev pub line_as : List ℕ → Option Message → Line
line_as text found = record { text = text; found = found }

-- What a line more is among lines

pub taken_line : (acts : List Act) (line : Line) → taken (acts ++ Takes line ∷ []) ≡ taken acts ++ line ∷ []
taken_line acts line = taken-more acts (Takes line)

pub committed_line : (acts : List Act) (line : Line) → committed (acts ++ Takes line ∷ []) ≡ committed acts
committed_line acts line = committed-more acts (Takes line) ∙ append-nil (committed acts)

echoed_line : (acts : List Act) (line : Line) → filter_map state_echoed (acts ++ Takes line ∷ []) ≡ filter_map state_echoed acts
echoed_line acts line = filter_map-append state_echoed acts (Takes line ∷ []) ∙ append-nil (filter_map state_echoed acts)

ends_line : (acts : List Act) (line : Line) → list_any is_end (acts ++ Takes line ∷ []) ≡ list_any is_end acts
ends_line acts line = ends_more acts (Takes line) ∙ or_false (list_any is_end acts)

pub since_line : (lane : Lane) (acts : List Act) (line : Line) → since lane (taken (acts ++ Takes line ∷ [])) ≡ counts_state lane (counts_record lane (since lane (taken acts)) (record_in line.found)) (state_in line.found)
since_line lane acts line = ap (since lane) (taken_line acts line) ∙ fold-append (λ count (one : Line). counts_state lane (counts_record lane count (record_in one.found)) (state_in one.found)) 0 (taken acts) (line ∷ [])

pub status_line : (id : StreamId) (acts : List Act) (line : Line) → last_status id (taken (acts ++ Takes line ∷ [])) ≡ status_after id (last_status id (taken acts)) (status_in line.found)
status_line id acts line = ap (last_status id) (taken_line acts line) ∙ fold-append (λ last (one : Line). status_after id last (status_in one.found)) None (taken acts) (line ∷ [])

lanes_line : (acts : List Act) (line : Line) → lanes_among (taken (acts ++ Takes line ∷ [])) ≡ lanes_after (lanes_among (taken acts)) (state_in line.found)
lanes_line acts line = ap lanes_among (taken_line acts line) ∙ fold-append (λ known (one : Line). lanes_after known (state_in one.found)) None (taken acts) (line ∷ [])

any_start : (n m : ℕ) (line : Line) → length (entries_from n (line ∷ [])) ≡ length (entries_from m (line ∷ []))
any_start n m line = at (record_in line.found)
  where
    at : (found : Option RecordMsg) → length (and_record n found (λ next. [])) ≡ length (and_record m found (λ next. []))
    at None = refl
    at (Some content) = refl

pub one_more : (n : ℕ) (line : Line) → length (entries_from n (line ∷ [])) ≤ 1
one_more n line = at (record_in line.found)
  where
    at : (found : Option RecordMsg) → length (and_record n found (λ next. [])) ≤ 1
    at None = omega arith
    at (Some content) = omega arith

entries_line : (acts : List Act) (line : Line) → length (entries (taken (acts ++ Takes line ∷ []))) ≡ length (entries (taken acts)) + length (entries_from 0 (line ∷ []))
entries_line acts line =
    let n = 0 + length (entries (taken acts)) in
    ap (λ lines. length (entries lines)) (taken_line acts line)
    ∙ (ap (λ (list : List Entry). length list) (entries-append 0 (taken acts) (line ∷ []))
    ∙ (length-append (entries (taken acts)) (entries_from n (line ∷ []))
    ∙ ap (λ k. length (entries (taken acts)) + k) (any_start n 0 line)))

-- what is counted
pub tallied_line : (tally now : Tally) (next later : ℕ) (acts : List Act) (line : Line) → now.lines ≡ tally.lines + 1 → tally.lines + 1 < 2 ^ 32 → now.lanes ≡ lanes_after tally.lanes (state_in line.found) → now.emitted ≡ tally.emitted → now.broken ≡ tally.broken → now.is_ended ≡ tally.is_ended → later ≡ next + length (entries_from 0 (line ∷ [])) → Tallied tally next acts [] → Tallied now later (acts ++ Takes line ∷ []) []
tallied_line tally now next later acts line lines_is few lanes_is emitted_is broken_is ended_is later_is t = record {
  lines =
      let before = t.lines in
      let long : length (taken (acts ++ Takes line ∷ [])) ≡ length (taken acts) + 1 = ap (λ (list : List Line). length list) (taken_line acts line) ∙ length-append (taken acts) (line ∷ []) in
      omega (arith, lines_is, before, long);
  most = omega (arith, lines_is, few);
  records = let before = t.records in let more = entries_line acts line in omega (arith, later_is, before, more);
  lanes = lanes_is ∙ (ap (λ known. lanes_after known (state_in line.found)) t.lanes ∙ sym (lanes_line acts line));
  emitted = rw (broken_is, emitted_is, echoed_line acts line) t.emitted;
  ended = ends_line acts line ∙ (t.ended ∙ sym ended_is);
}

-- The run

pub empty_few : (book : BookView) (m : Machine) → book.queue.parked ≡ None → IsWhole book m → length (still m.placed) ≤ book.limits.slots
empty_few book m empty w =
    let same = held_length (ids book) (still m.placed) (all_of book.queue) w.holds.held in
    let long = length-append book.queue.held (option_to_list book.queue.parked) in
    let none : length (option_to_list book.queue.parked) ≡ 0 = ap (λ (parked : Option Held). length (option_to_list parked)) empty in
    let room = w.holds.room in
    omega (arith, same, long, none, room)

pub line_ran : (book : BookView) (m : Machine) (text : List ℕ) (found : Option Message) (now : Option (List Event)) → IsWhole book m → book.queue.parked ≡ None → IsAnswer (IsMessage text) found → fault_of input.BadLine (ids book) (lanes_among (taken m.acts)) found ≡ None → now ≡ told_more (Took text ∷ []) (dock_events book.seen) → Ran book.catalog book.opening book.limits.slots (accepts m (line_as text found)) [] now
line_ran book m text found now w empty answer fine added = ran_act book.catalog book.opening book.limits.slots m (Accept line) (Takes line) (dock_events book.seen) now w.ran refl fine tt few (record { event = Took text; added = added; store = refl; opens = refl; is = λ read reads. ap (λ it. line_as text it) (one_answer (IsMessage text) found (read text) answer reads); over = λ b. sym (or_false b) })
  where
    line : Line
    line = line_as text found

    few : length (still (m.placed ++ map machine.queue (entries_from (length m.placed) (line ∷ [])))) ≤ book.limits.slots + 1
    few =
        let list = entries_from (length m.placed) (line ∷ []) in
        let more = ap (λ (it : List Placed). length it) (still_more m.placed list) in
        let long = length-append (still m.placed) (map machine.queue list) in
        let same = length_of_map machine.queue list in
        let one = one_more (length m.placed) line in
        let room = empty_few book m empty w in
        omega (arith, more, long, same, one, room)

-- Whether a state may go does not change by a line

pub releasable_as : (acts now : List Act) → committed now ≡ committed acts → (states : List LaneState) → find (is_releasable now) states ≡ find (is_releasable acts) states
releasable_as acts now same states = ap (λ (done : List ℕ). find (λ (state : LaneState). list_all (λ seq. is_in seq done) (covered state)) states) same

pub quiet_line : (m : Machine) (line : Line) → state_in line.found ≡ None → IsQuiet m → IsQuiet (accepts m line)
quiet_line m line none quiet =
    let states : (accepts m line).waiting ≡ m.waiting = ap (λ state. m.waiting ++ state_of (taken m.acts) state) none ∙ append-nil m.waiting in
    releasable_as m.acts (m.acts ++ Takes line ∷ []) (committed_line m.acts line) (accepts m line).waiting ∙ (ap (find (is_releasable m.acts)) states ∙ quiet)

-- A stream of the catalog is known, and no other

pub known_is : (ids_ : List StreamId) (number : ℕ) (id : StreamId) → slice_get ids_ number ≡ Some id → is_known ids_ id ≡ true
known_is [] number id named = cc
known_is (own ∷ more) zero id named = or_left (same_id own id) (is_known more id) (ap (λ (it : StreamId). same_id it id) (some_is own id named) ∙ id_own id)
known_is (own ∷ more) (suc number) id named = or_right (same_id own id) (is_known more id) (known_is more number id named)

known_at : (ids_ : List StreamId) (id : StreamId) → is_known ids_ id ≡ true → (number : ℕ) × (slice_get ids_ number ≡ Some id)
known_at [] id known = absurd (false≢true known)
known_at (own ∷ more) id known = at (cases_Bool (same_id own id)) (known_at more id)
  where
    at : (same_id own id ≡ true) ⊎ (same_id own id ≡ false) → (is_known more id ≡ true → (number : ℕ) × (slice_get more number ≡ Some id)) → (number : ℕ) × (slice_get (own ∷ more) number ≡ Some id)
    at (inl same) deeper = (zero, ap (λ (it : StreamId). Some it) (id_is own id same))
    at (inr other) deeper = let found = deeper (rw other at known) in (suc found.0, found.1)

pub unknown_is : (ids_ : List StreamId) (id : StreamId) → ((number : ℕ) → ¬ (slice_get ids_ number ≡ Some id)) → is_known ids_ id ≡ false
unknown_is ids_ id none = false_from_ne_true (is_known ids_ id) (λ known. let found = known_at ids_ id known in none found.0 found.1)

pub known_fault : (ids_ : List StreamId) (number : ℕ) (id : StreamId) → slice_get ids_ number ≡ Some id → lane_fault ids_ (lanes.one id) ≡ None
known_fault ids_ number id named = rw (known_is ids_ number id named) refl

pub unknown_fault : (ids_ : List StreamId) (id : StreamId) → ((number : ℕ) → ¬ (slice_get ids_ number ≡ Some id)) → lane_fault ids_ (lanes.one id) ≡ Some input.UnknownStream
unknown_fault ids_ id none = rw (unknown_is ids_ id none) refl

-- A record

own_since : (ids_ : List StreamId) (counts : List ℕ) (stream number : ℕ) (id other : StreamId) (n : ℕ) → AreDistinct ids_ → length counts ≡ length ids_ → slice_get ids_ stream ≡ Some id → slice_get ids_ number ≡ Some other → slice_index counts number ≡ n → slice_index (slice_set counts stream (slice_index counts stream + 1)) number ≡ cond (covers (lanes.one other) id) (n + 1) n
own_since ids_ counts stream number id other n distinct long named own is = at (cases_eq number stream)
  where
    within : stream < length counts
    within = let lt = slice_get_within ids_ stream id named in omega (arith, lt, long)

    same_is : same_id other id ≡ eqb stream number
    same_is = number_same ids_ stream number id other distinct named own

    at : (number ≡ stream) ⊎ (number ≡ stream → ⊥) → slice_index (slice_set counts stream (slice_index counts stream + 1)) number ≡ cond (covers (lanes.one other) id) (n + 1) n
    at (inl same) = rw (same_is, eq-eqb stream number (sym same)) (ap (λ k. slice_index (slice_set counts stream (slice_index counts stream + 1)) k) same ∙ (get_or-set_same counts stream (slice_index counts stream + 1) 0 within ∙ ap (λ k. k + 1) (ap (slice_index counts) (sym same) ∙ is)))
    at (inr apart) = rw (same_is, ne_eqb stream number (λ e. apart (sym e))) (get_or-set_other counts stream number (slice_index counts stream + 1) 0 apart ∙ is)

-- the queue has a record more
pub record IsPushed (one : Held) (next slots : ℕ) (old new : QueueView) : Type 0 where
  pub all : all_of new ≡ all_of old ++ one ∷ []
  pub streams : new.streams ≡ old.streams
  pub next_is : new.next ≡ next
  pub room : length new.held ≤ slots
  pub slots_is : new.slots ≡ old.slots
  pub bytes : new.bytes ≡ old.bytes
  pub batch : new.batch ≡ old.batch
  pub fresh : AllByRecursion (λ it. number_below new.next_batch it.place ≡ true) new.held
  pub parked : IfSome new.parked (λ it. it.place ≡ queue.Queued)
  pub alike : (number : ℕ) → queue.IsOfOneStream number new.held

-- in its place
pub pushed_in : (book : BookView) (m : Machine) (seq stream : ℕ) (text : List ℕ) → IsWhole book m → book.queue.parked ≡ None → length book.queue.held < book.limits.slots → IsPushed (queued seq stream text) (seq + 1) book.limits.slots book.queue (record (book.queue) { held = book.queue.held ++ queued seq stream text ∷ []; next = seq + 1 })
pushed_in book m seq stream text w empty room = record {
  all = ap (λ (parked : Option Held). (book.queue.held ++ queued seq stream text ∷ []) ++ option_to_list parked) empty ∙ (append-nil (book.queue.held ++ queued seq stream text ∷ []) ∙ ap (λ list. list ++ queued seq stream text ∷ []) (sym (ap (λ (parked : Option Held). book.queue.held ++ option_to_list parked) empty ∙ append-nil book.queue.held)));
  streams = refl;
  next_is = refl;
  room = let long = length-append book.queue.held (queued seq stream text ∷ []) in omega (arith, long, room);
  slots_is = refl;
  bytes = refl;
  batch = refl;
  fresh = all_append (λ it. number_below book.queue.next_batch it.place ≡ true) book.queue.held (queued seq stream text ∷ []) w.holds.fresh (refl, tt);
  parked = w.holds.parked;
  alike = λ n. alike_push n book.queue.held (queued seq stream text) refl (w.holds.alike n);
}

-- or parked
pub pushed_aside : (book : BookView) (m : Machine) (seq stream : ℕ) (text : List ℕ) → IsWhole book m → book.queue.parked ≡ None → IsPushed (queued seq stream text) (seq + 1) book.limits.slots book.queue (record (book.queue) { parked = Some (queued seq stream text); next = seq + 1 })
pushed_aside book m seq stream text w empty = record {
  all = ap (λ list. list ++ queued seq stream text ∷ []) (sym (ap (λ (parked : Option Held). book.queue.held ++ option_to_list parked) empty ∙ append-nil book.queue.held));
  streams = refl;
  next_is = refl;
  room = w.holds.room;
  slots_is = refl;
  bytes = refl;
  batch = refl;
  fresh = w.holds.fresh;
  parked = refl;
  alike = w.holds.alike;
}

abbrev pub took_record : BookView → DockSeen → GateView → QueueView → BookView
took_record book seen gate now = record book { seen = seen; gate = gate; queue = now; tally = record (book.tally) { lines = book.tally.lines + 1 } }

pub record_whole : (book : BookView) (m : Machine) (seen : DockSeen) (gate : GateView) (now : QueueView) (text : List ℕ) (content : RecordMsg) (stream : ℕ) → AreDistinct (ids book) → IsWhole book m → book.queue.parked ≡ None → IsAnswer (IsMessage text) (Some (message.Rec content)) → slice_get (ids book) stream ≡ Some content.id → dock_events seen ≡ told_more (Took text ∷ []) (dock_events book.seen) → book.tally.lines + 1 < 2 ^ 32 → GateTakesRecord stream book.gate gate → IsPushed (queued book.gate.next stream text) (book.gate.next + 1) book.limits.slots book.queue now → IsWhole (took_record book seen gate now) (accepts m (line_as text (Some (message.Rec content))))
record_whole book m seen gate now text content stream distinct w empty answer named added few takes pushed = record {
  ran = line_ran book m text (Some (message.Rec content)) (dock_events seen) w empty answer (known_fault (ids book) stream content.id named) added;
  tallied = tallied_line book.tally (record (book.tally) { lines = book.tally.lines + 1 }) book.gate.next gate.next m.acts line refl few refl refl refl refl takes.next w.tallied;
  holds = record {
    content = with_record w.holds.content stream book.gate.next;
    gate = takes.content w.holds.content w.holds.gate;
    uncommitted = ap (λ list. list ++ accepted_of one ∷ []) w.holds.uncommitted ∙ (sym (map-append accepted_of (all_of book.queue) (one ∷ [])) ∙ ap (map accepted_of) (sym pushed.all));
    waiting = subst (λ (states : List LaneState). AreWaiting (ids book) states w.holds.content.waiting) (sym (append-nil m.waiting)) w.holds.waiting;
    as_many = length-set w.holds.content.since stream (slice_index w.holds.content.since stream + 1) ∙ w.holds.as_many;
    since_own = λ number id own. own_since (ids book) w.holds.content.since stream number content.id id (since (lanes.one id) (taken m.acts)) distinct w.holds.as_many named own (w.holds.since_own number id own) ∙ sym (since_line (lanes.one id) m.acts line);
    since_all = ap (λ n. n + 1) w.holds.since_all ∙ sym (since_line lanes.all m.acts line);
    gate_streams = takes.streams ∙ w.holds.gate_streams;
    gate_next = takes.next ∙ (ap (λ n. n + 1) w.holds.gate_next ∙ sym long);
    gate_states = let low = w.holds.gate_states in rw takes.states (omega (arith, low));
    states = rw takes.states w.holds.states;
    held = rw (still_more m.placed (entry ∷ []), pushed.all) (held_push (ids book) (still m.placed) (all_of book.queue) (machine.queue entry) one w.holds.held is_held);
    queue_streams = pushed.streams ∙ w.holds.queue_streams;
    queue_next = pushed.next_is ∙ (ap (λ n. n + 1) w.holds.gate_next ∙ sym long);
    room = pushed.room;
    slots = pushed.slots_is ∙ w.holds.slots;
    bytes = pushed.bytes ∙ w.holds.bytes;
    batch = pushed.batch ∙ w.holds.batch;
    fresh = pushed.fresh;
    parked = pushed.parked;
    alike = pushed.alike;
    few = few;
    statuses_many = w.holds.statuses_many;
    statuses = λ number id own. w.holds.statuses number id own ∙ ap (λ last. Some last) (sym (status_line id m.acts line));
  };
  whole = w.whole;
}
  where
    line : Line
    line = line_as text (Some (message.Rec content))

    entry : Entry
    entry = record { seq = length m.placed; content = content }

    one : Held
    one = queued book.gate.next stream text

    long : length (m.placed ++ machine.queue entry ∷ []) ≡ length m.placed + 1
    long = length-append m.placed (machine.queue entry ∷ [])

    is_held : IsHeld (ids book) (machine.queue entry) one
    is_held = record { seq = w.holds.gate_next; line = answer.is; named = named; place = refl }

-- Other messages

abbrev pub took_other : BookView → DockSeen → List (Option StreamStatus) → BookView
took_other book seen statuses = record book { seen = seen; tally = record (book.tally) { lines = book.tally.lines + 1 }; statuses = statuses }

abbrev pub StatusesFit : BookView → Machine → Option Message → List (Option StreamStatus) → Type 0
StatusesFit book m found statuses = (number : ℕ) (id : StreamId) → slice_get (ids book) number ≡ Some id → slice_get statuses number ≡ Some (status_after id (last_status id (taken m.acts)) (status_in found))

pub other_whole : (book : BookView) (m : Machine) (seen : DockSeen) (statuses : List (Option StreamStatus)) (text : List ℕ) (found : Option Message) → IsWhole book m → book.queue.parked ≡ None → IsAnswer (IsMessage text) found → record_in found ≡ None → state_in found ≡ None → fault_of input.BadLine (ids book) (lanes_among (taken m.acts)) found ≡ None → dock_events seen ≡ told_more (Took text ∷ []) (dock_events book.seen) → book.tally.lines + 1 < 2 ^ 32 → length statuses ≡ length (ids book) → StatusesFit book m found statuses → IsWhole (took_other book seen statuses) (accepts m (line_as text found))
other_whole book m seen statuses text found w empty answer no_record no_state fine added few many fit = record {
  ran = line_ran book m text found (dock_events seen) w empty answer fine added;
  tallied = tallied_line book.tally (record (book.tally) { lines = book.tally.lines + 1 }) book.gate.next book.gate.next m.acts line refl few (sym (ap (lanes_after book.tally.lanes) no_state)) refl refl refl nothing w.tallied;
  holds = record {
    content = w.holds.content;
    gate = w.holds.gate;
    uncommitted = w.holds.uncommitted;
    waiting = subst (λ (states : List LaneState). AreWaiting (ids book) states w.holds.content.waiting) (sym waiting_is) w.holds.waiting;
    as_many = w.holds.as_many;
    since_own = λ number id own. w.holds.since_own number id own ∙ sym (since_is (lanes.one id));
    since_all = w.holds.since_all ∙ sym (since_is lanes.all);
    gate_streams = w.holds.gate_streams;
    gate_next = w.holds.gate_next ∙ ap (λ (list : List Placed). length list) (sym placed_is);
    gate_states = let low = w.holds.gate_states in omega (arith, low);
    states = w.holds.states;
    held = subst (λ (list : List Placed). AreHeld (ids book) (still list) (all_of book.queue)) (sym placed_is) w.holds.held;
    queue_streams = w.holds.queue_streams;
    queue_next = w.holds.queue_next ∙ ap (λ (list : List Placed). length list) (sym placed_is);
    room = w.holds.room;
    slots = w.holds.slots;
    bytes = w.holds.bytes;
    batch = w.holds.batch;
    fresh = w.holds.fresh;
    parked = w.holds.parked;
    alike = w.holds.alike;
    few = few;
    statuses_many = many;
    statuses = λ number id own. fit number id own ∙ ap (λ last. Some last) (sym (status_line id m.acts line));
  };
  whole = w.whole;
}
  where
    line : Line
    line = line_as text found

    none_from : (n : ℕ) → entries_from n (line ∷ []) ≡ []
    none_from n = ap (λ (it : Option RecordMsg). and_record n it (λ next. [])) no_record

    nothing : book.gate.next ≡ book.gate.next + length (entries_from 0 (line ∷ []))
    nothing = let none : length (entries_from 0 (line ∷ [])) ≡ 0 = ap (λ (list : List Entry). length list) (none_from 0) in omega (arith, none)

    placed_is : (accepts m line).placed ≡ m.placed
    placed_is = ap (λ (list : List Entry). m.placed ++ map machine.queue list) (none_from (length m.placed)) ∙ append-nil m.placed

    waiting_is : (accepts m line).waiting ≡ m.waiting
    waiting_is = ap (λ (it : Option State). m.waiting ++ state_of (taken m.acts) it) no_state ∙ append-nil m.waiting

    since_is : (lane : Lane) → since lane (taken (m.acts ++ Takes line ∷ [])) ≡ since lane (taken m.acts)
    since_is lane = since_line lane m.acts line ∙ (ap (λ (it : Option RecordMsg). counts_state lane (counts_record lane (since lane (taken m.acts)) it) (state_in found)) no_record ∙ ap (counts_state lane (since lane (taken m.acts))) no_state)
