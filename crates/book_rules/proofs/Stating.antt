-- A state that is taken.
use Rattle.std.proofs.Common.{arith, ◌≡◌, ◌⊎◌, inl, inr, ℕ, ◌+◌, ◌<◌, ◌^◌, eqb, List, [], ◌∷◌, ◌++◌, length, Option, None, Some, Bool, false, cond, refl, sym, ◌∙◌, ap, subst, length-append, slice_set}
use Rattle.std.specs.Prelude.{slice_get, slice_index}
use Rattle.std.proofs.lemmas.List.{append-nil, length-set, get_or-set_same, get_or-set_other}
use Rattle.std.proofs.lemmas.Bool.{cases_eq, eq-eqb, ne_eqb, false≢true}
use Rattle.std.proofs.lemmas.Option.{slice_get_within}
use Rattle.basics.specs.Told.{told_more}
use Rattle.basics.specs.declared.stream.StreamId.{StreamId}
use Rattle.stream_index.specs.Distinct.{AreDistinct}
use Rattle.json_fields.specs.Answer.{IsAnswer}
use Rattle.airbyte_message.specs.Lanes.{Lane, lane_of}
use Rattle.airbyte_message.specs.Lanes as lanes
use Rattle.airbyte_message.specs.Messages.{IsMessage}
use Rattle.airbyte_message.specs.State.{State}
use Rattle.airbyte_message.specs.declared.message.Message.TheVariants as message
use Rattle.outside.specs.Dock.{DockSeen, dock_events}
use Rattle.outside.specs.Tables.{same_id}
use Rattle.outside.specs.declared.faults.InputKind.TheVariants as input
use Rattle.outside.specs.declared.event.Event.TheVariants.{Took}
use Rattle.book_queue.specs.Content.{all_of}
use Rattle.state_gate.specs.Content.{Content, count_in}
use Rattle.state_gate.specs.Counts.{without_own, without_all}
use Rattle.state_gate.specs.Views.{GateView}
use Rattle.state_gate.specs.declared.pending.Lane.{Lane as GateLane}
use Rattle.state_gate.specs.declared.pending.Lane.TheVariants as gate_lane
use Rattle.state_gate.specs.declared.pending.Waiting.{Waiting}
use Rattle.load_rules.specs.Acts.{Takes, taken}
use Rattle.load_rules.specs.Lines.{Line}
use Rattle.load_rules.specs.Machine.{Machine, Placed, accepts}
use Rattle.load_rules.specs.Taken.{LaneState, since, state_of_lane, is_of_lane}
use Rattle.book_rules.specs.declared.answer.Lanes.{Lanes}
use Rattle.book_rules.specs.declared.answer.Lanes.TheVariants as kinds
use Rattle.book_rules.specs.Accepts.{lane_fault, message_fault, state_fault, GateTakesState, with_last, lanes_of, is_other}
use Rattle.book_rules.specs.Holds.{AreHeld, AreWaiting, IsLane, IsWaiting, lanes_among, lanes_by, still}
use Rattle.book_rules.specs.Views.{BookView, ids}
use Rattle.book_rules.proofs.Heads.{waiting_push}
use Rattle.book_rules.proofs.Moves.{number_same}
use Rattle.book_rules.proofs.Taking.{known_fault, line_as, line_ran, since_line, status_line, tallied_line}
use Rattle.book_rules.proofs.Whole.{IsWhole}

-- counts since the lane's last state

count_is : (ids_ : List StreamId) (content : Content) (lines : List Line) (lane : Lane) (own : GateLane) → IsLane ids_ lane own → ((number : ℕ) (id : StreamId) → slice_get ids_ number ≡ Some id → slice_index content.since number ≡ since (lanes.one id) lines) → content.since_all ≡ since lanes.all lines → count_in content own ≡ since lane lines
count_is ids_ content lines lanes.all gate_lane.Global is own all_is = all_is
count_is ids_ content lines (lanes.one id) (gate_lane.Stream stream) is own all_is = own stream id is
count_is ids_ content lines lanes.all (gate_lane.Stream stream) is own all_is = absurd is
count_is ids_ content lines (lanes.one id) gate_lane.Global is own all_is = absurd is

length_own : (counts : List ℕ) (own : GateLane) → length (without_own counts own) ≡ length counts
length_own counts gate_lane.Global = refl
length_own counts (gate_lane.Stream stream) = length-set counts stream 0

own_counts : (ids_ : List StreamId) (counts : List ℕ) (lane : Lane) (own : GateLane) (number : ℕ) (id : StreamId) (n : ℕ) → AreDistinct ids_ → length counts ≡ length ids_ → IsLane ids_ lane own → slice_get ids_ number ≡ Some id → slice_index counts number ≡ n → slice_index (without_own counts own) number ≡ cond (is_of_lane (lanes.one id) (Some lane)) 0 n
own_counts ids_ counts lanes.all gate_lane.Global number id n distinct long is named same = same
own_counts ids_ counts (lanes.one other) (gate_lane.Stream stream) number id n distinct long is named same = at (cases_eq number stream)
  where
    within : stream < length counts
    within = let lt = slice_get_within ids_ stream other is in omega (arith, lt, long)

    same_is : same_id id other ≡ eqb stream number
    same_is = number_same ids_ stream number other id distinct is named

    at : (number ≡ stream) ⊎ (number ≡ stream → ⊥) → slice_index (slice_set counts stream 0) number ≡ cond (same_id id other) 0 n
    at (inl here) = rw (same_is, eq-eqb stream number (sym here)) (ap (slice_index (slice_set counts stream 0)) here ∙ get_or-set_same counts stream 0 0 within)
    at (inr apart) = rw (same_is, ne_eqb stream number (λ e. apart (sym e))) (get_or-set_other counts stream number 0 0 apart ∙ same)
own_counts ids_ counts lanes.all (gate_lane.Stream stream) number id n distinct long is named same = absurd is
own_counts ids_ counts (lanes.one other) gate_lane.Global number id n distinct long is named same = absurd is

all_counts : (ids_ : List StreamId) (lane : Lane) (own : GateLane) (count n : ℕ) → IsLane ids_ lane own → count ≡ n → without_all count own ≡ cond (is_of_lane lanes.all (Some lane)) 0 n
all_counts ids_ lanes.all gate_lane.Global count n is same = refl
all_counts ids_ (lanes.one other) (gate_lane.Stream stream) count n is same = same
all_counts ids_ lanes.all (gate_lane.Stream stream) count n is same = absurd is
all_counts ids_ (lanes.one other) gate_lane.Global count n is same = absurd is

-- what the load's states are of

kind_stays : (known : Option Lanes) (kind : Lanes) (lane : Lane) → kind ≡ lanes_of lane → is_other known (lanes_of lane) ≡ false → ◌≡◌ {A = Option Lanes} (Some kind) (lanes_by known (Some lane))
kind_stays None kind lane is same = ap (λ (it : Lanes). Some it) is
kind_stays (Some kinds.Streams) kind (lanes.one id) is same = ap (λ (it : Lanes). Some it) is
kind_stays (Some kinds.All) kind lanes.all is same = ap (λ (it : Lanes). Some it) is
kind_stays (Some kinds.Streams) kind lanes.all is same = absurd (false≢true (sym same))
kind_stays (Some kinds.All) kind (lanes.one id) is same = absurd (false≢true (sym same))

lane_fine : (ids_ : List StreamId) (lane : Lane) (own : GateLane) → IsLane ids_ lane own → lane_fault ids_ lane ≡ None
lane_fine ids_ lanes.all gate_lane.Global is = refl
lane_fine ids_ (lanes.one id) (gate_lane.Stream stream) is = known_fault ids_ stream id is
lane_fine ids_ lanes.all (gate_lane.Stream stream) is = absurd is
lane_fine ids_ (lanes.one id) gate_lane.Global is = absurd is

abbrev pub took_state : BookView → DockSeen → GateView → Lanes → BookView
took_state book seen gate kind = record book { seen = seen; gate = gate; tally = record (book.tally) { lines = book.tally.lines + 1; lanes = Some kind } }

pub state_whole : (book : BookView) (m : Machine) (seen : DockSeen) (gate : GateView) (text : List ℕ) (state : State) (lane : Lane) (own : GateLane) (kind : Lanes) → AreDistinct (ids book) → IsWhole book m → book.queue.parked ≡ None → IsAnswer (IsMessage text) (Some (message.State state)) → lane_of state.kind ≡ Some lane → IsLane (ids book) lane own → dock_events seen ≡ told_more (Took text ∷ []) (dock_events book.seen) → book.tally.lines + 1 < 2 ^ 32 → kind ≡ lanes_of lane → is_other book.tally.lanes (lanes_of lane) ≡ false → GateTakesState own state book.gate gate → IsWhole (took_state book seen gate kind) (accepts m (line_as text (Some (message.State state))))
state_whole book m seen gate text state lane own kind distinct w empty answer laned is_lane added few kind_is same takes = record {
  ran = line_ran book m text (Some (message.State state)) (dock_events seen) w empty answer fine added;
  tallied = tallied_line book.tally (record (book.tally) { lines = book.tally.lines + 1; lanes = Some kind }) book.gate.next gate.next m.acts line refl few (kind_stays book.tally.lanes kind lane kind_is same ∙ ap (lanes_by book.tally.lanes) (sym laned)) refl refl refl (let next = takes.next in omega (arith, next)) w.tallied;
  holds = record {
    content = with_last own state book.gate w.holds.content;
    gate = takes.content w.holds.content w.holds.gate;
    uncommitted = w.holds.uncommitted;
    waiting = subst (λ (states : List LaneState). AreWaiting (ids book) states (with_last own state book.gate w.holds.content).waiting) (sym waiting_is) (waiting_push (ids book) m.waiting w.holds.content.waiting lane_state last w.holds.waiting is_waiting);
    as_many = length_own w.holds.content.since own ∙ w.holds.as_many;
    since_own = λ number id named. own_counts (ids book) w.holds.content.since lane own number id (since (lanes.one id) (taken m.acts)) distinct w.holds.as_many is_lane named (w.holds.since_own number id named) ∙ sym (since_is (lanes.one id));
    since_all = all_counts (ids book) lane own w.holds.content.since_all (since lanes.all (taken m.acts)) is_lane w.holds.since_all ∙ sym (since_is lanes.all);
    gate_streams = takes.streams ∙ w.holds.gate_streams;
    gate_next = takes.next ∙ (w.holds.gate_next ∙ ap (λ (list : List Placed). length list) (sym placed_is));
    gate_states = let low = w.holds.gate_states in rw takes.states (omega (arith, low));
    states = let low = w.holds.states in let long = length-append w.holds.content.waiting (last ∷ []) in rw takes.states (omega (arith, low, long));
    held = subst (λ (list : List Placed). AreHeld (ids book) (still list) (all_of book.queue)) (sym placed_is) w.holds.held;
    queue_streams = w.holds.queue_streams;
    queue_next = w.holds.queue_next ∙ ap (λ (list : List Placed). length list) (sym placed_is);
    room = w.holds.room;
    slots = w.holds.slots;
    bytes = w.holds.bytes;
    batch = w.holds.batch;
    fresh = w.holds.fresh;
    parked = w.holds.parked;
    alike = w.holds.alike;
    few = few;
    statuses_many = w.holds.statuses_many;
    statuses = λ number id named. w.holds.statuses number id named ∙ ap (λ it. Some it) (sym (status_line id m.acts line));
  };
  whole = w.whole;
}
  where
    line : Line
    line = line_as text (Some (message.State state))

    fine : message_fault (ids book) (lanes_among (taken m.acts)) (message.State state) ≡ None
    fine = ap (state_fault (ids book) (lanes_among (taken m.acts))) laned ∙ (ap (λ (known : Option Lanes). cond (is_other known (lanes_of lane)) (Some input.Mixed) (lane_fault (ids book) lane)) (sym w.tallied.lanes) ∙ (ap (λ (b : Bool). cond b (Some input.Mixed) (lane_fault (ids book) lane)) same ∙ lane_fine (ids book) lane own is_lane))

    lane_state : LaneState
    lane_state = record { lane = lane; state = state; before = taken m.acts }

    last : Waiting
    last = record { pending = record { lane = own; state = state; count = count_in w.holds.content own; number = book.gate.states }; behind = book.gate.next }

    is_waiting : IsWaiting (ids book) lane_state last
    is_waiting = record {
      lane = is_lane;
      laned = laned;
      state_is = refl;
      count = count_is (ids book) w.holds.content (taken m.acts) lane own is_lane w.holds.since_own w.holds.since_all;
      behind = w.tallied.records;
    }

    placed_is : (accepts m line).placed ≡ m.placed
    placed_is = append-nil m.placed

    waiting_is : (accepts m line).waiting ≡ m.waiting ++ lane_state ∷ []
    waiting_is = ap (λ (it : Option Lane). m.waiting ++ state_of_lane (taken m.acts) state it) laned

    since_is : (other : Lane) → since other (taken (m.acts ++ Takes line ∷ [])) ≡ cond (is_of_lane other (Some lane)) 0 (since other (taken m.acts))
    since_is other = since_line other m.acts line ∙ ap (λ (it : Option Lane). cond (is_of_lane other it) 0 (since other (taken m.acts))) laned
