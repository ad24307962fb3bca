-- What the fields of a book stand for: a state of the machine behind its load.
use Rattle.std.specs.Prelude.{◌≡◌, ◌≢◌, ℕ, ◌+◌, ◌<◌, ◌≤◌, ◌^◌, List, [], ◌∷◌, map, filter, fold, length, slice_get, slice_index, not, Bool, true, false, Option, None, Some, IfSome}
use Rattle.std.specs.List.{AllByRecursion}
use Rattle.basics.specs.declared.stream.StreamId.{StreamId}
use Rattle.airbyte_message.specs.Lanes.{Lane, one, all, lane_of}
use Rattle.airbyte_message.specs.Messages.{IsMessage}
use Rattle.airbyte_message.specs.State.{State}
use Rattle.airbyte_message.specs.declared.message.Message.TheVariants as message
use Rattle.airbyte_message.specs.declared.message.StateKind.TheVariants.{Legacy}
use Rattle.state_gate.specs.Content.{Content}
use Rattle.state_gate.specs.Views.{GateView, Stands}
use Rattle.state_gate.specs.declared.pending.Accepted.{Accepted}
use Rattle.state_gate.specs.declared.pending.Lane.{Lane as GateLane}
use Rattle.state_gate.specs.declared.pending.Lane.TheVariants as gate_lane
use Rattle.state_gate.specs.declared.pending.Waiting.{Waiting}
use Rattle.book_queue.specs.Content.{Held, IsOfOneStream, all_of, number_below}
use Rattle.book_queue.specs.Content as queue_place
use Rattle.load_rules.specs.Lines.{Line, state_in}
use Rattle.load_rules.specs.Taken.{LaneState, entries, since, count_of}
use Rattle.load_rules.specs.Acts.{Act, Ends, taken}
use Rattle.load_rules.specs.Finished.{last_status}
use Rattle.load_rules.specs.Machine.{Machine, Place, Placed, is_done}
use Rattle.load_rules.specs.Machine as machine
use Rattle.book_rules.specs.declared.answer.Lanes.{Lanes}
use Rattle.book_rules.specs.Accepts.{lanes_of}
use Rattle.book_rules.specs.Views.{BookView, ids}

-- Records

abbrev pub place_of : queue_place.Place → Place
place_of queue_place.Queued = machine.Queued
place_of queue_place.Sealed = machine.Sealed
place_of (queue_place.Out batch) = machine.Out batch

-- a record that is held is one that the machine has, at the same place
pub record IsHeld (ids : List StreamId) (placed : Placed) (held : Held) : Type 0 where
  pub seq : held.seq ≡ placed.entry.seq
  pub line : IsMessage held.line (message.Rec placed.entry.content)
  pub named : slice_get ids held.stream ≡ Some placed.entry.content.id
  pub place : place_of held.place ≡ placed.place

abbrev pub AreHeld : List StreamId → List Placed → List Held → Type 0
AreHeld ids [] [] = Unit {0}
AreHeld ids (placed ∷ more) (held ∷ others) = IsHeld ids placed held × AreHeld ids more others
AreHeld ids [] (held ∷ others) = ⊥
AreHeld ids (placed ∷ more) [] = ⊥

-- the records that are not committed
abbrev pub still : List Placed → List Placed
still placed = filter (λ one. not (is_done one.place)) placed

abbrev pub accepted_of : Held → Accepted
accepted_of held = record { seq = held.seq; stream = held.stream }

-- States

abbrev pub IsLane : List StreamId → Lane → GateLane → Type 0
IsLane ids (one id) (gate_lane.Stream stream) = slice_get ids stream ≡ Some id
IsLane ids all gate_lane.Global = Unit {0}
IsLane ids (one id) gate_lane.Global = ⊥
IsLane ids all (gate_lane.Stream stream) = ⊥

-- a state that waits in the gate is one that waits in the machine
pub record IsWaiting (ids : List StreamId) (state : LaneState) (waiting : Waiting) : Type 0 where
  pub lane : IsLane ids state.lane waiting.pending.lane
  pub laned : lane_of state.state.kind ≡ Some state.lane
  pub state_is : waiting.pending.state ≡ state.state
  pub count : waiting.pending.count ≡ count_of state
  pub behind : waiting.behind ≡ length (entries state.before)

abbrev pub AreWaiting : List StreamId → List LaneState → List Waiting → Type 0
AreWaiting ids [] [] = Unit {0}
AreWaiting ids (state ∷ more) (waiting ∷ others) = IsWaiting ids state waiting × AreWaiting ids more others
AreWaiting ids [] (waiting ∷ others) = ⊥
AreWaiting ids (state ∷ more) [] = ⊥

-- what a load's states are of, by its first one that has a lane
abbrev pub lanes_by : Option Lanes → Option Lane → Option Lanes
lanes_by (Some known) lane = Some known
lanes_by None None = None
lanes_by None (Some lane) = Some (lanes_of lane)

abbrev pub lanes_after : Option Lanes → Option State → Option Lanes
lanes_after known None = known
lanes_after known (Some state) = lanes_by known (lane_of state.kind)

abbrev pub lanes_among : List Line → Option Lanes
lanes_among lines = fold (λ known line. lanes_after known (state_in line.found)) None lines

-- the input has ended
abbrev pub is_end : Act → Bool
is_end Ends = true
is_end act = false

-- The fields of a book that is not broken stand for this state of the machine.
pub record Holds (book : BookView) (m : Machine) : Type 0 where
  -- the gate
  pub content : Content
  pub gate : Stands content book.gate
  pub uncommitted : content.uncommitted ≡ map accepted_of (all_of book.queue)
  pub waiting : AreWaiting (ids book) m.waiting content.waiting
  pub as_many : length content.since ≡ length (ids book)
  pub since_own : (number : ℕ) (id : StreamId) → slice_get (ids book) number ≡ Some id → slice_index content.since number ≡ since (one id) (taken m.acts)
  pub since_all : content.since_all ≡ since all (taken m.acts)
  pub gate_streams : book.gate.streams ≡ length (ids book)
  pub gate_next : book.gate.next ≡ length m.placed
  pub gate_states : book.gate.states ≤ book.tally.lines
  pub states : book.tally.emitted + length content.waiting ≤ book.gate.states
  -- the queue
  pub held : AreHeld (ids book) (still m.placed) (all_of book.queue)
  pub queue_streams : book.queue.streams ≡ length (ids book)
  pub queue_next : book.queue.next ≡ length m.placed
  pub room : length book.queue.held ≤ book.limits.slots
  pub slots : book.queue.slots ≡ book.limits.slots
  pub bytes : book.queue.bytes ≡ book.limits.bytes
  pub batch : book.queue.batch ≡ book.limits.batch
  pub fresh : AllByRecursion (λ one. number_below book.queue.next_batch one.place ≡ true) book.queue.held
  pub alike : (number : ℕ) → IsOfOneStream number book.queue.held
  pub parked : IfSome book.queue.parked (λ one. one.place ≡ queue_place.Queued)
  -- the lines
  pub few : book.tally.lines < 2 ^ 32
  pub statuses_many : length book.statuses ≡ length (ids book)
  pub statuses : (number : ℕ) (id : StreamId) → slice_get (ids book) number ≡ Some id → slice_get book.statuses number ≡ Some (last_status id (taken m.acts))

-- What a call on a book asks of its fields

abbrev pub HasKind : Waiting → Type 0
HasKind waiting = waiting.pending.state.kind ≢ Legacy

-- the states that wait have echoes, and can be counted
pub record CanRelease (emitted : ℕ) (gate : GateView) : Type 0 where
  pub content : Content
  pub stands : Stands content gate
  pub kinds : AllByRecursion HasKind content.waiting
  pub room : emitted + length content.waiting < 2 ^ 63

-- a book that is not broken can take a line
pub record IsReady (book : BookView) : Type 0 where
  pub releases : CanRelease book.tally.emitted book.gate
  pub gate_streams : book.gate.streams ≡ length (ids book)
  pub queue_streams : book.queue.streams ≡ length (ids book)
  pub next : book.queue.next ≡ book.gate.next
  pub next_few : book.gate.next < 2 ^ 32
  pub states_few : book.gate.states < 2 ^ 32
  pub few : book.tally.lines < 2 ^ 33
  pub statuses : length book.statuses ≡ length (ids book)

-- and has room in its gate
pub record CanTake (book : BookView) : Type 0 where
  pub ready : IsReady book
  pub record_room : 1 ≤ book.gate.record_room
  pub state_room : 1 ≤ book.gate.state_room
  pub whole : book.tally.broken ≡ None

abbrev pub IsLaneBelow : ℕ → GateLane → Type 0
IsLaneBelow streams gate_lane.Global = Unit {0}
IsLaneBelow streams (gate_lane.Stream stream) = stream < streams

-- What `put` asks of a book that is not broken: its gate has the records of its queue, the states that wait have echoes and can be
-- counted, and its dock knows the streams of its catalog.
pub record CanPut (book : BookView) : Type 0 where
  pub content : Content
  pub stands : Stands content book.gate
  pub uncommitted : content.uncommitted ≡ map accepted_of (all_of book.queue)
  pub kinds : AllByRecursion HasKind content.waiting
  pub room : book.tally.emitted + length content.waiting < 2 ^ 63
  pub queue_streams : book.queue.streams ≡ length book.catalog
  pub as_many : length book.seen.face.side_marks ≡ length book.catalog
