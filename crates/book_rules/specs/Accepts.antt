-- What a call on the input does.
use Rattle.std.specs.Prelude.{◌≡◌, ◌⊎◌, ℕ, ◌+◌, ◌^◌, List, [], ◌∷◌, ◌++◌, length, slice_set, nat_lt, Bool, true, false, IsTrue, ◌↔◌, if◌then◌else◌, Option, None, Some, Result, Ok, Err}
use Rattle.basics.specs.declared.stream.StreamId.{StreamId}
use Rattle.json_fields.specs.Answer.{IsAnswer}
use Rattle.airbyte_message.specs.Lanes.{Lane, one, all, lane_of}
use Rattle.airbyte_message.specs.Messages.{IsMessage}
use Rattle.airbyte_message.specs.State.{State}
use Rattle.airbyte_message.specs.declared.message.Message.{Message}
use Rattle.airbyte_message.specs.declared.message.Message.TheVariants as message
use Rattle.airbyte_message.specs.declared.stream_status.StreamStatus.{StreamStatus}
use Rattle.outside.specs.Dock.{DockSeen}
use Rattle.outside.specs.declared.fault.Fault.{Fault}
use Rattle.outside.specs.declared.faults.InputKind.{InputKind}
use Rattle.outside.specs.declared.faults.InputKind.TheVariants as input
use Rattle.outside.specs.declared.link.Polled.{Polled}
use Rattle.outside.specs.declared.link.Polled.TheVariants as polled
use Rattle.outside.specs.declared.status.Status.{Status}
use Rattle.outside.specs.declared.status.Status.TheVariants as status
use Rattle.state_gate.specs.Content.{Content, count_in, with_record, with_state}
use Rattle.state_gate.specs.Views.{GateView, Stands}
use Rattle.state_gate.specs.declared.pending.Lane.{Lane as GateLane}
use Rattle.state_gate.specs.declared.pending.Lane.TheVariants as gate_lane
use Rattle.book_queue.specs.Content.{QueueView, Held, HasRoom, Sealed, is_in_queue, move, queued, sealed_full, sealed_oldest, sealed_whole}
use Rattle.load_rules.specs.Lines.{Status as Told, is_known, status_told}
use Rattle.book_rules.specs.declared.answer.Accepted.{Accepted}
use Rattle.book_rules.specs.declared.answer.Accepted.TheVariants as accepted
use Rattle.book_rules.specs.declared.answer.Lanes.{Lanes}
use Rattle.book_rules.specs.declared.answer.Lanes.TheVariants as lanes
use Rattle.book_rules.specs.Docks.{Polls}
use Rattle.book_rules.specs.Releases.{ReleaseAnswer, stop_of}
use Rattle.book_rules.specs.Views.{BookView, IsNumberIn}

-- the book broke by this
pub record Breaks (stop : Status) (result : Accepted) (old new : BookView) : Type 0 where
  pub answer : result ≡ accepted.Broken stop
  pub is : new ≡ record old { tally = record (old.tally) { broken = Some stop } }

-- it refused the line that was taken last
abbrev pub Refuses : InputKind → Accepted → BookView → BookView → Type 0
Refuses kind result old new = Breaks (status.BadInput kind old.tally.lines) result old new

-- Records

abbrev pub room_answer : Bool → Accepted
room_answer true = accepted.Took
room_answer false = accepted.Full

-- a record comes: it finds room, or is parked and the oldest queue is sealed
abbrev pub pushed : Bool → ℕ → ℕ → List ℕ → QueueView → QueueView
pushed true stream seq line queue = record queue { held = sealed_full queue.batch stream (queue.held ++ queued seq stream line ∷ []); next = seq + 1 }
pushed false stream seq line queue = record queue { held = sealed_oldest queue.held; parked = Some (queued seq stream line); next = seq + 1 }

-- the gate has a record more, with the next sequence
pub record GateTakesRecord (stream : ℕ) (old new : GateView) : Type 0 where
  pub content : (content : Content) → Stands content old → Stands (with_record content stream old.next) new
  pub streams : new.streams ≡ old.streams
  pub next : new.next ≡ old.next + 1
  pub states : new.states ≡ old.states

-- A record of this stream is taken. The answer is Full exactly where it finds no room.
pub record TakesRecord (stream : ℕ) (line : List ℕ) (result : Accepted) (old new : BookView) : Type 0 where
  pub fits : Bool
  pub room : IsTrue fits ↔ HasRoom old.queue (length line)
  pub answer : result ≡ room_answer fits
  pub gate : GateTakesRecord stream old.gate new.gate
  pub is : new ≡ record old { gate = new.gate; queue = pushed fits stream old.gate.next line old.queue }

-- a record of a stream that the catalog does not have is refused
abbrev pub TakesRecordOf : Option ℕ → List ℕ → Accepted → BookView → BookView → Type 0
TakesRecordOf None line result old new = Refuses input.UnknownStream result old new
TakesRecordOf (Some stream) line result old new = TakesRecord stream line result old new

-- the record that waits for room finds it, or the oldest queue is sealed
abbrev pub unparks : Bool → Held → QueueView → QueueView
unparks true held queue = record queue { held = sealed_full queue.batch held.stream (queue.held ++ held ∷ []); parked = None }
unparks false held queue = record queue { held = sealed_oldest queue.held }

-- it is tried again. The answer is Full exactly where it finds no room still.
pub record Unparks (held : Held) (result : Accepted) (old new : BookView) : Type 0 where
  pub fits : Bool
  pub room : IsTrue fits ↔ HasRoom old.queue (length held.line)
  pub answer : result ≡ room_answer fits
  pub is : new ≡ record old { queue = unparks fits held old.queue }

-- States

abbrev pub lanes_of : Lane → Lanes
lanes_of (one id) = lanes.Streams
lanes_of all = lanes.All

abbrev pub is_other : Option Lanes → Lanes → Bool
is_other None new = false
is_other (Some lanes.Streams) lanes.Streams = false
is_other (Some lanes.All) lanes.All = false
is_other (Some lanes.Streams) lanes.All = true
is_other (Some lanes.All) lanes.Streams = true

-- the queues that a state covers are sealed
abbrev pub sealed_by : GateLane → QueueView → QueueView
sealed_by (gate_lane.Stream stream) queue = record queue { held = sealed_whole stream queue.held }
sealed_by gate_lane.Global queue = record queue { held = move is_in_queue Sealed queue.held }

abbrev pub with_last : GateLane → State → GateView → Content → Content
with_last lane state gate content = with_state content (record { pending = record { lane = lane; state = state; count = count_in content lane; number = gate.states }; behind = gate.next })

-- the gate has a state more, behind all that it has
pub record GateTakesState (lane : GateLane) (state : State) (old new : GateView) : Type 0 where
  pub content : (content : Content) → Stands content old → Stands (with_last lane state old content) new
  pub streams : new.streams ≡ old.streams
  pub next : new.next ≡ old.next
  pub states : new.states ≡ old.states + 1

abbrev pub released_answer : {T : Type 0} → Result T Fault → Accepted
released_answer (Ok done) = accepted.Took
released_answer (Err fault) = accepted.Broken (stop_of fault)

abbrev pub broken_by : {T : Type 0} → Result T Fault → Option Status
broken_by (Ok done) = None
broken_by (Err fault) = Some (stop_of fault)

-- a state is taken, the queues that it covers are sealed, and all states that may go are released
pub record TakesState (lane : GateLane) (state : State) (kind : Lanes) (result : Accepted) (old new : BookView) : Type 0 where
  pub gate : GateView
  pub takes : GateTakesState lane state old.gate gate
  pub released : Result (Unit {0}) Fault
  pub answer : result ≡ released_answer released
  pub releases : ReleaseAnswer released (record { gate = gate; seen = old.seen; emitted = old.tally.emitted }) (record { gate = new.gate; seen = new.seen; emitted = new.tally.emitted })
  pub is : new ≡ record old { seen = new.seen; gate = new.gate; queue = sealed_by lane old.queue; tally = record (old.tally) { emitted = new.tally.emitted; lanes = Some kind; broken = broken_by released } }

abbrev pub TakesStateOf : Option ℕ → State → Accepted → BookView → BookView → Type 0
TakesStateOf None state result old new = Refuses input.UnknownStream result old new
TakesStateOf (Some stream) state result old new = TakesState (gate_lane.Stream stream) state lanes.Streams result old new

-- a state of a stream that the catalog does not have is refused
abbrev pub TakesStateIn : Lane → State → Accepted → BookView → BookView → Type 0
TakesStateIn (one id) state result old new = (found : Option ℕ) × IsNumberIn old.catalog id found × TakesStateOf found state result old new
TakesStateIn all state result old new = TakesState gate_lane.Global state lanes.All result old new

-- a state of another kind than an earlier one is refused
abbrev pub TakesStateUnless : Bool → Lane → State → Accepted → BookView → BookView → Type 0
TakesStateUnless true lane state result old new = Refuses input.Mixed result old new
TakesStateUnless false lane state result old new = TakesStateIn lane state result old new

-- a state without a lane is refused
abbrev pub TakesStateBy : Option Lane → State → Accepted → BookView → BookView → Type 0
TakesStateBy None state result old new = Refuses input.Legacy result old new
TakesStateBy (Some lane) state result old new = TakesStateUnless (is_other old.tally.lanes (lanes_of lane)) lane state result old new

-- Other messages

abbrev pub with_status : Option ℕ → StreamStatus → List (Option StreamStatus) → List (Option StreamStatus)
with_status None told statuses = statuses
with_status (Some stream) told statuses = slice_set statuses stream (Some told)

-- these statuses stand
pub record Notes (statuses : List (Option StreamStatus)) (result : Accepted) (old new : BookView) : Type 0 where
  pub answer : result ≡ accepted.Took
  pub is : new ≡ record old { statuses = statuses }

abbrev pub Skips : Accepted → BookView → BookView → Type 0
Skips result old new = Notes old.statuses result old new

-- a status of a stream that the catalog does not have is skipped
abbrev pub TakesStatus : Option Told → Accepted → BookView → BookView → Type 0
TakesStatus None result old new = Skips result old new
TakesStatus (Some told) result old new = (found : Option ℕ) × IsNumberIn old.catalog told.id found × Notes (with_status found told.status old.statuses) result old new

-- Lines

abbrev pub TakesMessage : Message → List ℕ → Accepted → BookView → BookView → Type 0
TakesMessage (message.Rec content) line result old new = (found : Option ℕ) × IsNumberIn old.catalog content.id found × TakesRecordOf found line result old new
TakesMessage (message.State state) line result old new = TakesStateBy (lane_of state.kind) state result old new
TakesMessage (message.Trace content) line result old new = TakesStatus (status_told content) result old new
TakesMessage (message.Log content) line result old new = Skips result old new
TakesMessage (message.Spec content) line result old new = Skips result old new
TakesMessage (message.Connection content) line result old new = Skips result old new
TakesMessage (message.Catalog content) line result old new = Skips result old new
TakesMessage (message.Control content) line result old new = Skips result old new

-- a line that is no message is refused, a last piece without a newline as such
abbrev pub TakesFound : Option Message → InputKind → List ℕ → Accepted → BookView → BookView → Type 0
TakesFound None kind line result old new = Refuses kind result old new
TakesFound (Some content) kind line result old new = TakesMessage content line result old new

-- the line is read as the message that it is
pub record Reads (kind : InputKind) (line : List ℕ) (result : Accepted) (old new : BookView) : Type 0 where
  pub found : Option Message
  pub read : IsAnswer (IsMessage line) found
  pub takes : TakesFound found kind line result old new

-- where memory is wanting, the line is not read
abbrev pub TakesCounted : Bool → InputKind → List ℕ → Accepted → BookView → BookView → Type 0
TakesCounted false kind line result old new = Breaks status.TooManyLines result old new
TakesCounted true kind line result old new = Breaks status.NoMemory result old new ⊎ Reads kind line result old new

abbrev pub with_line : BookView → BookView
with_line book = record book { tally = record (book.tally) { lines = book.tally.lines + 1 } }

-- the line is counted; a load has fewer than 2 ^ 32
abbrev pub TakesLine : InputKind → List ℕ → Accepted → BookView → BookView → Type 0
TakesLine kind line result old new = TakesCounted (nat_lt (old.tally.lines + 1) (2 ^ 32)) kind line result (with_line old) new

-- Polls

-- nothing stood ready
pub record Rests (result : Accepted) (old new : BookView) : Type 0 where
  pub answer : result ≡ accepted.NotYet
  pub is : new ≡ old

-- the input has ended, and all queues are sealed
pub record Ends (result : Accepted) (old new : BookView) : Type 0 where
  pub answer : result ≡ accepted.End
  pub is : new ≡ record old { queue = sealed_by gate_lane.Global old.queue; tally = record (old.tally) { is_ended = true } }

-- What a poll gave is taken. A line that is too long has the number behind the last that was taken.
abbrev pub Takes : Polled → Accepted → BookView → BookView → Type 0
Takes (polled.Line line) result old new = TakesLine input.BadLine line result old new
Takes (polled.Torn line) result old new = TakesLine input.TornTail line result old new
Takes polled.TooLong result old new = Breaks (status.BadInput input.TooLong (old.tally.lines + 1)) result old new
Takes polled.NotYet result old new = Rests result old new
Takes polled.End result old new = Ends result old new
Takes polled.Failed result old new = Breaks status.ReadFault result old new
Takes polled.NoMemory result old new = Breaks status.NoMemory result old new

-- the input is polled once, and what it gave is taken
pub record TakesNext (result : Accepted) (old new : BookView) : Type 0 where
  pub given : Polled
  pub seen : DockSeen
  pub polls : Polls given old.seen seen
  pub takes : Takes given result (record old { seen = seen }) new

abbrev pub GoesOn : Option Held → Accepted → BookView → BookView → Type 0
GoesOn (Some held) result old new = Unparks held result old new
GoesOn None result old new = TakesNext result old new

-- nothing but its room is new in the gate
pub record KeepsGate (old new : GateView) : Type 0 where
  pub content : (content : Content) → Stands content old → Stands content new
  pub streams : new.streams ≡ old.streams
  pub next : new.next ≡ old.next
  pub states : new.states ≡ old.states

-- room in the gate is made first
pub record MakesRoom (result : Accepted) (old new : BookView) : Type 0 where
  pub gate : GateView
  pub keeps : KeepsGate old.gate gate
  pub goes : GoesOn old.queue.parked result (record old { gate = gate }) new

abbrev pub AnswersUnless : Option Status → Bool → Accepted → BookView → BookView → Type 0
AnswersUnless (Some stop) over result old new = (result ≡ accepted.Broken stop) × (new ≡ old)
AnswersUnless None true result old new = (result ≡ accepted.End) × (new ≡ old)
AnswersUnless None false result old new = Breaks status.NoMemory result old new ⊎ MakesRoom result old new

-- What a call on the input does. A book that is broken, or whose input has ended, stays. Else room is made, for which memory may be
-- wanting; and then a record that waits for room is tried again, or else the input is polled.
abbrev pub AcceptAnswer : Accepted → BookView → BookView → Type 0
AcceptAnswer result old new = AnswersUnless old.tally.broken old.tally.is_ended result old new

-- What is wrong with a line, by itself

-- a lane of a stream that the catalog does not have
abbrev pub lane_fault : List StreamId → Lane → Option InputKind
lane_fault ids all = None
lane_fault ids (one id) = if is_known ids id then None else Some input.UnknownStream

abbrev pub state_fault : List StreamId → Option Lanes → Option Lane → Option InputKind
state_fault ids known None = Some input.Legacy
state_fault ids known (Some lane) = if is_other known (lanes_of lane) then Some input.Mixed else lane_fault ids lane

abbrev pub message_fault : List StreamId → Option Lanes → Message → Option InputKind
message_fault ids known (message.Rec content) = lane_fault ids (one content.id)
message_fault ids known (message.State state) = state_fault ids known (lane_of state.kind)
message_fault ids known (message.Trace content) = None
message_fault ids known (message.Log content) = None
message_fault ids known (message.Spec content) = None
message_fault ids known (message.Connection content) = None
message_fault ids known (message.Catalog content) = None
message_fault ids known (message.Control content) = None

-- The first fault of a line, behind states of this kind; `unread` is that of a line that is no message.
abbrev pub fault_of : InputKind → List StreamId → Option Lanes → Option Message → Option InputKind
fault_of unread ids known None = Some unread
fault_of unread ids known (Some content) = message_fault ids known content
