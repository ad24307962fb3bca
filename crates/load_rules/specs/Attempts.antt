-- The attempts of a trace, what a worker passes on in one, and which state a line of the destination takes.
use Rattle.std.specs.Prelude.{◌≡◌, ◌⊎◌, ℕ, List, [], ◌∷◌, ◌++◌, filter, filter_map, fold}
use Rattle.std.specs.List.{AllByRecursion}
use Rattle.basics.specs.declared.stream.StreamId.{StreamId}
use Rattle.outside.specs.declared.event.Event.{Event}
use Rattle.outside.specs.declared.event.Event.TheVariants.{Started, Given, Got}
use Rattle.outside.specs.declared.event.AttemptPlan.{AttemptPlan}
use Rattle.outside.specs.Event.{emitted_in, read_in, given_in, got_in}
use Rattle.airbyte_message.specs.Lanes.{Lane}
use Rattle.airbyte_message.specs.Same.{Same}
use Rattle.airbyte_message.specs.State.{State}
use Rattle.load_rules.specs.Prefixes.{with_first}
use Rattle.load_rules.specs.Lines.{Line, Reading, line_read, lines_read, passes, state_in}
use Rattle.load_rules.specs.Taken.{LaneState, state_of, states, of_lane}

-- an attempt: what it was started with, and the events from there to the next Started
pub record Attempt : Type 0 where
  pub plan : AttemptPlan
  pub events : List Event

abbrev pub attempt_with : Event → Attempt → Attempt
attempt_with event attempt = record attempt { events = attempt.events ++ event ∷ [] }

abbrev pub attempts_after : List Attempt → Event → List Attempt
attempts_after attempts (Started plan) = record { plan = plan; events = [] } ∷ attempts
attempts_after attempts event = with_first (attempt_with event) attempts

-- the attempts, the last first
abbrev pub attempts : List Event → List Attempt
attempts trace = fold attempts_after [] trace

-- the events of the last attempt
abbrev pub attempt_events : List Attempt → List Event
attempt_events [] = []
attempt_events (attempt ∷ older) = attempt.events

-- the lines that were read, given, emitted and got
abbrev pub reads : List Event → List (List ℕ)
reads events = filter_map read_in events

abbrev pub gives : List Event → List (List ℕ)
gives events = filter_map given_in events

abbrev pub emits : List Event → List (List ℕ)
emits events = filter_map emitted_in events

abbrev pub gots : List Event → List (List ℕ)
gots events = filter_map got_in events

-- of the lines that were read, those that are passed on
abbrev pub passed : List StreamId → Reading → List Event → List Line
passed ids read events = filter (λ line. passes ids line.found) (lines_read read (reads events))

-- A state that comes back takes the first given state of its lane that is the same, among those behind the one that was taken
-- last in this lane. One that takes none changes nothing. Where the given lines are those that were passed on, so are the taken
-- ones: a line's place is the same in both lists.

-- Of one lane: the lines that were given so far, and of the lane's states among them those that may still be taken, in order
pub record Waiting : Type 0 where
  pub given : List Line
  pub states : List LaneState

abbrev pub none_given : Waiting
none_given = record { given = []; states = [] }

abbrev pub with_given : Lane → Line → Waiting → Waiting
with_given lane line waiting = record { given = waiting.given ++ line ∷ []; states = waiting.states ++ of_lane lane (state_of waiting.given (state_in line.found)) }

-- the first that is the same is taken, and those before it are passed over
pub record TakesFirst (waiting : List LaneState) (got : State) (first : LaneState) (rest : List LaneState) : Type 0 where
  pub over : List LaneState
  pub splits : waiting ≡ over ++ first ∷ rest
  pub others : AllByRecursion (λ other. ¬ Same other.state got) over
  pub same : Same first.state got

abbrev pub StateLeaves : List LaneState → State → List LaneState → Type 0
StateLeaves waiting got left =
    (AllByRecursion (λ other. ¬ Same other.state got) waiting × (left ≡ waiting))
    ⊎ ((first : LaneState) × TakesFirst waiting got first left)

-- the states of the lane in one line, of which there is at most one
abbrev pub LineLeaves : List LaneState → List LaneState → List LaneState → Type 0
LineLeaves waiting [] left = left ≡ waiting
LineLeaves waiting (back ∷ more) left = (between : List LaneState) × StateLeaves waiting back.state between × LineLeaves between more left

abbrev pub Leaves : Reading → Lane → Waiting → Event → Waiting → Type 0
Leaves read lane waiting (Given text) left = left ≡ with_given lane (line_read read text) waiting
Leaves read lane waiting (Got text) left = (left.given ≡ waiting.given) × LineLeaves waiting.states (of_lane lane (states (line_read read text ∷ []))) left.states
Leaves read lane waiting event left = left ≡ waiting

-- what waits behind these events, where this waits before them
abbrev pub LeavesAll : Reading → Lane → Waiting → List Event → Waiting → Type 0
LeavesAll read lane waiting [] left = left ≡ waiting
LeavesAll read lane waiting (event ∷ events) left = (between : Waiting) × Leaves read lane waiting event between × LeavesAll read lane between events left

-- a state that comes back behind these events of its attempt takes this given one
pub record TakesState (read : Reading) (before : List Event) (back last : LaneState) : Type 0 where
  pub waiting : Waiting
  pub waits : LeavesAll read back.lane none_given before waiting
  pub rest : List LaneState
  pub takes : TakesFirst waiting.states back.state last rest
