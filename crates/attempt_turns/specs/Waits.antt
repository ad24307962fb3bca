-- Which given state is the first that was neither taken nor passed over, by its line of the source.
use Rattle.std.specs.Prelude.{◌≡◌, ℕ, ◌+◌, ◌≤◌, List, filter, take, slice_get, Option, None, Some, Contains}
use Rattle.basics.specs.declared.stream.StreamId.{StreamId}
use Rattle.outside.specs.declared.event.Event.{Event}
use Rattle.load_rules.specs.Lines.{Reading, lines_read, passes, state_in}
use Rattle.load_rules.specs.Taken.{LaneState}
use Rattle.load_rules.specs.Attempts.{reads, Waiting, none_given, LeavesAll}

-- the state stands in that line of the source, from 1: the lines before it of those that are passed on are those before that line
pub record StandsIn (ids : List StreamId) (read : Reading) (events : List Event) (line : ℕ) (state : LaneState) : Type 0 where
  pub number : ℕ
  pub is : line ≡ number + 1
  pub text : List ℕ
  pub at : slice_get (reads events) number ≡ Some text
  pub reads_so : state_in (read text) ≡ Some state.state
  pub before : state.before ≡ filter (λ other. passes ids other.found) (lines_read read (take number (reads events)))

-- a state of a lane that waits behind these events
pub record WaitsIn (read : Reading) (events : List Event) (state : LaneState) : Type 0 where
  pub waiting : Waiting
  pub waits : LeavesAll read state.lane none_given events waiting
  pub among : Contains waiting.states state

-- the state that stands in this line waits, and none that waits stands in an earlier one
pub record IsFirst (ids : List StreamId) (read : Reading) (events : List Event) (line : ℕ) : Type 0 where
  pub state : LaneState
  pub waits : WaitsIn read events state
  pub stands : StandsIn ids read events line state
  pub first : (other : LaneState) (at : ℕ) → WaitsIn read events other → StandsIn ids read events at other → line ≤ at

abbrev pub IsFirstWaiting : List StreamId → Reading → List Event → Option ℕ → Type 0
IsFirstWaiting ids read events None = (state : LaneState) → ¬ WaitsIn read events state
IsFirstWaiting ids read events (Some line) = IsFirst ids read events line
