-- When a file can be given again behind any of its states, as a source that goes on where it was: for each lane the rest of its
-- records, with each state at its own place among them.
use Rattle.std.specs.Prelude.{◌≡◌, ℕ, ◌+◌, List, ◌∷◌, ◌++◌, filter, filter_map, find, drop, take, length, not, Bool, true, false, ◌||◌, is_some, Option, None, Some}
use Rattle.std.specs.List.{AllByRecursion, AllPairs}
use Rattle.airbyte_message.specs.Lanes.{Lane, one, all, lane_of}
use Rattle.airbyte_message.specs.Same.{Same}
use Rattle.airbyte_message.specs.State.{State}
use Rattle.airbyte_message.specs.declared.message.RecordMsg.{RecordMsg}
use Rattle.airbyte_message.specs.declared.message.StateKind.{StateKind}
use Rattle.airbyte_message.specs.declared.message.StateKind.TheVariants as kind
use Rattle.load_rules.specs.Lines.{Line, record_in, state_in}
use Rattle.load_rules.specs.Taken.{covers, is_of_lane}
use Rattle.local_world.specs.Starts.{ReachTo}
use Rattle.local_world.specs.Left.{is_of}

-- the states among lines, in order
abbrev pub states_in : List Line → List State
states_in lines = filter_map (λ line. state_in line.found) lines

-- a state of one stream beside a lane of one stream, or one of all streams beside that lane
abbrev pub is_kind_of : Lane → StateKind → Bool
is_kind_of (one id) (kind.Stream other blob) = true
is_kind_of all (kind.Global shared streams) = true
is_kind_of lane kind = false

-- The file's states are all of the lane's kind, and no two are the same.
pub record IsReplayable (lane : Lane) (lines : List Line) : Type 0 where
  pub one_kind : AllByRecursion (λ state. is_kind_of lane state.kind ≡ true) (states_in lines)
  pub distinct : AllPairs (λ state later. ¬ Same state later) (states_in lines)

-- a lane's list: the records that it covers, in order
abbrev pub records_of : Lane → List Line → List RecordMsg
records_of lane lines = filter (λ content. covers lane content.id) (filter_map (λ line. record_in line.found) lines)

-- the lines of a lane: its records and its states
abbrev pub of_lane : Lane → List Line → List Line
of_lane lane lines = filter (λ line. is_of lane line.found) lines

-- The place of a state in its lane's list: the number of the lane's records in front of the first line that holds the same state.
pub record HasPlace (lane : Lane) (lines : List Line) (state : State) (place : ℕ) : Type 0 where
  pub count : ℕ
  pub reach : ReachTo lines state count
  pub place_is : place ≡ length (records_of lane (take count lines))

-- the state of a lane among started ones
abbrev pub started : Lane → List State → Option State
started lane states = find (λ state. is_of_lane lane (lane_of state.kind)) states

-- A lane starts at the place of its state, and at 0 without one.
abbrev pub StartsAt : Lane → List Line → Option State → ℕ → Type 0
StartsAt lane lines None place = place ≡ 0
StartsAt lane lines (Some state) place = HasPlace lane lines state place

-- Of a lane these lines are the rest of the file behind its started state: the records from there on, and each state at its own
-- place in the lane's list. So the records of any front of them are a front of that rest.
pub record GivesRest (lane : Lane) (lines : List Line) (state : Option State) (left : List Line) : Type 0 where
  pub place : ℕ
  pub starts : StartsAt lane lines state place
  pub records : records_of lane left ≡ drop place (records_of lane lines)
  pub states : (front behind : List Line) (line : Line) (own : State) → left ≡ front ++ line ∷ behind → state_in line.found ≡ Some own
      → is_of_lane lane (lane_of own.kind) ≡ true → HasPlace lane lines own (place + length (records_of lane front))

-- a line that is a record or a state
abbrev pub is_kept_line : Line → Bool
is_kept_line line = is_some (record_in line.found) || is_some (state_in line.found)

-- the lines that are neither, of which none is ever left out
abbrev pub others_in : List Line → List Line
others_in lines = filter (λ line. not (is_kept_line line)) lines
