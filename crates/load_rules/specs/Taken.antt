-- Records and states among lines: the number of each record, and what stands before each state.
use Rattle.std.specs.Prelude.{ℕ, ◌+◌, List, [], ◌∷◌, ◌++◌, map, filter, fold, Bool, true, false, not, nat_eq, if◌then◌else◌, Option, None, Some}
use Rattle.std.specs.List.{list_any}
use Rattle.basics.specs.declared.stream.StreamId.{StreamId}
use Rattle.outside.specs.Tables.{same_id}
use Rattle.airbyte_message.specs.declared.message.RecordMsg.{RecordMsg}
use Rattle.airbyte_message.specs.State.{State}
use Rattle.airbyte_message.specs.Lanes.{Lane, one, all, lane_of}
use Rattle.load_rules.specs.Lines.{Line, record_in, state_in}

-- whether a lane covers the records of a stream, and whether two lanes are one
abbrev pub covers : Lane → StreamId → Bool
covers (one id) stream = same_id id stream
covers all stream = true

abbrev pub is_same_lane : Lane → Lane → Bool
is_same_lane (one id) (one other) = same_id id other
is_same_lane all all = true
is_same_lane _ _ = false

-- a record with its sequence
pub record Entry : Type 0 where
  pub seq : ℕ
  pub content : RecordMsg

-- the records of lines, with sequences from one on
abbrev pub and_record : ℕ → Option RecordMsg → (ℕ → List Entry) → List Entry
and_record seq None rest = rest seq
and_record seq (Some content) rest = record { seq = seq; content = content } ∷ rest (seq + 1)

abbrev pub entries_from : ℕ → List Line → List Entry
entries_from seq [] = []
entries_from seq (line ∷ lines) = and_record seq (record_in line.found) (λ next. entries_from next lines)

-- the k-th record among the lines has sequence k, from 0, over all streams
abbrev pub entries : List Line → List Entry
entries lines = entries_from 0 lines

-- a state that has a lane, and the lines before it
pub record LaneState : Type 0 where
  pub lane : Lane
  pub state : State
  pub before : List Line

abbrev pub state_of_lane : List Line → State → Option Lane → List LaneState
state_of_lane before state None = []
state_of_lane before state (Some lane) = record { lane = lane; state = state; before = before } ∷ []

abbrev pub state_of : List Line → Option State → List LaneState
state_of before None = []
state_of before (Some state) = state_of_lane before state (lane_of state.kind)

abbrev pub states_behind : List Line → List Line → List LaneState
states_behind before [] = []
states_behind before (line ∷ lines) = state_of before (state_in line.found) ++ states_behind (before ++ line ∷ []) lines

-- the states among lines, in order; a Legacy state is none
abbrev pub states : List Line → List LaneState
states lines = states_behind [] lines

abbrev pub of_lane : Lane → List LaneState → List LaneState
of_lane lane found = filter (λ state. is_same_lane lane state.lane) found

-- those of them whose sequences are not among these
abbrev pub is_in : ℕ → List ℕ → Bool
is_in seq seqs = list_any (λ other. nat_eq other seq) seqs

abbrev pub without : List ℕ → List Entry → List Entry
without seqs found = filter (λ entry. not (is_in entry.seq seqs)) found

-- the sequences of the records before a state that it covers
abbrev pub covered : LaneState → List ℕ
covered state = map (λ entry. entry.seq) (filter (λ entry. covers state.lane entry.content.id) (entries state.before))

-- how many records of a lane stand behind its last state
abbrev pub counts_record : Lane → ℕ → Option RecordMsg → ℕ
counts_record lane count None = count
counts_record lane count (Some content) = if covers lane content.id then count + 1 else count

abbrev pub is_of_lane : Lane → Option Lane → Bool
is_of_lane lane None = false
is_of_lane lane (Some other) = is_same_lane lane other

abbrev pub counts_state : Lane → ℕ → Option State → ℕ
counts_state lane count None = count
counts_state lane count (Some state) = if is_of_lane lane (lane_of state.kind) then 0 else count

abbrev pub since : Lane → List Line → ℕ
since lane lines = fold (λ count line. counts_state lane (counts_record lane count (record_in line.found)) (state_in line.found)) 0 lines

-- the count that the echo of a state tells: the covered records behind the lane's state before it
abbrev pub count_of : LaneState → ℕ
count_of state = since state.lane state.before
