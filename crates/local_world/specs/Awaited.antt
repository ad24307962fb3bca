-- For private clauses: started states that are looked for in the lines of a file, in one pass.
use Rattle.std.specs.Prelude.{◌≡◌, ◌⊎◌, ℕ, ◌+◌, ◌≤◌, zero, suc, List, [], ◌∷◌, map, length, Bool, true, false, ◌||◌, Option, None, Some}
use Rattle.std.specs.List.{AllZip}
use Rattle.basics.specs.declared.stream.StreamId.{StreamId}
use Rattle.outside.specs.Tables.{same_id}
use Rattle.airbyte_message.specs.Lanes.{Lane, one, all, lane_of}
use Rattle.airbyte_message.specs.State.{State}
use Rattle.load_rules.specs.Lines.{Line}
use Rattle.airbyte_message.specs.declared.message.Message.{Message}
use Rattle.airbyte_message.specs.declared.message.Message.TheVariants as message
use Rattle.local_world.specs.Starts.{Holds, IsNowhere, ReachTo, Start}
use Rattle.local_world.specs.Left.{is_of, left_behind}

-- started states, and for each how many lines reach up to it, where it has come
pub record Awaited : Type 0 where
  pub states : List State
  pub reached : List (Option ℕ)

-- behind these lines the state has come with so many of them, or it has not come
abbrev pub HasCome : List Line → State → Option ℕ → Type 0
HasCome lines state None = IsNowhere lines state
HasCome lines state (Some count) = ReachTo lines state count

-- whether the lane of a state has records and states of a stream, or of no one stream
abbrev pub lane_has : Option Lane → Option StreamId → Bool
lane_has None id = false
lane_has (Some all) id = true
lane_has (Some (one own)) None = false
lane_has (Some (one own)) (Some id) = same_id own id

abbrev pub state_has : Option StreamId → State → Bool
state_has id state = lane_has (lane_of state.kind) id

-- a message is of the lane of a state
abbrev pub is_of_lane : Option Message → Option Lane → Bool
is_of_lane found None = false
is_of_lane found (Some lane) = is_of lane found

abbrev pub is_of_state : Option Message → State → Bool
is_of_state found state = is_of_lane found (lane_of state.kind)

-- the place of the only state that passes, None where none does
abbrev pub IsOnlyAt : (State → Bool) → List State → Option ℕ → Type 0
IsOnlyAt test [] place = place ≡ None
IsOnlyAt test (state ∷ states) None = (test state ≡ false) × IsOnlyAt test states None
IsOnlyAt test (state ∷ states) (Some zero) = (test state ≡ true) × IsOnlyAt test states None
IsOnlyAt test (state ∷ states) (Some (suc place)) = (test state ≡ false) × IsOnlyAt test states (Some place)

-- whether one that has not come passes
abbrev pub is_awaited : (State → Bool) → List State → List (Option ℕ) → Bool
is_awaited test [] reached = false
is_awaited test (state ∷ states) [] = false
is_awaited test (state ∷ states) (None ∷ reached) = test state || is_awaited test states reached
is_awaited test (state ∷ states) (Some count ∷ reached) = is_awaited test states reached

-- what is known of a state behind one line more, which has this number, from 0
abbrev pub Comes : ℕ → Option Message → State → Option ℕ → Option ℕ → Type 0
Comes number found state (Some count) now = now ≡ Some count
Comes number found state None now = (Holds state found × (now ≡ Some (number + 1))) ⊎ (¬ Holds state found × (now ≡ None))

abbrev pub AllCome : ℕ → Option Message → List State → List (Option ℕ) → List (Option ℕ) → Type 0
AllCome number found [] [] [] = Unit {0}
AllCome number found (state ∷ states) (before ∷ reached) (now ∷ later) = Comes number found state before now × AllCome number found states reached later
AllCome number found _ _ _ = ⊥

-- Behind one line more, which is this message: which states have come, and whether the line is left out.
pub record Passes (number : ℕ) (found : Option Message) (old new : Awaited) (is_out : Bool) : Type 0 where
  pub states : new.states ≡ old.states
  pub come : AllCome number found old.states old.reached new.reached
  pub out : is_out ≡ is_awaited (is_of_state found) old.states old.reached

-- a line that is neither a record nor a state
abbrev pub IsNeither : Option Message → Type 0
IsNeither None = Unit {0}
IsNeither (Some (message.Rec content)) = ⊥
IsNeither (Some (message.State state)) = ⊥
IsNeither (Some (message.Log content)) = Unit {0}
IsNeither (Some (message.Spec content)) = Unit {0}
IsNeither (Some (message.Connection content)) = Unit {0}
IsNeither (Some (message.Catalog content)) = Unit {0}
IsNeither (Some (message.Trace content)) = Unit {0}
IsNeither (Some (message.Control content)) = Unit {0}

-- how many have not come
abbrev pub count_none : Option ℕ → ℕ
count_none None = 1
count_none (Some count) = 0

abbrev pub count_missing : List (Option ℕ) → ℕ
count_missing [] = 0
count_missing (reached ∷ more) = count_none reached + count_missing more

-- a start of the state's lane, where the state came, or behind all lines so far
abbrev pub IsStartFrom : ℕ → Option ℕ → ℕ → Type 0
IsStartFrom number None behind = number ≤ behind
IsStartFrom number (Some count) behind = behind ≡ count

abbrev pub StartFrom : ℕ → List State → List (Option ℕ) → List Start → Type 0
StartFrom number [] [] [] = Unit {0}
StartFrom number (state ∷ states) (reached ∷ more) (start ∷ starts) =
    (lane_of state.kind ≡ Some start.lane) × IsStartFrom number reached start.behind × StartFrom number states more starts
StartFrom number _ _ _ = ⊥

-- What is known behind some lines: which states have come, and what is left of the lines, wherever the others will come.
pub record Stands (lines : List Line) (awaited : Awaited) (left : List (List ℕ)) : Type 0 where
  pub come : AllZip (HasCome lines) awaited.states awaited.reached
  pub left_is : (starts : List Start) → StartFrom (length lines) awaited.states awaited.reached starts
      → left ≡ map (λ line. line.text) (left_behind starts lines)
