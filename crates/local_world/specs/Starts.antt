-- Where the lines of a file start when they are given again behind saved states.
use Rattle.std.specs.Prelude.{◌≡◌, ℕ, ◌+◌, List, ◌∷◌, ◌++◌, length, Option, Some, IsSomeAnd}
use Rattle.std.specs.List.{AllByRecursion, AllZip}
use Rattle.text_lines.specs.Lines.{lines_of}
use Rattle.airbyte_message.specs.Lanes.{Lane, lane_of}
use Rattle.airbyte_message.specs.Same.{Same}
use Rattle.airbyte_message.specs.State.{State}
use Rattle.airbyte_message.specs.declared.message.Message.{Message}
use Rattle.load_rules.specs.Lines.{Line, Reading, ReadsText, lines_read, state_in}

-- the lines of a file, each with what it is read as
abbrev pub file_lines : Reading → List ℕ → List Line
file_lines read text = lines_read read (lines_of text)

-- the reading is right of the lines of a file
abbrev pub ReadsFile : Reading → List ℕ → Type 0
ReadsFile read text = AllByRecursion (ReadsText read) (lines_of text)

-- a line that is this message holds the same state
abbrev pub Holds : State → Option Message → Type 0
Holds state found = IsSomeAnd (state_in found) (λ own. Same own state)

-- no line holds the same state
abbrev pub IsNowhere : List Line → State → Type 0
IsNowhere lines state = AllByRecursion (λ line. ¬ Holds state line.found) lines

-- So many lines reach up to the first that holds the same state, and that line is one of them.
pub record ReachTo (lines : List Line) (state : State) (count : ℕ) : Type 0 where
  pub before : List Line
  pub line : Line
  pub behind : List Line
  pub splits : lines ≡ before ++ line ∷ behind
  pub none : IsNowhere before state
  pub holds : Holds state line.found
  pub counts : count ≡ length before + 1

-- A lane starts behind so many of the lines.
pub record Start : Type 0 where
  pub lane : Lane
  pub behind : ℕ

-- the lane of a state starts behind the first line that holds the same state
pub record StartsBehind (lines : List Line) (state : State) (start : Start) : Type 0 where
  pub lane : lane_of state.kind ≡ Some start.lane
  pub reach : ReachTo lines state start.behind

-- where lines start behind each of these states
abbrev pub AreStarts : List Line → List State → List Start → Type 0
AreStarts lines states starts = AllZip (StartsBehind lines) states starts
