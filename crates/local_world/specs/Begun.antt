-- What a feed over a file gives, where it is begun with an array of saved states, and why it refuses one.
use Rattle.std.specs.Prelude.{◌≡◌, ◌⊎◌, ℕ, List, ◌++◌, map, Option, None, Some, Result, Ok, Err}
use Rattle.std.specs.List.{Any}
use Rattle.json_fields.specs.Answer.{IsOnly}
use Rattle.outside.specs.Feed.{FeedSeen, Left, behind_line, ended_with, nothing_left}
use Rattle.outside.specs.Status.{state_status}
use Rattle.outside.specs.declared.status.Status.{Status}
use Rattle.outside.specs.declared.status.Status.TheVariants as status
use Rattle.outside.specs.declared.faults.StateFault.{StateFault}
use Rattle.outside.specs.declared.faults.StateFault.TheVariants as fault
use Rattle.airbyte_message.specs.State.{State}
use Rattle.state_kinds.specs.StateLists.{ReadsStates}
use Rattle.load_rules.specs.Lines.{Reading}
use Rattle.local_world.specs.Starts.{AreStarts, IsNowhere, ReadsFile, Start, file_lines}
use Rattle.local_world.specs.Left.{left_behind}

-- a feed over a file: the file, what the feed will give, and what is seen of it
pub record Replay : Type 0 where
  pub text : List ℕ
  pub left : Left
  pub seen : FeedSeen

-- These lines are what is left of the file behind these states, each of which it holds.
pub record AreLeft (read : Reading) (text : List ℕ) (states : List State) (lines : List (List ℕ)) : Type 0 where
  pub starts : List Start
  pub begins : AreStarts (file_lines read text) states starts
  pub left : lines ≡ map (λ line. line.text) (left_behind starts (file_lines read text))

-- The feed gives what is left behind the states of the array, and ends well; however the lines are read, if they are read right.
pub record Begins (text array : List ℕ) (left : Left) : Type 0 where
  pub states : List State
  pub reads : IsOnly (ReadsStates array) (Ok states)
  pub lines : (read : Reading) → ReadsFile read text → AreLeft read text states left.lines
  pub ends : left.ends ≡ Some status.Ok

-- a state of the array is nowhere in the file
pub record LacksState (text array : List ℕ) : Type 0 where
  pub states : List State
  pub reads : IsOnly (ReadsStates array) (Ok states)
  pub lacks : (read : Reading) → ReadsFile read text → Any (IsNowhere (file_lines read text)) states

-- The array is refused: it reads as this fault, or the fault is that the file lacks one of its states.
abbrev pub HasFault : List ℕ → List ℕ → StateFault → Type 0
HasFault text array fault.OutOfRange = LacksState text array
HasFault text array why = IsOnly (ReadsStates array) (Err why)

-- the array has a fault, which makes this status
abbrev pub HasCause : List ℕ → List ℕ → Status → Type 0
HasCause text array why = (fault : StateFault) × HasFault text array fault × (why ≡ state_status fault)

-- a feed does not begin for want of memory, or for a fault of the array
abbrev pub Refuses : List ℕ → List ℕ → Status → Type 0
Refuses text array why = (why ≡ status.NoMemory) ⊎ HasCause text array why

-- what is left of lines until the feed has ended
abbrev pub left_until : Option Status → List (List ℕ) → Left
left_until None lines = record { lines = lines; ends = Some status.Ok }
left_until (Some why) lines = nothing_left why

-- a feed over a file that gives all these lines, and never fails
abbrev pub gives_all : List ℕ → List (List ℕ) → Replay
gives_all text lines = record { text = text; left = left_until None lines; seen = record { ended = None; faults = 0 } }

-- What an answer leaves: a line was the first of those that were left; no line comes where none was left, and the feed has
-- ended well; and a refusal leaves all as it was.
abbrev pub Gives : Result (Option (List ℕ)) Status → Replay → Replay → Type 0
Gives (Ok (Some line)) old new = old ≡ record new { left = behind_line line new.left }
Gives (Ok None) old new = (old.left ≡ nothing_left status.Ok) × (new ≡ record old { seen = ended_with status.Ok old.seen })
Gives (Err why) old new = new ≡ old

-- These are the first of the lines where no end is said, and else all of them, with their end.
abbrev pub IsFrontOf : Left → List (List ℕ) → Option Status → Type 0
IsFrontOf whole lines None = (rest : List (List ℕ)) × (whole.lines ≡ lines ++ rest)
IsFrontOf whole lines (Some why) = whole ≡ record { lines = lines; ends = Some why }

-- What may be said of a feed that gives all of this.
abbrev pub MayGive : Left → Left → Type 0
MayGive whole left = IsFrontOf whole left.lines left.ends

-- What the file and an array of states lead to, whatever the catalog: what may be said of the lines that are left, or the fault.
abbrev pub MayBegin : List ℕ → List ℕ → List ℕ → Result Left Status → Type 0
MayBegin text catalog array (Ok left) = (whole : Left) × Begins text array whole × MayGive whole left
MayBegin text catalog array (Err why) = HasCause text array why
