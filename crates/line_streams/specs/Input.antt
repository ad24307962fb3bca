-- The lines of a source of bytes: what is still to come, and what an answer gives of it.
use Rattle.std.specs.Prelude.{◌≡◌, ℕ, List, [], ◌∷◌, ◌++◌, length, ◌≤◌, Bool, true, false, Option, None, Some, option_map, IfSome}
use Rattle.basics.specs.declared.limits.TheConstants.{LONGEST_LINE}
use Rattle.outside.specs.declared.link.Polled.{Polled}
use Rattle.outside.specs.declared.link.Polled.TheVariants as polled
use Rattle.piecewise_lines.specs.Unread.{Unread}
use Rattle.piecewise_lines.specs.Next.{answer_of, left_of, torn_line, fed}
use Rattle.piecewise_lines.specs.declared.NextLine.{NextLine}
use Rattle.piecewise_lines.specs.declared.NextLine.TheVariants as answer
use Rattle.text_lines.specs.Lines.{lines_of}

-- what contracts see of an input
pub record Input : Type 0 where
  -- what was read, and given neither as a line nor passed over
  pub unread : Unread
  -- what was read behind that
  pub held : List ℕ
  -- what the source still has, where it tells that
  pub left : Option (List ℕ)
  pub is_over : Bool
  -- how often the source failed
  pub faults : ℕ

-- all bytes that are still to come, where the source tells its own
abbrev pub to_come : Input → Option (List ℕ)
to_come input = option_map (λ left. input.unread.bytes ++ (input.held ++ left)) input.left

-- the lines that an answer gives
abbrev pub lines_given : Polled → List (List ℕ)
lines_given (polled.Line line) = line ∷ []
lines_given (polled.Torn line) = line ∷ []
lines_given polled.TooLong = []
lines_given polled.NotYet = []
lines_given polled.End = []
lines_given polled.Failed = []
lines_given polled.NoMemory = []

-- the lines to come were these, and those to come now
abbrev pub LeavesLines : List (List ℕ) → Option (List ℕ) → Option (List ℕ) → Type 0
LeavesLines lines before now = option_map lines_of before ≡ option_map (λ bytes. lines ++ lines_of bytes) now

-- No line is lost, and none comes twice: the lines to come were those that the answer gives, and those to come now.
abbrev pub GivesInOrder : Polled → Option (List ℕ) → Option (List ℕ) → Type 0
GivesInOrder given before now = LeavesLines (lines_given given) before now

-- no line is to come
abbrev pub HasNoLine : Option (List ℕ) → Type 0
HasNoLine coming = IfSome coming (λ bytes. lines_of bytes ≡ [])

-- The cause of an answer

-- two ways to part bytes that were read give the same, and leave the same
pub record GivesSame (one other : Unread) : Type 0 where
  pub answer : answer_of one ≡ answer_of other
  pub left : left_of one ≡ left_of other
  pub torn : torn_line one ≡ torn_line other

-- they do so whatever is read behind them
abbrev pub IsSame : Unread → Unread → Type 0
IsSame one other = (more : List ℕ) → GivesSame (fed one more) (fed other more)

-- That is what comes next of all bytes that were read, and it was taken off them.
pub record Answered (given : NextLine) (read : Unread) (now : Input) : Type 0 where
  pub answer : answer_of read ≡ given
  pub unread : now.unread ≡ left_of read
  pub held : now.held ≡ []

-- No line has its newline in all that was read, and no piece is too long; the source has ended, or not.
pub record WantsMore (ended : Bool) (read : Unread) (now : Input) : Type 0 where
  pub more : Answered answer.More read now
  pub over : now.is_over ≡ ended

-- the source has ended, and what is behind the last newline is the line
pub record Tears (line : List ℕ) (read : Unread) (now : Input) : Type 0 where
  pub answer : answer_of read ≡ answer.More
  pub over : now.is_over ≡ true
  pub torn : torn_line read ≡ Some line
  pub unread : now.unread ≡ record read { bytes = [] }
  pub held : now.held ≡ []

-- the source has ended, and behind the last newline is nothing, or a blank piece
pub record Ends (read : Unread) (now : Input) : Type 0 where
  pub more : WantsMore true read now
  pub torn : torn_line read ≡ None

-- When each answer comes, by all bytes that were read and not given: what stands then. At want of memory nothing was lost.
abbrev pub Answers : Polled → Unread → Input → Type 0
Answers (polled.Line line) read now = Answered (answer.Line line) read now
Answers polled.TooLong read now = Answered answer.TooLong read now
Answers polled.NotYet read now = WantsMore false read now
Answers (polled.Torn line) read now = Tears line read now
Answers polled.End read now = Ends read now
Answers polled.Failed read now = WantsMore false read now
Answers polled.NoMemory read now = IsSame (fed now.unread now.held) read

-- these are the next bytes of the source
abbrev pub AreRead : List ℕ → Option (List ℕ) → Option (List ℕ) → Type 0
AreRead bytes before now = before ≡ option_map (λ left. bytes ++ left) now

-- the answer has its cause in what stood unread, and the bytes that the call read behind that
pub record HasCause (given : Polled) (old new : Input) : Type 0 where
  pub bytes : List ℕ
  pub read : AreRead bytes old.left new.left
  pub cause : Answers given (fed old.unread (old.held ++ bytes)) new

-- The input went on by bytes that it read, and gave nothing.
pub record GoesOn (old new : Input) : Type 0 where
  pub bytes : List ℕ
  pub read : AreRead bytes old.left new.left
  pub same : IsSame (fed new.unread new.held) (fed old.unread (old.held ++ bytes))

-- For private clauses: at NotYet the input went on, and else the answer has its cause.
abbrev pub GoesOnOrCause : Polled → Input → Input → Type 0
GoesOnOrCause (polled.Line line) old new = HasCause (polled.Line line) old new
GoesOnOrCause polled.TooLong old new = HasCause polled.TooLong old new
GoesOnOrCause polled.NotYet old new = GoesOn old new
GoesOnOrCause (polled.Torn line) old new = HasCause (polled.Torn line) old new
GoesOnOrCause polled.End old new = HasCause polled.End old new
GoesOnOrCause polled.Failed old new = HasCause polled.Failed old new
GoesOnOrCause polled.NoMemory old new = HasCause polled.NoMemory old new

-- For private clauses: a line is within the limit.
abbrev pub IsShort : NextLine → Type 0
IsShort (answer.Line line) = length line ≤ LONGEST_LINE
IsShort answer.TooLong = Unit {0}
IsShort answer.More = Unit {0}
