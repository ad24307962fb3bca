-- How the worker goes through the lines of a file, and what a run says.
use Rattle.std.specs.Prelude.{◌≡◌, ◌⊎◌, ℕ, ◌+◌, List, [], ◌∷◌, ◌++◌, map, length, Option, None, Some, IfSome}
use Rattle.basics.specs.Told.{told_more, GrewByFront}
use Rattle.outside.specs.declared.status.Status.{Status}
use Rattle.outside.specs.declared.status.Status.TheVariants as status
use Rattle.worker_run.specs.Ends.{status_of}
use Rattle.worker_run.specs.declared.end.End.{End}
use Rattle.worker_run.specs.declared.end.End.TheVariants as how
use Rattle.outside.specs.declared.fault.Fault.{Fault}
use Rattle.outside.specs.declared.fault.Fault.TheVariants as fault
use Rattle.outside.specs.Desk.{Texts}
use Rattle.json_fields.specs.Answer.{IsOnly}
use Rattle.text_lines.specs.Lines.{lines_of}
use Rattle.worker_run.specs.Words.{TextNames}
use Rattle.worker_run.specs.Catalog.{IsCatalog}
use Rattle.worker_run.specs.TakenLines.{TakenLine, taken_text, found_in, none_counted, counted_through, AreTaken, IsUnbuilt}
use Rattle.worker_run.specs.World.{World, ended, all_taken_events}
use Rattle.worker_run.specs.Output.{said_lines, attempt_lines, usage_line, status_line}

-- the new world has taken these lines more than the old one
pub record TakesLines (old new : World) (taken_lines : List TakenLine) : Type 0 where
  pub stream : new.stream ≡ old.stream
  pub lines : old.lines ≡ map taken_text taken_lines ++ new.lines
  pub number : new.number ≡ old.number + length taken_lines
  pub counted : new.counted ≡ counted_through old.counted taken_lines
  pub fits : AreTaken old.stream old.counted taken_lines
  pub events : new.events ≡ old.events ++ all_taken_events old.stream old.counted taken_lines

-- so, and what was said is what these lines say
pub record SaysLines (old new : World) (before now : Option (List (List ℕ))) : Type 0 where
  pub taken_lines : List TakenLine
  pub takes : TakesLines old new taken_lines
  pub said : now ≡ told_more (said_lines (found_in taken_lines)) before

-- what stands behind the lines that were taken: nothing, or a line with this number that is not taken
abbrev pub EndsAs : End → World → Type 0
EndsAs how.Ok world = world.lines ≡ []
EndsAs how.Usage world = ⊥
EndsAs how.FileFault world = ⊥
EndsAs how.SayFault world = ⊥
EndsAs (how.Unbuilt line) world =
    (bad : List ℕ) × (others : List (List ℕ)) × (world.lines ≡ bad ∷ others) × IsUnbuilt world.stream world.counted.since bad × (line ≡ world.number + 1)
EndsAs how.NoMemory world = ⊥

-- what the end leaves of that world: at Ok the attempt has ended
abbrev pub LeavesAs : End → World → World → Type 0
LeavesAs how.Ok world new = new ≡ ended world
LeavesAs how.Usage world new = ⊥
LeavesAs how.FileFault world new = ⊥
LeavesAs how.SayFault world new = ⊥
LeavesAs (how.Unbuilt line) world new = new ≡ world
LeavesAs how.NoMemory world new = ⊥

-- lines of a world were taken up to this end, and said
pub record Reads (old new : World) (end : End) (before now : Option (List (List ℕ))) : Type 0 where
  pub through : World
  pub says : SaysLines old through before now
  pub ends : EndsAs end through
  pub leaves : LeavesAs end through new

-- some lines of a world were taken and said
pub record ReadsSome (old : World) (before now : Option (List (List ℕ))) : Type 0 where
  pub through : World
  pub says : SaysLines old through before now

-- what stands behind the lines of a text that were taken
abbrev pub EndsBehind : List ℕ → List TakenLine → List (List ℕ) → End → Type 0
EndsBehind stream taken_lines rest how.Ok = rest ≡ []
EndsBehind stream taken_lines rest how.Usage = ⊥
EndsBehind stream taken_lines rest how.FileFault = ⊥
EndsBehind stream taken_lines rest how.SayFault = ⊥
EndsBehind stream taken_lines rest (how.Unbuilt line) =
    (bad : List ℕ) × (others : List (List ℕ)) × (rest ≡ bad ∷ others) × IsUnbuilt stream (counted_through none_counted taken_lines).since bad × (line ≡ length taken_lines + 1)
EndsBehind stream taken_lines rest how.NoMemory = ⊥

-- the lines of the text are these, which are taken one after another, and then the end: no line, or one that is not taken
pub record ReadsTo (text stream : List ℕ) (end : End) : Type 0 where
  pub taken_lines : List TakenLine
  pub rest : List (List ℕ)
  pub lines : lines_of text ≡ map taken_text taken_lines ++ rest
  pub fits : AreTaken stream none_counted taken_lines
  pub ends : EndsBehind stream taken_lines rest end

-- an attempt over this text ends so and says these lines
pub record IsAttempt (text stream : List ℕ) (end : End) (lines : List (List ℕ)) : Type 0 where
  pub reads : ReadsTo text stream end
  pub says : lines ≡ attempt_lines stream (found_in reads.taken_lines) end

-- an attempt over this text has ended so, and its lines were said
pub record Attempted (text stream : List ℕ) (end : End) (before now : Option (List (List ℕ))) : Type 0 where
  pub lines : List (List ℕ)
  pub attempt : IsAttempt text stream end lines
  pub said : now ≡ told_more lines before

-- the whole begins with this front
pub record IsFront (front whole : List (List ℕ)) : Type 0 where
  pub rest : List (List ℕ)
  pub splits : whole ≡ front ++ rest

-- what was said is a front of what an attempt over this text says, however it ends
pub record StopsShort (text stream : List ℕ) (before now : Option (List (List ℕ))) : Type 0 where
  pub front : List (List ℕ)
  pub said : now ≡ told_more front before
  pub in_front : (end : End) (lines : List (List ℕ)) → IsAttempt text stream end lines → IsFront front lines

-- the text has this name, where the texts are told
abbrev pub HasTextNamed : Option Texts → List ℕ → List ℕ → Type 0
HasTextNamed texts name text = IfSome texts (λ by_name. by_name name ≡ Some text)

-- no text has this name, where the texts are told
abbrev pub HasNoTextNamed : Option Texts → List ℕ → Type 0
HasNoTextNamed texts name = IfSome texts (λ by_name. by_name name ≡ None)

-- the catalog has one stream, and the text of the messages is missing
pub record LacksMessages (texts : Option Texts) (names : TextNames) : Type 0 where
  pub catalog : List ℕ
  pub catalog_is : HasTextNamed texts names.catalog catalog
  pub stream : List ℕ
  pub stream_is : IsOnly (IsCatalog catalog) stream
  pub missing : HasNoTextNamed texts names.messages

-- a text that is asked for is missing: nothing is said of an attempt
pub record LacksText (texts : Option Texts) (names : TextNames) (end : End) (lines : List (List ℕ)) : Type 0 where
  pub missing : HasNoTextNamed texts names.catalog ⊎ LacksMessages texts names
  pub ends : end ≡ how.FileFault
  pub nothing : lines ≡ []

-- the catalog has another form: no attempt is made, and nothing said of one
pub record RefusesCatalog (texts : Option Texts) (names : TextNames) (end : End) (lines : List (List ℕ)) : Type 0 where
  pub catalog : List ℕ
  pub catalog_is : HasTextNamed texts names.catalog catalog
  pub none : (stream : List ℕ) → ¬ IsCatalog catalog stream
  pub ends : end ≡ how.Unbuilt 0
  pub nothing : lines ≡ []

-- the catalog has one stream, and an attempt over the messages ends so and says these lines
pub record RunsAttempt (texts : Option Texts) (names : TextNames) (end : End) (lines : List (List ℕ)) : Type 0 where
  pub catalog : List ℕ
  pub catalog_is : HasTextNamed texts names.catalog catalog
  pub stream : List ℕ
  pub stream_is : IsOnly (IsCatalog catalog) stream
  pub messages : List ℕ
  pub messages_is : HasTextNamed texts names.messages messages
  pub attempt : IsAttempt messages stream end lines

-- What these words and texts come to: how a run ends where no call of the desk fails on a text that is there, and what it
-- says before its last line.
abbrev pub ComesTo : Option Texts → Option TextNames → End → List (List ℕ) → Type 0
ComesTo texts None end lines = (end ≡ how.Usage) × (lines ≡ usage_line ∷ [])
ComesTo texts (Some names) end lines = LacksText texts names end lines ⊎ (RefusesCatalog texts names end lines ⊎ RunsAttempt texts names end lines)

-- so, with the last line
pub record WouldSay (texts : Option Texts) (asked : Option TextNames) (end : End) (lines : List (List ℕ)) : Type 0 where
  pub body : List (List ℕ)
  pub comes : ComesTo texts asked end body
  pub whole : lines ≡ body ++ status_line (status_of end) ∷ []

-- what was said is a front of whatever these words and texts come to, where the texts that are asked for are told
abbrev pub IsFrontOfBody : Option Texts → Option TextNames → List (List ℕ) → Type 0
IsFrontOfBody texts None front = IsFront front (usage_line ∷ [])
IsFrontOfBody None (Some names) front = Unit {0}
IsFrontOfBody (Some by_name) (Some names) front = (end : End) (lines : List (List ℕ)) → ComesTo (Some by_name) (Some names) end lines → IsFront front lines

-- the same of all that would have been said
abbrev pub IsFrontOfAll : Option Texts → Option TextNames → List (List ℕ) → Type 0
IsFrontOfAll texts None front = IsFront front (usage_line ∷ status_line status.Usage ∷ [])
IsFrontOfAll None (Some names) front = Unit {0}
IsFrontOfAll (Some by_name) (Some names) front = (end : End) (lines : List (List ℕ)) → WouldSay (Some by_name) (Some names) end lines → IsFront front lines

-- before the last line: what the words and texts come to was said
pub record SaidBody (texts : Option Texts) (asked : Option TextNames) (end : End) (before now : Option (List (List ℕ))) : Type 0 where
  pub lines : List (List ℕ)
  pub comes : ComesTo texts asked end lines
  pub said : now ≡ told_more lines before

pub record SaidPart (texts : Option Texts) (asked : Option TextNames) (before now : Option (List (List ℕ))) : Type 0 where
  pub front : List (List ℕ)
  pub said : now ≡ told_more front before
  pub in_front : IsFrontOfBody texts asked front

-- what was said before the last line, at each end
abbrev pub SaysBody : Option Texts → Option TextNames → End → Option (List (List ℕ)) → Option (List (List ℕ)) → Type 0
SaysBody texts asked how.Ok before now = SaidBody texts asked how.Ok before now
SaysBody texts asked how.Usage before now = SaidBody texts asked how.Usage before now
SaysBody texts asked how.FileFault before now = now ≡ before
SaysBody texts asked how.SayFault before now = SaidPart texts asked before now
SaysBody texts asked (how.Unbuilt line) before now = SaidBody texts asked (how.Unbuilt line) before now
SaysBody texts asked how.NoMemory before now = SaidPart texts asked before now

-- all that these words and texts come to was said
pub record SaidAll (texts : Option Texts) (asked : Option TextNames) (end : End) (before now : Option (List (List ℕ))) : Type 0 where
  pub lines : List (List ℕ)
  pub would : WouldSay texts asked end lines
  pub said : now ≡ told_more lines before

-- What was said is a front of it; or, where reading a text failed, of the line that says so.
pub record SaidSome (texts : Option Texts) (asked : Option TextNames) (unread : Type 0) (before now : Option (List (List ℕ))) : Type 0 where
  pub front : List (List ℕ)
  pub said : now ≡ told_more front before
  pub in_front : IsFrontOfAll texts asked front ⊎ (unread × IsFront front (status_line status.FileFault ∷ []))

-- What a run said, at each end. `unread`: reading a text failed.
abbrev pub Says : Option Texts → Option TextNames → Type 0 → End → Option (List (List ℕ)) → Option (List (List ℕ)) → Type 0
Says texts asked unread how.Ok before now = SaidAll texts asked how.Ok before now
Says texts asked unread how.Usage before now = SaidAll texts asked how.Usage before now
Says texts asked unread how.FileFault before now = now ≡ told_more (status_line status.FileFault ∷ []) before
Says texts asked unread how.SayFault before now = SaidSome texts asked unread before now
Says texts asked unread (how.Unbuilt line) before now = SaidAll texts asked (how.Unbuilt line) before now
Says texts asked unread how.NoMemory before now = SaidSome texts asked unread before now

-- what a fault of reading, or of saying, makes of a run
abbrev pub IsReadFault : Fault → End → Type 0
IsReadFault fault.Failed end = end ≡ how.FileFault
IsReadFault fault.NoMemory end = end ≡ how.NoMemory

abbrev pub IsSayFault : Fault → End → Type 0
IsSayFault fault.Failed end = end ≡ how.SayFault
IsSayFault fault.NoMemory end = end ≡ how.NoMemory

-- The last line: nothing more is said behind a line that could not be said, nor without memory. Else the status was said,
-- or the run ends with such a fault, and it was said or not.
abbrev pub StatusSaid : End → End → Option (List (List ℕ)) → Option (List (List ℕ)) → Type 0
StatusSaid end result before now =
    ((result ≡ end) × (now ≡ told_more (status_line (status_of end) ∷ []) before))
    ⊎ (((result ≡ how.SayFault) ⊎ (result ≡ how.NoMemory)) × GrewByFront (status_line (status_of end) ∷ []) before now)

abbrev pub SaysLast : End → End → Option (List (List ℕ)) → Option (List (List ℕ)) → Type 0
SaysLast how.Ok result before now = StatusSaid how.Ok result before now
SaysLast how.Usage result before now = StatusSaid how.Usage result before now
SaysLast how.FileFault result before now = StatusSaid how.FileFault result before now
SaysLast how.SayFault result before now = (result ≡ how.SayFault) × (now ≡ before)
SaysLast (how.Unbuilt line) result before now = StatusSaid (how.Unbuilt line) result before now
SaysLast how.NoMemory result before now = (result ≡ how.NoMemory) × (now ≡ before)

-- a fault of saying came behind this end
abbrev pub EndsAtFault : End → End → Type 0
EndsAtFault how.SayFault result = ⊥
EndsAtFault end result = result ≡ how.SayFault

-- what was said stands written, or the run ends with a fault of saying
abbrev pub WritesOut : End → End → Type 0
WritesOut end result = (result ≡ end) ⊎ (result ≡ how.SayFault)

-- how a run without a command may end, before its status is said
abbrev pub EndsWithoutCommand : End → Type 0
EndsWithoutCommand end = (end ≡ how.Usage) ⊎ ((end ≡ how.SayFault) ⊎ (end ≡ how.NoMemory))

-- a run ended so, with this status, and said its lines
pub record EndsAndSays (texts : Option Texts) (asked : Option TextNames) (unread : Type 0) (result : Status) (before now : Option (List (List ℕ))) : Type 0 where
  pub end : End
  pub answer : result ≡ status_of end
  pub says : Says texts asked unread end before now

-- a fault of saying, or want of memory
abbrev pub StopsSaying : Status → Type 0
StopsSaying result = (result ≡ status.SayFault) ⊎ (result ≡ status.NoMemory)

-- how a run without a command may end
abbrev pub IsUsageEnd : Status → Type 0
IsUsageEnd result = (result ≡ status.Usage) ⊎ StopsSaying result

-- the end is the only one that these words and texts come to, unless a fault of the outside came first, or want of memory
abbrev pub IsOnlyEnd : Option Texts → Option TextNames → Status → Type 0
IsOnlyEnd texts asked result =
    IfSome texts (λ by_name. (other : End) (lines : List (List ℕ)) → WouldSay (Some by_name) asked other lines → (result ≡ status_of other) ⊎ ((result ≡ status.FileFault) ⊎ StopsSaying result))

-- the last line said is the status, unless a line could not be said or memory was wanting
abbrev pub EndsWithStatus : Status → Option (List (List ℕ)) → Option (List (List ℕ)) → Type 0
EndsWithStatus result before now = ((body : List (List ℕ)) × (now ≡ told_more (body ++ status_line result ∷ []) before)) ⊎ StopsSaying result

-- no line is refused, and no catalog
abbrev pub NothingUnbuilt : Option Texts → Option TextNames → Type 0
NothingUnbuilt texts asked = (line : ℕ) (lines : List (List ℕ)) → ¬ WouldSay texts asked (how.Unbuilt line) lines

-- the run was Ok, or memory was wanting
abbrev pub IsOkOrNoMemory : Status → Type 0
IsOkOrNoMemory result = (result ≡ status.Ok) ⊎ (result ≡ status.NoMemory)
