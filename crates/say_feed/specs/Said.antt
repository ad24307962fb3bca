-- What is said of a feed: a front of the lines that it may give, and how that ends.
use Rattle.std.specs.Prelude.{◌≡◌, ◌⊎◌, ℕ, ◌≤◌, List, [], ◌∷◌, ◌++◌, Bool, true, false, Option, Some, Result, Ok, Err}
use Rattle.basics.specs.Told.{Rose, told_more}
use Rattle.outside.specs.Desk.{DeskSeen}
use Rattle.outside.specs.Feed.{Left, NarrowsBehind}
use Rattle.outside.specs.declared.fault.Fault.{Fault}
use Rattle.outside.specs.declared.fault.Fault.TheVariants as fault
use Rattle.outside.specs.declared.status.Status.{Status}
use Rattle.outside.specs.declared.status.Status.TheVariants as status

-- what a fault of saying makes of a run
abbrev pub say_status : Fault → Status
say_status fault.Failed = status.WriteFault
say_status fault.NoMemory = status.NoMemory

-- memory was wanting, or a line could not be said or written out
abbrev pub EndsLine : Status → Type 0
EndsLine why = (why ≡ status.NoMemory) ⊎ (why ≡ status.WriteFault)

-- A run answers this once what was said is written out. What could not be written makes the answer a fault of writing.
pub record WritesOut (last result : Status) (old new : DeskSeen) : Type 0 where
  pub is : (result ≡ last) ⊎ ((result ≡ status.WriteFault) × Rose old.say_faults new.say_faults)
  pub kept : old.say_faults ≤ new.say_faults
  pub stays : ¬ (result ≡ status.WriteFault) → new.say_faults ≡ old.say_faults
  pub others : new ≡ record old { say_faults = new.say_faults }

-- Why a feed's lines end with this answer: the feed may end so, or memory was wanting, or the feed's rows could not be read, or a
-- line could not be said or written out.
abbrev pub EndsBy : Status → Option Status → ℕ → ℕ → ℕ → ℕ → Type 0
EndsBy result ends rows rows_now says says_now =
    (ends ≡ Some result) ⊎ (result ≡ status.NoMemory) ⊎ ((result ≡ status.RowFault) × Rose rows rows_now) ⊎ ((result ≡ status.WriteFault) × Rose says says_now)

-- What was said is a front of lines that the feed may give, and all of them up to the end that is answered.
pub record SaysFeed (result : Status) (May : Left → Type 0) (rows rows_now : ℕ) (old new : DeskSeen) : Type 0 where
  pub left : Left
  pub may : May left
  pub said : new.said ≡ told_more left.lines old.said
  pub ends : EndsBy result left.ends rows rows_now old.say_faults new.say_faults

-- For private clauses: one line was said, the first of those that may come.
pub record SaysLine (Before After : Left → Type 0) (old new : DeskSeen) : Type 0 where
  pub line : List ℕ
  pub first : NarrowsBehind line Before After
  pub said : new.said ≡ told_more (line ∷ []) old.said

abbrev pub SaysNext : Result Bool Status → (Left → Type 0) → (Left → Type 0) → ℕ → ℕ → DeskSeen → DeskSeen → Type 0
SaysNext (Ok true) Before After rows rows_now old new = SaysLine Before After old new
SaysNext (Ok false) Before After rows rows_now old new = SaysFeed status.Ok Before rows rows_now old new
SaysNext (Err why) Before After rows rows_now old new = SaysFeed why Before rows rows_now old new

-- the lines said so far, and whatever may come now could come behind them
pub record SaidSoFar (Start Now : Left → Type 0) (old new : DeskSeen) : Type 0 where
  pub front : List (List ℕ)
  pub behind : (left : Left) → Now left → Start (record left { lines = front ++ left.lines })
  pub said : new.said ≡ told_more front old.said

-- there is a next line
abbrev pub IsMore : Result Bool Status → Type 0
IsMore (Ok more) = more ≡ true
IsMore (Err why) = ⊥
