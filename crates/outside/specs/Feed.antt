-- What contracts see of a feed, and what its calls do to it.
use Rattle.std.specs.Prelude.{◌≡◌, ◌≢◌, ◌≤◌, ◌⊎◌, ℕ, List, [], ◌∷◌, Option, None, Some, Result, Ok, Err}
use Rattle.basics.specs.Told.{Rose}
use Rattle.outside.specs.declared.status.Status.{Status}
use Rattle.outside.specs.declared.status.Status.TheVariants as status

-- What a feed may give: lines, and the status that ends them; None where nothing is said of what comes behind them.
pub record Left : Type 0 where
  pub lines : List (List ℕ)
  pub ends : Option Status

-- What contracts see of a feed: the status that it ended with, None while it goes on; and how often the rows that it reads
-- could not be read.
pub record FeedSeen : Type 0 where
  pub ended : Option Status
  pub faults : ℕ

-- no line, and nothing is said of what comes
abbrev pub anything : Left
anything = record { lines = []; ends = None }

-- no line is left, and this is the end
abbrev pub nothing_left : Status → Left
nothing_left why = record { lines = []; ends = Some why }

-- the same behind this line
abbrev pub behind_line : List ℕ → Left → Left
behind_line line left = record left { lines = line ∷ left.lines }

-- the feed, once it has ended so
abbrev pub ended_with : Status → FeedSeen → FeedSeen
ended_with why seen = record seen { ended = Some why }

-- what a feed answers once it has ended so: no line where all were given, else why not
abbrev pub end_answer : Status → Result (Option (List ℕ)) Status
end_answer status.Ok = Ok None
end_answer why = Err why

-- Whatever may be given now could be given before.
abbrev pub Narrows : (Left → Type 0) → (Left → Type 0) → Type 0
Narrows Before After = (left : Left) → After left → Before left

-- Whatever may be given behind this line now could be given with it before.
abbrev pub NarrowsBehind : List ℕ → (Left → Type 0) → (Left → Type 0) → Type 0
NarrowsBehind line Before After = (left : Left) → After left → Before (behind_line line left)

-- Whatever a start may lead to now it could lead to before.
abbrev pub StartsAlike : (List ℕ → List ℕ → Result Left Status → Type 0) → (List ℕ → List ℕ → Result Left Status → Type 0) → Type 0
StartsAlike Before After = (catalog states : List ℕ) (found : Result Left Status) → After catalog states found → Before catalog states found

-- A feed begins so that whatever it may give now it could be begun to give.
abbrev pub Begins : (List ℕ → List ℕ → Result Left Status → Type 0) → List ℕ → List ℕ → (Left → Type 0) → Type 0
Begins Before catalog states After = (left : Left) → After left → Before catalog states (Ok left)

-- Memory was wanting, or the rows could not be read, or these texts may be refused so.
abbrev pub RefusesTexts : (List ℕ → List ℕ → Result Left Status → Type 0) → List ℕ → List ℕ → Status → Type 0
RefusesTexts Before catalog states why = (why ≡ status.NoMemory) ⊎ (why ≡ status.RowFault) ⊎ Before catalog states (Err why)

-- The feed goes on to answer as it ended.
pub record AnswersAgain (answer : Result (Option (List ℕ)) Status) (why : Status) (old new : FeedSeen) : Type 0 where
  pub same : answer ≡ end_answer why
  pub stays : new ≡ old

-- memory was wanting, and the feed is as before
pub record WantsMemory (why : Status) (old new : FeedSeen) : Type 0 where
  pub is : why ≡ status.NoMemory
  pub stays : new ≡ old

-- its rows could not be read, and so it ended
pub record LosesRows (why : Status) (old new : FeedSeen) : Type 0 where
  pub is : why ≡ status.RowFault
  pub rose : Rose old.faults new.faults
  pub kept : old.faults ≤ new.faults
  pub ended : new ≡ record (ended_with why old) { faults = new.faults }

-- It ended, as it may. Neither want of memory nor rows that could not be read is an end that a feed may be said to have.
pub record Ends (why : Status) (Before : Left → Type 0) (old new : FeedSeen) : Type 0 where
  pub memory : why ≢ status.NoMemory
  pub rows : why ≢ status.RowFault
  pub over : Before (nothing_left why)
  pub ended : new ≡ ended_with why old

-- a line is the first of what may be given, and the feed goes on
pub record GivesLine (line : List ℕ) (Before After : Left → Type 0) (old new : FeedSeen) : Type 0 where
  pub stays : new ≡ old
  pub first : NarrowsBehind line Before After

-- What an answer does to a feed that went on: a line is the first of those that may come; none comes where the lines may be over
-- and all is well; and a refusal is want of memory, or has its cause in the rows, or may end the lines.
abbrev pub GivesNext : Result (Option (List ℕ)) Status → (Left → Type 0) → (Left → Type 0) → FeedSeen → FeedSeen → Type 0
GivesNext (Ok (Some line)) Before After old new = GivesLine line Before After old new
GivesNext (Ok None) Before After old new = Ends status.Ok Before old new
GivesNext (Err why) Before After old new =
    (why ≢ status.Ok) × ((WantsMemory why old new × Narrows Before After) ⊎ LosesRows why old new ⊎ Ends why Before old new)
