-- What each call on a book leads to, whatever it answers.
use Rattle.std.specs.Prelude.{◌≡◌, ℕ, ◌+◌, ◌<◌, List, length, Option, None, Result}
use Rattle.basics.specs.declared.memory.NoMemory.{NoMemory}
use Rattle.catalog.specs.Configured.{AreConfigured}
use Rattle.catalog.specs.declared.stream.ConfStream.{ConfStream}
use Rattle.batch_prep.specs.Items.{Batch}
use Rattle.batch_prep.specs.declared.item.WorkItem.{WorkItem}
use Rattle.outside.specs.Dock.{DockGrew, DockMoves, DockSeen}
use Rattle.outside.specs.Limits.{AreLimits}
use Rattle.outside.specs.declared.load.Limits.{Limits}
use Rattle.outside.specs.declared.status.Status.{Status}
use Rattle.load_rules.specs.Machine.{Step}
use Rattle.book_rules.specs.declared.answer.Accepted.{Accepted}
use Rattle.book_rules.specs.declared.answer.Finished.{Finished}
use Rattle.book_rules.specs.declared.answer.Put.{Put}
use Rattle.book_rules.specs.Accepts.{AcceptAnswer}
use Rattle.book_rules.specs.Books.{IsAcceptRun, IsBook, IsFinishRun, IsGiveBackRun, IsNoRun, IsPickRun, IsPutRun, IsRecallRun, KeepsOpened, KeepsSafe, KeepsSafeOf, OwnLoadIsSafe, Runs}
use Rattle.book_rules.specs.Finishes.{CanFinish, FinishAnswer}
use Rattle.book_rules.specs.Hands.{PushAnswer, TakeOutputAnswer, closed}
use Rattle.book_rules.specs.Holds.{CanPut, IsReady}
use Rattle.book_rules.specs.Puts.{GiveBackAnswer, PickAnswer, PutAnswer, recalled}
use Rattle.book_rules.specs.Starts.{RefusedBy, Starts}
use Rattle.book_rules.specs.Views.{BookView}

-- It is a book again; the call was a run of the machine; the dock went on; the book's own load is safe and bounded, and so is the whole
-- trace, and a run of its store and of the engine, where it was that before.
pub record Keeps (shape : List Step → Type 0) (old new : BookView) : Type 0 where
  pub book : IsBook new
  pub opened : KeepsOpened old new
  pub runs : Runs shape old new
  pub moves : DockMoves old.seen new.seen
  pub grew : DockGrew old.seen new.seen
  pub own : OwnLoadIsSafe new
  pub safe : KeepsSafe old new

abbrev pub AcceptKeeps : Type 0
AcceptKeeps = (result : Accepted) (old new : BookView) → IsBook old → AcceptAnswer result old new → Keeps IsAcceptRun old new

abbrev pub PickKeeps : Type 0
PickKeeps = (result : Result (Option WorkItem) NoMemory) (old new : BookView) → IsBook old → PickAnswer result old new → Keeps IsPickRun old new

abbrev pub PutKeeps : Type 0
PutKeeps = (done : Batch) (result : Put) (old new : BookView) → IsBook old → PutAnswer done result old new → Keeps IsPutRun old new

abbrev pub GiveBackKeeps : Type 0
GiveBackKeeps = (item : WorkItem) (result : Option WorkItem) (old new : BookView) → IsBook old → GiveBackAnswer item result old new → Keeps (IsGiveBackRun item.batch) old new

abbrev pub RecallKeeps : Type 0
RecallKeeps = (old new : BookView) → IsBook old → new ≡ recalled old → Keeps IsRecallRun old new

abbrev pub FinishKeeps : Type 0
FinishKeeps = (stream : ℕ) (result : Result Finished Status) (old new : BookView) → IsBook old → FinishAnswer stream result old new → Keeps IsFinishRun old new

-- the calls of a dock in memory are no event, and no step
pub record HandKeeps (old new : BookView) : Type 0 where
  pub book : IsBook new
  pub opened : KeepsOpened old new
  pub runs : Runs IsNoRun old new
  pub own : OwnLoadIsSafe new
  pub safe : KeepsSafe old new

abbrev pub PushKeeps : Type 0
PushKeeps = (result : Result (Unit {0}) NoMemory) (line : List ℕ) (old new : BookView) → IsBook old → PushAnswer result line old new → HandKeeps old new

abbrev pub CloseKeeps : Type 0
CloseKeeps = (torn : Option (List ℕ)) (old new : BookView) → IsBook old → new ≡ closed torn old → HandKeeps old new

abbrev pub TakeOutputKeeps : Type 0
TakeOutputKeeps = (given : Option (List ℕ)) (old new : BookView) → IsBook old → TakeOutputAnswer given old new → HandKeeps old new

-- A book that was started is a book, and the whole trace is what it was before: safe, bounded, a run of its store and of the engine.
pub record IsBegun (before : DockSeen) (begun : BookView) : Type 0 where
  pub book : IsBook begun
  pub own : OwnLoadIsSafe begun
  pub safe : KeepsSafeOf begun.catalog (begun.limits.slots + 1) before begun.seen

abbrev pub StartsBegin : Type 0
StartsBegin = (streams : List ConfStream) (limits : Limits) (before : DockSeen) (book : BookView) → AreConfigured streams → AreLimits limits → Starts streams limits before book → IsBegun before book

-- so does a start that is refused
abbrev pub RefusedKeeps : Type 0
RefusedKeeps = (stop : Status) (streams : List ConfStream) (most : ℕ) (before now : DockSeen) → AreConfigured streams → RefusedBy stop streams before now → KeepsSafeOf streams most before now

-- of every book its own load is safe and bounded
abbrev pub BooksAreSafe : Type 0
BooksAreSafe = (book : BookView) → IsBook book → OwnLoadIsSafe book

-- a book that is not broken can take a line
abbrev pub BooksAreReady : Type 0
BooksAreReady = (book : BookView) → IsBook book → book.tally.broken ≡ None → IsReady book

-- and a batch can be put to it
abbrev pub BooksCanPut : Type 0
BooksCanPut = (book : BookView) → IsBook book → book.tally.broken ≡ None → CanPut book

-- and each of its streams can be finished
abbrev pub BooksCanFinish : Type 0
BooksCanFinish = (stream : ℕ) (book : BookView) → IsBook book → stream < length book.catalog → CanFinish stream book
