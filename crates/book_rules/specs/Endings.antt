-- What holds at the end of a load: each stream that a finish has merged and shown is done, and so is the load of a book that has
-- drained.
use Rattle.std.specs.Prelude.{◌≡◌, ℕ, ◌<◌, List, [], ◌∷◌, slice_get, true, false, ◌↔◌, Option, None, Some, Result, Ok, Err}
use Rattle.catalog.specs.declared.stream.ConfStream.{ConfStream}
use Rattle.outside.specs.Dock.{dock_events}
use Rattle.outside.specs.Tables.{tables_of}
use Rattle.outside.specs.declared.event.Event.{Event}
use Rattle.outside.specs.declared.status.Status.{Status}
use Rattle.load_rules.specs.Finished.{IsComplete, IsFinished, IsIncomplete, LoadIsDone, StreamIsDone, last_status}
use Rattle.load_rules.specs.Lines.{IsReading, Reading, lines_read}
use Rattle.load_rules.specs.Loads.{Load, loads, tooks}
use Rattle.book_rules.specs.declared.answer.Finished.{Finished}
use Rattle.book_rules.specs.declared.answer.Finished.TheVariants as finished
use Rattle.book_rules.specs.Books.{IsBook}
use Rattle.book_rules.specs.Finishes.{FinishAnswer, is_complete_in, is_drained}
use Rattle.book_rules.specs.Views.{BookView}

-- Streams

-- what this answers of a stream: it is merged, where it is deduplicated, and not hidden any more
abbrev pub EndsStream : Result Finished Status → Type 0
EndsStream (Ok finished.Kept) = Unit {0}
EndsStream (Ok finished.Shown) = Unit {0}
EndsStream (Ok finished.NotComplete) = ⊥
EndsStream (Ok finished.Undrained) = ⊥
EndsStream (Err stop) = ⊥

-- A stream whose finish was answered so is done, whatever the trace is that the dock was handed in with.
abbrev pub FinishIsDone : Type 0
FinishIsDone =
    (number : ℕ) (stream : ConfStream) (result : Result Finished Status) (old new : BookView) (trace : List Event)
    → IsBook old → FinishAnswer number result old new → EndsStream result → slice_get old.catalog number ≡ Some stream → dock_events new.seen ≡ Some trace
    → StreamIsDone (tables_of trace) number stream

-- A finish, whatever it answers, leaves a stream done that was so: another one, and its own.
abbrev pub FinishLeavesDone : Type 0
FinishLeavesDone =
    (number other : ℕ) (stream : ConfStream) (result : Result Finished Status) (old new : BookView) (before now : List Event)
    → IsBook old → FinishAnswer number result old new → dock_events old.seen ≡ Some before → dock_events new.seen ≡ Some now
    → StreamIsDone (tables_of before) other stream → StreamIsDone (tables_of now) other stream

-- what breaks a book by this answer
abbrev pub stop_by : Result Finished Status → Option Status
stop_by (Ok done) = None
stop_by (Err stop) = Some stop

-- A finish moves the dock, and may note that the stream was shown. The book is broken exactly where it answers so.
pub record LeavesBook (result : Result Finished Status) (old new : BookView) : Type 0 where
  pub is : new ≡ record old { seen = new.seen; shown = new.shown; tally = record (old.tally) { broken = new.tally.broken } }
  pub broken : new.tally.broken ≡ stop_by result

abbrev pub FinishLeaves : Type 0
FinishLeaves = (number : ℕ) (result : Result Finished Status) (old new : BookView) → FinishAnswer number result old new → LeavesBook result old new

-- Loads

-- the reading is right of the first of these loads
abbrev pub ReadsFirst : Reading → List Load → Type 0
ReadsFirst read [] = Unit {0}
ReadsFirst read (load ∷ older) = IsReading read load.events

-- it is right of the last load of a trace
abbrev pub ReadsLast : Reading → List Event → Type 0
ReadsLast read trace = ReadsFirst read (loads trace)

-- where it is right of the whole trace, it is so
abbrev pub ReadersReadLast : Type 0
ReadersReadLast = (read : Reading) (trace : List Event) → IsReading read trace → ReadsLast read trace

-- The last load of the trace is done, and the book's statuses are the last ones of the lines that this load took.
pub record EndsLoad (book : BookView) (read : Reading) (trace : List Event) : Type 0 where
  pub load : Load
  pub done : LoadIsDone read trace load
  pub statuses : (number : ℕ) (stream : ConfStream) → slice_get book.catalog number ≡ Some stream → slice_get book.statuses number ≡ Some (last_status stream.id (lines_read read (tooks load.events)))
  pub complete : (number : ℕ) (stream : ConfStream) → slice_get book.catalog number ≡ Some stream → (is_complete_in number book ≡ true) ↔ IsComplete read load stream

-- A book that is not broken, whose input has ended, and of which no record is uncommitted, and its dock tells this.
pub record HasDrained (book : BookView) (trace : List Event) : Type 0 where
  pub book_is : IsBook book
  pub whole : book.tally.broken ≡ None
  pub drained : is_drained book ≡ true
  pub told : dock_events book.seen ≡ Some trace

abbrev pub DrainedEndsLoad : Type 0
DrainedEndsLoad = (book : BookView) (read : Reading) (trace : List Event) → HasDrained book trace → ReadsLast read trace → EndsLoad book read trace

-- each stream of these that is complete is done
abbrev pub CompleteAreDone : BookView → List Event → Type 0
CompleteAreDone book trace = (number : ℕ) (stream : ConfStream) → slice_get book.catalog number ≡ Some stream → is_complete_in number book ≡ true → StreamIsDone (tables_of trace) number stream

-- Where each stream that is complete is done, and each is complete, the load is finished.
abbrev pub EndsFinished : Type 0
EndsFinished =
    (book : BookView) (read : Reading) (trace : List Event)
    → HasDrained book trace → ReadsLast read trace → CompleteAreDone book trace
    → ((number : ℕ) (stream : ConfStream) → slice_get book.catalog number ≡ Some stream → is_complete_in number book ≡ true)
    → IsFinished book.catalog read trace

-- this is the number of the first stream that is not complete
pub record IsFirstOpen (book : BookView) (number : ℕ) : Type 0 where
  pub stream : ConfStream
  pub configured : slice_get book.catalog number ≡ Some stream
  pub incomplete : is_complete_in number book ≡ false
  pub before : (other : ℕ) → other < number → is_complete_in other book ≡ true

-- Where each stream that is complete is done, and one is not complete, the load is finished but for such streams.
abbrev pub EndsIncomplete : Type 0
EndsIncomplete =
    (book : BookView) (read : Reading) (trace : List Event) (number : ℕ)
    → HasDrained book trace → ReadsLast read trace → CompleteAreDone book trace → IsFirstOpen book number
    → IsIncomplete book.catalog read trace number
