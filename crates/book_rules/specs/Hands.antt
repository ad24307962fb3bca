-- What the calls of a dock in memory are to a book: they do what the dock's calls do, and leave all else as it is.
use Rattle.std.specs.Prelude.{◌≡◌, ℕ, List, Option, Result, Ok, Err}
use Rattle.outside.specs.Dock.{DockSeen, TakesOutput, with_hand}
use Rattle.outside.specs.Hand.{hand_closed, hand_pushed}
use Rattle.book_rules.specs.Views.{BookView}

abbrev pub with_seen : DockSeen → BookView → BookView
with_seen seen book = record book { seen = seen }

-- a line stands behind those that wait; want of memory does not break the book
abbrev pub PushAnswer : {T E : Type 0} → Result T E → List ℕ → BookView → BookView → Type 0
PushAnswer (Ok done) line old new = new ≡ with_seen (with_hand (hand_pushed line) old.seen) old
PushAnswer (Err why) line old new = new ≡ old

-- the input ends, with a last piece that has no newline
abbrev pub closed : Option (List ℕ) → BookView → BookView
closed torn book = with_seen (with_hand (hand_closed torn) book.seen) book

-- the next line of the output was taken out
pub record TakeOutputAnswer (given : Option (List ℕ)) (old new : BookView) : Type 0 where
  pub output : TakesOutput given old.seen new.seen
  pub rest : new ≡ with_seen new.seen old
