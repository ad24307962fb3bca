-- For private clauses: what a call does to a round.
use Rattle.std.specs.Prelude.{◌≡◌, ◌≢◌, ◌⊎◌, ℕ, ◌+◌, List, slice_get, Bool, true, false, Option, None, Some, Result, Ok, Err}
use Rattle.outside.specs.declared.status.Status.{Status}
use Rattle.outside.specs.declared.status.Status.TheVariants as status
use Rattle.outside.specs.Feed.{Left, Narrows, NarrowsBehind, nothing_left}
use Rattle.catalog.specs.declared.stream.ConfStream.{ConfStream}
use Rattle.source_lines.specs.Giving.{Round, listed_lines}
use Rattle.source_lines.specs.Sources.{Listed, OpensNot}

-- The next stream of a round, which is the one that starts there, has these lines.
pub record OpensNext {Start : Type 0} (Opens : ℕ → ConfStream → Start → Result Listed Status → Type 0) (moment : ℕ) (old new : Round Start) : Type 0 where
  pub stream : ConfStream
  pub start : Start
  pub listed : Listed
  pub at : slice_get old.streams old.next ≡ Some stream
  pub from : slice_get old.starts old.next ≡ Some start
  pub opens : Opens old.next stream start (Ok listed)
  pub is : new ≡ record old { lines = listed_lines moment stream.id listed; next = old.next + 1 }

-- It is not opened.
pub record OpensNotNext {Start : Type 0} (Opens : ℕ → ConfStream → Start → Result Listed Status → Type 0) (old : Round Start) (why : Status) : Type 0 where
  pub stream : ConfStream
  pub start : Start
  pub at : slice_get old.streams old.next ≡ Some stream
  pub from : slice_get old.starts old.next ≡ Some start
  pub refused : OpensNot (Opens old.next stream start) why

-- What an answer does to a feed that went on, but for that it has ended then.
abbrev pub Advances : Result (Option (List ℕ)) Status → (Left → Type 0) → (Left → Type 0) → Type 0
Advances (Ok (Some line)) Before After = NarrowsBehind line Before After
Advances (Ok None) Before After = Before (nothing_left status.Ok)
Advances (Err why) Before After =
    (why ≢ status.Ok) × (why ≡ status.NoMemory → Narrows Before After) × ((why ≡ status.NoMemory) ⊎ (why ≡ status.RowFault) ⊎ Before (nothing_left why))

-- whether memory was wanting
abbrev pub wants_memory : Status → Bool
wants_memory status.NoMemory = true
wants_memory why = false
