-- What a source of streams tells, and what it may answer of a stream.
use Rattle.std.specs.Prelude.{◌≡◌, ◌≢◌, ◌⊎◌, ℕ, List, Bool, Result, Err}
use Rattle.outside.specs.declared.status.Status.{Status}
use Rattle.outside.specs.declared.status.Status.TheVariants as status
use Rattle.catalog.specs.declared.stream.ConfStream.{ConfStream}
use Rattle.source_lines.specs.Checkpoints.{Row}

-- the rows of a stream that are to come, the blob that it starts with, and after how many records a state is due
pub record Listed : Type 0 where
  pub every : ℕ
  pub blob : List ℕ
  pub rows : List Row

-- What contracts see of a source: the names that it knows, and how often its rows could not be read.
pub record SourceSeen : Type 0 where
  pub is_known : List ℕ → Bool
  pub faults : ℕ

-- whatever a stream may have now it could have before
abbrev pub OpensAlike : {Start : Type 0} → (ℕ → ConfStream → Start → Result Listed Status → Type 0) → (ℕ → ConfStream → Start → Result Listed Status → Type 0) → Type 0
OpensAlike {Start} Before After = (number : ℕ) (stream : ConfStream) (start : Start) (found : Result Listed Status) → After number stream start found → Before number stream start found

-- memory was wanting, or the rows could not be read, or the stream may be refused so
abbrev pub OpensNot : (Result Listed Status → Type 0) → Status → Type 0
OpensNot Opens why = (why ≢ status.Ok) × ((why ≡ status.NoMemory) ⊎ (why ≡ status.RowFault) ⊎ Opens (Err why))
