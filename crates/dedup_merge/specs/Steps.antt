-- For private clauses: one row after another is compared with the best of its key so far.
use Rattle.std.specs.Prelude.{◌≡◌, ◌⊎◌, ℕ, List, [], ◌∷◌, ◌++◌, option_to_list, option_map, is_some, Bool, true, false, Option, None, Some, IfSome, if◌then◌else◌}
use Rattle.std.specs.Ordering.{is_gt}
use Rattle.outside.specs.declared.event.RawRow.{RawRow}
use Rattle.outside.specs.declared.table.Tables.{Tables}
use Rattle.outside.specs.Dock.{DockSeen, DockGrew, dock_events}
use Rattle.outside.specs.Tables.{winners_at}
use Rattle.outside.specs.Winners.{winner_in, put_winner}
use Rattle.value_order.specs.declared.value.Value.{Value}
use Rattle.dedup_merge.specs.Cursors.{IsCursor}
use Rattle.dedup_merge.specs.Winners.{Candidate, rank, WinsAmong, rows_of_key, keys_of, is_key_in}

abbrev pub candidate_of : RawRow → Value → Candidate
candidate_of row value = record { row = row; value = value }

-- whether a row exceeds another
pub record Exceeds (row held : RawRow) (answer : Bool) : Type 0 where
  pub value : Value
  pub held_value : Value
  pub cursor : IsCursor row.cursor value
  pub held_cursor : IsCursor held.cursor held_value
  pub is : answer ≡ is_gt (rank (candidate_of row value) (candidate_of held held_value))

-- the better of a row and the one before it; where none was before, the row's cursor has a value
pub record HasValue (row : RawRow) : Type 0 where
  pub value : Value
  pub cursor : IsCursor row.cursor value

pub record IsBetter (held row better : RawRow) : Type 0 where
  pub answer : Bool
  pub exceeds : Exceeds row held answer
  pub is : better ≡ (if answer then row else held)

pub record IsAlone (row better : RawRow) : Type 0 where
  pub has : HasValue row
  pub is : better ≡ row

abbrev pub IsBest : Option RawRow → RawRow → RawRow → Type 0
IsBest None row better = IsAlone row better
IsBest (Some held) row better = IsBetter held row better

-- the best of a key so far, or what the side had
abbrev pub or_else : Option RawRow → Option RawRow → Option RawRow
or_else None other = other
or_else (Some row) other = Some row

-- the better of the row and the one before it stands for the row's key now, and all else stayed
pub record TakesRow (prior : Option RawRow) (row : RawRow) (old new : List RawRow) : Type 0 where
  pub better : RawRow
  pub best : IsBest prior row better
  pub own : better.key ≡ row.key
  pub now : (new ≡ put_winner old better) ⊎ ((new ≡ old) × (winner_in old row.key ≡ Some better))

pub record TakesOver (row : RawRow) (old new : List RawRow) : Type 0 where
  pub held : RawRow
  pub is : winner_in old row.key ≡ Some held
  pub takes : TakesRow (Some held) row old new

-- the row was taken in where its key had a best, and nothing changed where it had none
abbrev pub TakesKnown : Bool → RawRow → List RawRow → List RawRow → Type 0
TakesKnown true row old new = TakesOver row old new
TakesKnown false row old new = (new ≡ old) × (winner_in old row.key ≡ None)

-- a row that takes part was taken in, and one that takes none changed nothing
abbrev pub TakesKeyed : Bool → RawRow → List RawRow → List RawRow → Type 0
TakesKeyed true row old new = TakesRow (winner_in old row.key) row old new
TakesKeyed false row old new = new ≡ old

-- the same, where the side may have a winner of the key
pub record TakesFrom (side : Option (List RawRow)) (row : RawRow) (old new : List RawRow) : Type 0 where
  pub prior : Option RawRow
  pub prior_is : IfSome side (λ before. prior ≡ or_else (winner_in old row.key) (winner_in before row.key))
  pub takes : TakesRow prior row old new

-- What was taken in of the rows so far

abbrev pub IsSoFar : List RawRow → List RawRow → Option RawRow → Type 0
IsSoFar held [] found = found ≡ None
IsSoFar held (row ∷ rows) found = WinsAmong (held ++ row ∷ rows) found

abbrev pub BestSoFar : List RawRow → List RawRow → List RawRow → Type 0
BestSoFar before rows best = (key : List ℕ) → IsSoFar (option_to_list (winner_in before key)) (rows_of_key key rows) (winner_in best key)

-- exactly the keys of the rows have a best
abbrev pub KnowsKeys : List RawRow → List RawRow → Type 0
KnowsKeys rows best = (key : List ℕ) → is_key_in (keys_of rows) key ≡ is_some (winner_in best key)

abbrev pub side_of_store : ℕ → Option Tables → Option (List RawRow)
side_of_store stream store = option_map (λ tables. winners_at tables stream) store

-- Reads of a dock

-- a call that reads adds nothing, and may only count faults of the store and rows
pub record ReadsOnly (old new : DockSeen) : Type 0 where
  pub grew : DockGrew old new
  pub events : dock_events new ≡ dock_events old
  pub face : new.face ≡ old.face
  pub counts : new.counts ≡ record (old.counts) { store_faults = new.counts.store_faults }

-- a winner is read for a key that has no best
abbrev pub reads_for : Option RawRow → ℕ
reads_for None = 1
reads_for (Some row) = 0
