-- The tables of rows that a source copies: what their store tells, and what a page of a table is.
use Rattle.std.specs.Prelude.{◌≡◌, ◌<◌, ◌≤◌, ◌^◌, ℕ, List, [], ◌∷◌, length, filter, take, nat_lt, Bool, Option, IfSome}
use Rattle.outside.specs.declared.line.NumberedRow.{NumberedRow}

-- the rows of a table by its name; a name without a table has none
abbrev pub RowsByTable : Type 0
RowsByTable = List ℕ → List NumberedRow

-- What contracts see of a store of rows: its rows where it tells them, how often a call failed, and how often it was
-- opened.
pub record RowsSeen : Type 0 where
  pub rows : Option RowsByTable
  pub faults : ℕ
  pub opens : ℕ

-- this id and those of the rows behind it rise, from above the one before, and are below 2^63
pub record Rises (next : ℕ → Type 0) (before id : ℕ) : Type 0 where
  pub above : before < id
  pub small : id < 2 ^ 63
  pub others : next id

-- the ids of rows rise from above this one, and are below 2^63
abbrev pub AreRising : List NumberedRow → ℕ → Type 0
AreRising [] before = Unit {0}
AreRising (row ∷ rows) before = Rises (AreRising rows) before row.id

-- the rows of each table stand in order of their ids, which begin at 1
abbrev pub AreInOrder : RowsSeen → Type 0
AreInOrder seen = IfSome seen.rows (λ rows. (table : List ℕ) → AreRising (rows table) 0)

abbrev pub is_after : ℕ → NumberedRow → Bool
is_after after row = nat_lt after row.id

-- the rows with an id above this one
abbrev pub rows_after : ℕ → List NumberedRow → List NumberedRow
rows_after after rows = filter (is_after after) rows

-- Rows that a store gives as those behind an id: no more than were asked for, with rising ids above it.
pub record IsPage (after most : ℕ) (page : List NumberedRow) : Type 0 where
  pub few : length page ≤ most
  pub rising : AreRising page after

-- they are the first behind that id, where the store tells its rows
abbrev pub IsFirstAfter : RowsSeen → List ℕ → ℕ → ℕ → List NumberedRow → Type 0
IsFirstAfter seen table after most page = IfSome seen.rows (λ rows. page ≡ take most (rows_after after (rows table)))
