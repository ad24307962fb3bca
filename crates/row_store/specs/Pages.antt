-- Whole tables.
use Rattle.std.specs.Prelude.{◌≡◌, ◌<◌, ◌^◌, ℕ, List, [], ◌∷◌, ◌++◌, Option, None, Some, IfSome}
use Rattle.outside.specs.Rows.{RowsSeen, RowsByTable, AreRising, rows_after}
use Rattle.outside.specs.declared.line.NumberedRow.{NumberedRow}

-- these are the rows of the table, where the store tells its rows
abbrev pub AreOfTable : RowsSeen → List ℕ → List NumberedRow → Type 0
AreOfTable seen table found = IfSome seen.rows (λ rows. found ≡ rows table)

-- for private clauses: the id of the last row, or this one
abbrev pub last_id_of : List NumberedRow → ℕ → ℕ
last_id_of [] before = before
last_id_of (row ∷ rows) before = last_id_of rows row.id

-- for private clauses: the rows so far are those up to this id, where the store tells rows in order
pub record SoFar (told : Option RowsByTable) (table : List ℕ) (after : ℕ) (rows : List NumberedRow) : Type 0 where
  pub small : after < 2 ^ 63
  pub rising : (more : List NumberedRow) → AreRising more after → AreRising (rows ++ more) 0
  pub told_are : IfSome told (λ by_table. AreRising (by_table table) 0 → by_table table ≡ rows ++ rows_after after (by_table table))

-- a page was put behind the rows so far, and this is its last id; or none was left
abbrev pub AddsPage : Option RowsByTable → List ℕ → ℕ → List NumberedRow → List NumberedRow → Option ℕ → Type 0
AddsPage told table after before now None = (now ≡ before) × (AreRising before 0 × IfSome told (λ by_table. before ≡ by_table table))
AddsPage told table after before now (Some last) = (after < last) × SoFar told table last now
