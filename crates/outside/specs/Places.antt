-- The places of committed rows, which rise.
use Rattle.std.specs.Prelude.{ℕ, ◌<◌, ◌≤◌, List, [], ◌∷◌}
use Rattle.std.specs.List.{AllByRecursion}
use Rattle.outside.specs.declared.table.PlacedRow.{PlacedRow}
use Rattle.outside.specs.declared.table.StreamTable.{StreamTable}
use Rattle.outside.specs.declared.table.Tables.{Tables}

abbrev pub IsUpTo : ℕ → PlacedRow → Type 0
IsUpTo places placed = placed.place ≤ places

abbrev pub IsBehind : ℕ → PlacedRow → Type 0
IsBehind place placed = place < placed.place

-- each row stands behind those before it
abbrev pub PlacesRise : List PlacedRow → Type 0
PlacesRise [] = Unit {0}
PlacesRise (placed ∷ rows) = AllByRecursion (IsBehind placed.place) rows × PlacesRise rows

-- the places of a table rise, and were given
pub record RowsRise (places : ℕ) (table : StreamTable) : Type 0 where
  pub rise : PlacesRise table.rows
  pub given : AllByRecursion (IsUpTo places) table.rows

-- so in every table
abbrev pub TablesRise : Tables → Type 0
TablesRise tables = AllByRecursion (RowsRise tables.places) tables.streams
