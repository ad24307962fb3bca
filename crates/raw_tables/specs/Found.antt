-- Where a stream's table stands.
use Rattle.std.specs.Prelude.{◌≡◌, ◌<◌, ℕ, List, [], ◌∷◌, ◌++◌, length, slice_get, slice_set, Option, None, Some}
use Rattle.basics.specs.declared.stream.StreamId.{StreamId}
use Rattle.outside.specs.declared.table.StreamTable.{StreamTable}
use Rattle.outside.specs.Tables.{table_in, changed, empty_table}

pub record StandsAt (tables : List StreamTable) (id : StreamId) (index : ℕ) : Type 0 where
  pub within : index < length tables
  pub is : slice_get tables index ≡ Some (table_in tables id)
  pub changes : (change : StreamTable → StreamTable) → changed change id tables ≡ slice_set tables index (change (table_in tables id))

pub record NeverCame (tables : List StreamTable) (id : StreamId) : Type 0 where
  pub is : table_in tables id ≡ empty_table id
  pub changes : (change : StreamTable → StreamTable) → changed change id tables ≡ tables ++ change (empty_table id) ∷ []

abbrev pub IsFound : List StreamTable → StreamId → Option ℕ → Type 0
IsFound tables id None = NeverCame tables id
IsFound tables id (Some index) = StandsAt tables id index
