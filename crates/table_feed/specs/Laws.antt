-- The laws of a table's states: one list of rows, and a place in it for each state.
use Rattle.std.specs.Prelude.{◌≡◌, ◌≢◌, ℕ, ◌+◌, ◌≤◌, List, [], ◌++◌, length, map, filter, drop, not, IsPermutation, IsSorted, Option, None, Some}
use Rattle.outside.specs.Rows.{AreRising}
use Rattle.outside.specs.declared.line.NumberedRow.{NumberedRow}
use Rattle.value_order.specs.declared.value.Value.{Value}
use Rattle.source_lines.specs.Checkpoints.{Row, rows_in, stretches}
use Rattle.source_lines.specs.Sources.{Listed}
use Rattle.source_lines.specs.Streams.{blob_behind}
use Rattle.table_source.specs.Keyed.{IsKeyed, row_order, values_of}
use Rattle.table_source.specs.Blob.{blob_of}
use Rattle.table_source.specs.Table.{AreKeyed, is_behind, rows_of}
use Rattle.table_source.specs.declared.keyed.KeyedRow.{KeyedRow}
use Rattle.table_source.specs.declared.keying.Keying.{Keying}
use Rattle.table_feed.specs.Start.{IsPlaceBlob, StartsBehind, first_blob}

-- how many of all rows, in their order, do not stand behind a start
abbrev pub place_of : Option (List Value) → List KeyedRow → ℕ
place_of start all = length (filter (λ row. not (is_behind start row)) all)

-- a blob stands at this place of a table's rows
abbrev pub IsPlaceOfBlob : Keying → List KeyedRow → List ℕ → ℕ → Type 0
IsPlaceOfBlob keying all blob place = (start : Option (List Value)) × StartsBehind keying (Some blob) start × (place ≡ place_of start all)

-- The rows of a stream are those of the list from its start's place on, and each state stands behind as many of the list's rows as its
-- blob says: so the stream that is started with it has the rest.
pub record IsReplay (IsPlace : List ℕ → ℕ → Type 0) (all : List (List ℕ)) (place : ℕ) (listed : Listed) : Type 0 where
  pub within : place ≤ length all
  pub rest : map (λ row. row.body) listed.rows ≡ drop place all
  pub states : (gone left : List (List Row)) → stretches listed.every listed.rows ≡ gone ++ left → gone ≢ []
      → IsPlace (blob_behind listed.blob (rows_in gone)) (place + length (rows_in gone))

-- of a table's rows, as they are ordered, those that stand behind a start, in their order
pub record IsInOrder (start : Option (List Value)) (keyed listed : List KeyedRow) : Type 0 where
  pub same : IsPermutation (filter (is_behind start) keyed) listed
  pub sorted : IsSorted row_order listed

abbrev pub TablesReplay : Type 0
TablesReplay = (keying : Keying) (rows : List NumberedRow) (keyed all listed : List KeyedRow) (every : ℕ) (blob : Option (List ℕ)) (start : Option (List Value))
    → AreRising rows 0 → AreKeyed keying rows keyed → IsInOrder None keyed all → StartsBehind keying blob start → IsInOrder start keyed listed
    → IsReplay (IsPlaceOfBlob keying all) (map (λ row. row.body) all) (place_of start all) (record { every = every; blob = first_blob blob; rows = rows_of listed })

-- The blob behind a row says the row's values.
abbrev pub BlobsReadBack : Type 0
BlobsReadBack = (keying : Keying) (row : NumberedRow) (keyed : KeyedRow) → IsKeyed keying row keyed → IsPlaceBlob keying (blob_of keyed) (values_of keyed)
