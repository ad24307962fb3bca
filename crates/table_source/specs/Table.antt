-- The rows of a table in the order in which a stream writes them.
use Rattle.std.specs.Prelude.{◌≡◌, ℕ, List, [], ◌∷◌, ◌++◌, All, IsPermutation, IsSorted, filter, Bool, true, Option, None, Some, Result, Ok, Err}
use Rattle.std.specs.List.{AllZip}
use Rattle.std.specs.Ordering.{is_gt, is_ne}
use Rattle.outside.specs.declared.line.NumberedRow.{NumberedRow}
use Rattle.value_order.specs.declared.value.Value.{Value}
use Rattle.source_lines.specs.Checkpoints.{Row}
use Rattle.table_source.specs.declared.keyed.KeyedRow.{KeyedRow}
use Rattle.table_source.specs.declared.keying.Keying.{Keying}
use Rattle.table_source.specs.Keyed.{IsKeyed, IsRowBody, row_order, values_of, values_order}
use Rattle.table_source.specs.Blob.{blob_of}

-- whether a row stands behind these values: its own are greater; every row does where there are none
abbrev pub is_behind : Option (List Value) → KeyedRow → Bool
is_behind None row = true
is_behind (Some place) row = is_gt (values_order (values_of row) place)

-- each row of the table as it is ordered
abbrev pub AreKeyed : Keying → List NumberedRow → List KeyedRow → Type 0
AreKeyed keying rows keyed = AllZip (IsKeyed keying) rows keyed

-- The rows of a table that stand behind a start, in their order.
pub record AreInOrder (keying : Keying) (start : Option (List Value)) (rows : List NumberedRow) (listed : List KeyedRow) : Type 0 where
  pub keyed : List KeyedRow
  pub are : AreKeyed keying rows keyed
  pub same : IsPermutation (filter (is_behind start) keyed) listed
  pub sorted : IsSorted row_order listed

-- For private clauses: the rows of a table that stand behind a start, in the table's order.
pub record KeepsBehind (keying : Keying) (start : Option (List Value)) (rows : List NumberedRow) (kept : List KeyedRow) : Type 0 where
  pub keyed : List KeyedRow
  pub are : AreKeyed keying rows keyed
  pub is : kept ≡ filter (is_behind start) keyed

-- the first row of the table that is none has this id
pub record IsFirstUnfit (rows : List NumberedRow) (id : ℕ) : Type 0 where
  pub before : List NumberedRow
  pub row : NumberedRow
  pub behind : List NumberedRow
  pub splits : rows ≡ before ++ row ∷ behind
  pub fit : All (λ other. IsRowBody other.body) before
  pub unfit : ¬ IsRowBody row.body
  pub is : id ≡ row.id

-- a table's rows as a stream writes them, or the id of the first that is none
abbrev pub ListsTable : Keying → Option (List Value) → List NumberedRow → Result (List KeyedRow) ℕ → Type 0
ListsTable keying start rows (Ok listed) = AreInOrder keying start rows listed
ListsTable keying start rows (Err id) = IsFirstUnfit rows id

-- whether a row's values are other than those of the next, so that a state may stand between them; behind the last one may
abbrev pub closes_before : KeyedRow → List KeyedRow → Bool
closes_before row [] = true
closes_before row (next ∷ rows) = is_ne (values_order (values_of row) (values_of next))

-- these rows as those of a source's list
abbrev pub rows_of : List KeyedRow → List Row
rows_of [] = []
rows_of (row ∷ rows) = record { body = row.body; blob = blob_of row; closes = closes_before row rows } ∷ rows_of rows
