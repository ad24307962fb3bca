-- What a reader sees of a stream.
use Rattle.std.specs.Prelude.{◌≡◌, ℕ, List, map, filter, Bool, true, false}
use Rattle.std.specs.Ordering.{nat_cmp, ordering_then}
use Rattle.std.specs.declared.cmp.Ordering.{Ordering}
use Rattle.std.specs.List.Sorted.{IsPermutation, IsSortedByKey, IsStableByKey}
use Rattle.outside.specs.declared.event.RawRow.{RawRow}
use Rattle.outside.specs.declared.load.Marks.{Marks}
use Rattle.outside.specs.declared.table.StreamTable.{StreamTable}
use Rattle.outside.specs.Tables.{is_in_shown, row_of}

abbrev pub is_seen : Marks → RawRow → Bool
is_seen marks row = is_in_shown marks.floor marks.top row.generation

-- the rows between floor and top, in order of commitment
abbrev pub seen_rows : StreamTable → List RawRow
seen_rows table = filter (is_seen table.marks) (map row_of table.rows)

abbrev pub stamp_of : RawRow → ℕ × ℕ
stamp_of row = (row.load, row.seq)

-- by load, then by sequence
abbrev pub stamp_cmp : ℕ × ℕ → ℕ × ℕ → Ordering
stamp_cmp a b = ordering_then (nat_cmp a.0 b.0) (nat_cmp a.1 b.1)

-- those rows, each as often as it stands there, in order of load and sequence; rows that have the same stay in order of
-- commitment
pub record AreSeen (table : StreamTable) (rows : List RawRow) : Type 0 where
  pub are : IsPermutation (seen_rows table) rows
  pub ordered : IsSortedByKey stamp_of stamp_cmp rows
  pub stable : IsStableByKey stamp_of stamp_cmp (seen_rows table) rows

-- of a deduplicated stream the winners of the shown side, which stand in order of their keys
abbrev pub IsVisible : Bool → StreamTable → List RawRow → Type 0
IsVisible true table rows = rows ≡ table.shown.winners
IsVisible false table rows = AreSeen table rows
