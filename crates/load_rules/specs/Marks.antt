-- The marks of a stream after a trace, and what a reader of its table sees.
use Rattle.std.specs.Prelude.{ℕ, List, [], ◌++◌, map, filter, fold, Bool, true, false, if◌then◌else◌, Option, None, Some}
use Rattle.basics.specs.declared.stream.StreamId.{StreamId}
use Rattle.outside.specs.Tables.{same_id, table_in, tables_of, tables_after, no_tables, marks_in, plan_at, placed_after, row_of}
use Rattle.outside.specs.declared.event.Event.{Event}
use Rattle.outside.specs.declared.event.Event.TheVariants.{Committed}
use Rattle.outside.specs.declared.event.RawRow.{RawRow}
use Rattle.outside.specs.declared.event.StreamPlan.{StreamPlan}
use Rattle.outside.specs.declared.load.Marks.{Marks}
use Rattle.outside.specs.declared.table.PlacedRow.{PlacedRow}
use Rattle.outside.specs.declared.table.StreamTable.{StreamTable}
use Rattle.outside.specs.declared.table.Tables.{Tables}
use Rattle.raw_tables.specs.Visible.{AreSeen, is_seen}
use Rattle.dedup_merge.specs.Winners.{AreWinnersOf}

-- floor, top and greatest generation: the rules on generations, over the loads that were opened and the streams that were shown
abbrev pub marks_of : List Event → StreamId → Marks
marks_of trace id = marks_in (tables_of trace) id

-- A committed row belongs to the id that its load's plan gives for its number.
pub record Past : Type 0 where
  pub tables : Tables
  -- the rows of one stream that were ever committed, each with its place
  pub rows : List PlacedRow

abbrev pub own_rows : StreamId → ℕ → List RawRow → Option StreamPlan → List PlacedRow
own_rows id places rows None = []
own_rows id places rows (Some plan) = if same_id plan.id id then placed_after places rows else []

abbrev pub rows_in : StreamId → Tables → Event → List PlacedRow
rows_in id tables (Committed stream rows) = own_rows id tables.places rows (plan_at tables stream)
rows_in id tables event = []

abbrev pub past_after : StreamId → Past → Event → Past
past_after id past event = record { tables = tables_after past.tables event; rows = past.rows ++ rows_in id past.tables event }

abbrev pub ever_committed : StreamId → List Event → List PlacedRow
ever_committed id trace = (fold (past_after id) (record { tables = no_tables; rows = [] }) trace).rows

-- the stream's table as it were, had no row ever been deleted
abbrev pub whole_table : List Event → StreamId → StreamTable
whole_table trace id = record (table_in (tables_of trace).streams id) { rows = ever_committed id trace }

-- What a reader sees, over all rows that were ever committed: those between floor and top in order of load and sequence, or
-- of a deduplicated stream the winner of each of their keys, in order of the keys.
abbrev pub IsSeenOf : Bool → List Event → StreamId → List RawRow → Type 0
IsSeenOf true trace id rows = AreWinnersOf (filter (is_seen (marks_of trace id)) (map row_of (ever_committed id trace))) rows
IsSeenOf false trace id rows = AreSeen (whole_table trace id) rows
