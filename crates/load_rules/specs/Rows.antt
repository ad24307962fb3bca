-- The row of a record: it follows from the catalog, the load's Opened, the record and its sequence, in every field.
use Rattle.std.specs.Prelude.{◌≡◌, ℕ, List, Some, slice_get}
use Rattle.outside.specs.declared.event.RawRow.{RawRow}
use Rattle.outside.specs.declared.event.StreamPlan.{StreamPlan}
use Rattle.catalog.specs.declared.stream.ConfStream.{ConfStream}
use Rattle.column_types.specs.Columns.{AreColumns}
use Rattle.column_types.specs.Rows.{RowParts, IsRow}
use Rattle.column_types.specs.declared.column.Column.{Column}
use Rattle.load_rules.specs.Loads.{Opening}
use Rattle.load_rules.specs.Taken.{Entry}

abbrev pub row_parts : Opening → ConfStream → StreamPlan → List Column → Entry → RowParts
row_parts opening stream plan columns entry = record {
  load = opening.load;
  seq = entry.seq;
  generation = plan.generation;
  emitted_at = entry.content.emitted_at;
  moment = opening.moment;
  body = entry.content.body;
  meta = entry.content.meta;
  columns = columns;
  key = stream.key;
  cursor = stream.cursor;
}

-- the row of a record of the stream with this number
pub record IsRowOf (streams : List ConfStream) (opening : Opening) (number : ℕ) (entry : Entry) (row : RawRow) : Type 0 where
  pub stream : ConfStream
  pub configured : slice_get streams number ≡ Some stream
  pub own : entry.content.id ≡ stream.id
  pub plan : StreamPlan
  pub planned : slice_get opening.plan number ≡ Some plan
  pub same : plan.id ≡ stream.id
  pub columns : List Column
  pub columns_are : AreColumns stream.schema columns
  pub is : IsRow (row_parts opening stream plan columns entry) row
