-- What one uninterrupted sync leaves of a stream: its source's bodies, committed once, in order, in one load into an empty store, with
-- the marks that this load has when it is finished.
use Rattle.std.specs.Prelude.{◌≡◌, ℕ, ◌+◌, List, [], ◌∷◌, filter, nat_lt, Bool, true, false, Option, Some}
use Rattle.basics.specs.declared.stream.StreamId.{StreamId}
use Rattle.outside.specs.Tables.{same_id, empty_table, opened_table, shown_table, placed_after}
use Rattle.outside.specs.declared.event.RawRow.{RawRow}
use Rattle.outside.specs.declared.event.StreamPlan.{StreamPlan}
use Rattle.outside.specs.declared.table.StreamTable.{StreamTable}
use Rattle.raw_tables.specs.Visible.{AreSeen, seen_rows}
use Rattle.catalog.specs.declared.stream.ConfStream.{ConfStream}
use Rattle.catalog.specs.declared.stream.Gen.{Gen}
use Rattle.column_types.specs.Columns.{AreColumns}
use Rattle.column_types.specs.Rows.{IsRow}
use Rattle.column_types.specs.declared.column.Column.{Column}
use Rattle.dedup_merge.specs.Winners.{AreWinnersOf}
use Rattle.load_rules.specs.Finished.{is_dedup}
use Rattle.state_kinds.specs.Saved.{nothing_saved}
use Rattle.sync_rules.specs.Generations.{gen_of}
use Rattle.replay_rules.specs.Sources.{Body, Source, lane_for}

-- the bodies of a stream, in the source's order
abbrev pub bodies_of : Source → StreamId → List Body
bodies_of source id = filter (λ body. same_id body.id id) (source.list (lane_for source id))

-- the row of a body in the first load, with this sequence, whenever its source read it and whatever came with it
pub record IsWholeRow (stream : ConfStream) (generation seq : ℕ) (body : Body) (row : RawRow) : Type 0 where
  pub emitted_at : ℕ
  pub moment : ℕ
  pub meta : Option (List ℕ)
  pub columns : List Column
  pub columns_are : AreColumns stream.schema columns
  pub is : IsRow (record { load = 1; seq = seq; generation = generation; emitted_at = emitted_at; moment = moment; body = body.body; meta = meta; columns = columns; key = stream.key; cursor = stream.cursor }) row

-- one for each body, in order, with sequences from one on
abbrev pub AreWholeRows : ConfStream → ℕ → ℕ → List Body → List RawRow → Type 0
AreWholeRows stream generation seq [] [] = Unit {0}
AreWholeRows stream generation seq (body ∷ more) (row ∷ rows) = IsWholeRow stream generation seq body row × AreWholeRows stream generation (seq + 1) more rows
AreWholeRows stream generation seq [] (row ∷ rows) = ⊥
AreWholeRows stream generation seq (body ∷ more) [] = ⊥

-- what a load into an empty store does with the stream
abbrev pub whole_plan : ConfStream → Gen → StreamPlan
whole_plan stream gen = record { id = stream.id; dedup = is_dedup stream.dest; generation = gen.generation; minimum = gen.minimum; hidden = nat_lt 0 gen.minimum }

-- the stream's table behind that load: opened, and shown where it was hidden, with these rows
abbrev pub whole_table : StreamPlan → List RawRow → StreamTable
whole_table plan rows = record (shown_table plan (opened_table plan (empty_table plan.id))) { rows = placed_after 0 rows }

-- what is to be seen of a table: of a deduplicated stream the winner of each key, in order of the keys
abbrev pub IsFinal : Bool → StreamTable → List RawRow → Type 0
IsFinal true table rows = AreWinnersOf (seen_rows table) rows
IsFinal false table rows = AreSeen table rows

pub record IsWhole (source : Source) (stream : ConfStream) (rows : List RawRow) : Type 0 where
  pub gen : Gen
  pub gen_is : gen_of nothing_saved stream ≡ Some gen
  pub committed : List RawRow
  pub are : AreWholeRows stream gen.generation 0 (bodies_of source stream.id) committed
  pub final : IsFinal (is_dedup stream.dest) (whole_table (whole_plan stream gen) committed) rows

-- what a reader compares: of a deduplicated table the key and the columns of each row, of any other the columns
pub record Cells : Type 0 where
  pub key : List ℕ
  pub columns : List ℕ

abbrev pub cells_of : RawRow → Cells
cells_of row = record { key = row.key; columns = row.columns }

abbrev pub columns_of : RawRow → List ℕ
columns_of row = row.columns
