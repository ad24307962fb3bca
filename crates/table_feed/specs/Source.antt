-- What a source of tables has of a stream.
use Rattle.std.specs.Prelude.{◌≡◌, ◌⊎◌, ℕ, List, length, false, Option, Some, IfSome, Result, Ok, Err}
use Rattle.outside.specs.Rows.{AreRising, RowsByTable}
use Rattle.outside.specs.declared.line.NumberedRow.{NumberedRow}
use Rattle.outside.specs.declared.fault.Fault.{Fault}
use Rattle.outside.specs.declared.fault.Fault.TheVariants as fault
use Rattle.outside.specs.declared.status.Status.{Status}
use Rattle.outside.specs.declared.status.Status.TheVariants as status
use Rattle.outside.specs.declared.faults.CatalogFault.TheVariants as catalog
use Rattle.outside.specs.declared.faults.StateFault.TheVariants as state
use Rattle.value_order.specs.declared.value.Value.{Value}
use Rattle.catalog.specs.declared.stream.ConfStream.{ConfStream}
use Rattle.source_lines.specs.Sources.{Listed}
use Rattle.table_config.specs.Tables.{is_table, table_named}
use Rattle.table_config.specs.declared.config.TableEntry.{TableEntry}
use Rattle.table_source.specs.Keyed.{IsKeyingOf}
use Rattle.table_source.specs.Table.{AreInOrder, IsFirstUnfit, rows_of}
use Rattle.table_source.specs.declared.keyed.KeyedRow.{KeyedRow}
use Rattle.table_source.specs.declared.keying.Keying.{Keying}
use Rattle.table_feed.specs.Start.{IsStartBlob, StartsBehind, first_blob}
use Rattle.table_feed.specs.declared.source.Start.{Start}

-- a stream starts with the blob of its state, where that is one of its table's
abbrev pub StartsWith : ConfStream → Option (List ℕ) → Option (List ℕ) → Type 0
StartsWith stream blob start = (start ≡ blob) × IsStartBlob (length stream.key) blob

-- All rows of a table, in order of their ids, which rise. Where the store tells its rows, it is those.
pub record AreRowsOf (told : Option RowsByTable) (table : List ℕ) (rows : List NumberedRow) : Type 0 where
  pub rising : AreRising rows 0
  pub are : IfSome told (λ by_table. rows ≡ by_table table)

-- The rows of the stream's table that stand behind its start, in the stream's order.
pub record ListsStream (told : Option RowsByTable) (tables : List TableEntry) (stream : ConfStream) (start : Option (List ℕ)) (listed : Listed) : Type 0 where
  pub entry : TableEntry
  pub of : table_named stream.id.name tables ≡ Some entry
  pub every : listed.every ≡ entry.every
  pub blob : listed.blob ≡ first_blob start
  pub keying : Keying
  pub ordered_by : IsKeyingOf stream keying
  pub behind : Option (List Value)
  pub starts : StartsBehind keying start behind
  pub rows : List NumberedRow
  pub of_table : AreRowsOf told stream.id.name rows
  pub keyed : List KeyedRow
  pub in_order : AreInOrder keying behind rows keyed
  pub are : listed.rows ≡ rows_of keyed

-- the first row of the stream's table that is none has this id
pub record HasUnfitRow (told : Option RowsByTable) (table : List ℕ) (id : ℕ) : Type 0 where
  pub rows : List NumberedRow
  pub of_table : AreRowsOf told table rows
  pub first : IsFirstUnfit rows id

-- No table has the stream's name; or the stream cannot start so; or a row of its table is none, and this is the first.
pub data RefusesStream (told : Option RowsByTable) (tables : List TableEntry) (number : ℕ) (stream : ConfStream) (start : Option (List ℕ)) (why : Status) : Type 0 where
  NoTable : is_table tables stream.id.name ≡ false → why ≡ status.BadCatalog (catalog.Missing number) → RefusesStream told tables number stream start why
  NoStart : ¬ IsStartBlob (length stream.key) start → why ≡ status.BadState state.Blob → RefusesStream told tables number stream start why
  NoRow : (id : ℕ) → HasUnfitRow told stream.id.name id → why ≡ status.BadRow number id → RefusesStream told tables number stream start why

-- what a stream may have, by its number in the catalog and where it starts
abbrev pub OpensTable : Option RowsByTable → List TableEntry → ℕ → ConfStream → Option (List ℕ) → Result Listed Status → Type 0
OpensTable told tables number stream start (Ok listed) = ListsStream told tables stream start listed
OpensTable told tables number stream start (Err why) = RefusesStream told tables number stream start why

-- what a fault of a store of rows makes of a feed
abbrev pub row_status : Fault → Status
row_status fault.Failed = status.RowFault
row_status fault.NoMemory = status.NoMemory

-- For private clauses: how a stream's rows are ordered, behind which values it starts, and the blob before its first row.
pub record IsStartOf (stream : ConfStream) (saved : Option (List ℕ)) (start : Start) : Type 0 where
  pub keying : IsKeyingOf stream start.keying
  pub behind : StartsBehind start.keying saved start.behind
  pub blob : start.blob ≡ first_blob saved

-- For private clauses: memory was wanting, or a row is none, and this is the first.
abbrev pub UnfitIn : ℕ → List NumberedRow → Status → Type 0
UnfitIn number rows why = (why ≡ status.NoMemory) ⊎ ((id : ℕ) × IsFirstUnfit rows id × (why ≡ status.BadRow number id))

-- For private clauses: the rows of a stream that starts so.
pub record ListsRows (every : ℕ) (start : Start) (rows : List NumberedRow) (listed : Listed) : Type 0 where
  pub every_is : listed.every ≡ every
  pub blob : listed.blob ≡ start.blob
  pub keyed : List KeyedRow
  pub in_order : AreInOrder start.keying start.behind rows keyed
  pub are : listed.rows ≡ rows_of keyed
