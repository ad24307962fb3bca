-- A row of a table as it is ordered: its body, and what stands in it at the places of its stream's cursor and key.
use Rattle.std.specs.Prelude.{◌≡◌, ℕ, List, ◌∷◌, map, codes, Bool, Option, None, Some, unwrap_or}
use Rattle.std.specs.List.{AllZip}
use Rattle.std.specs.declared.cmp.Ordering.{Ordering}
use Rattle.std.specs.Ordering.{nat_cmp, on, then_cmp}
use Rattle.std.specs.Cmp.Lexicographic.{slice_cmp}
use Rattle.outside.specs.declared.line.NumberedRow.{NumberedRow}
use Rattle.json_span.specs.Members.{IsValue}
use Rattle.json_fields.specs.Parts.{NestsWithin}
use Rattle.json_squeeze.specs.Squeeze.{squeezed}
use Rattle.value_order.specs.Order.{order_of}
use Rattle.value_order.specs.declared.value.Value.{Value}
use Rattle.value_order.specs.declared.value.Value.TheVariants.{Null}
use Rattle.catalog.specs.Entry.{PathNames}
use Rattle.catalog.specs.declared.stream.ConfStream.{ConfStream}
use Rattle.column_types.specs.Columns.{AreColumns, is_instant_path}
use Rattle.column_types.specs.Values.{HasValue, IsData}
use Rattle.column_types.specs.declared.column.Column.{Column}
use Rattle.table_source.specs.declared.keyed.KeyedRow.{KeyedRow}
use Rattle.table_source.specs.declared.keyed.RowPart.{RowPart}
use Rattle.table_source.specs.declared.keying.Keying.{Keying}
use Rattle.table_source.specs.declared.keying.TheConstants.{DEEPEST_ROW}

-- the columns, the key and the cursor are those of the configured stream
pub record IsKeyingOf (stream : ConfStream) (keying : Keying) : Type 0 where
  pub columns : AreColumns stream.schema keying.columns
  pub key : keying.key ≡ stream.key
  pub cursor : keying.cursor ≡ stream.cursor

-- A row is an object, and nests no deeper than a row may.
abbrev pub IsRowBody : List ℕ → Type 0
IsRowBody = NestsWithin DEEPEST_ROW

-- the value at a path of a row's body, and its text as it stands there, `null` where nothing does
pub record IsPartAt (body : List ℕ) (path : PathNames) (instants : Bool) (part : RowPart) : Type 0 where
  pub value : HasValue body path instants part.value
  pub text : part.text ≡ unwrap_or value.found (codes "null")

abbrev pub IsKeyPart : List Column → List ℕ → PathNames → RowPart → Type 0
IsKeyPart columns body path = IsPartAt body path (is_instant_path columns path)

-- without a path the cursor is null
abbrev pub IsCursorPart : List Column → List ℕ → Option PathNames → RowPart → Type 0
IsCursorPart columns body None part = part ≡ record { value = Null; text = codes "null" }
IsCursorPart columns body (Some path) part = IsKeyPart columns body path part

-- A row with its body squeezed, and the parts of that body.
pub record IsKeyed (keying : Keying) (row : NumberedRow) (keyed : KeyedRow) : Type 0 where
  pub fits : IsRowBody row.body
  pub id : keyed.id ≡ row.id
  pub body : keyed.body ≡ squeezed row.body
  pub cursor : IsCursorPart keying.columns keyed.body keying.cursor keyed.cursor
  pub key : AllZip (IsKeyPart keying.columns keyed.body) keying.key keyed.key

-- what rows are ordered by: the cursor, and then the key's values in order
abbrev pub values_of : KeyedRow → List Value
values_of row = row.cursor.value ∷ map (λ part. part.value) row.key

-- the first values that differ decide
abbrev pub values_order : List Value → List Value → Ordering
values_order = slice_cmp order_of

-- rows that have equal values stand in order of their ids
abbrev pub row_order : KeyedRow → KeyedRow → Ordering
row_order = then_cmp (on values_of values_order) (on (λ row. row.id) nat_cmp)

-- For private clauses: a row's body without white space.
pub record IsBodyOf (text made : List ℕ) : Type 0 where
  pub fits : IsRowBody text
  pub is : made ≡ squeezed text
  pub object : IsData made
  pub value : IsValue made
