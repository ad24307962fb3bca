-- The row of a record, over plain parts.
use Rattle.std.specs.Prelude.{◌≡◌, ◌⊎◌, ℕ, List, [], ◌∷◌, ◌++◌, map, codes, Option, None, Some}
use Rattle.json.specs.Print.{quoted}
use Rattle.json_write.specs.Objects.{Part, named, object_text, list_text}
use Rattle.json_span.specs.Members.{text_at}
use Rattle.json_span.specs.Elements.{AreElements}
use Rattle.json_span.specs.declared.Span.{Span}
use Rattle.json_fields.specs.Fields.{HasField, line_depth}
use Rattle.outside.specs.declared.event.RawRow.{RawRow}
use Rattle.value_order.specs.Texts.{text_of}
use Rattle.value_order.specs.declared.value.Value.{Value}
use Rattle.value_order.specs.declared.value.Value.TheVariants.{Null}
use Rattle.column_types.specs.Columns.{is_instant_path}
use Rattle.column_types.specs.RawId.{raw_id_text}
use Rattle.column_types.specs.Typed.{IsTyped}
use Rattle.column_types.specs.Values.{HasValue}
use Rattle.column_types.specs.declared.column.Column.{Column}
use Rattle.column_types.specs.declared.typed.Typed.{Typed}
use Rattle.column_types.specs.declared.typed.Typed.TheVariants.{Fits, Nulled}

-- what a row is made of
pub record RowParts : Type 0 where
  pub load : ℕ
  pub seq : ℕ
  pub generation : ℕ
  -- milliseconds since 1970: when the source read the record, and when the load began
  pub emitted_at : ℕ
  pub moment : ℕ
  -- the record's `data` and `meta`, as they stood in its line
  pub body : List ℕ
  pub meta : Option (List ℕ)
  -- the columns of its stream, and the places of its primary key and its cursor
  pub columns : List Column
  pub key : List (List (List ℕ))
  pub cursor : Option (List (List ℕ))

-- what a row has in a column: the record's value by the column's kind, and `null` where it has none
abbrev pub IsCell : List ℕ → Column → Typed → Type 0
IsCell body column cell =
    ((held : List ℕ) × HasField body column.name held × IsTyped column.kind held cell)
    ⊎ (((held : List ℕ) → ¬ HasField body column.name held) × (cell ≡ Fits (codes "null")))

-- one for each column, in order
abbrev pub AreCells : List ℕ → List Column → List Typed → Type 0
AreCells body [] [] = Unit {0}
AreCells body (column ∷ columns) (cell ∷ cells) = IsCell body column cell × AreCells body columns cells
AreCells body [] (cell ∷ cells) = ⊥
AreCells body (column ∷ columns) [] = ⊥

abbrev pub cell_text : Typed → List ℕ
cell_text (Fits written) = written
cell_text Nulled = codes "null"

-- each column's name and text, as members
abbrev pub cell_parts : List Column → List Typed → List Part
cell_parts (column ∷ columns) (cell ∷ cells) = named column.name (cell_text cell) ∷ cell_parts columns cells
cell_parts _ _ = []

abbrev pub columns_text : List Column → List Typed → List ℕ
columns_text columns cells = object_text (cell_parts columns cells)

-- the change that a nulled value is
abbrev pub change_text : List ℕ → List ℕ
change_text name =
    object_text (named (codes "field") (quoted name) ∷ named (codes "change") (codes "\"NULLED\"") ∷ named (codes "reason") (codes "\"DESTINATION_TYPECAST_ERROR\"") ∷ [])

-- those of a row, in the order of its columns
abbrev pub own_changes : List Column → List Typed → List (List ℕ)
own_changes (column ∷ columns) (Fits written ∷ cells) = own_changes columns cells
own_changes (column ∷ columns) (Nulled ∷ cells) = change_text column.name ∷ own_changes columns cells
own_changes _ _ = []

-- the meta has an array `changes` with its elements at these places
pub record HasChanges (meta held : List ℕ) (spans : List Span) : Type 0 where
  pub field : HasField meta (codes "changes") held
  pub array : AreElements line_depth held spans

-- the changes that came with a record, as they stand in its meta
abbrev pub CameWith : Option (List ℕ) → List (List ℕ) → Type 0
CameWith None changes = changes ≡ []
CameWith (Some meta) changes =
    ((held : List ℕ) × (spans : List Span) × HasChanges meta held spans × (changes ≡ map (text_at held) spans))
    ⊎ (((held : List ℕ) (spans : List Span) → ¬ HasChanges meta held spans) × (changes ≡ []))

abbrev pub meta_text : List (List ℕ) → List ℕ
meta_text changes = object_text (named (codes "changes") (list_text changes) ∷ [])

-- the values at the paths of a key, each with a semicolon behind it
abbrev pub IsKeyText : List ℕ → List Column → List (List (List ℕ)) → List ℕ → Type 0
IsKeyText body columns [] key = key ≡ []
IsKeyText body columns (path ∷ paths) key =
    (value : Value) × HasValue body path (is_instant_path columns path) value
    × ((rest : List ℕ) × IsKeyText body columns paths rest × (key ≡ text_of value ++ 59 ∷ rest))

-- the value at the cursor, null where there is none
abbrev pub IsCursorText : List ℕ → List Column → Option (List (List ℕ)) → List ℕ → Type 0
IsCursorText body columns None cursor = cursor ≡ text_of Null
IsCursorText body columns (Some path) cursor = (value : Value) × HasValue body path (is_instant_path columns path) value × (cursor ≡ text_of value)

-- the numbers of a row
pub record HasNumbers (parts : RowParts) (row : RawRow) : Type 0 where
  pub load : row.load ≡ parts.load
  pub seq : row.seq ≡ parts.seq
  pub generation : row.generation ≡ parts.generation
  pub extracted_at : row.extracted_at ≡ parts.emitted_at
  pub loaded_at : row.loaded_at ≡ parts.moment
  pub raw_id : row.raw_id ≡ raw_id_text parts.load parts.seq

-- The row of a record. The changes that came with the record stand before the row's own.
pub record IsRow (parts : RowParts) (row : RawRow) : Type 0 where
  pub numbers : HasNumbers parts row
  pub body : row.body ≡ parts.body
  pub key : IsKeyText parts.body parts.columns parts.key row.key
  pub cursor : IsCursorText parts.body parts.columns parts.cursor row.cursor
  pub cells : List Typed
  pub typed : AreCells parts.body parts.columns cells
  pub columns : row.columns ≡ columns_text parts.columns cells
  pub came : List (List ℕ)
  pub came_with : CameWith parts.meta came
  pub meta : row.meta ≡ meta_text (came ++ own_changes parts.columns cells)
