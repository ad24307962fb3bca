-- The columns of a stream: the properties of its JSON Schema, in order. Of a repeated name only the last stands, at its
-- own place.
use Rattle.std.specs.Prelude.{◌≡◌, ◌⊎◌, ℕ, List, [], ◌∷◌, codes, Bool, true, false, ◌&&◌, if◌then◌else◌, map}
use Rattle.std.specs.List.{list_any}
use Rattle.std.specs.Str.{bytes_eq}
use Rattle.json_scalar.specs.Text.{IsString}
use Rattle.json_span.specs.Members.{AreMembers, text_at}
use Rattle.json_span.specs.declared.Member.{Member}
use Rattle.json_fields.specs.Fields.{HasField, line_depth}
use Rattle.column_types.specs.declared.kind.ColumnType.{ColumnType}
use Rattle.column_types.specs.declared.kind.ColumnType.TheVariants as kinds
use Rattle.column_types.specs.declared.column.Column.{Column}
use Rattle.column_types.specs.Kinds.{IsKind}

-- the column of one property
pub record IsColumnOf (text : List ℕ) (member : Member) (column : Column) : Type 0 where
  pub name : IsString (text_at text member.key) column.name
  pub kind : IsKind (text_at text member.value) column.kind

-- whether one of the columns has this name
abbrev pub has_name : List ℕ → List Column → Bool
has_name name columns = list_any (λ column. bytes_eq column.name name) columns

abbrev pub names_of : List Column → List (List ℕ)
names_of columns = map (λ column. column.name) columns

-- a property's column stands in front of the later ones, where none of them has its name
abbrev pub IsAddedTo : List Column → Column → List Column → Type 0
IsAddedTo later column columns = columns ≡ (if has_name column.name later then later else column ∷ later)

-- the columns of these properties
abbrev pub ListsColumns : List ℕ → List Member → List Column → Type 0
ListsColumns text [] columns = columns ≡ []
ListsColumns text (member ∷ members) columns = (later : List Column) × ListsColumns text members later × ((column : Column) × IsColumnOf text member column × IsAddedTo later column columns)

-- the schema is an object with an object `properties` of these members
pub record HasProperties (schema held : List ℕ) (members : List Member) : Type 0 where
  pub field : HasField schema (codes "properties") held
  pub object : AreMembers line_depth held members

-- the columns of a schema, none where it has no properties, or nests deeper than a line can
abbrev pub AreColumns : List ℕ → List Column → Type 0
AreColumns schema columns =
    ((held : List ℕ) × (members : List Member) × HasProperties schema held members × ListsColumns held members columns)
    ⊎ (((held : List ℕ) (members : List Member) → ¬ HasProperties schema held members) × (columns ≡ []))

abbrev pub is_instant_kind : ColumnType → Bool
is_instant_kind kinds.Instant = true
is_instant_kind kinds.Text = false
is_instant_kind kinds.Bool = false
is_instant_kind kinds.Whole = false
is_instant_kind kinds.Number = false
is_instant_kind kinds.Json = false

-- whether a path is one name, that of an Instant column
abbrev pub is_instant_path : List Column → List (List ℕ) → Bool
is_instant_path columns [] = false
is_instant_path columns (name ∷ []) = list_any (λ column. bytes_eq column.name name && is_instant_kind column.kind) columns
is_instant_path columns (name ∷ next ∷ names) = false
