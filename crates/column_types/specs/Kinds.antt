-- What kind of column a property of a JSON Schema makes, by its `type`, `format` and `airbyte_type`.
use Rattle.std.specs.Prelude.{◌≡◌, ◌≢◌, ◌⊎◌, ℕ, List, codes}
use Rattle.std.specs.List.{All, Any}
use Rattle.json_scalar.specs.Text.{IsString}
use Rattle.json_span.specs.Members.{text_at}
use Rattle.json_span.specs.Elements.{AreElements}
use Rattle.json_span.specs.declared.Span.{Span}
use Rattle.json_fields.specs.Fields.{HasField, HasText, line_depth}
use Rattle.column_types.specs.declared.kind.ColumnType.{ColumnType}
use Rattle.column_types.specs.declared.kind.ColumnType.TheVariants as kinds

-- a string other than `null`
pub record IsOtherWord (text : List ℕ) : Type 0 where
  pub word : List ℕ
  pub string : IsString text word
  pub other : word ≢ codes "null"

-- An array in which this word stands, and no other string but `null`. What is no string is not read.
pub record IsListOf (text word : List ℕ) : Type 0 where
  pub spans : List Span
  pub array : AreElements line_depth text spans
  pub some : Any (λ span. IsString (text_at text span) word) spans
  pub only : All (λ span. (other : List ℕ) → IsString (text_at text span) other → (other ≡ word) ⊎ (other ≡ codes "null")) spans

-- the property has a `type`, and that is this word alone, `null` apart
pub record HasOnlyType (property word : List ℕ) : Type 0 where
  pub held : List ℕ
  pub field : HasField property (codes "type") held
  pub alone : IsString held word ⊎ IsListOf held word

-- a string is an instant by its format
abbrev pub IsDateTime : List ℕ → Type 0
IsDateTime property = HasText property (codes "format") (codes "date-time")

-- a number is whole by Airbyte's own type
abbrev pub IsAirbyteInteger : List ℕ → Type 0
IsAirbyteInteger property = HasText property (codes "airbyte_type") (codes "integer")

-- none of the types that have a kind of their own
pub record HasOtherType (property : List ℕ) : Type 0 where
  pub string : ¬ HasOnlyType property (codes "string")
  pub boolean : ¬ HasOnlyType property (codes "boolean")
  pub integer : ¬ HasOnlyType property (codes "integer")
  pub number : ¬ HasOnlyType property (codes "number")

-- the kind of column that the text of a property makes
abbrev pub IsKind : List ℕ → ColumnType → Type 0
IsKind property kinds.Instant = HasOnlyType property (codes "string") × IsDateTime property
IsKind property kinds.Text = HasOnlyType property (codes "string") × (¬ IsDateTime property)
IsKind property kinds.Bool = HasOnlyType property (codes "boolean")
IsKind property kinds.Whole = HasOnlyType property (codes "integer") ⊎ (HasOnlyType property (codes "number") × IsAirbyteInteger property)
IsKind property kinds.Number = HasOnlyType property (codes "number") × (¬ IsAirbyteInteger property)
IsKind property kinds.Json = HasOtherType property
