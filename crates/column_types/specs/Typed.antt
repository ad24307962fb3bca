-- How a JSON value is written in a column of a kind, and which values fit.
use Rattle.std.specs.Prelude.{◌≡◌, ◌≢◌, ◌⊎◌, ℕ, ℤ, List, codes, FitsSigned}
use Rattle.std.specs.Int.{w64}
use Rattle.std.specs.Fmt.{signed_decimal}
use Rattle.json_scalar.specs.Text.{IsString}
use Rattle.column_types.specs.declared.kind.ColumnType.{ColumnType}
use Rattle.column_types.specs.declared.kind.ColumnType.TheVariants as kinds
use Rattle.column_types.specs.declared.typed.Typed.{Typed}
use Rattle.column_types.specs.declared.typed.Typed.TheVariants.{Fits, Nulled}
use Rattle.json_fields.specs.Parts.{IsNumber}
use Rattle.column_types.specs.Numbers.{IsInteger}

-- any JSON string
pub record IsSomeString (text : List ℕ) : Type 0 where
  pub meaning : List ℕ
  pub string : IsString text meaning

-- a whole number from -2^63 to 2^63 - 1, written as a plain decimal
pub record IsWholeAs (text written : List ℕ) : Type 0 where
  pub value : ℤ
  pub integer : IsInteger text value
  pub small : FitsSigned w64 value
  pub plain : written ≡ signed_decimal value

-- a value of this kind, and how it is written: a whole number as a plain decimal, all else as it stands
abbrev pub FitsAs : ColumnType → List ℕ → List ℕ → Type 0
FitsAs kinds.Text text written = IsSomeString text × (written ≡ text)
FitsAs kinds.Bool text written = ((text ≡ codes "true") ⊎ (text ≡ codes "false")) × (written ≡ text)
FitsAs kinds.Whole text written = IsWholeAs text written
FitsAs kinds.Number text written = IsNumber text × (written ≡ text)
FitsAs kinds.Instant text written = IsSomeString text × (written ≡ text)
FitsAs kinds.Json text written = written ≡ text

-- A value fits every kind where it is `null`, and else where it is of the kind. A value that does not fit is nulled.
abbrev pub IsTyped : ColumnType → List ℕ → Typed → Type 0
IsTyped kind text (Fits written) = ((text ≡ codes "null") × (written ≡ text)) ⊎ FitsAs kind text written
IsTyped kind text Nulled = (text ≢ codes "null") × ((written : List ℕ) → ¬ FitsAs kind text written)
