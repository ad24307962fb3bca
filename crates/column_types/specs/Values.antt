-- The value at a place of a record, as rows are ordered and told apart by it.
use Rattle.std.specs.Prelude.{◌≡◌, ◌⊎◌, ℕ, ℤ, List, [], ◌∷◌, codes, Bool, Option, None, Some}
use Rattle.json_scalar.specs.Text.{IsString}
use Rattle.json_span.specs.Members.{AreMembers, IsSomeObject}
use Rattle.json_span.specs.Elements.{IsSomeArray}
use Rattle.json_span.specs.declared.Member.{Member}
use Rattle.json_fields.specs.Fields.{HasField, line_depth}
use Rattle.json_squeeze.specs.Squeeze.{squeezed}
use Rattle.value_order.specs.declared.value.Value.{Value}
use Rattle.value_order.specs.declared.value.Value.TheVariants.{Null, False, True, Number, Text, Instant, Other}
use Rattle.column_types.specs.Instants.{instant_where}
use Rattle.column_types.specs.Numbers.{IsNumberOf, IsLongNumber}

-- a string that is no instant, or where none is looked for
pub record IsTextOf (instants : Bool) (text name : List ℕ) : Type 0 where
  pub string : IsString text name
  pub plain : instant_where instants name ≡ None

-- a string that is this instant, where instants are looked for
pub record IsInstantOf (instants : Bool) (text : List ℕ) (nanoseconds : ℤ) : Type 0 where
  pub name : List ℕ
  pub string : IsString text name
  pub instant : instant_where instants name ≡ Some nanoseconds

-- an array, an object, or a number that no decimal is
abbrev pub IsOther : List ℕ → Type 0
IsOther text = IsSomeArray text ⊎ (IsSomeObject text ⊎ IsLongNumber text)

-- the value that the text of a JSON value stands for
abbrev pub IsValueOf : Bool → List ℕ → Value → Type 0
IsValueOf instants text Null = text ≡ codes "null"
IsValueOf instants text False = text ≡ codes "false"
IsValueOf instants text True = text ≡ codes "true"
IsValueOf instants text (Number d) = IsNumberOf text d
IsValueOf instants text (Text name) = IsTextOf instants text name
IsValueOf instants text (Instant nanoseconds) = IsInstantOf instants text nanoseconds
IsValueOf instants text (Other bytes) = IsOther text × (bytes ≡ squeezed text)

-- What stands at the end of a path from this text on: each step goes to the last member of its name, and a missing
-- step ends at nothing.
abbrev pub Reaches : List ℕ → List (List ℕ) → Option (List ℕ) → Type 0
Reaches text [] found = found ≡ Some text
Reaches text (name ∷ names) found =
    ((held : List ℕ) × HasField text name held × Reaches held names found)
    ⊎ (((held : List ℕ) → ¬ HasField text name held) × (found ≡ None))

-- the text is an object that nests no deeper than a line can
pub record IsData (text : List ℕ) : Type 0 where
  pub members : List Member
  pub object : AreMembers line_depth text members

-- What stands at a path in a record's data: nothing where the data is no object, or nests deeper than a line can. At the
-- empty path stands the data.
abbrev pub StandsAt : List ℕ → List (List ℕ) → Option (List ℕ) → Type 0
StandsAt body path found = (IsData body × Reaches body path found) ⊎ ((¬ IsData body) × (found ≡ None))

-- what is missing counts as null
abbrev pub IsFoundValue : Bool → Option (List ℕ) → Value → Type 0
IsFoundValue instants None value = value ≡ Null
IsFoundValue instants (Some text) value = IsValueOf instants text value

-- the value at a path, where strings may be instants
pub record HasValue (body : List ℕ) (path : List (List ℕ)) (instants : Bool) (value : Value) : Type 0 where
  pub found : Option (List ℕ)
  pub stands : StandsAt body path found
  pub is : IsFoundValue instants found value
