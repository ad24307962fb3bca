-- Members of an object by what they hold, and the members without one name. An optional member that is `null` counts as
-- absent.
use Rattle.std.specs.Prelude.{◌≡◌, ◌⊎◌, ℕ, ◌<◌, ◌^◌, List, [], ◌∷◌, Option, None, Some, All}
use Rattle.json_scalar.specs.Number.{IsWhole, Literal, literal_text}
use Rattle.json_scalar.specs.Text.{IsString}
use Rattle.json_span.specs.Members.{AreMembers, IsSomeObject, text_at}
use Rattle.json_span.specs.Elements.{AreElements, IsElementOf, IsSomeArray}
use Rattle.json_span.specs.declared.Span.{Span}
use Rattle.json_span.specs.declared.Member.{Member}
use Rattle.json_fields.specs.Fields.{HasField, HasOptional, line_depth}

-- a whole number below 2^63
pub record IsCount (text : List ℕ) (count : ℕ) : Type 0 where
  pub whole : IsWhole text count
  pub small : count < 2 ^ 63

-- the member of this name is such a number
pub record HasCount (text name : List ℕ) (count : ℕ) : Type 0 where
  pub held : List ℕ
  pub field : HasField text name held
  pub is : IsCount held count

-- absent, or a count
abbrev pub IsOptionalCount : Option (List ℕ) → Option ℕ → Type 0
IsOptionalCount None count = count ≡ None
IsOptionalCount (Some held) None = ⊥
IsOptionalCount (Some held) (Some count) = IsCount held count

-- the optional member of this name is such a number where it is there
pub record HasOptionalCount (text name : List ℕ) (count : Option ℕ) : Type 0 where
  pub held : Option (List ℕ)
  pub optional : HasOptional text name held
  pub is : IsOptionalCount held count

-- a JSON number of any form (RFC 8259, section 6)
pub record IsNumber (text : List ℕ) : Type 0 where
  pub literal : Literal
  pub spelled : text ≡ literal_text literal

-- absent, or a number
abbrev pub IsOptionalNumber : Option (List ℕ) → Type 0
IsOptionalNumber None = Unit {0}
IsOptionalNumber (Some held) = IsNumber held

-- the optional member of this name is a number where it is there
pub record HasOptionalNumber (text name : List ℕ) (found : Option (List ℕ)) : Type 0 where
  pub optional : HasOptional text name found
  pub number : IsOptionalNumber found

-- the member of this name is an object
pub record HasObject (text name held : List ℕ) : Type 0 where
  pub field : HasField text name held
  pub object : IsSomeObject held

-- the member of this name is an array
pub record HasArray (text name held : List ℕ) : Type 0 where
  pub field : HasField text name held
  pub array : IsSomeArray held

-- the object nests at most so deep
pub record NestsWithin (limit : ℕ) (text : List ℕ) : Type 0 where
  pub members : List Member
  pub object : AreMembers limit text members

-- the text is an array with its elements at these places and no others, each cut where it stands
pub record IsCutList (text : List ℕ) (spans : List Span) : Type 0 where
  pub are : AreElements line_depth text spans
  pub only : (others : List Span) → AreElements line_depth text others → others ≡ spans
  pub parts : All (IsElementOf text) spans

-- the members whose keys are not left out, in order
abbrev pub Keeps : (List ℕ → Type 0) → List ℕ → List Member → List Member → Type 0
Keeps IsLeftOut text [] kept = kept ≡ []
Keeps IsLeftOut text (member ∷ members) kept =
    (others : List Member) × Keeps IsLeftOut text members others
    × ((IsLeftOut (text_at text member.key) × (kept ≡ others)) ⊎ ((¬ IsLeftOut (text_at text member.key)) × (kept ≡ member ∷ others)))

-- the members that do not have this name, in order
abbrev pub Without : List ℕ → List ℕ → List Member → List Member → Type 0
Without text name = Keeps (λ key. IsString key name) text
