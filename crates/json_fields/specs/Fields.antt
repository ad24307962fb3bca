-- The members of an object by name. Where a name stands twice the last member counts, and names are compared
-- after their escapes are decoded.
use Rattle.std.specs.Prelude.{◌≡◌, ◌⊎◌, ℕ, List, [], ◌∷◌, Option, None, Some, All, codes, if◌then◌else◌}
use Rattle.std.specs.Str.{bytes_eq}
use Rattle.json_scalar.specs.Text.{IsString}
use Rattle.json_span.specs.Members.{AreMembers, IsMemberOf, text_at}
use Rattle.json_span.specs.declared.Member.{Member}

-- the member has this name
abbrev pub IsNamed : List ℕ → List ℕ → Member → Type 0
IsNamed text name member = IsString (text_at text member.key) name

-- What a member holds for this name, where those behind it hold `later`: the last one counts.
abbrev pub HoldsBefore : List ℕ → List ℕ → Member → Option (List ℕ) → Option (List ℕ) → Type 0
HoldsBefore text name member (Some later) found = found ≡ Some later
HoldsBefore text name member None found = (IsNamed text name member × (found ≡ Some (text_at text member.value))) ⊎ ((¬ IsNamed text name member) × (found ≡ None))

-- what the last member of this name holds, None where no member has it
abbrev pub Holds : List ℕ → List ℕ → List Member → Option (List ℕ) → Type 0
Holds text name [] found = found ≡ None
Holds text name (member ∷ members) found = (later : Option (List ℕ)) × Holds text name members later × HoldsBefore text name member later found

-- an optional member that is null counts as absent
abbrev pub present : Option (List ℕ) → Option (List ℕ)
present None = None
present (Some held) = if bytes_eq held (codes "null") then None else Some held

-- arrays and objects nest at most so deep in a line
abbrev pub line_depth : ℕ
line_depth = 127

-- the text is an object, and its member of this name holds this text
pub record HasField (text name held : List ℕ) : Type 0 where
  pub members : List Member
  pub object : AreMembers line_depth text members
  pub holds : Holds text name members (Some held)

-- the text is an object, and its optional member of this name is this
pub record HasOptional (text name : List ℕ) (found : Option (List ℕ)) : Type 0 where
  pub members : List Member
  pub object : AreMembers line_depth text members
  pub held : Option (List ℕ)
  pub holds : Holds text name members held
  pub is : found ≡ present held

-- the member of this name is a string that stands for this
pub record HasText (text name meaning : List ℕ) : Type 0 where
  pub held : List ℕ
  pub field : HasField text name held
  pub string : IsString held meaning

-- absent, or a string that stands for this
abbrev pub IsOptionalText : Option (List ℕ) → Option (List ℕ) → Type 0
IsOptionalText None meaning = meaning ≡ None
IsOptionalText (Some held) None = ⊥
IsOptionalText (Some held) (Some meaning) = IsString held meaning

-- the optional member of this name is such a text
pub record HasOptionalText (text name : List ℕ) (meaning : Option (List ℕ)) : Type 0 where
  pub held : Option (List ℕ)
  pub optional : HasOptional text name held
  pub string : IsOptionalText held meaning

-- the text is an object with these members and no others, each cut where it stands
pub record IsCut (text : List ℕ) (members : List Member) : Type 0 where
  pub are : AreMembers line_depth text members
  pub only : (others : List Member) → AreMembers line_depth text others → others ≡ members
  pub parts : All (IsMemberOf text) members
