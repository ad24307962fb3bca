-- An object cut at two levels: its members, and the members of those of its values that are objects.
use Rattle.std.specs.Prelude.{◌≡◌, ℕ, List, [], Option, None, Some, All, length}
use Rattle.std.specs.List.{slice_get}
use Rattle.json_span.specs.Members.{AreMembers, HasOnlyMembers, IsMemberOf, IsSomeObject, IsDeeper, text_at}
use Rattle.json_span.specs.declared.Member.{Member}

-- an object's members, and at each index what is inside the value of the member there: the members of an object, whose
-- places count from where the value begins, or None where the value is no object
pub record Levels : Type 0 where
  pub outer : List Member
  pub inner : List (Option (List Member))

abbrev pub no_levels : Levels
no_levels = record { outer = []; inner = [] }

-- the text is a JSON object that nests at most so deep; these are its members, and it has no others
pub record IsCutInto (limit : ℕ) (text : List ℕ) (members : List Member) : Type 0 where
  pub found : AreMembers limit text members
  pub only : HasOnlyMembers limit text members
  pub parts : All (IsMemberOf text) members

-- what is inside a value
abbrev pub IsInside : ℕ → List ℕ → Option (List Member) → Type 0
IsInside limit text None = ¬ IsSomeObject text
IsInside limit text (Some members) = IsCutInto limit text members

-- each member has at its index what is inside its value
pub record AreInside (limit : ℕ) (text : List ℕ) (outer : List Member) (inner : List (Option (List Member))) : Type 0 where
  pub as_many : length inner ≡ length outer
  pub each : (k : ℕ) (m : Member) → slice_get outer k ≡ Some m → (found : Option (List Member)) → slice_get inner k ≡ Some found → IsInside limit (text_at text m.value) found

-- the values are read alone where they are objects: none nests too deep
abbrev pub AreShallow : ℕ → List ℕ → List Member → Type 0
AreShallow limit text members = All (λ m. ¬ IsDeeper limit (text_at text m.value)) members
