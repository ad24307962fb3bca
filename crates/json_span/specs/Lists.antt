-- An object cut together with an array that one of its values is.
use Rattle.std.specs.Prelude.{◌≡◌, ℕ, ◌<◌, ◌≤◌, List, [], Option, None, Some, All, length}
use Rattle.std.specs.List.{slice_get}
use Rattle.json_span.specs.Members.{text_at}
use Rattle.json_span.specs.Elements.{AreElements, HasOnlyElements, IsElementOf, IsSomeArray, IsDeeperArray}
use Rattle.json_span.specs.Machine.{read_whole, IsDone}
use Rattle.json_span.specs.declared.Span.{Span}
use Rattle.json_span.specs.declared.Member.{Member}
use Rattle.json_span.specs.declared.phase.Frame.TheVariants as frame

-- the text is a JSON array that nests at most so deep; its elements stand at these places, and it has no others
pub record IsArrayCutInto (limit : ℕ) (text : List ℕ) (spans : List Span) : Type 0 where
  pub found : AreElements limit text spans
  pub only : HasOnlyElements limit text spans
  pub parts : All (IsElementOf text) spans

-- no member before this index has an array as its value
abbrev pub NoArrayBefore : List ℕ → List Member → ℕ → Type 0
NoArrayBefore text members index = (k : ℕ) (m : Member) → k < index → slice_get members k ≡ Some m → ¬ IsSomeArray (text_at text m.value)

-- The value of the member at this index is an array with these elements, whose places count from where the value begins.
-- It is the first such member.
pub record IsListAt (limit : ℕ) (text : List ℕ) (members : List Member) (index : ℕ) (spans : List Span) : Type 0 where
  pub member : Member
  pub at : slice_get members index ≡ Some member
  pub cut : IsArrayCutInto limit (text_at text member.value) spans
  pub first : NoArrayBefore text members index

-- the first of the values that is an array, by the index of its member, and its elements; None where no value is an array
abbrev pub IsListed : ℕ → List ℕ → List Member → Option ℕ → List Span → Type 0
IsListed limit text members None spans = NoArrayBefore text members (length members) × (spans ≡ [])
IsListed limit text members (Some index) spans = IsListAt limit text members index spans

-- the member at this index is the first whose value is an array
pub record IsFirstArray (text : List ℕ) (members : List Member) (index : ℕ) : Type 0 where
  pub below : index < length members
  pub array : (m : Member) → slice_get members index ≡ Some m → IsSomeArray (text_at text m.value)
  pub first : NoArrayBefore text members index

-- which member is the first whose value is an array, if one is
abbrev pub IsFirst : List ℕ → List Member → Option ℕ → Type 0
IsFirst text members None = NoArrayBefore text members (length members)
IsFirst text members (Some index) = IsFirstArray text members index

-- the values are read alone where they are arrays: none nests too deep
abbrev pub AreShallowArrays : ℕ → List ℕ → List Member → Type 0
AreShallowArrays limit text members = All (λ m. ¬ IsDeeperArray limit (text_at text m.value)) members

-- the value, read as a text of its own, is an array with these elements that does not nest too deep, but for its encoding
pub record IsListReadAlone (value : List ℕ) (spans : List Span) : Type 0 where
  pub done : IsDone (read_whole frame.Array value).phase
  pub shallow : (read_whole frame.Array value).deepest ≤ 127
  pub cut : spans ≡ (read_whole frame.Array value).cutter.elements

-- the array that has been read alone so far, where one has
abbrev pub IsListRead : List ℕ → List Member → Option ℕ → List Span → Type 0
IsListRead text members None spans = Unit {0}
IsListRead text members (Some index) spans = (m : Member) × (slice_get members index ≡ Some m) × IsListReadAlone (text_at text m.value) spans
