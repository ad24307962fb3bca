-- Names that stand for themselves between quotation marks, and texts in place.
use Rattle.std.specs.Prelude.{◌≡◌, ℕ, ◌+◌, ◌<◌, List, [], ◌∷◌, Bool, true, ◌&&◌, Option, None, Some, drop, length, slice_get}
use Rattle.json_scalar.specs.Text.{IsString, is_plain}
use Rattle.json_span.specs.Members.{text_at}
use Rattle.json_span.specs.declared.Member.{Member}
use Rattle.json_fields.specs.Answer.{IsOnly}
use Rattle.json_fields.specs.Fields.{Holds, IsNamed}
use Rattle.json_fields.specs.declared.view.TextView.{TextView}
use Rattle.json_fields.specs.declared.view.TextView.TheVariants as view

-- no byte of the name is escaped in a string
abbrev pub is_word : List ℕ → Bool
is_word [] = true
is_word (byte ∷ bytes) = is_plain byte && is_word bytes

-- the text is a JSON string
pub record IsSomeString (text : List ℕ) : Type 0 where
  pub name : List ℕ
  pub is : IsString text name

-- the text that a view stands for
abbrev pub viewed : TextView → List ℕ
viewed (view.Plain text) = text.now
viewed (view.Decoded name) = name

-- the last member of this name stands at this place in the list
pub record IsPlace (text name : List ℕ) (members : List Member) (place : ℕ) : Type 0 where
  pub member : Member
  pub below : place < length members
  pub at : slice_get members place ≡ Some member
  pub named : IsNamed text name member
  pub last : Holds text name (drop (place + 1) members) None
  pub holds : IsOnly (Holds text name members) (Some (text_at text member.value))

-- where the last member of this name stands, None where no member has it
abbrev pub IsPlaceOf : List ℕ → List ℕ → List Member → Option ℕ → Type 0
IsPlaceOf text name members None = IsOnly (Holds text name members) None
IsPlaceOf text name members (Some place) = IsPlace text name members place
