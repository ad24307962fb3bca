-- The blob of a state of a file: the number of the last record that was written, from 1, and 0 before the first.
use Rattle.std.specs.Prelude.{◌≡◌, ℕ, ◌<◌, ◌^◌, List, [], ◌∷◌, Option, None, Some, codes}
use Rattle.std.specs.Fmt.{decimal}
use Rattle.json_write.specs.Objects.{named, object_text}
use Rattle.json_scalar.specs.Text.{IsString}
use Rattle.json_span.specs.Members.{AreMembers, text_at}
use Rattle.json_span.specs.declared.Member.{Member}
use Rattle.json_fields.specs.Fields.{line_depth}
use Rattle.json_fields.specs.Parts.{IsCount}

abbrev pub row_blob : ℕ → List ℕ
row_blob number = object_text (named (codes "row") (decimal number) ∷ [])

-- the member is `row`, a whole number
pub record IsRowMember (text : List ℕ) (member : Member) (number : ℕ) : Type 0 where
  pub name : IsString (text_at text member.key) (codes "row")
  pub count : IsCount (text_at text member.value) number

-- The text is an object whose one member is such a one.
pub record IsRowBlob (text : List ℕ) (number : ℕ) : Type 0 where
  pub member : Member
  pub object : AreMembers line_depth text (member ∷ [])
  pub row : IsRowMember text member number

-- A stream starts behind this record with this blob. Without a blob it starts before the first.
abbrev pub StartsBehind : Option (List ℕ) → ℕ → Type 0
StartsBehind None number = number ≡ 0
StartsBehind (Some blob) number = IsRowBlob blob number

-- the blob that a state carries before any row was written
abbrev pub first_blob : Option (List ℕ) → List ℕ
first_blob None = row_blob 0
first_blob (Some blob) = blob

-- The blob that a file's stream writes is read as its number.
abbrev pub BlobsReadBack : Type 0
BlobsReadBack = (number : ℕ) → number < 2 ^ 63 → IsRowBlob (row_blob number) number
