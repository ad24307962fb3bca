-- What the text of a configuration says: the files that are copied, or the first check that fails. It is an object with an array
-- `files`; each of its elements has a `name`, a `path` and maybe a number `every`. Other members are passed over.
use Rattle.std.specs.Prelude.{◌≡◌, ◌⊎◌, ℕ, ◌≤◌, List, Option, None, Some, Result, Ok, Err, codes}
use Rattle.std.specs.List.{AllZip}
use Rattle.json_span.specs.Members.{AreMembers, text_at}
use Rattle.json_span.specs.Elements.{AreElements}
use Rattle.json_span.specs.declared.Member.{Member}
use Rattle.json_span.specs.declared.Span.{Span}
use Rattle.json_fields.specs.Fields.{HasField, HasText, line_depth}
use Rattle.json_fields.specs.Parts.{HasOptionalNumber, IsCount}
use Rattle.outside.specs.declared.faults.ConfigFault.{ConfigFault}
use Rattle.outside.specs.declared.faults.ConfigFault.TheVariants as fault
use Rattle.file_config.specs.declared.config.TheConstants.{MOST_EVERY, USUAL_EVERY}
use Rattle.file_config.specs.declared.config.EntryPart.{EntryPart}
use Rattle.file_config.specs.declared.config.FileEntry.{FileEntry}
use Rattle.file_config.specs.declared.config.FileConfig.{FileConfig}

-- the text is an object whose members have the forms of an entry's, and say this
pub record IsPart (text : List ℕ) (part : EntryPart) : Type 0 where
  pub name : HasText text (codes "name") part.name
  pub path : HasText text (codes "path") part.path
  pub every : HasOptionalNumber text (codes "every") part.every

-- the text is an object whose `files` are these
pub record HasParts (text : List ℕ) (parts : List EntryPart) : Type 0 where
  pub list : List ℕ
  pub field : HasField text (codes "files") list
  pub spans : List Span
  pub elements : AreElements line_depth list spans
  pub are : AllZip (λ span part. IsPart (text_at list span) part) spans parts

-- a whole number from 1 to the most
pub record IsInRange (text : List ℕ) (every : ℕ) : Type 0 where
  pub count : IsCount text every
  pub least : 1 ≤ every
  pub most : every ≤ MOST_EVERY

-- after how many records a state is due, also where no number says so
abbrev pub IsEvery : Option (List ℕ) → ℕ → Type 0
IsEvery None every = every ≡ USUAL_EVERY
IsEvery (Some text) every = IsInRange text every

pub record IsEntry (part : EntryPart) (entry : FileEntry) : Type 0 where
  pub name : entry.name ≡ part.name
  pub path : entry.path ≡ part.path
  pub every : IsEvery part.every entry.every

abbrev pub IsObject : List ℕ → Type 0
IsObject text = (members : List Member) × AreMembers line_depth text members

-- these files, or a number is out of range
abbrev pub ReadsParts : List EntryPart → Result FileConfig ConfigFault → Type 0
ReadsParts parts reading =
    (((entries : List FileEntry) → ¬ AllZip IsEntry parts entries) × (reading ≡ Err fault.OutOfRange))
    ⊎ ((entries : List FileEntry) × AllZip IsEntry parts entries × (reading ≡ Ok (record { files = entries })))

-- an object, and then the forms of all members, and then the numbers
abbrev pub ReadsConfig : List ℕ → Result FileConfig ConfigFault → Type 0
ReadsConfig text reading =
    ((¬ IsObject text) × (reading ≡ Err fault.NotJson))
    ⊎ (IsObject text × ((parts : List EntryPart) → ¬ HasParts text parts) × (reading ≡ Err fault.Missing))
    ⊎ ((parts : List EntryPart) × HasParts text parts × ReadsParts parts reading)
