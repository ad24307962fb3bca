-- What the text of a configuration says: the tables that are copied, or the first check that fails. It is an object with a text
-- `database` and an array `tables`; each of its elements has a `name` and a `schema`, and maybe a `cursor`, a `key` and a number
-- `every`. An optional member that is `null` counts as absent. Other members are passed over.
use Rattle.std.specs.Prelude.{◌≡◌, ◌⊎◌, ℕ, ◌≤◌, List, Option, None, Some, Result, Ok, Err, codes}
use Rattle.std.specs.List.{AllZip}
use Rattle.json_span.specs.Members.{AreMembers, text_at}
use Rattle.json_span.specs.Elements.{AreElements}
use Rattle.json_span.specs.declared.Member.{Member}
use Rattle.json_span.specs.declared.Span.{Span}
use Rattle.json_fields.specs.Fields.{HasField, HasOptionalText, HasText, line_depth}
use Rattle.json_fields.specs.Parts.{HasOptionalNumber, IsCount, NestsWithin}
use Rattle.catalog.specs.Entry.{HasOptionalList, IsPath}
use Rattle.outside.specs.declared.faults.ConfigFault.{ConfigFault}
use Rattle.outside.specs.declared.faults.ConfigFault.TheVariants as fault
use Rattle.table_config.specs.Tables.{firsts}
use Rattle.table_config.specs.declared.config.TheConstants.{DEEPEST_SCHEMA, MOST_EVERY, USUAL_EVERY}
use Rattle.table_config.specs.declared.config.TableConfig.{TableConfig}
use Rattle.table_config.specs.declared.config.TableEntry.{TableEntry}
use Rattle.table_config.specs.declared.read.TablePart.{TablePart}
use Rattle.table_config.specs.declared.read.ConfigParts.{ConfigParts}

-- the member `schema` is an object that does not nest too deep
pub record HasSchema (text schema : List ℕ) : Type 0 where
  pub field : HasField text (codes "schema") schema
  pub shallow : NestsWithin DEEPEST_SCHEMA schema

-- the text is an object whose members have the forms of a table's, and say this
pub record IsPart (text : List ℕ) (part : TablePart) : Type 0 where
  pub name : HasText text (codes "name") part.name
  pub schema : HasSchema text part.schema
  pub cursor : HasOptionalText text (codes "cursor") part.cursor
  pub key : HasOptionalList IsPath text (codes "key") part.key
  pub every : HasOptionalNumber text (codes "every") part.every

-- the text is an object whose `database` and `tables` are these
pub record HasParts (text : List ℕ) (parts : ConfigParts) : Type 0 where
  pub database : HasText text (codes "database") parts.database
  pub list : List ℕ
  pub field : HasField text (codes "tables") list
  pub spans : List Span
  pub elements : AreElements line_depth list spans
  pub are : AllZip (λ span part. IsPart (text_at list span) part) spans parts.tables

-- a whole number from 1 to the most
pub record IsInRange (text : List ℕ) (every : ℕ) : Type 0 where
  pub count : IsCount text every
  pub least : 1 ≤ every
  pub most : every ≤ MOST_EVERY

-- after how many records a state is due, also where no number says so
abbrev pub IsEvery : Option (List ℕ) → ℕ → Type 0
IsEvery None every = every ≡ USUAL_EVERY
IsEvery (Some text) every = IsInRange text every

pub record IsEntry (part : TablePart) (entry : TableEntry) : Type 0 where
  pub name : entry.name ≡ part.name
  pub schema : entry.schema ≡ part.schema
  pub cursor : entry.cursor ≡ part.cursor
  pub key : entry.key ≡ part.key
  pub every : IsEvery part.every entry.every

abbrev pub IsObject : List ℕ → Type 0
IsObject text = (members : List Member) × AreMembers line_depth text members

-- these tables, of which the first of each name counts; or a number is out of range
abbrev pub ReadsParts : ConfigParts → Result TableConfig ConfigFault → Type 0
ReadsParts parts reading =
    (((entries : List TableEntry) → ¬ AllZip IsEntry parts.tables entries) × (reading ≡ Err fault.OutOfRange))
    ⊎ ((entries : List TableEntry) × AllZip IsEntry parts.tables entries × (reading ≡ Ok (record { database = parts.database; tables = firsts entries })))

-- an object, and then the forms of all members, and then the numbers
abbrev pub ReadsConfig : List ℕ → Result TableConfig ConfigFault → Type 0
ReadsConfig text reading =
    ((¬ IsObject text) × (reading ≡ Err fault.NotJson))
    ⊎ (IsObject text × ((parts : ConfigParts) → ¬ HasParts text parts) × (reading ≡ Err fault.Missing))
    ⊎ ((parts : ConfigParts) × HasParts text parts × ReadsParts parts reading)
