-- What the text of a destination's configuration says: where it writes and within which limits, or the first check that fails.
-- It is an object with a string of the place, `database` for tables and `folder` for files, and maybe numbers `slots`, `bytes`,
-- `batch` and `workers`. Other members are passed over.
use Rattle.std.specs.Prelude.{◌≡◌, ◌⊎◌, ℕ, min, List, Option, None, Some, Result, Ok, Err, codes}
use Rattle.json_span.specs.Members.{AreMembers}
use Rattle.json_span.specs.declared.Member.{Member}
use Rattle.json_fields.specs.Fields.{HasText, line_depth}
use Rattle.json_fields.specs.Parts.{HasOptionalNumber, IsCount}
use Rattle.outside.specs.Limits.{AreLimits}
use Rattle.outside.specs.declared.load.Limits.{Limits}
use Rattle.outside.specs.declared.faults.ConfigFault.{ConfigFault}
use Rattle.outside.specs.declared.faults.ConfigFault.TheVariants as fault
use Rattle.dest_config.specs.declared.config.DestConfig.{DestConfig}
use Rattle.dest_config.specs.declared.config.DestKind.{DestKind}
use Rattle.dest_config.specs.declared.config.DestKind.TheVariants.{Files, Tables}

-- the member that names the place
abbrev pub place_name : DestKind → List ℕ
place_name Tables = codes "database"
place_name Files = codes "folder"

-- what the members hold; a number as it stands, None where it is absent or null
pub record Held : Type 0 where
  pub place : List ℕ
  pub slots : Option (List ℕ)
  pub bytes : Option (List ℕ)
  pub batch : Option (List ℕ)
  pub workers : Option (List ℕ)

-- the text is an object whose members have their forms, and hold this
pub record Holds (kind : DestKind) (text : List ℕ) (held : Held) : Type 0 where
  pub place : HasText text (place_name kind) held.place
  pub slots : HasOptionalNumber text (codes "slots") held.slots
  pub bytes : HasOptionalNumber text (codes "bytes") held.bytes
  pub batch : HasOptionalNumber text (codes "batch") held.batch
  pub workers : HasOptionalNumber text (codes "workers") held.workers

-- the usual number where none stands, and the whole number that stands
abbrev pub Says : ℕ → Option (List ℕ) → ℕ → Type 0
Says usual None number = number ≡ usual
Says usual (Some text) number = IsCount text number

-- these limits, each in its range
pub record SaysLimits (slots bytes batch workers : Option (List ℕ)) (limits : Limits) : Type 0 where
  pub slots_say : Says 4096 slots limits.slots
  pub bytes_say : Says 67108864 bytes limits.bytes
  pub batch_say : Says (min 1000 limits.slots) batch limits.batch
  pub workers_say : Says 2 workers limits.workers
  pub page : limits.page ≡ 1000
  pub within : AreLimits limits

-- the limits have these numbers, each in its range
pub record HasNumbers (slots bytes batch workers : ℕ) (limits : Limits) : Type 0 where
  pub slots_is : limits.slots ≡ slots
  pub bytes_is : limits.bytes ≡ bytes
  pub batch_is : limits.batch ≡ batch
  pub workers_is : limits.workers ≡ workers
  pub page : limits.page ≡ 1000
  pub within : AreLimits limits

abbrev pub IsObject : List ℕ → Type 0
IsObject text = (members : List Member) × AreMembers line_depth text members

-- the limits that the members say
abbrev pub HeldLimits : Held → Limits → Type 0
HeldLimits held = SaysLimits held.slots held.bytes held.batch held.workers

-- this place with its limits, or a number is out of range
abbrev pub ReadsHeld : Held → Result DestConfig ConfigFault → Type 0
ReadsHeld held reading =
    (((limits : Limits) → ¬ HeldLimits held limits) × (reading ≡ Err fault.OutOfRange))
    ⊎ ((limits : Limits) × HeldLimits held limits × (reading ≡ Ok (record { place = held.place; limits = limits })))

-- an object, and then the forms of all members, and then the numbers
abbrev pub ReadsConfig : DestKind → List ℕ → Result DestConfig ConfigFault → Type 0
ReadsConfig kind text reading =
    ((¬ IsObject text) × (reading ≡ Err fault.NotJson))
    ⊎ (IsObject text × ((held : Held) → ¬ Holds kind text held) × (reading ≡ Err fault.Missing))
    ⊎ ((held : Held) × Holds kind text held × ReadsHeld held reading)
