-- The names of faults and sides, as statuses say them.
use Rattle.std.specs.Prelude.{ℕ, List, ◌++◌, codes}
use Rattle.std.specs.Fmt.{decimal}
use Rattle.outside.specs.declared.faults.InputKind.{InputKind}
use Rattle.outside.specs.declared.faults.InputKind.TheVariants as input
use Rattle.outside.specs.declared.faults.Side.{Side}
use Rattle.outside.specs.declared.faults.Side.TheVariants as side
use Rattle.outside.specs.declared.faults.Breach.{Breach}
use Rattle.outside.specs.declared.faults.Breach.TheVariants as breach
use Rattle.outside.specs.declared.faults.CatalogFault.{CatalogFault}
use Rattle.outside.specs.declared.faults.CatalogFault.TheVariants as catalog
use Rattle.outside.specs.declared.faults.StateFault.{StateFault}
use Rattle.outside.specs.declared.faults.StateFault.TheVariants as state
use Rattle.outside.specs.declared.faults.ConfigFault.{ConfigFault}
use Rattle.outside.specs.declared.faults.ConfigFault.TheVariants as config
use Rattle.outside.specs.declared.event.Exit.{Exit}
use Rattle.outside.specs.declared.event.Exit.TheVariants as exit

abbrev pub input_text : InputKind → List ℕ
input_text input.BadLine = codes "BadLine"
input_text input.UnknownStream = codes "UnknownStream"
input_text input.Legacy = codes "Legacy"
input_text input.Mixed = codes "Mixed"
input_text input.TooLong = codes "TooLong"
input_text input.TornTail = codes "TornTail"

abbrev pub side_text : Side → List ℕ
side_text side.Source = codes "source"
side_text side.Dest = codes "dest"

-- a breach in the line with this number
abbrev pub breach_text : Breach → ℕ → List ℕ
breach_text breach.UnknownStream line = codes "UnknownStream line " ++ decimal line
breach_text breach.Legacy line = codes "Legacy line " ++ decimal line
breach_text breach.Mixed line = codes "Mixed line " ++ decimal line
breach_text (breach.Miscount said counted) line = codes "Miscount line " ++ (decimal line ++ (codes " said " ++ (decimal said ++ (codes " counted " ++ decimal counted))))
breach_text breach.TooLong line = codes "TooLong line " ++ decimal line
breach_text breach.Stranger line = codes "Stranger line " ++ decimal line

abbrev pub exit_text : Exit → List ℕ
exit_text (exit.Code code) = codes "code " ++ decimal code
exit_text exit.Signal = codes "signal"

-- Want of memory is a status of its own, and no fault of a text.
abbrev pub catalog_number : CatalogFault → ℕ
catalog_number catalog.NoMemory = 70
catalog_number fault = 11

abbrev pub catalog_words : CatalogFault → List ℕ
catalog_words catalog.NotJson = codes "BadCatalog NotJson"
catalog_words catalog.TooMany = codes "BadCatalog TooMany"
catalog_words (catalog.Missing stream) = codes "BadCatalog Missing stream " ++ decimal stream
catalog_words (catalog.BadMode stream) = codes "BadCatalog BadMode stream " ++ decimal stream
catalog_words (catalog.TooLarge stream) = codes "BadCatalog TooLarge stream " ++ decimal stream
catalog_words (catalog.MinimumAboveGeneration stream) = codes "BadCatalog MinimumAboveGeneration stream " ++ decimal stream
catalog_words (catalog.NoKey stream) = codes "BadCatalog NoKey stream " ++ decimal stream
catalog_words (catalog.Twice stream) = codes "BadCatalog Twice stream " ++ decimal stream
catalog_words (catalog.GenerationsSpent stream) = codes "BadCatalog GenerationsSpent stream " ++ decimal stream
catalog_words catalog.NoMemory = codes "NoMemory"

abbrev pub state_number : StateFault → ℕ
state_number state.NoMemory = 70
state_number fault = 12

abbrev pub state_words : StateFault → List ℕ
state_words state.NotJson = codes "BadState NotJson"
state_words state.Legacy = codes "BadState Legacy"
state_words state.Mixed = codes "BadState Mixed"
state_words state.Twice = codes "BadState Twice"
state_words state.TooLarge = codes "BadState TooLarge"
state_words state.Unknown = codes "BadState Unknown"
state_words state.Blob = codes "BadState Blob"
state_words state.OutOfRange = codes "BadState OutOfRange"
state_words state.NoMemory = codes "NoMemory"

abbrev pub config_number : ConfigFault → ℕ
config_number config.NoMemory = 70
config_number fault = 10

abbrev pub config_words : ConfigFault → List ℕ
config_words config.NotJson = codes "BadConfig NotJson"
config_words config.Missing = codes "BadConfig Missing"
config_words config.OutOfRange = codes "BadConfig OutOfRange"
config_words config.NoMemory = codes "NoMemory"
