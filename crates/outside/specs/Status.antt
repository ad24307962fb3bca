-- The number and the words of each status.
use Rattle.std.specs.Prelude.{ℕ, List, ◌++◌, codes}
use Rattle.std.specs.Fmt.{decimal}
use Rattle.outside.specs.Faults.{input_text, side_text, breach_text, exit_text, catalog_number, catalog_words, state_number, state_words, config_number, config_words}
use Rattle.outside.specs.declared.faults.CatalogFault.{CatalogFault}
use Rattle.outside.specs.declared.faults.CatalogFault.TheVariants as catalog
use Rattle.outside.specs.declared.faults.StateFault.{StateFault}
use Rattle.outside.specs.declared.faults.StateFault.TheVariants as state
use Rattle.outside.specs.declared.faults.ConfigFault.{ConfigFault}
use Rattle.outside.specs.declared.faults.ConfigFault.TheVariants as config
use Rattle.outside.specs.declared.status.Status.{Status}
use Rattle.outside.specs.declared.status.Status.TheVariants as status

abbrev pub number_of : Status → ℕ
number_of status.Ok = 0
number_of status.Usage = 2
number_of (status.Incomplete stream) = 3
number_of (status.BadInput kind line) = 4
number_of status.StoreFault = 5
number_of status.ReadFault = 6
number_of status.WriteFault = 7
number_of status.RowFault = 8
number_of (status.BadRow stream row) = 9
number_of (status.BadConfig fault) = config_number fault
number_of (status.BadCatalog fault) = catalog_number fault
number_of (status.BadState fault) = state_number fault
number_of status.FileFault = 13
number_of (status.SourceFailed exit) = 20
number_of (status.SourceBreach breach line) = 21
number_of (status.SourceIncomplete stream) = 22
number_of (status.Silent waits) = 23
number_of (status.ConfigError side line) = 24
number_of (status.CheckFailed line) = 25
number_of status.NoAnswer = 26
number_of (status.DestFailed exit) = 30
number_of (status.DestBreach breach line) = 31
number_of (status.DestUnechoed line) = 32
number_of status.DestEarly = 33
number_of status.LinkFault = 40
number_of status.StateFault = 41
number_of status.SayFault = 42
number_of status.TooManyLines = 50
number_of (status.Unbuilt line) = 60
number_of status.NoMemory = 70

abbrev pub words_of : Status → List ℕ
words_of status.Ok = codes "Ok"
words_of status.Usage = codes "Usage"
words_of (status.Incomplete stream) = codes "Incomplete stream " ++ decimal stream
words_of (status.BadInput kind line) = codes "BadInput " ++ (input_text kind ++ (codes " line " ++ decimal line))
words_of status.StoreFault = codes "StoreFault"
words_of status.ReadFault = codes "ReadFault"
words_of status.WriteFault = codes "WriteFault"
words_of status.RowFault = codes "RowFault"
words_of (status.BadRow stream row) = codes "BadRow stream " ++ (decimal stream ++ (codes " row " ++ decimal row))
words_of (status.BadConfig fault) = config_words fault
words_of (status.BadCatalog fault) = catalog_words fault
words_of (status.BadState fault) = state_words fault
words_of status.FileFault = codes "FileFault"
words_of (status.SourceFailed exit) = codes "SourceFailed " ++ exit_text exit
words_of (status.SourceBreach breach line) = codes "SourceBreach " ++ breach_text breach line
words_of (status.SourceIncomplete stream) = codes "SourceIncomplete stream " ++ decimal stream
words_of (status.Silent waits) = codes "Silent waits " ++ decimal waits
words_of (status.ConfigError side line) = codes "ConfigError " ++ (side_text side ++ (codes " line " ++ decimal line))
words_of (status.CheckFailed line) = codes "CheckFailed line " ++ decimal line
words_of status.NoAnswer = codes "NoAnswer"
words_of (status.DestFailed exit) = codes "DestFailed " ++ exit_text exit
words_of (status.DestBreach breach line) = codes "DestBreach " ++ breach_text breach line
words_of (status.DestUnechoed line) = codes "DestUnechoed line " ++ decimal line
words_of status.DestEarly = codes "DestEarly"
words_of status.LinkFault = codes "LinkFault"
words_of status.StateFault = codes "StateFault"
words_of status.SayFault = codes "SayFault"
words_of status.TooManyLines = codes "TooManyLines"
words_of (status.Unbuilt line) = codes "Unbuilt line " ++ decimal line
words_of status.NoMemory = codes "NoMemory"

-- the number, a space and the words
abbrev pub status_text : Status → List ℕ
status_text s = decimal (number_of s) ++ (codes " " ++ words_of s)

-- the status that a fault of a text makes
abbrev pub catalog_status : CatalogFault → Status
catalog_status catalog.NoMemory = status.NoMemory
catalog_status fault = status.BadCatalog fault

abbrev pub state_status : StateFault → Status
state_status state.NoMemory = status.NoMemory
state_status fault = status.BadState fault

abbrev pub config_status : ConfigFault → Status
config_status config.NoMemory = status.NoMemory
config_status fault = status.BadConfig fault
