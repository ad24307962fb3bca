-- Lines that are said of the lines of a source and of a destination.
use Rattle.std.specs.Prelude.{ℕ, List, ◌++◌, map, Option, None, Some, nat_lt, if◌then◌else◌, codes}
use Rattle.outside.specs.declared.faults.Side.{Side}
use Rattle.outside.specs.declared.faults.Side.TheVariants as side
use Rattle.airbyte_message.specs.Words.{level_text, failure_text}
use Rattle.airbyte_message.specs.declared.level.Level.{Level}
use Rattle.airbyte_message.specs.declared.failure_type.FailureType.{FailureType}
use Rattle.airbyte_message.specs.declared.failure_type.FailureType.TheVariants as failure
use Rattle.sync_ledger.specs.declared.said.Saying.{Saying}
use Rattle.sync_ledger.specs.declared.said.Saying.TheVariants as saying

abbrev pub side_text : Side → List ℕ
side_text side.Source = codes "source"
side_text side.Dest = codes "dest"

-- Bytes below 32 are said as spaces, so that a message cannot begin a line.
abbrev pub shown : List ℕ → List ℕ
shown text = map (λ byte. if nat_lt byte 32 then 32 else byte) text

-- a line that is no message, with all its bytes
abbrev pub plain_line : Side → List ℕ → List ℕ
plain_line side line = side_text side ++ codes ": " ++ line

-- a line of a log
abbrev pub log_line : Side → Level → List ℕ → List ℕ
log_line side level text = side_text side ++ codes " [" ++ level_text level ++ codes "] " ++ shown text

-- the type of an error; where none is told it is the system's
abbrev pub failure_name : Option FailureType → List ℕ
failure_name None = codes "system_error"
failure_name (Some failure) = failure_text failure

-- an error
abbrev pub error_line : Side → Option FailureType → List ℕ → List ℕ
error_line side failure text = side_text side ++ codes " error " ++ failure_name failure ++ codes " " ++ shown text

-- an error in the configuration ends the sync
abbrev pub error_said : Side → Option FailureType → List ℕ → Saying
error_said side (Some failure.ConfigError) text = saying.ConfigError (error_line side (Some failure.ConfigError) text)
error_said side (Some failure.SystemError) text = saying.Say (error_line side (Some failure.SystemError) text)
error_said side (Some failure.TransientError) text = saying.Say (error_line side (Some failure.TransientError) text)
error_said side None text = saying.Say (error_line side None text)
