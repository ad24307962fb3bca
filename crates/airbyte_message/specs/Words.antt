-- The words of the protocol (Airbyte Protocol, version 0: AirbyteLogMessage, FailureType, AirbyteStreamStatus,
-- AirbyteConnectionStatus, AirbyteTraceMessage, AirbyteStateType, AirbyteMessage).
use Rattle.std.specs.Prelude.{ℕ, List, Bool, true, false, codes}
use Rattle.airbyte_message.specs.declared.level.Level.{Level}
use Rattle.airbyte_message.specs.declared.level.Level.TheVariants as level
use Rattle.airbyte_message.specs.declared.failure_type.FailureType.{FailureType}
use Rattle.airbyte_message.specs.declared.failure_type.FailureType.TheVariants as failure
use Rattle.airbyte_message.specs.declared.stream_status.StreamStatus.{StreamStatus}
use Rattle.airbyte_message.specs.declared.stream_status.StreamStatus.TheVariants as status
use Rattle.airbyte_message.specs.declared.trace_message.TraceType.{TraceType}
use Rattle.airbyte_message.specs.declared.trace_message.TraceType.TheVariants as trace
use Rattle.airbyte_message.specs.declared.read.MessageType.{MessageType}
use Rattle.airbyte_message.specs.declared.read.MessageType.TheVariants as message

-- the `level` of a log
abbrev pub level_text : Level → List ℕ
level_text level.Fatal = codes "FATAL"
level_text level.Error = codes "ERROR"
level_text level.Warn = codes "WARN"
level_text level.Info = codes "INFO"
level_text level.Debug = codes "DEBUG"
level_text level.Trace = codes "TRACE"

-- the `failure_type` of an error
abbrev pub failure_text : FailureType → List ℕ
failure_text failure.SystemError = codes "system_error"
failure_text failure.ConfigError = codes "config_error"
failure_text failure.TransientError = codes "transient_error"

-- the `status` of a stream
abbrev pub status_text : StreamStatus → List ℕ
status_text status.Started = codes "STARTED"
status_text status.Running = codes "RUNNING"
status_text status.Complete = codes "COMPLETE"
status_text status.Incomplete = codes "INCOMPLETE"

-- the `status` of a connection
abbrev pub connection_text : Bool → List ℕ
connection_text true = codes "SUCCEEDED"
connection_text false = codes "FAILED"

-- the `type` of a trace
abbrev pub trace_text : TraceType → List ℕ
trace_text trace.Error = codes "ERROR"
trace_text trace.Estimate = codes "ESTIMATE"
trace_text trace.StreamStatus = codes "STREAM_STATUS"
trace_text trace.Analytics = codes "ANALYTICS"

-- the `type` of a line, and the member that holds what it tells
abbrev pub type_text : MessageType → List ℕ
type_text message.Rec = codes "RECORD"
type_text message.State = codes "STATE"
type_text message.Log = codes "LOG"
type_text message.Spec = codes "SPEC"
type_text message.Connection = codes "CONNECTION_STATUS"
type_text message.Catalog = codes "CATALOG"
type_text message.Trace = codes "TRACE"
type_text message.Control = codes "CONTROL"

abbrev pub payload_text : MessageType → List ℕ
payload_text message.Rec = codes "record"
payload_text message.State = codes "state"
payload_text message.Log = codes "log"
payload_text message.Spec = codes "spec"
payload_text message.Connection = codes "connectionStatus"
payload_text message.Catalog = codes "catalog"
payload_text message.Trace = codes "trace"
payload_text message.Control = codes "control"
