-- How messages are written (Airbyte Protocol, version 0): their members in this order, without white space.
use Rattle.std.specs.Prelude.{ℕ, List, [], ◌∷◌, Option, option_map, codes}
use Rattle.std.specs.Fmt.{decimal}
use Rattle.json.specs.Print.{quoted}
use Rattle.basics.specs.declared.stream.StreamId.{StreamId}
use Rattle.airbyte_message.specs.Words.{level_text, failure_text, status_text, connection_text, trace_text, type_text, payload_text}
use Rattle.airbyte_message.specs.declared.failure_type.FailureType.{FailureType}
use Rattle.airbyte_message.specs.declared.stream_status.StreamStatus.{StreamStatus}
use Rattle.airbyte_message.specs.declared.trace_message.TraceType.{TraceType}
use Rattle.airbyte_message.specs.declared.trace_message.TraceType.TheVariants as trace_types
use Rattle.airbyte_message.specs.declared.read.MessageType.{MessageType}
use Rattle.airbyte_message.specs.declared.read.MessageType.TheVariants as types
use Rattle.airbyte_message.specs.declared.message.Message.{Message}
use Rattle.airbyte_message.specs.declared.message.Message.TheVariants as message
use Rattle.airbyte_message.specs.declared.message.TraceMsg.{TraceMsg}
use Rattle.airbyte_message.specs.declared.message.TraceMsg.TheVariants as trace
use Rattle.airbyte_message.specs.declared.message.RecordMsg.{RecordMsg}
use Rattle.airbyte_message.specs.declared.message.LogMsg.{LogMsg}
use Rattle.airbyte_message.specs.declared.message.SpecMsg.{SpecMsg}
use Rattle.airbyte_message.specs.declared.message.ConnectionMsg.{ConnectionMsg}
use Rattle.airbyte_message.specs.declared.message.CatalogMsg.{CatalogMsg}
use Rattle.json_write.specs.Objects.{Part, named, object_text, optional}

-- a stream: its name in the member of this name, and its namespace where it has one
abbrev pub id_parts : List ℕ → StreamId → List Part → List Part
id_parts member id parts = named member (quoted id.name) ∷ optional (codes "namespace") (option_map quoted id.namespace) parts

abbrev pub record_text : RecordMsg → List ℕ
record_text content = object_text (id_parts (codes "stream") content.id (named (codes "data") content.body ∷ named (codes "emitted_at") (decimal content.emitted_at) ∷ optional (codes "meta") content.meta []))

abbrev pub log_text : LogMsg → List ℕ
log_text content = object_text (named (codes "level") (quoted (level_text content.level)) ∷ named (codes "message") (quoted content.text) ∷ [])

abbrev pub spec_text : SpecMsg → List ℕ
spec_text content = object_text (named (codes "connectionSpecification") content.specification ∷ [])

abbrev pub status_object : ConnectionMsg → List ℕ
status_object content = object_text (named (codes "status") (quoted (connection_text content.succeeded)) ∷ optional (codes "message") (option_map quoted content.text) [])

abbrev pub catalog_text : CatalogMsg → List ℕ
catalog_text content = object_text (named (codes "streams") content.streams ∷ [])

-- a trace of this type with one member more
abbrev pub told_text : TraceType → Option (List ℕ) → List ℕ → List ℕ → List ℕ
told_text type emitted_at name value = object_text (named (codes "type") (quoted (trace_text type)) ∷ optional (codes "emitted_at") emitted_at (named name value ∷ []))

abbrev pub error_text : List ℕ → Option FailureType → List ℕ
error_text text failure = object_text (named (codes "message") (quoted text) ∷ optional (codes "failure_type") (option_map (λ f. quoted (failure_text f)) failure) [])

abbrev pub stream_status_text : StreamId → StreamStatus → List ℕ
stream_status_text id status = object_text (named (codes "stream_descriptor") (object_text (id_parts (codes "name") id [])) ∷ named (codes "status") (quoted (status_text status)) ∷ [])

abbrev pub trace_object : TraceMsg → List ℕ
trace_object (trace.Error text failure emitted_at) = told_text trace_types.Error emitted_at (codes "error") (error_text text failure)
trace_object (trace.Status id status emitted_at) = told_text trace_types.StreamStatus emitted_at (codes "stream_status") (stream_status_text id status)
trace_object (trace.Other object) = object

-- the type of a message's line
abbrev pub type_of : Message → MessageType
type_of (message.Rec content) = types.Rec
type_of (message.State content) = types.State
type_of (message.Log content) = types.Log
type_of (message.Spec content) = types.Spec
type_of (message.Connection content) = types.Connection
type_of (message.Catalog content) = types.Catalog
type_of (message.Trace content) = types.Trace
type_of (message.Control content) = types.Control

-- what it tells
abbrev pub payload_of : Message → List ℕ
payload_of (message.Rec content) = record_text content
payload_of (message.State content) = content.object
payload_of (message.Log content) = log_text content
payload_of (message.Spec content) = spec_text content
payload_of (message.Connection content) = status_object content
payload_of (message.Catalog content) = catalog_text content
payload_of (message.Trace content) = trace_object content
payload_of (message.Control content) = content.object

-- a line of this type
abbrev pub line_text : MessageType → List ℕ → List ℕ
line_text type payload = object_text (named (codes "type") (quoted (type_text type)) ∷ named (payload_text type) payload ∷ [])

-- the line of a message
abbrev pub written : Message → List ℕ
written content = line_text (type_of content) (payload_of content)
