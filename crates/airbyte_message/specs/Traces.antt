-- The `trace` of a TRACE line (Airbyte Protocol, version 0: AirbyteTraceMessage).
use Rattle.std.specs.Prelude.{◌≡◌, ℕ, List, Option, option_map, codes}
use Rattle.json_fields.specs.Fields.{HasField, HasText, HasOptionalText}
use Rattle.basics.specs.declared.stream.StreamId.{StreamId}
use Rattle.json_fields.specs.Parts.{HasOptionalNumber}
use Rattle.airbyte_message.specs.Parts.{HasDescriptor}
use Rattle.airbyte_message.specs.Words.{trace_text, failure_text, status_text}
use Rattle.airbyte_message.specs.declared.failure_type.FailureType.{FailureType}
use Rattle.airbyte_message.specs.declared.stream_status.StreamStatus.{StreamStatus}
use Rattle.airbyte_message.specs.declared.message.TraceMsg.{TraceMsg}
use Rattle.airbyte_message.specs.declared.message.TraceMsg.TheVariants as trace
use Rattle.airbyte_message.specs.declared.trace_message.TraceType.{TraceType}
use Rattle.airbyte_message.specs.declared.trace_message.TraceType.TheVariants as types

-- the `error` of a trace of type ERROR
pub record HasError (text meaning : List ℕ) (type : Option FailureType) : Type 0 where
  pub error : List ℕ
  pub field : HasField text (codes "error") error
  pub message : HasText error (codes "message") meaning
  pub failure : HasOptionalText error (codes "failure_type") (option_map failure_text type)

-- the `stream_status` of a trace of type STREAM_STATUS
pub record HasStatus (text : List ℕ) (id : StreamId) (progress : StreamStatus) : Type 0 where
  pub held : List ℕ
  pub field : HasField text (codes "stream_status") held
  pub stream : HasDescriptor held id
  pub status : HasText held (codes "status") (status_text progress)

-- what a trace of this type tells, where this is its `emitted_at`
abbrev pub IsTold : TraceType → List ℕ → Option (List ℕ) → TraceMsg → Type 0
IsTold types.Error text emitted_at (trace.Error message failure at) = HasError text message failure × (at ≡ emitted_at)
IsTold types.StreamStatus text emitted_at (trace.Status id status at) = HasStatus text id status × (at ≡ emitted_at)
IsTold types.Estimate text emitted_at (trace.Other object) = object ≡ text
IsTold types.Analytics text emitted_at (trace.Other object) = object ≡ text
IsTold _ text emitted_at _ = ⊥

pub record IsTrace (text : List ℕ) (content : TraceMsg) : Type 0 where
  pub type : TraceType
  pub typed : HasText text (codes "type") (trace_text type)
  pub emitted_at : Option (List ℕ)
  pub number : HasOptionalNumber text (codes "emitted_at") emitted_at
  pub told : IsTold type text emitted_at content
