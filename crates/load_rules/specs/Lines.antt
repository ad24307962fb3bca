-- Lines, each with the message that it is read as.
use Rattle.std.specs.Prelude.{ℕ, List, map, Bool, true, false, Option, None, Some}
use Rattle.std.specs.List.{AllByRecursion, list_any}
use Rattle.basics.specs.declared.stream.StreamId.{StreamId}
use Rattle.json_fields.specs.Answer.{IsAnswer}
use Rattle.outside.specs.Tables.{same_id}
use Rattle.outside.specs.declared.event.Event.{Event}
use Rattle.outside.specs.declared.event.Event.TheVariants.{ReadLine, Given, Took, Got}
use Rattle.airbyte_message.specs.Messages.{IsMessage}
use Rattle.airbyte_message.specs.declared.message.Message.{Message}
use Rattle.airbyte_message.specs.declared.message.Message.TheVariants as message
use Rattle.airbyte_message.specs.declared.message.RecordMsg.{RecordMsg}
use Rattle.airbyte_message.specs.State.{State}
use Rattle.airbyte_message.specs.declared.message.StateKind.{StateKind}
use Rattle.airbyte_message.specs.declared.message.StateKind.TheVariants as kind
use Rattle.airbyte_message.specs.declared.message.TraceMsg.{TraceMsg}
use Rattle.airbyte_message.specs.declared.message.TraceMsg.TheVariants as trace
use Rattle.airbyte_message.specs.declared.stream_status.StreamStatus.{StreamStatus}

-- a line, and what it is read as
pub record Line : Type 0 where
  pub text : List ℕ
  pub found : Option Message

-- What texts are read as. All that is said of lines here is said of a reading, and a program promises it for every reading that
-- is right of the lines of its trace. So nothing is owed of a line that was taken and could not be read for want of memory. A text
-- is one message or none, so two right readings agree on the lines of a trace. That there is one is said nowhere: what a caller is to
-- have without one is promised of the texts.
abbrev pub Reading : Type 0
Reading = List ℕ → Option Message

abbrev pub line_read : Reading → List ℕ → Line
line_read read text = record { text = text; found = read text }

abbrev pub lines_read : Reading → List (List ℕ) → List Line
lines_read read texts = map (line_read read) texts

-- a text is read as the message that it is, and as none where it is none
abbrev pub ReadsText : Reading → List ℕ → Type 0
ReadsText read text = IsAnswer (IsMessage text) (read text)

-- The lines of a source, and those that a destination was given, took and sent back, are read. What a store emits is not: it is
-- judged by the state that it echoes.
abbrev pub ReadsEvent : Reading → Event → Type 0
ReadsEvent read (ReadLine text) = ReadsText read text
ReadsEvent read (Given text) = ReadsText read text
ReadsEvent read (Took text) = ReadsText read text
ReadsEvent read (Got text) = ReadsText read text
ReadsEvent read event = Unit {0}

-- the reading is right of these events
abbrev pub IsReading : Reading → List Event → Type 0
IsReading read events = AllByRecursion (ReadsEvent read) events

abbrev pub record_in : Option Message → Option RecordMsg
record_in (Some (message.Rec content)) = Some content
record_in found = None

abbrev pub state_in : Option Message → Option State
state_in (Some (message.State state)) = Some state
state_in found = None

pub record Status : Type 0 where
  pub id : StreamId
  pub status : StreamStatus

abbrev pub status_told : TraceMsg → Option Status
status_told (trace.Error text failure emitted_at) = None
status_told (trace.Status id status emitted_at) = Some (record { id = id; status = status })
status_told (trace.Other object) = None

abbrev pub status_in : Option Message → Option Status
status_in (Some (message.Trace content)) = status_told content
status_in found = None

abbrev pub is_known : List StreamId → StreamId → Bool
is_known ids id = list_any (λ own. same_id own id) ids

abbrev pub is_known_kind : List StreamId → StateKind → Bool
is_known_kind ids (kind.Stream id blob) = is_known ids id
is_known_kind ids (kind.Global shared streams) = true
is_known_kind ids kind.Legacy = false

abbrev pub is_known_status : List StreamId → Option Status → Bool
is_known_status ids None = false
is_known_status ids (Some status) = is_known ids status.id

-- A line that a worker passes on: a record, a state or a status of one of these streams. A state of all streams is one.
abbrev pub passes : List StreamId → Option Message → Bool
passes ids None = false
passes ids (Some (message.Rec content)) = is_known ids content.id
passes ids (Some (message.State state)) = is_known_kind ids state.kind
passes ids (Some (message.Trace content)) = is_known_status ids (status_told content)
passes ids (Some (message.Log content)) = false
passes ids (Some (message.Spec content)) = false
passes ids (Some (message.Connection content)) = false
passes ids (Some (message.Catalog content)) = false
passes ids (Some (message.Control content)) = false
