-- The forms that the parts of a message have, so that its line can be read: what the protocol (Airbyte Protocol,
-- version 0) asks of the members that hold them, and no more.
use Rattle.std.specs.Prelude.{◌≢◌, ℕ, ◌-◌, ◌<◌, ◌^◌, List, Option, None, Some, IsUtf8, codes}
use Rattle.json_span.specs.Members.{IsValue}
use Rattle.json_span.specs.Elements.{AreElements}
use Rattle.json_span.specs.declared.Span.{Span}
use Rattle.json_fields.specs.Fields.{line_depth}
use Rattle.json_write.specs.Values.{IsValueWithin, IsOptionalUtf8}
use Rattle.basics.specs.declared.stream.StreamId.{StreamId}
use Rattle.json_fields.specs.Parts.{IsOptionalNumber, NestsWithin}
use Rattle.airbyte_message.specs.States.{IsState}
use Rattle.airbyte_message.specs.Traces.{IsTrace}
use Rattle.airbyte_message.specs.Messages.{IsControl, IsMessage}
use Rattle.airbyte_message.specs.declared.message.Message.{Message}
use Rattle.airbyte_message.specs.declared.message.Message.TheVariants as message
use Rattle.airbyte_message.specs.declared.message.RecordMsg.{RecordMsg}
use Rattle.airbyte_message.specs.declared.message.StateMsg.{StateMsg}
use Rattle.airbyte_message.specs.declared.message.TraceMsg.{TraceMsg}
use Rattle.airbyte_message.specs.declared.message.TraceMsg.TheVariants as trace
use Rattle.airbyte_message.specs.declared.message.ControlMsg.{ControlMsg}

-- what a line tells nests in one object, the line, and a part of that in two
abbrev pub payload_depth : ℕ
payload_depth = line_depth - 1

abbrev pub part_depth : ℕ
part_depth = line_depth - 2

-- the part is a JSON object
pub record IsObjectPart (text : List ℕ) : Type 0 where
  pub value : IsValue text
  pub nests : NestsWithin part_depth text

-- the part is a JSON array
pub record IsArrayPart (text : List ℕ) : Type 0 where
  pub value : IsValue text
  pub spans : List Span
  pub nests : AreElements part_depth text spans

-- the part is a JSON value, and not `null`, which counts as absent
pub record IsShownPart (text : List ℕ) : Type 0 where
  pub value : IsValueWithin part_depth text
  pub shown : text ≢ codes "null"

-- absent, or such a part
abbrev pub IsOptionalPart : Option (List ℕ) → Type 0
IsOptionalPart None = Unit {0}
IsOptionalPart (Some text) = IsShownPart text

-- the stream's names are texts
pub record HasNames (id : StreamId) : Type 0 where
  pub name : IsUtf8 id.name
  pub namespace : IsOptionalUtf8 id.namespace

pub record HasRecordForms (content : RecordMsg) : Type 0 where
  pub id : HasNames content.id
  pub body : IsObjectPart content.body
  pub emitted_at : content.emitted_at < 2 ^ 63
  pub meta : IsOptionalPart content.meta

-- The object is that of a state of this kind with this count; so it nests at most 124 deep.
pub record HasStateForms (content : StateMsg) : Type 0 where
  pub value : IsValue content.object
  pub state : IsState content.object content

pub record HasErrorForms (message : List ℕ) (emitted_at : Option (List ℕ)) : Type 0 where
  pub text : IsUtf8 message
  pub number : IsOptionalNumber emitted_at

pub record HasStatusForms (id : StreamId) (emitted_at : Option (List ℕ)) : Type 0 where
  pub names : HasNames id
  pub number : IsOptionalNumber emitted_at

-- the object is that of a trace of another type
pub record HasOtherForms (object : List ℕ) : Type 0 where
  pub value : IsValue object
  pub nests : NestsWithin payload_depth object
  pub trace : IsTrace object (trace.Other object)

abbrev pub HasTraceForms : TraceMsg → Type 0
HasTraceForms (trace.Error text failure emitted_at) = HasErrorForms text emitted_at
HasTraceForms (trace.Status id status emitted_at) = HasStatusForms id emitted_at
HasTraceForms (trace.Other object) = HasOtherForms object

-- the object is that of a CONTROL line
pub record HasControlForms (content : ControlMsg) : Type 0 where
  pub value : IsValue content.object
  pub nests : NestsWithin payload_depth content.object
  pub control : IsControl content.object content

-- the message's parts have the forms of its line
abbrev pub HasForms : Message → Type 0
HasForms (message.Rec content) = HasRecordForms content
HasForms (message.State content) = HasStateForms content
HasForms (message.Log content) = IsUtf8 content.text
HasForms (message.Spec content) = IsObjectPart content.specification
HasForms (message.Connection content) = IsOptionalUtf8 content.text
HasForms (message.Catalog content) = IsArrayPart content.streams
HasForms (message.Trace content) = HasTraceForms content
HasForms (message.Control content) = HasControlForms content

-- Every message that a line is has these forms.
abbrev pub ReadHasForms : Type 0
ReadHasForms = (line : List ℕ) (content : Message) → IsMessage line content → HasForms content
