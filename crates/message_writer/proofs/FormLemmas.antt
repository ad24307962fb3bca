-- What can be read has the forms that let it be written and read again.
use Rattle.std.proofs.Common.{◌≡◌, ℕ, ◌≤◌, Bool, true, false, cond, List, Option, None, Some, IsUtf8, bytes_eq, codes, refl, sym, ◌∙◌, subst, arith}
use Rattle.std.proofs.lemmas.Bool.{true≢false}
use Rattle.std.proofs.lemmas.Slice.Eq.{bytes_eq-Decides}
use Rattle.json_span.specs.Members.{IsValue, IsSomeObject}
use Rattle.json_span.specs.Elements.{IsSomeArray}
use Rattle.json_fields.specs.Fields.{HasField, HasOptional, HasText, HasOptionalText, Holds, IsOptionalText, present}
use Rattle.basics.specs.declared.stream.StreamId.{StreamId}
use Rattle.json_fields.specs.Parts.{NestsWithin, IsOptionalNumber}
use Rattle.airbyte_message.specs.Parts.{IsStreamId}
use Rattle.airbyte_message.specs.States.{IsState}
use Rattle.airbyte_message.specs.Traces.{IsTrace, IsTold}
use Rattle.airbyte_message.specs.Messages.{IsRecord, IsControl, IsPayload}
use Rattle.airbyte_message.specs.declared.trace_message.TraceType.{TraceType}
use Rattle.airbyte_message.specs.declared.trace_message.TraceType.TheVariants as trace_types
use Rattle.airbyte_message.specs.declared.read.MessageType.{MessageType}
use Rattle.airbyte_message.specs.declared.read.MessageType.TheVariants as types
use Rattle.airbyte_message.specs.declared.message.Message.{Message}
use Rattle.airbyte_message.specs.declared.message.Message.TheVariants as message
use Rattle.airbyte_message.specs.declared.message.TraceMsg.{TraceMsg}
use Rattle.airbyte_message.specs.declared.message.TraceMsg.TheVariants as trace
use Rattle.airbyte_message.specs.declared.message.RecordMsg.{RecordMsg}
use Rattle.airbyte_message.specs.declared.message.StateMsg.{StateMsg}
use Rattle.airbyte_message.specs.declared.message.ControlMsg.{ControlMsg}
use Rattle.json_write.specs.Values.{IsValueWithin, IsOptionalUtf8}
use Rattle.message_writer.specs.Forms.{IsObjectPart, IsArrayPart, IsOptionalPart, HasNames, HasRecordForms, HasStateForms, HasTraceForms, HasControlForms, HasForms, payload_depth, part_depth, ReadHasForms}
use Rattle.json_write.proofs.Depths.{object_deep, array_value_deep}
use Rattle.json_write.proofs.Meanings.{meaning_utf8}
use Rattle.json_write.proofs.HeldValues.{values_within, holds_has, field_within}

-- ---- texts

text_utf8 : (text name meaning : List ℕ) → HasText text name meaning → IsUtf8 meaning
text_utf8 text name meaning h = meaning_utf8 h.held meaning h.string

optional_utf8 : (text name : List ℕ) (meaning : Option (List ℕ)) → HasOptionalText text name meaning → IsOptionalUtf8 meaning
optional_utf8 text name meaning h = go h.held meaning h.string
  where
    go : (held meaning : Option (List ℕ)) → IsOptionalText held meaning → IsOptionalUtf8 meaning
    go held None s = tt
    go None (Some meaning) e = cc
    go (Some held) (Some meaning) s = meaning_utf8 held meaning s

names : (text member : List ℕ) (id : StreamId) → IsStreamId text member id → HasNames id
names text member id is = record { name = text_utf8 text member id.name is.name; namespace = optional_utf8 text (codes "namespace") id.namespace is.namespace }

-- ---- parts

nests : (limit : ℕ) (text : List ℕ) → IsValueWithin limit text → IsSomeObject text → NestsWithin limit text
nests limit text w o =
    let same = object_deep text o.deep o.members w.is o.object in
    let within = w.within in
    record { members = o.members; object = record { deep = o.deep; within = omega arith; object = o.object } }

object_part : (text : List ℕ) → IsValueWithin part_depth text → IsSomeObject text → IsObjectPart text
object_part text w o = record { value = w.is; nests = nests part_depth text w o }

array_part : (text : List ℕ) → IsValueWithin part_depth text → IsSomeArray text → IsArrayPart text
array_part text w a =
    let same = array_value_deep text a.deep a.spans w.is a.array in
    let within = w.within in
    record { value = w.is; spans = a.spans; nests = record { deep = a.deep; within = omega arith; array = a.array } }

part_of : (text name held : List ℕ) → IsValueWithin payload_depth text → HasField text name held → IsValueWithin part_depth held
part_of text name held w f = field_within part_depth payload_depth text name held (omega arith) w f

-- an optional part, by what its member holds
shown_part : (found held : Option (List ℕ)) → found ≡ present held → ((text : List ℕ) → held ≡ Some text → IsValueWithin part_depth text) → IsOptionalPart found
shown_part found None e within = subst IsOptionalPart (sym e) tt
shown_part found (Some text) e within = subst IsOptionalPart (sym e) (go (bytes_eq text (codes "null")) refl)
  where
    go : (null : Bool) → bytes_eq text (codes "null") ≡ null → IsOptionalPart (cond null None (Some text))
    go true is = tt
    go false is = record { value = within text refl; shown = λ same. true≢false (sym ((bytes_eq-Decides text (codes "null")).1 same) ∙ is) }

optional_part : (text name : List ℕ) (found : Option (List ℕ)) → IsValueWithin payload_depth text → HasOptional text name found → IsOptionalPart found
optional_part text name found w h =
    shown_part found h.held h.is (λ held e. part_of text name held w (record { members = h.members; object = h.object; holds = subst (λ (f : Option (List ℕ)). Holds text name h.members f) e h.holds }))

-- ---- payloads

record_forms : (text : List ℕ) (content : RecordMsg) → IsValueWithin payload_depth text → IsRecord text content → HasRecordForms content
record_forms text content w is = record {
  id = names text (codes "stream") content.id is.id;
  body = object_part content.body (part_of text (codes "data") content.body w is.body.field) is.body.object;
  emitted_at = is.emitted_at.is.small;
  meta = optional_part text (codes "meta") content.meta w is.meta;
}

state_forms : (text : List ℕ) (content : StateMsg) → IsValueWithin payload_depth text → IsState text content → HasStateForms content
state_forms text content w is = record { value = subst IsValue (sym is.object) w.is; state = subst (λ (t : List ℕ). IsState t content) (sym is.object) is }

control_forms : (text : List ℕ) (content : ControlMsg) → IsValueWithin payload_depth text → IsControl text content → HasControlForms content
control_forms text content w is =
    let object = is.type.field.object in
    let nested = nests payload_depth text w (record { deep = object.deep; members = is.type.field.members; object = object.object }) in
    record {
      value = subst IsValue (sym is.object) w.is;
      nests = subst (λ (t : List ℕ). NestsWithin payload_depth t) (sym is.object) nested;
      control = subst (λ (t : List ℕ). IsControl t content) (sym is.object) is;
    }

told_forms : (type : TraceType) (text : List ℕ) (emitted_at : Option (List ℕ)) (content : TraceMsg) → IsValueWithin payload_depth text → NestsWithin payload_depth text → IsTrace text content → IsOptionalNumber emitted_at → IsTold type text emitted_at content → HasTraceForms content
told_forms trace_types.Error text emitted_at (trace.Error meaning failure at) w nested whole number told = record { text = text_utf8 told.0.error (codes "message") meaning told.0.message; number = subst IsOptionalNumber (sym told.1) number }
told_forms trace_types.StreamStatus text emitted_at (trace.Status id status at) w nested whole number told = record { names = names told.0.stream.descriptor (codes "name") id told.0.stream.stream; number = subst IsOptionalNumber (sym told.1) number }
told_forms trace_types.Estimate text emitted_at (trace.Other object) w nested whole number told = record { value = subst IsValue (sym told) w.is; nests = subst (λ (t : List ℕ). NestsWithin payload_depth t) (sym told) nested; trace = subst (λ (t : List ℕ). IsTrace t (trace.Other object)) (sym told) whole }
told_forms trace_types.Analytics text emitted_at (trace.Other object) w nested whole number told = record { value = subst IsValue (sym told) w.is; nests = subst (λ (t : List ℕ). NestsWithin payload_depth t) (sym told) nested; trace = subst (λ (t : List ℕ). IsTrace t (trace.Other object)) (sym told) whole }
told_forms _ text emitted_at _ w nested whole number told = absurd told

trace_forms : (text : List ℕ) (content : TraceMsg) → IsValueWithin payload_depth text → IsTrace text content → HasTraceForms content
trace_forms text content w is =
    let object = is.typed.field.object in
    let nested = nests payload_depth text w (record { deep = object.deep; members = is.typed.field.members; object = object.object }) in
    told_forms is.type text is.emitted_at content w nested is is.number.number is.told

payload_forms : (type : MessageType) (text : List ℕ) (content : Message) → IsValueWithin payload_depth text → IsPayload type text content → HasForms content
payload_forms types.Rec text (message.Rec content) w is = record_forms text content w is
payload_forms types.State text (message.State content) w is = state_forms text content w is
payload_forms types.Log text (message.Log content) w is = text_utf8 text (codes "message") content.text is.message
payload_forms types.Spec text (message.Spec content) w is = object_part content.specification (part_of text (codes "connectionSpecification") content.specification w is.specification.field) is.specification.object
payload_forms types.Connection text (message.Connection content) w is = optional_utf8 text (codes "message") content.text is.message
payload_forms types.Catalog text (message.Catalog content) w is = array_part content.streams (part_of text (codes "streams") content.streams w is.streams.field) is.streams.array
payload_forms types.Trace text (message.Trace content) w is = trace_forms text content w is
payload_forms types.Control text (message.Control content) w is = control_forms text content w is
payload_forms _ text _ w is = absurd is

pub read_has_forms : ReadHasForms
read_has_forms line content is =
    let field = is.field in
    let object = field.object in
    let within : object.deep ≤ 127 = object.within in
    let held = holds_has (IsValueWithin payload_depth) line _ field.members is.payload (values_within payload_depth line object.deep field.members object.object (omega arith)) field.holds in
    payload_forms is.type is.payload content held is.told
