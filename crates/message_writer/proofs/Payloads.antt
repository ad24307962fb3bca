-- What each kind of payload reads back as.
use Rattle.std.proofs.Common.{◌≡◌, ℕ, ◌-◌, Bool, true, false, List, [], ◌∷◌, Option, None, Some, option_map, IsUtf8, codes, refl, sym, ◌∙◌, subst, arith}
use Rattle.std.specs.Fmt.{decimal}
use Rattle.json.specs.Print.{escape_byte, quoted}
use Rattle.json.proofs.Printed.Utf8.{are_ascii, IsUtf8-are_ascii}
use Rattle.json_fields.specs.Fields.{HasText, HasOptionalText, line_depth}
use Rattle.basics.specs.declared.stream.StreamId.{StreamId}
use Rattle.json_fields.specs.Parts.{IsOptionalNumber}
use Rattle.airbyte_message.specs.Parts.{IsStreamId, HasDescriptor}
use Rattle.airbyte_message.specs.Words.{level_text, failure_text, status_text, connection_text, trace_text, type_text, payload_text}
use Rattle.airbyte_message.specs.States.{state_depth}
use Rattle.airbyte_message.specs.Traces.{IsTrace}
use Rattle.airbyte_message.specs.Messages.{IsRecord, IsLog, IsSpec, IsConnection, IsCatalog, IsPayload, IsMessage}
use Rattle.airbyte_message.specs.declared.level.Level.{Level}
use Rattle.airbyte_message.specs.declared.level.Level.TheVariants as level
use Rattle.airbyte_message.specs.declared.failure_type.FailureType.{FailureType}
use Rattle.airbyte_message.specs.declared.failure_type.FailureType.TheVariants as failure_type
use Rattle.airbyte_message.specs.declared.stream_status.StreamStatus.{StreamStatus}
use Rattle.airbyte_message.specs.declared.stream_status.StreamStatus.TheVariants as stream_status
use Rattle.airbyte_message.specs.declared.trace_message.TraceType.{TraceType}
use Rattle.airbyte_message.specs.declared.trace_message.TraceType.TheVariants as trace_types
use Rattle.airbyte_message.specs.declared.read.MessageType.{MessageType}
use Rattle.airbyte_message.specs.declared.read.MessageType.TheVariants as types
use Rattle.airbyte_message.specs.declared.message.Message.{Message}
use Rattle.airbyte_message.specs.declared.message.Message.TheVariants as message
use Rattle.airbyte_message.specs.declared.message.TraceMsg.{TraceMsg}
use Rattle.airbyte_message.specs.declared.message.TraceMsg.TheVariants as trace
use Rattle.airbyte_message.specs.declared.message.RecordMsg.{RecordMsg}
use Rattle.airbyte_message.specs.declared.message.LogMsg.{LogMsg}
use Rattle.airbyte_message.specs.declared.message.SpecMsg.{SpecMsg}
use Rattle.airbyte_message.specs.declared.message.ConnectionMsg.{ConnectionMsg}
use Rattle.airbyte_message.specs.declared.message.CatalogMsg.{CatalogMsg}
use Rattle.json_write.specs.Objects.{Part, named, object_text, optional}
use Rattle.json_write.specs.Laws.{last_of}
use Rattle.json_write.specs.Values.{IsValueWithin, IsOptionalUtf8, IsOptionalWithin}
use Rattle.message_writer.specs.Written.{id_parts, record_text, log_text, spec_text, status_object, catalog_text, told_text, error_text, stream_status_text, trace_object, line_text, written}
use Rattle.message_writer.specs.Forms.{IsObjectPart, IsArrayPart, HasNames, HasRecordForms, HasTraceForms, HasForms, payload_depth, part_depth}
use Rattle.json_write.proofs.Fields.{AreWritten, Reads, reads, word_part, optional_written, has_field, has_optional, has_text, has_optional_text, has_count, has_object, has_array, has_optional_number}
use Rattle.json_write.proofs.Values.{within_more, text_within, decimal_within, optional_text_within, optional_number_within, nested_within}
use Rattle.message_writer.proofs.Sounds.{optional_part_within, object_part_within, object_part_is, array_part_within, array_part_is, part_present}

-- ---- words are ASCII

level_utf8 : (l : Level) → IsUtf8 (level_text l)
level_utf8 level.Fatal = IsUtf8-are_ascii _ refl
level_utf8 level.Error = IsUtf8-are_ascii _ refl
level_utf8 level.Warn = IsUtf8-are_ascii _ refl
level_utf8 level.Info = IsUtf8-are_ascii _ refl
level_utf8 level.Debug = IsUtf8-are_ascii _ refl
level_utf8 level.Trace = IsUtf8-are_ascii _ refl

failure_utf8 : (f : FailureType) → IsUtf8 (failure_text f)
failure_utf8 failure_type.SystemError = IsUtf8-are_ascii _ refl
failure_utf8 failure_type.ConfigError = IsUtf8-are_ascii _ refl
failure_utf8 failure_type.TransientError = IsUtf8-are_ascii _ refl

status_utf8 : (s : StreamStatus) → IsUtf8 (status_text s)
status_utf8 stream_status.Started = IsUtf8-are_ascii _ refl
status_utf8 stream_status.Running = IsUtf8-are_ascii _ refl
status_utf8 stream_status.Complete = IsUtf8-are_ascii _ refl
status_utf8 stream_status.Incomplete = IsUtf8-are_ascii _ refl

connection_utf8 : (succeeded : Bool) → IsUtf8 (connection_text succeeded)
connection_utf8 true = IsUtf8-are_ascii _ refl
connection_utf8 false = IsUtf8-are_ascii _ refl

trace_utf8 : (t : TraceType) → IsUtf8 (trace_text t)
trace_utf8 trace_types.Error = IsUtf8-are_ascii _ refl
trace_utf8 trace_types.Estimate = IsUtf8-are_ascii _ refl
trace_utf8 trace_types.StreamStatus = IsUtf8-are_ascii _ refl
trace_utf8 trace_types.Analytics = IsUtf8-are_ascii _ refl

-- what a payload is
pub record Payload (limit : ℕ) (text : List ℕ) (P : List ℕ → Type 0) : Type 0 where
  pub value : IsValueWithin limit text
  pub is : P text

-- ---- RECORD

abbrev record_parts : List ℕ → Option (List ℕ) → List ℕ → List ℕ → Option (List ℕ) → List Part
record_parts stream space body emitted_at meta = named (codes "stream") (stream) ∷ optional (codes "namespace") space (named (codes "data") (body) ∷ named (codes "emitted_at") (emitted_at) ∷ optional (codes "meta") meta [])

record RecordFields (parts : List Part) (stream : List ℕ) (space : Option (List ℕ)) (body emitted_at : List ℕ) (meta : Option (List ℕ)) : Type 0 where
  stream_is : last_of (codes "stream") parts ≡ Some stream
  space_is : last_of (codes "namespace") parts ≡ space
  body_is : last_of (codes "data") parts ≡ Some body
  emitted_at_is : last_of (codes "emitted_at") parts ≡ Some emitted_at
  meta_is : last_of (codes "meta") parts ≡ meta

record_fields : (stream : List ℕ) (space : Option (List ℕ)) (body emitted_at : List ℕ) (meta : Option (List ℕ)) → RecordFields (record_parts stream space body emitted_at meta) stream space body emitted_at meta
unfolding escape_byte
record_fields stream None body emitted_at None = record { stream_is = refl; space_is = refl; body_is = refl; emitted_at_is = refl; meta_is = refl }
record_fields stream None body emitted_at (Some meta) = record { stream_is = refl; space_is = refl; body_is = refl; emitted_at_is = refl; meta_is = refl }
record_fields stream (Some space) body emitted_at None = record { stream_is = refl; space_is = refl; body_is = refl; emitted_at_is = refl; meta_is = refl }
record_fields stream (Some space) body emitted_at (Some meta) = record { stream_is = refl; space_is = refl; body_is = refl; emitted_at_is = refl; meta_is = refl }

pub record_payload : (content : RecordMsg) → HasRecordForms content → Payload payload_depth (record_text content) (λ text. IsRecord text content)
record_payload content h =
    let name = quoted content.id.name in
    let space = option_map quoted content.id.namespace in
    let count = decimal content.emitted_at in
    let text = record_text content in
    let parts = record_parts name space content.body count content.meta in
    let meta_sound : AreWritten part_depth (optional (codes "meta") content.meta []) = optional_written part_depth (codes "meta") content.meta [] refl (optional_part_within content.meta h.meta) tt in
    let tail_sound : AreWritten part_depth (named (codes "data") (content.body) ∷ named (codes "emitted_at") (count) ∷ optional (codes "meta") content.meta []) =
    (word_part _ (codes "data") _ refl (object_part_within content.body h.body), (word_part _ (codes "emitted_at") _ refl (decimal_within part_depth content.emitted_at (let small = h.emitted_at in omega arith)), meta_sound)) in
    let sound : AreWritten part_depth parts =
    (word_part _ (codes "stream") _ refl (text_within part_depth content.id.name h.id.name), optional_written part_depth (codes "namespace") space _ refl (optional_text_within part_depth content.id.namespace h.id.namespace) tail_sound) in
    let r : Reads payload_depth text parts = reads part_depth _ sound payload_depth (omega arith) (omega arith) in
    let f = record_fields name space content.body count content.meta in
    record {
      value = r.value;
      is = record {
        id = record {
          name = has_text payload_depth text parts r (codes "stream") content.id.name h.id.name f.stream_is;
          namespace = has_optional_text payload_depth text parts r (codes "namespace") content.id.namespace h.id.namespace f.space_is;
        };
        body = has_object payload_depth text parts r (codes "data") content.body (object_part_is content.body h.body) f.body_is;
        emitted_at = has_count payload_depth text parts r (codes "emitted_at") content.emitted_at h.emitted_at f.emitted_at_is;
        meta = has_optional payload_depth text parts r (codes "meta") content.meta f.meta_is (part_present content.meta h.meta);
      };
    }

-- ---- LOG

pub log_payload : (content : LogMsg) → IsUtf8 content.text → Payload payload_depth (log_text content) (λ text. IsLog text content)
unfolding escape_byte
log_payload content u =
    let level = level_text content.level in
    let text = log_text content in
    let parts : List Part = named (codes "level") (quoted level) ∷ named (codes "message") (quoted content.text) ∷ [] in
    let sound : AreWritten part_depth parts = (word_part _ (codes "level") _ refl (text_within part_depth level (level_utf8 content.level)), (word_part _ (codes "message") _ refl (text_within part_depth content.text u), tt)) in
    let r : Reads payload_depth text parts = reads part_depth _ sound payload_depth (omega arith) (omega arith) in
    record {
      value = r.value;
      is = record {
        level = has_text payload_depth text parts r (codes "level") level (level_utf8 content.level) refl;
        message = has_text payload_depth text parts r (codes "message") content.text u refl;
      };
    }

-- ---- SPEC

pub spec_payload : (content : SpecMsg) → IsObjectPart content.specification → Payload payload_depth (spec_text content) (λ text. IsSpec text content)
unfolding escape_byte
spec_payload content h =
    let text = spec_text content in
    let parts : List Part = named (codes "connectionSpecification") (content.specification) ∷ [] in
    let sound : AreWritten part_depth parts = (word_part _ (codes "connectionSpecification") _ refl (object_part_within content.specification h), tt) in
    let r : Reads payload_depth text parts = reads part_depth _ sound payload_depth (omega arith) (omega arith) in
    record { value = r.value; is = record { specification = has_object payload_depth text parts r (codes "connectionSpecification") content.specification (object_part_is content.specification h) refl } }

-- ---- CATALOG

pub catalog_payload : (content : CatalogMsg) → IsArrayPart content.streams → Payload payload_depth (catalog_text content) (λ text. IsCatalog text content)
unfolding escape_byte
catalog_payload content h =
    let text = catalog_text content in
    let parts : List Part = named (codes "streams") (content.streams) ∷ [] in
    let sound : AreWritten part_depth parts = (word_part _ (codes "streams") _ refl (array_part_within content.streams h), tt) in
    let r : Reads payload_depth text parts = reads part_depth _ sound payload_depth (omega arith) (omega arith) in
    record { value = r.value; is = record { streams = has_array payload_depth text parts r (codes "streams") content.streams (array_part_is content.streams h) refl } }

-- ---- CONNECTION_STATUS

-- a first part and an optional one
record PairFields (first second : List ℕ) (parts : List Part) (value : List ℕ) (other : Option (List ℕ)) : Type 0 where
  value_is : last_of first parts ≡ Some value
  other_is : last_of second parts ≡ other

connection_fields : (status : List ℕ) (text : Option (List ℕ)) → PairFields (codes "status") (codes "message") (named (codes "status") (status) ∷ optional (codes "message") text []) status text
unfolding escape_byte
connection_fields status None = record { value_is = refl; other_is = refl }
connection_fields status (Some text) = record { value_is = refl; other_is = refl }

pub connection_payload : (content : ConnectionMsg) → IsOptionalUtf8 content.text → Payload payload_depth (status_object content) (λ text. IsConnection text content)
unfolding escape_byte
connection_payload content u =
    let status = connection_text content.succeeded in
    let message = option_map quoted content.text in
    let text = status_object content in
    let parts : List Part = named (codes "status") (quoted status) ∷ optional (codes "message") message [] in
    let sound : AreWritten part_depth parts = (word_part _ (codes "status") _ refl (text_within part_depth status (connection_utf8 content.succeeded)), optional_written part_depth (codes "message") message [] refl (optional_text_within part_depth content.text u) tt) in
    let r : Reads payload_depth text parts = reads part_depth _ sound payload_depth (omega arith) (omega arith) in
    let f = connection_fields (quoted status) message in
    record {
      value = r.value;
      is = record {
        status = has_text payload_depth text parts r (codes "status") status (connection_utf8 content.succeeded) f.value_is;
        message = has_optional_text payload_depth text parts r (codes "message") content.text u f.other_is;
      };
    }

-- ---- TRACE

-- depths inside a trace
abbrev inner_depth : ℕ
inner_depth = part_depth - 1

abbrev innermost_depth : ℕ
innermost_depth = part_depth - 2

error_fields : (message : List ℕ) (failure : Option (List ℕ)) → PairFields (codes "message") (codes "failure_type") (named (codes "message") (message) ∷ optional (codes "failure_type") failure []) message failure
unfolding escape_byte
error_fields message None = record { value_is = refl; other_is = refl }
error_fields message (Some failure) = record { value_is = refl; other_is = refl }

-- a failure's word, as a text
failure_is : (failure : Option FailureType) → option_map (λ f. quoted (failure_text f)) failure ≡ option_map quoted (option_map failure_text failure)
failure_is None = refl
failure_is (Some failure) = refl

optional_failure_utf8 : (failure : Option FailureType) → IsOptionalUtf8 (option_map failure_text failure)
optional_failure_utf8 None = tt
optional_failure_utf8 (Some failure) = failure_utf8 failure

-- the `error` of a trace
record IsErrorText (error meaning : List ℕ) (failure : Option FailureType) : Type 0 where
  message : HasText error (codes "message") meaning
  type : HasOptionalText error (codes "failure_type") (option_map failure_text failure)

error_object : (meaning : List ℕ) (failure : Option FailureType) → IsUtf8 meaning → Payload part_depth (error_text meaning failure) (λ text. IsErrorText text meaning failure)
unfolding escape_byte
error_object meaning failure u =
    let word = option_map (λ f. quoted (failure_text f)) failure in
    let same = failure_is failure in
    let text = error_text meaning failure in
    let parts : List Part = named (codes "message") (quoted meaning) ∷ optional (codes "failure_type") word [] in
    let within : IsOptionalWithin inner_depth word = subst (λ (o : Option (List ℕ)). IsOptionalWithin inner_depth o) (sym same) (optional_text_within inner_depth (option_map failure_text failure) (optional_failure_utf8 failure)) in
    let sound : AreWritten inner_depth parts = (word_part _ (codes "message") _ refl (text_within inner_depth meaning u), optional_written inner_depth (codes "failure_type") word [] refl within tt) in
    let r : Reads part_depth text parts = reads inner_depth _ sound part_depth (omega arith) (omega arith) in
    let f = error_fields (quoted meaning) word in
    record {
      value = r.value;
      is = record {
        message = has_text part_depth text parts r (codes "message") meaning u f.value_is;
        type = has_optional_text part_depth text parts r (codes "failure_type") (option_map failure_text failure) (optional_failure_utf8 failure) (f.other_is ∙ same);
      };
    }

-- the `stream_descriptor` of a stream status
descriptor_fields : (name : List ℕ) (space : Option (List ℕ)) → PairFields (codes "name") (codes "namespace") (named (codes "name") (name) ∷ optional (codes "namespace") space []) name space
unfolding escape_byte
descriptor_fields name None = record { value_is = refl; other_is = refl }
descriptor_fields name (Some space) = record { value_is = refl; other_is = refl }

descriptor_object : (id : StreamId) → HasNames id → Payload inner_depth (object_text (id_parts (codes "name") id [])) (λ text. IsStreamId text (codes "name") id)
unfolding escape_byte
descriptor_object id h =
    let name = quoted id.name in
    let space = option_map quoted id.namespace in
    let text = object_text (id_parts (codes "name") id []) in
    let parts : List Part = id_parts (codes "name") id [] in
    let sound : AreWritten innermost_depth parts = (word_part _ (codes "name") _ refl (text_within innermost_depth id.name h.name), optional_written innermost_depth (codes "namespace") space [] refl (optional_text_within innermost_depth id.namespace h.namespace) tt) in
    let r : Reads inner_depth text parts = reads innermost_depth _ sound inner_depth (omega arith) (omega arith) in
    let f = descriptor_fields name space in
    record {
      value = r.value;
      is = record {
        name = has_text inner_depth text parts r (codes "name") id.name h.name f.value_is;
        namespace = has_optional_text inner_depth text parts r (codes "namespace") id.namespace h.namespace f.other_is;
      };
    }

-- the `stream_status` of a trace
record IsStatusText (held : List ℕ) (id : StreamId) (status : StreamStatus) : Type 0 where
  stream : HasDescriptor held id
  is : HasText held (codes "status") (status_text status)

status_object_is : (id : StreamId) (status : StreamStatus) → HasNames id → Payload part_depth (stream_status_text id status) (λ text. IsStatusText text id status)
unfolding escape_byte
status_object_is id status h =
    let descriptor = object_text (id_parts (codes "name") id []) in
    let d = descriptor_object id h in
    let word = status_text status in
    let text = stream_status_text id status in
    let parts : List Part = named (codes "stream_descriptor") (descriptor) ∷ named (codes "status") (quoted word) ∷ [] in
    let sound : AreWritten inner_depth parts = (word_part _ (codes "stream_descriptor") _ refl (d.value), (word_part _ (codes "status") _ refl (text_within inner_depth word (status_utf8 status)), tt)) in
    let r : Reads part_depth text parts = reads inner_depth _ sound part_depth (omega arith) (omega arith) in
    record {
      value = r.value;
      is = record {
        stream = record { descriptor = descriptor; field = has_field part_depth text parts r (codes "stream_descriptor") descriptor refl; stream = d.is };
        is = has_text part_depth text parts r (codes "status") word (status_utf8 status) refl;
      };
    }

-- a trace with one member more
record ToldFields (parts : List Part) (type : List ℕ) (emitted_at : Option (List ℕ)) (name value : List ℕ) : Type 0 where
  type_is : last_of (codes "type") parts ≡ Some type
  emitted_at_is : last_of (codes "emitted_at") parts ≡ emitted_at
  value_is : last_of name parts ≡ Some value

error_told : (type : List ℕ) (emitted_at : Option (List ℕ)) (value : List ℕ) → ToldFields (named (codes "type") (type) ∷ optional (codes "emitted_at") emitted_at (named (codes "error") (value) ∷ [])) type emitted_at (codes "error") value
unfolding escape_byte
error_told type None value = record { type_is = refl; emitted_at_is = refl; value_is = refl }
error_told type (Some emitted_at) value = record { type_is = refl; emitted_at_is = refl; value_is = refl }

status_told : (type : List ℕ) (emitted_at : Option (List ℕ)) (value : List ℕ) → ToldFields (named (codes "type") (type) ∷ optional (codes "emitted_at") emitted_at (named (codes "stream_status") (value) ∷ [])) type emitted_at (codes "stream_status") value
unfolding escape_byte
status_told type None value = record { type_is = refl; emitted_at_is = refl; value_is = refl }
status_told type (Some emitted_at) value = record { type_is = refl; emitted_at_is = refl; value_is = refl }

told_reads : (type : TraceType) (emitted_at : Option (List ℕ)) (name value : List ℕ) → are_ascii name ≡ true → IsValueWithin part_depth value → IsOptionalNumber emitted_at
    → Reads payload_depth (told_text type emitted_at name value) (named (codes "type") (quoted (trace_text type)) ∷ optional (codes "emitted_at") emitted_at (named name value ∷ []))
unfolding escape_byte
told_reads type emitted_at name value word within number =
    let sound : AreWritten part_depth (named (codes "type") (quoted (trace_text type)) ∷ optional (codes "emitted_at") emitted_at (named name value ∷ [])) =
    (word_part _ (codes "type") _ refl (text_within part_depth (trace_text type) (trace_utf8 type)), optional_written part_depth (codes "emitted_at") emitted_at (named name value ∷ []) refl (optional_number_within part_depth emitted_at number) (word_part _ name _ word (within), tt)) in
    reads part_depth _ sound payload_depth (omega arith) (omega arith)

pub trace_payload : (content : TraceMsg) → HasTraceForms content → Payload payload_depth (trace_object content) (λ text. IsTrace text content)
unfolding escape_byte
trace_payload (trace.Error meaning failure emitted_at) h =
    let error = error_text meaning failure in
    let e = error_object meaning failure h.text in
    let type = trace_types.Error in
    let text = told_text type emitted_at (codes "error") error in
    let parts : List Part = named (codes "type") (quoted (trace_text type)) ∷ optional (codes "emitted_at") emitted_at (named (codes "error") (error) ∷ []) in
    let r : Reads payload_depth text parts = told_reads type emitted_at (codes "error") error refl e.value h.number in
    let f = error_told (quoted (trace_text type)) emitted_at error in
    record {
      value = r.value;
      is = record {
        type = type;
        typed = has_text payload_depth text parts r (codes "type") (trace_text type) (trace_utf8 type) f.type_is;
        emitted_at = emitted_at;
        number = has_optional_number payload_depth text parts r (codes "emitted_at") emitted_at h.number f.emitted_at_is;
        told = (record { error = error; field = has_field payload_depth text parts r (codes "error") error f.value_is; message = e.is.message; failure = e.is.type }, refl);
      };
    }
trace_payload (trace.Status id status emitted_at) h =
    let held = stream_status_text id status in
    let s = status_object_is id status h.names in
    let type = trace_types.StreamStatus in
    let text = told_text type emitted_at (codes "stream_status") held in
    let parts : List Part = named (codes "type") (quoted (trace_text type)) ∷ optional (codes "emitted_at") emitted_at (named (codes "stream_status") (held) ∷ []) in
    let r : Reads payload_depth text parts = told_reads type emitted_at (codes "stream_status") held refl s.value h.number in
    let f = status_told (quoted (trace_text type)) emitted_at held in
    record {
      value = r.value;
      is = record {
        type = type;
        typed = has_text payload_depth text parts r (codes "type") (trace_text type) (trace_utf8 type) f.type_is;
        emitted_at = emitted_at;
        number = has_optional_number payload_depth text parts r (codes "emitted_at") emitted_at h.number f.emitted_at_is;
        told = (record { held = held; field = has_field payload_depth text parts r (codes "stream_status") held f.value_is; stream = s.is.stream; status = s.is.is }, refl);
      };
    }
trace_payload (trace.Other object) h = record { value = nested_within payload_depth object h.value h.nests; is = h.trace }

-- ---- the line

abbrev line_parts : MessageType → List ℕ → List Part
line_parts type payload = named (codes "type") (quoted (type_text type)) ∷ named (payload_text type) payload ∷ []

-- what depends on the type alone
record TypeFacts (type : MessageType) (payload : List ℕ) : Type 0 where
  utf8 : IsUtf8 (type_text type)
  word : are_ascii (payload_text type) ≡ true
  type_is : last_of (codes "type") (line_parts type payload) ≡ Some (quoted (type_text type))
  payload_is : last_of (payload_text type) (line_parts type payload) ≡ Some payload

type_facts : (type : MessageType) (payload : List ℕ) → TypeFacts type payload
unfolding escape_byte
type_facts types.Rec payload = record { utf8 = IsUtf8-are_ascii _ refl; word = refl; type_is = refl; payload_is = refl }
type_facts types.State payload = record { utf8 = IsUtf8-are_ascii _ refl; word = refl; type_is = refl; payload_is = refl }
type_facts types.Log payload = record { utf8 = IsUtf8-are_ascii _ refl; word = refl; type_is = refl; payload_is = refl }
type_facts types.Spec payload = record { utf8 = IsUtf8-are_ascii _ refl; word = refl; type_is = refl; payload_is = refl }
type_facts types.Connection payload = record { utf8 = IsUtf8-are_ascii _ refl; word = refl; type_is = refl; payload_is = refl }
type_facts types.Catalog payload = record { utf8 = IsUtf8-are_ascii _ refl; word = refl; type_is = refl; payload_is = refl }
type_facts types.Trace payload = record { utf8 = IsUtf8-are_ascii _ refl; word = refl; type_is = refl; payload_is = refl }
type_facts types.Control payload = record { utf8 = IsUtf8-are_ascii _ refl; word = refl; type_is = refl; payload_is = refl }

line_is : (type : MessageType) (payload : List ℕ) (content : Message) → IsValueWithin payload_depth payload → IsPayload type payload content → IsMessage (line_text type payload) content
unfolding escape_byte
line_is type payload content within is =
    let t = type_facts type payload in
    let text = line_text type payload in
    let parts : List Part = line_parts type payload in
    let sound : AreWritten payload_depth parts = (word_part _ (codes "type") _ refl (text_within payload_depth (type_text type) t.utf8), (word_part _ (payload_text type) _ t.word (within), tt)) in
    let r : Reads line_depth text parts = reads payload_depth _ sound line_depth (omega arith) (omega arith) in
    record {
      type = type;
      typed = has_text line_depth text parts r (codes "type") (type_text type) t.utf8 t.type_is;
      payload = payload;
      field = has_field line_depth text parts r (payload_text type) payload t.payload_is;
      told = is;
    }

pub written_is : (content : Message) → HasForms content → IsMessage (written content) content
written_is (message.Rec content) h = let p = record_payload content h in line_is types.Rec (record_text content) (message.Rec content) p.value p.is
written_is (message.State content) h = line_is types.State content.object (message.State content) (within_more state_depth payload_depth content.object (omega arith) (nested_within state_depth content.object h.value h.state.nests)) h.state
written_is (message.Log content) h = let p = log_payload content h in line_is types.Log (log_text content) (message.Log content) p.value p.is
written_is (message.Spec content) h = let p = spec_payload content h in line_is types.Spec (spec_text content) (message.Spec content) p.value p.is
written_is (message.Connection content) h = let p = connection_payload content h in line_is types.Connection (status_object content) (message.Connection content) p.value p.is
written_is (message.Catalog content) h = let p = catalog_payload content h in line_is types.Catalog (catalog_text content) (message.Catalog content) p.value p.is
written_is (message.Trace content) h = let p = trace_payload content h in line_is types.Trace (trace_object content) (message.Trace content) p.value p.is
written_is (message.Control content) h = line_is types.Control content.object (message.Control content) (nested_within payload_depth content.object h.value h.nests) h.control
