-- A line is at most one message: each part of what it is has one value.
use Rattle.std.proofs.Common.{◌≡◌, inl, inr, ℕ, Bool, true, false, cond, List, [], ◌∷◌, Option, None, Some, bytes_eq, codes, refl, sym, ◌∙◌, ap, subst, arith}
use Rattle.std.specs.Option.{option_map}
use Rattle.json_span.specs.Members.{text_at}
use Rattle.json_span.specs.Elements.{AreElements}
use Rattle.json_span.specs.Machine.{read_whole}
use Rattle.json_span.specs.declared.Span.{Span}
use Rattle.json_span.specs.declared.phase.Frame.TheVariants as frame
use Rattle.json_span.proofs.ArrayTheorems.{finds_only_array}
use Rattle.json_fields.specs.Answer.{IsOnly}
use Rattle.json_fields.specs.Fields.{HasOptional, HasText, HasOptionalText, line_depth}
use Rattle.json_fields.proofs.AnswerLemmas.{along_only, at}
use Rattle.json_fields.proofs.OnlyLemmas.{field_only, optional_only, text_only, optional_text_only, has_count_only, optional_count_only, object_only, array_only, number_only}
use Rattle.basics.specs.declared.stream.StreamId.{StreamId}
use Rattle.airbyte_message.specs.Parts.{IsStreamId, HasDescriptor}
use Rattle.airbyte_message.specs.Words.{level_text, failure_text, status_text, connection_text, trace_text, type_text, payload_text}
use Rattle.airbyte_message.specs.States.{AreOptionalStats, HasStats, IsStateType, HasStateType, IsStreamBlob, IsStreamState, AreStreamBlobs, HasStreamBlobs, IsKind, IsState}
use Rattle.airbyte_message.specs.Traces.{IsTold, IsTrace}
use Rattle.airbyte_message.specs.Messages.{IsRecord, IsLog, IsSpec, IsConnection, IsCatalog, IsControl, IsPayload, IsMessage}
use Rattle.airbyte_message.specs.declared.level.Level.{Level}
use Rattle.airbyte_message.specs.declared.level.Level.TheVariants as level
use Rattle.airbyte_message.specs.declared.failure_type.FailureType.{FailureType}
use Rattle.airbyte_message.specs.declared.failure_type.FailureType.TheVariants as failure_type
use Rattle.airbyte_message.specs.declared.stream_status.StreamStatus.{StreamStatus}
use Rattle.airbyte_message.specs.declared.stream_status.StreamStatus.TheVariants as stream_status
use Rattle.airbyte_message.specs.declared.trace_message.TraceType.{TraceType}
use Rattle.airbyte_message.specs.declared.trace_message.TraceType.TheVariants as trace_types
use Rattle.airbyte_message.specs.declared.state_message.StateType.{StateType}
use Rattle.airbyte_message.specs.declared.state_message.StateType.TheVariants as state_types
use Rattle.airbyte_message.specs.declared.read.MessageType.{MessageType}
use Rattle.airbyte_message.specs.declared.read.MessageType.TheVariants as types
use Rattle.airbyte_message.specs.declared.message.Message.{Message}
use Rattle.airbyte_message.specs.declared.message.Message.TheVariants as message
use Rattle.airbyte_message.specs.declared.message.RecordMsg.{RecordMsg}
use Rattle.airbyte_message.specs.State.{State}
use Rattle.airbyte_message.specs.declared.message.StateKind.{StateKind}
use Rattle.airbyte_message.specs.declared.message.StateKind.TheVariants as kind
use Rattle.airbyte_message.specs.declared.message.StreamBlob.{StreamBlob}
use Rattle.airbyte_message.specs.declared.message.LogMsg.{LogMsg}
use Rattle.airbyte_message.specs.declared.message.SpecMsg.{SpecMsg}
use Rattle.airbyte_message.specs.declared.message.ConnectionMsg.{ConnectionMsg}
use Rattle.airbyte_message.specs.declared.message.CatalogMsg.{CatalogMsg}
use Rattle.airbyte_message.specs.declared.message.ControlMsg.{ControlMsg}
use Rattle.airbyte_message.specs.declared.message.TraceMsg.{TraceMsg}
use Rattle.airbyte_message.specs.declared.message.TraceMsg.TheVariants as trace
use Rattle.airbyte_message.proofs.PartLemmas.{stream_id_answer, descriptor_at}
use Rattle.airbyte_message.proofs.StateLemmas.{has_stats, has_stats_absent, state_type_at, stream_blob_answer, stream_at, stream_kind_answer, global_answer, legacy_answer, state_answer, state_msg}
use Rattle.airbyte_message.proofs.TraceLemmas.{error_answer, status_answer, estimate_answer, analytics_answer, trace_answer}
use Rattle.airbyte_message.proofs.MessageLemmas.{record_answer, log_answer, spec_answer, connection_answer, catalog_answer, control_answer, control_msg, record_payload, state_payload, log_payload, spec_payload, connection_payload, catalog_payload, trace_payload, control_payload}
use Rattle.airbyte_message.proofs.ViewLemmas.{message_at_type, payload_at}

-- ---- words

word_only : {A : Type 0} (words : A → List ℕ) (back : List ℕ → A) → ((a : A) → back (words a) ≡ a) → (text name : List ℕ) (a : A) → HasText text name (words a) → IsOnly (λ b. HasText text name (words b)) a
word_only words back is text name a has = record { is = has; only = λ b other. sym (is b) ∙ ap back ((text_only text name (words a) has).only (words b) other) ∙ is a }

optional_word_only : {A : Type 0} (words : A → List ℕ) (back : List ℕ → A) → ((a : A) → back (words a) ≡ a) → (text name : List ℕ) (o : Option A) → HasOptionalText text name (option_map words o) → IsOnly (λ b. HasOptionalText text name (option_map words b)) o
optional_word_only {A} words back is text name o has = record { is = has; only = λ b other. sym (there b) ∙ ap (option_map back) ((optional_text_only text name (option_map words o) has).only (option_map words b) other) ∙ there o }
  where
    there : (o : Option A) → option_map back (option_map words o) ≡ o
    there None = refl
    there (Some a) = ap (λ x. Some x) (is a)

level_of : List ℕ → Level
level_of t = cond (bytes_eq t (codes "FATAL")) level.Fatal (cond (bytes_eq t (codes "ERROR")) level.Error (cond (bytes_eq t (codes "WARN")) level.Warn (cond (bytes_eq t (codes "INFO")) level.Info (cond (bytes_eq t (codes "DEBUG")) level.Debug level.Trace))))

level_is : (l : Level) → level_of (level_text l) ≡ l
unfolding level_of
level_is level.Fatal = refl
level_is level.Error = refl
level_is level.Warn = refl
level_is level.Info = refl
level_is level.Debug = refl
level_is level.Trace = refl

failure_of : List ℕ → FailureType
failure_of t = cond (bytes_eq t (codes "system_error")) failure_type.SystemError (cond (bytes_eq t (codes "config_error")) failure_type.ConfigError failure_type.TransientError)

failure_is : (f : FailureType) → failure_of (failure_text f) ≡ f
unfolding failure_of
failure_is failure_type.SystemError = refl
failure_is failure_type.ConfigError = refl
failure_is failure_type.TransientError = refl

status_of : List ℕ → StreamStatus
status_of t = cond (bytes_eq t (codes "STARTED")) stream_status.Started (cond (bytes_eq t (codes "RUNNING")) stream_status.Running (cond (bytes_eq t (codes "COMPLETE")) stream_status.Complete stream_status.Incomplete))

status_is : (s : StreamStatus) → status_of (status_text s) ≡ s
unfolding status_of
status_is stream_status.Started = refl
status_is stream_status.Running = refl
status_is stream_status.Complete = refl
status_is stream_status.Incomplete = refl

success_of : List ℕ → Bool
success_of t = bytes_eq t (codes "SUCCEEDED")

success_is : (b : Bool) → success_of (connection_text b) ≡ b
unfolding success_of
success_is true = refl
success_is false = refl

trace_of : List ℕ → TraceType
trace_of t = cond (bytes_eq t (codes "ERROR")) trace_types.Error (cond (bytes_eq t (codes "ESTIMATE")) trace_types.Estimate (cond (bytes_eq t (codes "STREAM_STATUS")) trace_types.StreamStatus trace_types.Analytics))

trace_is : (t : TraceType) → trace_of (trace_text t) ≡ t
unfolding trace_of
trace_is trace_types.Error = refl
trace_is trace_types.Estimate = refl
trace_is trace_types.StreamStatus = refl
trace_is trace_types.Analytics = refl

type_of : List ℕ → MessageType
type_of t = cond (bytes_eq t (codes "RECORD")) types.Rec (cond (bytes_eq t (codes "STATE")) types.State (cond (bytes_eq t (codes "LOG")) types.Log (cond (bytes_eq t (codes "SPEC")) types.Spec (cond (bytes_eq t (codes "CONNECTION_STATUS")) types.Connection (cond (bytes_eq t (codes "CATALOG")) types.Catalog (cond (bytes_eq t (codes "TRACE")) types.Trace types.Control))))))

type_is : (t : MessageType) → type_of (type_text t) ≡ t
unfolding type_of
type_is types.Rec = refl
type_is types.State = refl
type_is types.Log = refl
type_is types.Spec = refl
type_is types.Connection = refl
type_is types.Catalog = refl
type_is types.Trace = refl
type_is types.Control = refl

state_named : Option (List ℕ) → StateType
state_named None = state_types.Legacy
state_named (Some t) = cond (bytes_eq t (codes "STREAM")) state_types.Stream (cond (bytes_eq t (codes "GLOBAL")) state_types.Global state_types.Legacy)

state_type_is : (name : Option (List ℕ)) (type : StateType) → IsStateType name type → state_named name ≡ type
unfolding state_named
state_type_is name state_types.Stream e = ap state_named e
state_type_is name state_types.Global e = ap state_named e
state_type_is name state_types.Legacy (inl e) = ap state_named e
state_type_is name state_types.Legacy (inr e) = ap state_named e

-- ---- streams

pub id_only : (text member : List ℕ) (id : StreamId) → IsStreamId text member id → IsOnly (IsStreamId text member) id
id_only text member id is = stream_id_answer text member id.name id.namespace (text_only text member id.name is.name) (optional_text_only text (codes "namespace") id.namespace is.namespace)

descriptor_only : (text : List ℕ) (id : StreamId) → HasDescriptor text id → IsOnly (HasDescriptor text) id
descriptor_only text id has = descriptor_at text has.descriptor (Some id) (field_only text (codes "stream_descriptor") has.descriptor has.field) (id_only has.descriptor (codes "name") id has.stream)

-- ---- records, logs and what else is plain

record_only : (text : List ℕ) (content : RecordMsg) → IsRecord text content → IsOnly (IsRecord text) content
record_only text content is = record_answer text content.id content.body content.emitted_at content.meta (id_only text (codes "stream") content.id is.id) (object_only text (codes "data") content.body is.body) (has_count_only text (codes "emitted_at") content.emitted_at is.emitted_at) (optional_only text (codes "meta") content.meta is.meta)

log_only : (text : List ℕ) (content : LogMsg) → IsLog text content → IsOnly (IsLog text) content
log_only text content is = log_answer text content.level content.text (word_only level_text level_of level_is text (codes "level") content.level is.level) (text_only text (codes "message") content.text is.message)

spec_only : (text : List ℕ) (content : SpecMsg) → IsSpec text content → IsOnly (IsSpec text) content
spec_only text content is = spec_answer text content.specification (object_only text (codes "connectionSpecification") content.specification is.specification)

connection_only : (text : List ℕ) (content : ConnectionMsg) → IsConnection text content → IsOnly (IsConnection text) content
connection_only text content is = connection_answer text content.succeeded content.text (word_only connection_text success_of success_is text (codes "status") content.succeeded is.status) (optional_text_only text (codes "message") content.text is.message)

catalog_only : (text : List ℕ) (content : CatalogMsg) → IsCatalog text content → IsOnly (IsCatalog text) content
catalog_only text content is = catalog_answer text content.streams (array_only text (codes "streams") content.streams is.streams)

control_only : (text : List ℕ) (content : ControlMsg) → IsControl text content → IsOnly (IsControl text) content
control_only text content is = along_only (IsControl text) (ap (λ (o : List ℕ). control_msg o) (sym is.object)) (control_answer text is.name (text_only text (codes "type") is.name is.type))

-- ---- states

stats_only : (text : List ℕ) (count : Option ℕ) → HasStats text count → IsOnly (HasStats text) count
stats_only text count has = go has.held has.optional has.stats
  where
    go : (held : Option (List ℕ)) → HasOptional text (codes "sourceStats") held → AreOptionalStats held count → IsOnly (HasStats text) count
    go None optional e = along_only (HasStats text) (sym e) (has_stats_absent text (optional_only text (codes "sourceStats") None optional))
    go (Some stats) optional s = has_stats text stats (Some count) (optional_only text (codes "sourceStats") (Some stats) optional) (optional_count_only stats (codes "recordCount") count s)

state_type_only : (text : List ℕ) (type : StateType) → HasStateType text type → IsOnly (HasStateType text) type
state_type_only text type has = state_type_at text has.name (Some type) (optional_text_only text (codes "type") has.name has.optional) (record { is = has.named; only = λ other is. sym (state_type_is has.name other is) ∙ state_type_is has.name type has.named })

blob_only : (text : List ℕ) (part : StreamBlob) → IsStreamBlob text part → IsOnly (IsStreamBlob text) part
blob_only text part is = stream_blob_answer text part.id part.blob (descriptor_only text part.id is.id) (optional_only text (codes "stream_state") part.blob is.blob)

stream_only : (text : List ℕ) (part : StreamBlob) → IsStreamState text part → IsOnly (IsStreamState text) part
stream_only text part is = stream_at text is.stream (Some part) (field_only text (codes "stream") is.stream is.field) (blob_only is.stream part is.blob)

elements_same : (text : List ℕ) (spans others : List Span) → AreElements line_depth text spans → AreElements line_depth text others → others ≡ spans
elements_same text spans others a b =
    let m = read_whole frame.Array text in
    (finds_only_array text m refl m.deepest (omega arith) b.deep others b.array).1 ∙ sym (finds_only_array text m refl m.deepest (omega arith) a.deep spans a.array).1

blobs_same : (text : List ℕ) (spans : List Span) (parts others : List StreamBlob) → AreStreamBlobs text spans parts → AreStreamBlobs text spans others → others ≡ parts
blobs_same text [] parts others a b = b ∙ sym a
blobs_same text (span ∷ spans) [] others a b = absurd a
blobs_same text (span ∷ spans) (part ∷ parts) [] a b = absurd b
blobs_same text (span ∷ spans) (part ∷ parts) (other ∷ others) a b =
    let here = (blob_only (text_at text span) part a.0).only other b.0 in
    let more = blobs_same text spans parts others a.1 b.1 in
    λ i. here i ∷ more i

blobs_only : (text : List ℕ) (parts : List StreamBlob) → HasStreamBlobs text parts → IsOnly (HasStreamBlobs text) parts
blobs_only text parts has = record {
  is = has;
  only = λ others h.
      let same = (field_only text (codes "stream_states") has.list has.field).only h.list h.field in
      let elements = subst (λ (l : List ℕ). AreElements line_depth l h.spans) same h.elements in
      let are = subst (λ (l : List ℕ). AreStreamBlobs l h.spans others) same h.are in
      blobs_same has.list has.spans parts others has.are (subst (λ (ss : List Span). AreStreamBlobs has.list ss others) (elements_same has.list has.spans h.spans has.elements elements) are);
}

kind_only : (type : StateType) (text : List ℕ) (what : StateKind) → IsKind type text what → IsOnly (IsKind type text) what
kind_only state_types.Stream text (kind.Stream id blob) is = stream_kind_answer text (Some (record { id = id; blob = blob })) (stream_only text (record { id = id; blob = blob }) is)
kind_only state_types.Global text (kind.Global shared streams) is = global_answer text is.global shared streams (field_only text (codes "global") is.global is.field) (optional_only is.global (codes "shared_state") shared is.shared) (blobs_only is.global streams is.streams)
kind_only state_types.Legacy text kind.Legacy is = legacy_answer text
kind_only _ text _ is = absurd is

pub state_only : (text : List ℕ) (content : State) → IsState text content → IsOnly (IsState text) content
state_only text content is = along_only (IsState text) (ap (λ (o : List ℕ). state_msg o content.kind content.source_count) (sym is.object)) (state_answer text is.nests.members is.type content.kind content.source_count is.line is.nests.object (state_type_only text is.type is.typed) (kind_only is.type text content.kind is.kind) (stats_only text content.source_count is.count))

-- ---- traces

told_only : (type : TraceType) (text : List ℕ) (emitted_at : Option (List ℕ)) (content : TraceMsg) → IsTold type text emitted_at content → IsOnly (IsTold type text emitted_at) content
told_only trace_types.Error text emitted_at (trace.Error meaning failure at) is =
    let error = is.0.error in
    along_only (IsTold trace_types.Error text emitted_at) (ap (λ (o : Option (List ℕ)). trace.Error meaning failure o) (sym is.1)) (error_answer text error meaning failure emitted_at (field_only text (codes "error") error is.0.field) (text_only error (codes "message") meaning is.0.message) (optional_word_only failure_text failure_of failure_is error (codes "failure_type") failure is.0.failure))
told_only trace_types.StreamStatus text emitted_at (trace.Status id status at) is =
    let held = is.0.held in
    along_only (IsTold trace_types.StreamStatus text emitted_at) (ap (λ (o : Option (List ℕ)). trace.Status id status o) (sym is.1)) (status_answer text held id status emitted_at (field_only text (codes "stream_status") held is.0.field) (descriptor_only held id is.0.stream) (word_only status_text status_of status_is held (codes "status") status is.0.status))
told_only trace_types.Estimate text emitted_at (trace.Other object) is = along_only (IsTold trace_types.Estimate text emitted_at) (ap (λ (o : List ℕ). trace.Other o) (sym is)) (estimate_answer text emitted_at)
told_only trace_types.Analytics text emitted_at (trace.Other object) is = along_only (IsTold trace_types.Analytics text emitted_at) (ap (λ (o : List ℕ). trace.Other o) (sym is)) (analytics_answer text emitted_at)
told_only _ text emitted_at _ is = absurd is

trace_only : (text : List ℕ) (content : TraceMsg) → IsTrace text content → IsOnly (IsTrace text) content
trace_only text content is = trace_answer text is.type is.emitted_at (Some content) (word_only trace_text trace_of trace_is text (codes "type") is.type is.typed) (number_only text (codes "emitted_at") is.emitted_at is.number) (told_only is.type text is.emitted_at content is.told)

-- ---- messages

payload_only : (type : MessageType) (text : List ℕ) (content : Message) → IsPayload type text content → IsOnly (IsPayload type text) content
payload_only types.Rec text (message.Rec content) is = record_payload text (Some content) (record_only text content is)
payload_only types.State text (message.State content) is = state_payload text (Some content) (state_only text content is)
payload_only types.Log text (message.Log content) is = log_payload text (Some content) (log_only text content is)
payload_only types.Spec text (message.Spec content) is = spec_payload text (Some content) (spec_only text content is)
payload_only types.Connection text (message.Connection content) is = connection_payload text (Some content) (connection_only text content is)
payload_only types.Catalog text (message.Catalog content) is = catalog_payload text (Some content) (catalog_only text content is)
payload_only types.Trace text (message.Trace content) is = trace_payload text (Some content) (trace_only text content is)
payload_only types.Control text (message.Control content) is = control_payload text (Some content) (control_only text content is)
payload_only _ text _ is = absurd is

pub message_only : (line : List ℕ) (content : Message) → IsMessage line content → IsOnly (IsMessage line) content
message_only line content is = message_at_type line is.type (Some content) (word_only type_text type_of type_is line (codes "type") is.type is.typed) (payload_at line is.payload is.type (Some content) (field_only line (payload_text is.type) is.payload is.field) (payload_only is.type is.payload content is.told))
