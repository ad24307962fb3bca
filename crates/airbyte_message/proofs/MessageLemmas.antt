-- A message from the members of its line.
use Rattle.std.proofs.Common.{◌≡◌, ℕ, List, Option, None, Some, refl, ◌∙◌, ap, subst, codes, Bool}
use Rattle.std.specs.Option.{option_map}
use Rattle.json_span.specs.Members.{AreMembers}
use Rattle.json_span.specs.declared.Member.{Member}
use Rattle.basics.specs.declared.stream.StreamId.{StreamId}
use Rattle.json_fields.specs.Answer.{IsAnswer, IsOnly}
use Rattle.json_fields.specs.Fields.{HasField, HasOptional, HasText, HasOptionalText, line_depth}
use Rattle.json_fields.specs.Parts.{HasCount, HasObject, HasArray}
use Rattle.airbyte_message.specs.Parts.{IsStreamId}
use Rattle.airbyte_message.specs.Words.{level_text, connection_text, type_text, payload_text}
use Rattle.airbyte_message.specs.States.{IsState}
use Rattle.airbyte_message.specs.Traces.{IsTrace}
use Rattle.airbyte_message.specs.Messages.{IsRecord, IsLog, IsSpec, IsConnection, IsCatalog, IsControl, IsPayload, IsMessage}
use Rattle.airbyte_message.specs.declared.level.Level.{Level}
use Rattle.airbyte_message.specs.declared.message.Message.{Message}
use Rattle.airbyte_message.specs.declared.message.Message.TheVariants as message
use Rattle.airbyte_message.specs.declared.message.RecordMsg.{RecordMsg}
use Rattle.airbyte_message.specs.declared.message.StateMsg.{StateMsg}
use Rattle.airbyte_message.specs.declared.message.LogMsg.{LogMsg}
use Rattle.airbyte_message.specs.declared.message.SpecMsg.{SpecMsg}
use Rattle.airbyte_message.specs.declared.message.ConnectionMsg.{ConnectionMsg}
use Rattle.airbyte_message.specs.declared.message.CatalogMsg.{CatalogMsg}
use Rattle.airbyte_message.specs.declared.message.TraceMsg.{TraceMsg}
use Rattle.airbyte_message.specs.declared.message.ControlMsg.{ControlMsg}
use Rattle.airbyte_message.specs.declared.read.MessageType.{MessageType}
use Rattle.airbyte_message.specs.declared.read.MessageType.TheVariants as types
use Rattle.json_fields.proofs.AnswerLemmas.{both, wrapped}

-- a record
abbrev pub record_msg : StreamId → List ℕ → ℕ → Option (List ℕ) → RecordMsg
record_msg id body emitted_at meta = record { id = id; body = body; emitted_at = emitted_at; meta = meta }

pub record_answer : (text : List ℕ) (id : StreamId) (body : List ℕ) (emitted_at : ℕ) (meta : Option (List ℕ)) → IsOnly (IsStreamId text (codes "stream")) id → IsOnly (HasObject text (codes "data")) body → IsOnly (HasCount text (codes "emitted_at")) emitted_at → IsOnly (HasOptional text (codes "meta")) meta → IsOnly (IsRecord text) (record_msg id body emitted_at meta)
record_answer text id body emitted_at meta id_is body_is emitted_is meta_is = record {
  is = record { id = id_is.is; body = body_is.is; emitted_at = emitted_is.is; meta = meta_is.is };
  only = λ other is. same other (id_is.only other.id is.id) (body_is.only other.body is.body) (emitted_is.only other.emitted_at is.emitted_at) (meta_is.only other.meta is.meta);
}
  where
    same : (other : RecordMsg) → other.id ≡ id → other.body ≡ body → other.emitted_at ≡ emitted_at → other.meta ≡ meta → other ≡ record_msg id body emitted_at meta
    same other e f g h = ap (λ (i : StreamId). record_msg i other.body other.emitted_at other.meta) e ∙ (ap (λ (b : List ℕ). record_msg id b other.emitted_at other.meta) f ∙ (ap (λ (n : ℕ). record_msg id body n other.meta) g ∙ ap (λ (m : Option (List ℕ)). record_msg id body emitted_at m) h))

pub record_uncut : (text : List ℕ) → ((members : List Member) → ¬ AreMembers line_depth text members) → IsAnswer (IsRecord text) None
record_uncut text none = λ content is. none is.id.name.field.members is.id.name.field.object

pub record_no_id : (text : List ℕ) → IsAnswer (IsStreamId text (codes "stream")) None → IsAnswer (IsRecord text) None
record_no_id text none = λ content is. none content.id is.id

pub record_no_body : (text : List ℕ) → IsAnswer (HasObject text (codes "data")) None → IsAnswer (IsRecord text) None
record_no_body text none = λ content is. none content.body is.body

pub record_no_time : (text : List ℕ) → IsAnswer (HasCount text (codes "emitted_at")) None → IsAnswer (IsRecord text) None
record_no_time text none = λ content is. none content.emitted_at is.emitted_at

-- a line of a log
abbrev pub log_msg : Level → List ℕ → LogMsg
log_msg level text = record { level = level; text = text }

abbrev pub IsLevelOf : List ℕ → Level → Type 0
IsLevelOf text level = HasText text (codes "level") (level_text level)

pub log_answer : (text : List ℕ) (level : Level) (meaning : List ℕ) → IsOnly (IsLevelOf text) level → IsOnly (HasText text (codes "message")) meaning → IsOnly (IsLog text) (log_msg level meaning)
log_answer text = both (IsLevelOf text) (HasText text (codes "message")) (IsLog text) log_msg (λ level meaning l m. record { level = l; message = m }) (λ content is. (content.level, content.text, is.level, is.message, refl))

pub log_uncut : (text : List ℕ) → ((members : List Member) → ¬ AreMembers line_depth text members) → IsAnswer (IsLog text) None
log_uncut text none = λ content is. none is.message.field.members is.message.field.object

pub log_no_level : (text : List ℕ) → IsAnswer (IsLevelOf text) None → IsAnswer (IsLog text) None
log_no_level text none = λ content is. none content.level is.level

pub log_no_message : (text : List ℕ) → IsAnswer (HasText text (codes "message")) None → IsAnswer (IsLog text) None
log_no_message text none = λ content is. none content.text is.message

-- a specification
abbrev pub spec_msg : List ℕ → SpecMsg
spec_msg specification = record { specification = specification }

pub spec_answer : (text held : List ℕ) → IsOnly (HasObject text (codes "connectionSpecification")) held → IsOnly (IsSpec text) (spec_msg held)
spec_answer text held only = record {
  is = record { specification = only.is };
  only = λ content is. ap (λ (h : List ℕ). spec_msg h) (only.only content.specification is.specification);
}

pub spec_uncut : (text : List ℕ) → ((members : List Member) → ¬ AreMembers line_depth text members) → IsAnswer (IsSpec text) None
spec_uncut text none = λ content is. none is.specification.field.members is.specification.field.object

pub spec_absent : (text : List ℕ) → IsAnswer (HasObject text (codes "connectionSpecification")) None → IsAnswer (IsSpec text) None
spec_absent text none = λ content is. none content.specification is.specification

-- a connection's status
abbrev pub connection_msg : Bool → Option (List ℕ) → ConnectionMsg
connection_msg succeeded text = record { succeeded = succeeded; text = text }

abbrev pub IsSuccessOf : List ℕ → Bool → Type 0
IsSuccessOf text success = HasText text (codes "status") (connection_text success)

pub connection_answer : (text : List ℕ) (succeeded : Bool) (meaning : Option (List ℕ)) → IsOnly (IsSuccessOf text) succeeded → IsOnly (HasOptionalText text (codes "message")) meaning → IsOnly (IsConnection text) (connection_msg succeeded meaning)
connection_answer text = both (IsSuccessOf text) (HasOptionalText text (codes "message")) (IsConnection text) connection_msg (λ success meaning s m. record { status = s; message = m }) (λ content is. (content.succeeded, content.text, is.status, is.message, refl))

pub connection_uncut : (text : List ℕ) → ((members : List Member) → ¬ AreMembers line_depth text members) → IsAnswer (IsConnection text) None
connection_uncut text none = λ content is. none is.status.field.members is.status.field.object

pub connection_no_status : (text : List ℕ) → IsAnswer (IsSuccessOf text) None → IsAnswer (IsConnection text) None
connection_no_status text none = λ content is. none content.succeeded is.status

pub connection_no_message : (text : List ℕ) → IsAnswer (HasOptionalText text (codes "message")) None → IsAnswer (IsConnection text) None
connection_no_message text none = λ content is. none content.text is.message

-- a catalog
abbrev pub catalog_msg : List ℕ → CatalogMsg
catalog_msg streams = record { streams = streams }

pub catalog_answer : (text held : List ℕ) → IsOnly (HasArray text (codes "streams")) held → IsOnly (IsCatalog text) (catalog_msg held)
catalog_answer text held only = record {
  is = record { streams = only.is };
  only = λ content is. ap (λ (h : List ℕ). catalog_msg h) (only.only content.streams is.streams);
}

pub catalog_uncut : (text : List ℕ) → ((members : List Member) → ¬ AreMembers line_depth text members) → IsAnswer (IsCatalog text) None
catalog_uncut text none = λ content is. none is.streams.field.members is.streams.field.object

pub catalog_absent : (text : List ℕ) → IsAnswer (HasArray text (codes "streams")) None → IsAnswer (IsCatalog text) None
catalog_absent text none = λ content is. none content.streams is.streams

-- a control message
abbrev pub control_msg : List ℕ → ControlMsg
control_msg object = record { object = object }

pub control_answer : (text name : List ℕ) → IsOnly (HasText text (codes "type")) name → IsOnly (IsControl text) (control_msg text)
control_answer text name typed = record {
  is = record { object = refl; name = name; type = typed.is };
  only = λ content is. ap (λ (o : List ℕ). control_msg o) is.object;
}

pub control_uncut : (text : List ℕ) → ((members : List Member) → ¬ AreMembers line_depth text members) → IsAnswer (IsControl text) None
control_uncut text none = λ content is. none is.type.field.members is.type.field.object

pub control_untyped : (text : List ℕ) → IsAnswer (HasText text (codes "type")) None → IsAnswer (IsControl text) None
control_untyped text none = λ content is. none is.name is.type

record_shown : (text : List ℕ) (m : Message) → IsPayload types.Rec text m → (content : RecordMsg) × IsRecord text content × (m ≡ message.Rec content)
record_shown text (message.Rec content) is = (content, is, refl)
record_shown text _ is = absurd is

pub record_payload : (text : List ℕ) (found : Option RecordMsg) → IsAnswer (IsRecord text) found → IsAnswer (IsPayload types.Rec text) (option_map (λ content. message.Rec content) found)
record_payload text = wrapped (λ content. message.Rec content) (IsRecord text) (IsPayload types.Rec text) (λ content is. is) (record_shown text)

state_shown : (text : List ℕ) (m : Message) → IsPayload types.State text m → (content : StateMsg) × IsState text content × (m ≡ message.State content)
state_shown text (message.State content) is = (content, is, refl)
state_shown text _ is = absurd is

pub state_payload : (text : List ℕ) (found : Option StateMsg) → IsAnswer (IsState text) found → IsAnswer (IsPayload types.State text) (option_map (λ content. message.State content) found)
state_payload text = wrapped (λ content. message.State content) (IsState text) (IsPayload types.State text) (λ content is. is) (state_shown text)

log_shown : (text : List ℕ) (m : Message) → IsPayload types.Log text m → (content : LogMsg) × IsLog text content × (m ≡ message.Log content)
log_shown text (message.Log content) is = (content, is, refl)
log_shown text _ is = absurd is

pub log_payload : (text : List ℕ) (found : Option LogMsg) → IsAnswer (IsLog text) found → IsAnswer (IsPayload types.Log text) (option_map (λ content. message.Log content) found)
log_payload text = wrapped (λ content. message.Log content) (IsLog text) (IsPayload types.Log text) (λ content is. is) (log_shown text)

spec_shown : (text : List ℕ) (m : Message) → IsPayload types.Spec text m → (content : SpecMsg) × IsSpec text content × (m ≡ message.Spec content)
spec_shown text (message.Spec content) is = (content, is, refl)
spec_shown text _ is = absurd is

pub spec_payload : (text : List ℕ) (found : Option SpecMsg) → IsAnswer (IsSpec text) found → IsAnswer (IsPayload types.Spec text) (option_map (λ content. message.Spec content) found)
spec_payload text = wrapped (λ content. message.Spec content) (IsSpec text) (IsPayload types.Spec text) (λ content is. is) (spec_shown text)

connection_shown : (text : List ℕ) (m : Message) → IsPayload types.Connection text m → (content : ConnectionMsg) × IsConnection text content × (m ≡ message.Connection content)
connection_shown text (message.Connection content) is = (content, is, refl)
connection_shown text _ is = absurd is

pub connection_payload : (text : List ℕ) (found : Option ConnectionMsg) → IsAnswer (IsConnection text) found → IsAnswer (IsPayload types.Connection text) (option_map (λ content. message.Connection content) found)
connection_payload text = wrapped (λ content. message.Connection content) (IsConnection text) (IsPayload types.Connection text) (λ content is. is) (connection_shown text)

catalog_shown : (text : List ℕ) (m : Message) → IsPayload types.Catalog text m → (content : CatalogMsg) × IsCatalog text content × (m ≡ message.Catalog content)
catalog_shown text (message.Catalog content) is = (content, is, refl)
catalog_shown text _ is = absurd is

pub catalog_payload : (text : List ℕ) (found : Option CatalogMsg) → IsAnswer (IsCatalog text) found → IsAnswer (IsPayload types.Catalog text) (option_map (λ content. message.Catalog content) found)
catalog_payload text = wrapped (λ content. message.Catalog content) (IsCatalog text) (IsPayload types.Catalog text) (λ content is. is) (catalog_shown text)

trace_shown : (text : List ℕ) (m : Message) → IsPayload types.Trace text m → (content : TraceMsg) × IsTrace text content × (m ≡ message.Trace content)
trace_shown text (message.Trace content) is = (content, is, refl)
trace_shown text _ is = absurd is

pub trace_payload : (text : List ℕ) (found : Option TraceMsg) → IsAnswer (IsTrace text) found → IsAnswer (IsPayload types.Trace text) (option_map (λ content. message.Trace content) found)
trace_payload text = wrapped (λ content. message.Trace content) (IsTrace text) (IsPayload types.Trace text) (λ content is. is) (trace_shown text)

control_shown : (text : List ℕ) (m : Message) → IsPayload types.Control text m → (content : ControlMsg) × IsControl text content × (m ≡ message.Control content)
control_shown text (message.Control content) is = (content, is, refl)
control_shown text _ is = absurd is

pub control_payload : (text : List ℕ) (found : Option ControlMsg) → IsAnswer (IsControl text) found → IsAnswer (IsPayload types.Control text) (option_map (λ content. message.Control content) found)
control_payload text = wrapped (λ content. message.Control content) (IsControl text) (IsPayload types.Control text) (λ content is. is) (control_shown text)

-- a line's message
abbrev pub IsLineOf : List ℕ → MessageType → Type 0
IsLineOf line type = HasText line (codes "type") (type_text type)

moved : (line payload : List ℕ) (type : MessageType) (content : Message) → IsOnly (IsLineOf line) type → IsOnly (HasField line (payload_text type)) payload → IsMessage line content → IsPayload type payload content
moved line payload type content typed field is =
    let same = typed.only is.type is.typed in
    let held = subst (λ (t : MessageType). HasField line (payload_text t) is.payload) same is.field in
    let told = subst (λ (t : MessageType). IsPayload t is.payload content) same is.told in
    subst (λ (p : List ℕ). IsPayload type p content) (field.only is.payload held) told

pub message_answer : (line payload : List ℕ) (type : MessageType) (found : Option Message) → IsOnly (IsLineOf line) type → IsOnly (HasField line (payload_text type)) payload → IsAnswer (IsPayload type payload) found → IsAnswer (IsMessage line) found
message_answer line payload type None typed field none = λ content is. none content (moved line payload type content typed field is)
message_answer line payload type (Some told) typed field only = record {
  is = record { type = type; typed = typed.is; payload = payload; field = field.is; told = only.is };
  only = λ content is. only.only content (moved line payload type content typed field is);
}

pub message_absent : (line : List ℕ) (type : MessageType) → IsOnly (IsLineOf line) type → IsAnswer (HasField line (payload_text type)) None → IsAnswer (IsMessage line) None
message_absent line type typed none = λ content is. none is.payload (subst (λ (t : MessageType). HasField line (payload_text t) is.payload) (typed.only is.type is.typed) is.field)

pub message_uncut : (line : List ℕ) → ((members : List Member) → ¬ AreMembers line_depth line members) → IsAnswer (IsMessage line) None
message_uncut line none = λ content is. none is.typed.field.members is.typed.field.object

pub message_untyped : (line : List ℕ) → IsAnswer (IsLineOf line) None → IsAnswer (IsMessage line) None
message_untyped line none = λ content is. none is.type is.typed
