-- A message in place, from the members of its line.
use Rattle.std.proofs.Common.{◌≡◌, ℕ, List, Option, None, refl, codes}
use Rattle.std.specs.Option.{option_map}
use Rattle.json_span.specs.Members.{IsSomeObject}
use Rattle.json_fields.specs.Answer.{IsAnswer, IsOnly}
use Rattle.json_fields.specs.Fields.{HasField}
use Rattle.json_fields.proofs.AnswerLemmas.{at, wrapped}
use Rattle.airbyte_message.specs.Words.{payload_text}
use Rattle.airbyte_message.specs.Messages.{IsMessage, IsPayload, IsRecord}
use Rattle.airbyte_message.specs.Views.{HasPayload, HasRecord}
use Rattle.airbyte_message.specs.declared.message.Message.{Message}
use Rattle.airbyte_message.specs.declared.message.Message.TheVariants as message
use Rattle.airbyte_message.specs.declared.message.RecordMsg.{RecordMsg}
use Rattle.airbyte_message.specs.declared.read.MessageType.{MessageType}
use Rattle.airbyte_message.specs.declared.read.MessageType.TheVariants as types
use Rattle.airbyte_message.proofs.MessageLemmas.{IsLineOf, record_uncut}

-- a line of a known type
pub message_at_type : (line : List ℕ) (type : MessageType) (found : Option Message) → IsOnly (IsLineOf line) type → IsAnswer (HasPayload line type) found → IsAnswer (IsMessage line) found
message_at_type line = at (IsLineOf line) (HasPayload line) (IsMessage line) (λ type content typed has. record { type = type; typed = typed; payload = has.payload; field = has.field; told = has.told }) (λ content is. (is.type, is.typed, record { payload = is.payload; field = is.field; told = is.told }))

pub payload_at : (line payload : List ℕ) (type : MessageType) (found : Option Message) → IsOnly (HasField line (payload_text type)) payload → IsAnswer (IsPayload type payload) found → IsAnswer (HasPayload line type) found
payload_at line payload type found = at (HasField line (payload_text type)) (IsPayload type) (HasPayload line type) (λ p content field is. record { payload = p; field = field; told = is }) (λ content has. (has.payload, has.field, has.told)) payload found

pub payload_absent : (line : List ℕ) (type : MessageType) → IsAnswer (HasField line (payload_text type)) None → IsAnswer (HasPayload line type) None
payload_absent line type none = λ content has. none has.payload has.field

-- a record
pub record_at_payload : (line payload : List ℕ) (found : Option RecordMsg) → IsOnly (HasField line (codes "record")) payload → IsAnswer (IsRecord payload) found → IsAnswer (HasRecord line) found
record_at_payload line payload found = at (HasField line (codes "record")) IsRecord (HasRecord line) (λ p content field is. record { payload = p; field = field; told = is }) (λ content has. (has.payload, has.field, has.told)) payload found

pub record_absent : (line : List ℕ) → IsAnswer (HasField line (codes "record")) None → IsAnswer (HasRecord line) None
record_absent line none = λ content has. none has.payload has.field

record_shown : (line : List ℕ) (content : Message) → HasPayload line types.Rec content → (r : RecordMsg) × HasRecord line r × (content ≡ message.Rec r)
record_shown line (message.Rec r) has = (r, record { payload = has.payload; field = has.field; told = has.told }, refl)
record_shown line _ has = absurd has.told

pub record_told : (line : List ℕ) (found : Option RecordMsg) → IsAnswer (HasRecord line) found → IsAnswer (HasPayload line types.Rec) (option_map (λ r. message.Rec r) found)
record_told line = wrapped (λ r. message.Rec r) (HasRecord line) (HasPayload line types.Rec) (λ r has. record { payload = has.payload; field = has.field; told = has.told }) (record_shown line)

-- a payload that is no object is no record
pub record_no_object : (payload : List ℕ) → ¬ IsSomeObject payload → IsAnswer (IsRecord payload) None
record_no_object payload none = record_uncut payload (λ members are. none (record { deep = are.deep; members = members; object = are.object }))
