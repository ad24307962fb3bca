-- What messages in their lines stand for.
use Rattle.std.specs.Prelude.{ℕ, List, codes, option_map}
use Rattle.std.specs.Option.{option_copied}
use Rattle.json_fields.specs.Fields.{HasField}
use Rattle.json_fields.specs.Words.{viewed}
use Rattle.airbyte_message.specs.Messages.{IsPayload, IsRecord}
use Rattle.airbyte_message.specs.Words.{payload_text}
use Rattle.airbyte_message.specs.declared.read.MessageType.{MessageType}
use Rattle.basics.specs.declared.stream.StreamId.{StreamId}
use Rattle.airbyte_message.specs.declared.message.Message.{Message}
use Rattle.airbyte_message.specs.declared.message.Message.TheVariants as message
use Rattle.airbyte_message.specs.declared.message.RecordMsg.{RecordMsg}
use Rattle.airbyte_message.specs.declared.view.StreamView.{StreamView}
use Rattle.airbyte_message.specs.declared.view.RecordView.{RecordView}
use Rattle.airbyte_message.specs.declared.view.MessageView.{MessageView}
use Rattle.airbyte_message.specs.declared.view.MessageView.TheVariants as view

abbrev pub id_at : StreamView → StreamId
id_at v = record { name = viewed v.name; namespace = option_map viewed v.namespace }

abbrev pub record_at : RecordView → RecordMsg
record_at v = record { id = id_at v.id; body = v.body.now; emitted_at = v.emitted_at; meta = option_copied v.meta }

abbrev pub message_at : MessageView → Message
message_at (view.Rec record_view) = message.Rec (record_at record_view)
message_at (view.Owned content) = content

-- For private clauses: the message that the payload of a line is, in a line of this type; and the record.
pub record HasPayload (line : List ℕ) (type : MessageType) (content : Message) : Type 0 where
  pub payload : List ℕ
  pub field : HasField line (payload_text type) payload
  pub told : IsPayload type payload content

pub record HasRecord (line : List ℕ) (content : RecordMsg) : Type 0 where
  pub payload : List ℕ
  pub field : HasField line (codes "record") payload
  pub told : IsRecord payload content
