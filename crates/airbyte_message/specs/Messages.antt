-- Which line is which message (Airbyte Protocol, version 0), as a table over the members of objects. A member that
-- the table does not name is not read.
use Rattle.std.specs.Prelude.{◌≡◌, ℕ, List, codes}
use Rattle.json_fields.specs.Fields.{HasField, HasOptional, HasText, HasOptionalText}
use Rattle.json_fields.specs.Parts.{HasArray, HasCount, HasObject}
use Rattle.airbyte_message.specs.Parts.{IsStreamId}
use Rattle.airbyte_message.specs.Words.{level_text, connection_text, type_text, payload_text}
use Rattle.airbyte_message.specs.States.{IsState}
use Rattle.airbyte_message.specs.Traces.{IsTrace}
use Rattle.airbyte_message.specs.declared.message.Message.{Message}
use Rattle.airbyte_message.specs.declared.message.Message.TheVariants as message
use Rattle.airbyte_message.specs.declared.message.RecordMsg.{RecordMsg}
use Rattle.airbyte_message.specs.State.{State}
use Rattle.airbyte_message.specs.declared.message.LogMsg.{LogMsg}
use Rattle.airbyte_message.specs.declared.message.SpecMsg.{SpecMsg}
use Rattle.airbyte_message.specs.declared.message.ConnectionMsg.{ConnectionMsg}
use Rattle.airbyte_message.specs.declared.message.CatalogMsg.{CatalogMsg}
use Rattle.airbyte_message.specs.declared.message.ControlMsg.{ControlMsg}
use Rattle.airbyte_message.specs.declared.read.MessageType.{MessageType}
use Rattle.airbyte_message.specs.declared.read.MessageType.TheVariants as types

-- the `record` of a RECORD line
pub record IsRecord (text : List ℕ) (content : RecordMsg) : Type 0 where
  pub id : IsStreamId text (codes "stream") content.id
  pub body : HasObject text (codes "data") content.body
  pub emitted_at : HasCount text (codes "emitted_at") content.emitted_at
  pub meta : HasOptional text (codes "meta") content.meta

-- the `log` of a LOG line
pub record IsLog (text : List ℕ) (content : LogMsg) : Type 0 where
  pub level : HasText text (codes "level") (level_text content.level)
  pub message : HasText text (codes "message") content.text

-- the `spec` of a SPEC line
pub record IsSpec (text : List ℕ) (content : SpecMsg) : Type 0 where
  pub specification : HasObject text (codes "connectionSpecification") content.specification

-- the `connectionStatus` of a CONNECTION_STATUS line
pub record IsConnection (text : List ℕ) (content : ConnectionMsg) : Type 0 where
  pub status : HasText text (codes "status") (connection_text content.succeeded)
  pub message : HasOptionalText text (codes "message") content.text

-- the `catalog` of a CATALOG line
pub record IsCatalog (text : List ℕ) (content : CatalogMsg) : Type 0 where
  pub streams : HasArray text (codes "streams") content.streams

-- the `control` of a CONTROL line
pub record IsControl (text : List ℕ) (content : ControlMsg) : Type 0 where
  pub object : content.object ≡ text
  pub name : List ℕ
  pub type : HasText text (codes "type") name

-- what a line of this type tells, by the text of its payload
abbrev pub IsPayload : MessageType → List ℕ → Message → Type 0
IsPayload types.Rec text (message.Rec content) = IsRecord text content
IsPayload types.State text (message.State content) = IsState text content
IsPayload types.Log text (message.Log content) = IsLog text content
IsPayload types.Spec text (message.Spec content) = IsSpec text content
IsPayload types.Connection text (message.Connection content) = IsConnection text content
IsPayload types.Catalog text (message.Catalog content) = IsCatalog text content
IsPayload types.Trace text (message.Trace content) = IsTrace text content
IsPayload types.Control text (message.Control content) = IsControl text content
IsPayload _ text _ = ⊥

-- the line is this message
pub record IsMessage (line : List ℕ) (content : Message) : Type 0 where
  pub type : MessageType
  pub typed : HasText line (codes "type") (type_text type)
  pub payload : List ℕ
  pub field : HasField line (payload_text type) payload
  pub told : IsPayload type payload content

abbrev pub IsStateLine : List ℕ → State → Type 0
IsStateLine line state = IsMessage line (message.State state)
