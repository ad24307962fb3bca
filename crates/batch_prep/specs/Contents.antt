-- For private clauses: what a row is made of, in its record.
use Rattle.std.specs.Prelude.{◌≡◌, ℕ}
use Rattle.std.specs.Option.{option_copied}
use Rattle.airbyte_message.specs.declared.message.Message.{Message}
use Rattle.airbyte_message.specs.declared.message.Message.TheVariants as message
use Rattle.airbyte_message.specs.declared.message.RecordMsg.{RecordMsg}
use Rattle.column_types.specs.Rows.{RowParts}
use Rattle.batch_prep.specs.declared.item.PrepPlan.{PrepPlan}
use Rattle.batch_prep.specs.declared.row.Content.{Content}

-- what the row is made of
abbrev pub content_parts : PrepPlan → ℕ → Content → RowParts
content_parts plan seq content = record {
  load = plan.load;
  seq = seq;
  generation = plan.generation;
  emitted_at = content.emitted_at;
  moment = plan.moment;
  body = content.body.now;
  meta = option_copied content.meta;
  columns = plan.columns;
  key = plan.key;
  cursor = plan.cursor;
}

-- the message is a record of this content
pub record IsContentOf (read : Message) (content : Content) : Type 0 where
  pub told : RecordMsg
  pub is : read ≡ message.Rec told
  pub body : content.body.now ≡ told.body
  pub emitted_at : content.emitted_at ≡ told.emitted_at
  pub meta : option_copied content.meta ≡ told.meta

-- the message is no record
abbrev pub HasNoContent : Message → Type 0
HasNoContent read = (told : RecordMsg) → ¬ (read ≡ message.Rec told)
