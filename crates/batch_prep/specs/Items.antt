-- The rows of a batch's lines.
use Rattle.std.specs.Prelude.{◌≡◌, ◌⊎◌, ℕ, List, [], ◌∷◌}
use Rattle.airbyte_message.specs.Messages.{IsMessage}
use Rattle.airbyte_message.specs.declared.message.Message.TheVariants as message
use Rattle.airbyte_message.specs.declared.message.RecordMsg.{RecordMsg}
use Rattle.outside.specs.declared.event.RawRow.{RawRow}
use Rattle.outside.specs.declared.line.SeqLine.{SeqLine}
use Rattle.column_types.specs.Rows.{RowParts, IsRow}
use Rattle.batch_prep.specs.declared.item.PrepPlan.{PrepPlan}
use Rattle.batch_prep.specs.declared.item.WorkItem.{WorkItem}

-- a batch and rows
pub record Batch : Type 0 where
  pub item : WorkItem
  pub rows : List RawRow

-- what the row of a record is made of, by its stream's plan and its number in the load
abbrev pub row_parts : PrepPlan → ℕ → RecordMsg → RowParts
row_parts plan seq content = record {
  load = plan.load;
  seq = seq;
  generation = plan.generation;
  emitted_at = content.emitted_at;
  moment = plan.moment;
  body = content.body;
  meta = content.meta;
  columns = plan.columns;
  key = plan.key;
  cursor = plan.cursor;
}

-- a line that is this RECORD message
abbrev pub IsRecordLine : List ℕ → RecordMsg → Type 0
IsRecordLine line content = IsMessage line (message.Rec content)

-- what a line adds in front of the rows of those behind it: a RECORD message its row, another line nothing
abbrev pub AddsRow : PrepPlan → SeqLine → List RawRow → List RawRow → Type 0
AddsRow plan line later rows =
    ((content : RecordMsg) × IsRecordLine line.line content × ((row : RawRow) × IsRow (row_parts plan line.seq content) row × (rows ≡ row ∷ later)))
    ⊎ (((content : RecordMsg) → ¬ IsRecordLine line.line content) × (rows ≡ later))

-- The rows of these lines, in order: each RECORD message has its row, and there is no other.
abbrev pub AreRows : PrepPlan → List SeqLine → List RawRow → Type 0
AreRows plan [] rows = rows ≡ []
AreRows plan (line ∷ lines) rows = (later : List RawRow) × AreRows plan lines later × AddsRow plan line later rows
