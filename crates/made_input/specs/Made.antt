-- Made input: the messages of two streams, by arithmetic alone, and their lines.
use Rattle.std.specs.Prelude.{ℕ, zero, suc, ◌+◌, ◌*◌, ◌%◌, List, [], ◌∷◌, ◌++◌, flat_map, Bool, ◌||◌, nat_eq, if◌then◌else◌, None, Some, codes}
use Rattle.std.specs.Fmt.{decimal}
use Rattle.json_write.specs.Objects.{named, object_text}
use Rattle.basics.specs.declared.stream.StreamId.{StreamId}
use Rattle.airbyte_message.specs.declared.message.Message.{Message}
use Rattle.airbyte_message.specs.declared.message.Message.TheVariants as message
use Rattle.airbyte_message.specs.declared.message.StateKind.TheVariants as kind
use Rattle.airbyte_message.specs.declared.message.TraceMsg.TheVariants as trace
use Rattle.airbyte_message.specs.declared.stream_status.StreamStatus.TheVariants as status
use Rattle.message_writer.specs.Written.{written}
use Rattle.source_lines.specs.Lines.{state_object}

-- the two streams
abbrev pub items : StreamId
items = record { name = codes "items"; namespace = None }

abbrev pub visits : StreamId
visits = record { name = codes "visits"; namespace = None }

-- The id of the item in this row, from 0. Since 7 and 1,000 have no common factor, each of the ids below 1,000 comes once in a
-- thousand rows.
abbrev pub id_in : ℕ → ℕ
id_in row = row * 7 % 1000

-- States stand behind each thousandth row, and behind the last.
abbrev pub has_states : ℕ → ℕ → Bool
has_states rows row = nat_eq ((row + 1) % 1000) 0 || nat_eq (row + 1) rows

-- how many records of each stream stand between the state before, or the beginning, and the state behind this row
abbrev pub since_state : ℕ → ℕ
since_state row = row % 1000 + 1

abbrev pub item_body : ℕ → List ℕ
item_body row = object_text (named (codes "id") (decimal (id_in row)) ∷ named (codes "version") (decimal row) ∷ [])

abbrev pub visit_body : ℕ → List ℕ
visit_body row = object_text (named (codes "version") (decimal row) ∷ [])

abbrev pub record_of : StreamId → List ℕ → Message
record_of id body = message.Rec (record { id = id; body = body; emitted_at = 0; meta = None })

-- what a state of this row says of its stream
abbrev pub row_blob : ℕ → List ℕ
row_blob row = object_text (named (codes "row") (decimal row) ∷ [])

-- the state of a stream behind a row, with the number of records since the last
abbrev pub state_of : StreamId → ℕ → Message
state_of id row = message.State (record {
  object = state_object id (row_blob row) (since_state row);
  kind = kind.Stream id (Some (row_blob row));
  source_count = Some (since_state row);
})

abbrev pub complete : StreamId → Message
complete id = message.Trace (trace.Status id status.Complete (Some (decimal 0)))

-- a record of each stream
abbrev pub row_records : ℕ → List Message
row_records row = record_of items (item_body row) ∷ record_of visits (visit_body row) ∷ []

-- a state of each stream
abbrev pub row_states : ℕ → List Message
row_states row = state_of items row ∷ state_of visits row ∷ []

-- the messages of a row among so many
abbrev pub row_messages : ℕ → ℕ → List Message
row_messages rows row = if has_states rows row then row_records row ++ row_states row else row_records row

-- both streams are complete
abbrev pub end_messages : List Message
end_messages = complete items ∷ complete visits ∷ []

-- the parts of so many rows from this one on, and the end behind them: for each row its messages
abbrev pub parts_from : ℕ → ℕ → ℕ → List (List Message)
parts_from rows row zero = end_messages ∷ []
parts_from rows row (suc left) = row_messages rows row ∷ parts_from rows (row + 1) left

abbrev pub made_parts : ℕ → List (List Message)
made_parts rows = parts_from rows 0 rows

-- a line for each message
abbrev pub lines_text : List Message → List ℕ
lines_text messages = flat_map (λ m. written m ++ 10 ∷ []) messages

-- the lines of so many rows
abbrev pub made_text : ℕ → List ℕ
made_text rows = flat_map lines_text (made_parts rows)
