-- The lines that a source writes of one stream (Airbyte Protocol, version 0).
use Rattle.std.specs.Prelude.{ℕ, List, [], ◌∷◌, None, Some, codes}
use Rattle.std.specs.Fmt.{decimal}
use Rattle.json.specs.Print.{quoted}
use Rattle.json_write.specs.Objects.{named, object_text}
use Rattle.basics.specs.declared.stream.StreamId.{StreamId}
use Rattle.airbyte_message.specs.declared.message.Message.TheVariants as message
use Rattle.airbyte_message.specs.declared.message.TraceMsg.TheVariants as trace
use Rattle.airbyte_message.specs.declared.stream_status.StreamStatus.{StreamStatus}
use Rattle.airbyte_message.specs.declared.read.MessageType.TheVariants as types
use Rattle.message_writer.specs.Written.{id_parts, line_text, written}

-- a record with this body, read at this moment, in milliseconds since 1970
abbrev pub record_line : StreamId → ℕ → List ℕ → List ℕ
record_line id moment body = written (message.Rec (record { id = id; body = body; emitted_at = moment; meta = None }))

abbrev pub status_line : StreamId → ℕ → StreamStatus → List ℕ
status_line id moment status = written (message.Trace (trace.Status id status (Some (decimal moment))))

-- the stream and the source's own blob
abbrev pub stream_object : StreamId → List ℕ → List ℕ
stream_object id blob =
    object_text (named (codes "stream_descriptor") (object_text (id_parts (codes "name") id [])) ∷ named (codes "stream_state") blob ∷ [])

-- a state of one stream, with the number of records since the last
abbrev pub state_object : StreamId → List ℕ → ℕ → List ℕ
state_object id blob count = object_text (
    named (codes "type") (quoted (codes "STREAM"))
    ∷ named (codes "stream") (stream_object id blob)
    ∷ named (codes "sourceStats") (object_text (named (codes "recordCount") (decimal count) ∷ []))
    ∷ [])

abbrev pub state_line : StreamId → List ℕ → ℕ → List ℕ
state_line id blob count = line_text types.State (state_object id blob count)
