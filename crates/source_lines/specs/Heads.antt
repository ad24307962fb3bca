-- For clauses of those who write the lines of one stream: what stands before a record's body and behind it, and before and
-- behind a state's blob.
use Rattle.std.specs.Prelude.{ℕ, List, [], ◌∷◌, ◌++◌, codes}
use Rattle.std.specs.Fmt.{decimal}
use Rattle.json.specs.Print.{quoted}
use Rattle.json_write.specs.Objects.{named, object_text, open_object, part_before}
use Rattle.basics.specs.declared.stream.StreamId.{StreamId}
use Rattle.airbyte_message.specs.Words.{payload_text, type_text}
use Rattle.airbyte_message.specs.declared.read.MessageType.{MessageType}
use Rattle.airbyte_message.specs.declared.read.MessageType.TheVariants as types
use Rattle.message_writer.specs.Written.{id_parts}

-- a further member's name, with the colon behind it
abbrev pub key_text : List ℕ → List ℕ
key_text name = 44 ∷ (quoted name ++ 58 ∷ [])

-- a line of this type up to what it tells
abbrev pub line_head : MessageType → List ℕ
line_head type = open_object (named (codes "type") (quoted (type_text type)) ∷ []) ++ key_text (payload_text type)

abbrev pub record_head : StreamId → List ℕ
record_head id = line_head types.Rec ++ (open_object (id_parts (codes "stream") id []) ++ key_text (codes "data"))

abbrev pub record_tail : ℕ → List ℕ
record_tail moment = 44 ∷ part_before (named (codes "emitted_at") (decimal moment)) (125 ∷ 125 ∷ [])

abbrev pub state_head : StreamId → List ℕ
state_head id = line_head types.State ++ (open_object (named (codes "type") (quoted (codes "STREAM")) ∷ []) ++ (key_text (codes "stream")
    ++ (open_object (named (codes "stream_descriptor") (object_text (id_parts (codes "name") id [])) ∷ []) ++ key_text (codes "stream_state"))))

abbrev pub state_tail : ℕ → List ℕ
state_tail count = 125 ∷ (key_text (codes "sourceStats") ++ (object_text (named (codes "recordCount") (decimal count) ∷ []) ++ 125 ∷ 125 ∷ []))
