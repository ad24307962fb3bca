-- The catalog of made input: two incremental streams of generation 0.
use Rattle.std.specs.Prelude.{ℕ, List, [], ◌∷◌, codes}
use Rattle.std.specs.Fmt.{decimal}
use Rattle.json.specs.Print.{quoted}
use Rattle.json_write.specs.Objects.{Part, list_text, named, object_text}
use Rattle.basics.specs.declared.stream.StreamId.{StreamId}
use Rattle.made_input.specs.Made.{items, visits}

-- a column of whole numbers
abbrev pub integer_column : List ℕ → Part
integer_column name = named name (object_text (named (codes "type") (quoted (codes "integer")) ∷ []))

-- a stream with these columns
abbrev pub stream_text : StreamId → List Part → List ℕ
stream_text id columns = object_text (
    named (codes "name") (quoted id.name)
    ∷ named (codes "json_schema") (object_text (named (codes "type") (quoted (codes "object")) ∷ named (codes "properties") (object_text columns) ∷ []))
    ∷ named (codes "supported_sync_modes") (list_text (quoted (codes "incremental") ∷ []))
    ∷ [])

-- generation 0, and no earlier one
abbrev pub first_generation : List Part
first_generation = named (codes "generation_id") (decimal 0) ∷ named (codes "minimum_generation_id") (decimal 0) ∷ []

-- Of each item the row with the greatest version counts.
abbrev pub items_entry : List ℕ
items_entry = object_text (
    named (codes "stream") (stream_text items (integer_column (codes "id") ∷ integer_column (codes "version") ∷ []))
    ∷ named (codes "sync_mode") (quoted (codes "incremental"))
    ∷ named (codes "destination_sync_mode") (quoted (codes "append_dedup"))
    ∷ named (codes "cursor_field") (list_text (quoted (codes "version") ∷ []))
    ∷ named (codes "primary_key") (list_text (list_text (quoted (codes "id") ∷ []) ∷ []))
    ∷ first_generation)

abbrev pub visits_entry : List ℕ
visits_entry = object_text (
    named (codes "stream") (stream_text visits (integer_column (codes "version") ∷ []))
    ∷ named (codes "sync_mode") (quoted (codes "incremental"))
    ∷ named (codes "destination_sync_mode") (quoted (codes "append"))
    ∷ first_generation)

abbrev pub catalog_text : List ℕ
catalog_text = object_text (named (codes "streams") (list_text (items_entry ∷ visits_entry ∷ [])) ∷ [])
