-- What a source of files says of itself (Airbyte Protocol, version 0): its specification, and its streams.
use Rattle.std.specs.Prelude.{ℕ, List, [], ◌∷◌, map, codes, true, false, None, Some}
use Rattle.json.specs.Print.{quoted}
use Rattle.json_write.specs.Objects.{Part, list_text, named, object_text}
use Rattle.airbyte_message.specs.declared.message.Message.TheVariants as message
use Rattle.message_writer.specs.Written.{written}
use Rattle.csv_sheet.specs.Sheet.{Fields}

-- each column is a string
abbrev pub column_part : List ℕ → Part
column_part name = named name (codes "{\"type\":\"string\"}")

abbrev pub column_parts : Fields → List Part
column_parts header = map column_part header

-- the JSON schema of a file's rows
abbrev pub schema_text : Fields → List ℕ
schema_text header =
    object_text (named (codes "type") (quoted (codes "object")) ∷ named (codes "properties") (object_text (column_parts header)) ∷ [])

-- the stream of a file
abbrev pub file_text : List ℕ → Fields → List ℕ
file_text name header = object_text (
    named (codes "name") (quoted name)
    ∷ named (codes "json_schema") (schema_text header)
    ∷ named (codes "supported_sync_modes") (codes "[\"full_refresh\",\"incremental\"]")
    ∷ named (codes "source_defined_cursor") (codes "true")
    ∷ named (codes "is_resumable") (codes "true")
    ∷ [])

-- the line that says the streams, by their texts
abbrev pub discover_line : List (List ℕ) → List ℕ
discover_line texts = written (message.Catalog (record { streams = list_text texts }))

abbrev pub specification : List ℕ
specification = codes "{\"type\":\"object\",\"required\":[\"files\"]}"

abbrev pub spec_line : List ℕ
spec_line = written (message.Spec (record { specification = specification }))

-- the line that says whether a configuration can be used, and else why not
abbrev pub succeeded_line : List ℕ
succeeded_line = written (message.Connection (record { succeeded = true; text = None }))

abbrev pub failed_line : List ℕ → List ℕ
failed_line why = written (message.Connection (record { succeeded = false; text = Some why }))
