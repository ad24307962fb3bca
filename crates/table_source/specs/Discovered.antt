-- What a source of tables says of itself (Airbyte Protocol, version 0): its specification, and its streams.
use Rattle.std.specs.Prelude.{ℕ, List, [], ◌∷◌, map, codes, true, false, Option, None, Some, option_map}
use Rattle.json.specs.Print.{quoted}
use Rattle.json_write.specs.Objects.{Part, list_text, named, object_text, optional}
use Rattle.json_squeeze.specs.Squeeze.{squeezed}
use Rattle.airbyte_message.specs.declared.message.Message.TheVariants as message
use Rattle.message_writer.specs.Written.{written}
use Rattle.table_config.specs.declared.config.TableConfig.{TableConfig}
use Rattle.table_config.specs.declared.config.TableEntry.{TableEntry}

-- one path of one name
abbrev pub name_path : List ℕ → List ℕ
name_path name = list_text (quoted name ∷ [])

-- a key without names is none
abbrev pub key_paths : List (List ℕ) → Option (List ℕ)
key_paths [] = None
key_paths (name ∷ names) = Some (list_text (map name_path (name ∷ names)))

abbrev pub table_parts : TableEntry → List Part
table_parts entry =
    named (codes "name") (quoted entry.name)
    ∷ named (codes "json_schema") (squeezed entry.schema)
    ∷ named (codes "supported_sync_modes") (codes "[\"full_refresh\",\"incremental\"]")
    ∷ named (codes "source_defined_cursor") (codes "false")
    ∷ optional (codes "default_cursor_field") (option_map name_path entry.cursor)
    (optional (codes "source_defined_primary_key") (key_paths entry.key) (named (codes "is_resumable") (codes "true") ∷ []))

-- the stream of a table
abbrev pub table_text : TableEntry → List ℕ
table_text entry = object_text (table_parts entry)

-- the line that says the streams, one for each entry, in order
abbrev pub discover_line : TableConfig → List ℕ
discover_line config = written (message.Catalog (record { streams = list_text (map table_text config.tables) }))

abbrev pub specification : List ℕ
specification = codes "{\"type\":\"object\",\"required\":[\"database\",\"tables\"]}"

abbrev pub spec_line : List ℕ
spec_line = written (message.Spec (record { specification = specification }))

-- the line that says whether a configuration can be used, and else why not
abbrev pub succeeded_line : List ℕ
succeeded_line = written (message.Connection (record { succeeded = true; text = None }))

abbrev pub failed_line : List ℕ → List ℕ
failed_line why = written (message.Connection (record { succeeded = false; text = Some why }))
