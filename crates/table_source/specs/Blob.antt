-- The blob of a state of a table: the texts of the cursor and the key of the last row that was written.
use Rattle.std.specs.Prelude.{ℕ, List, [], ◌∷◌, map, codes}
use Rattle.json_write.specs.Objects.{list_text, named, object_text}
use Rattle.table_source.specs.declared.keyed.KeyedRow.{KeyedRow}

abbrev pub blob_of : KeyedRow → List ℕ
blob_of row = object_text (named (codes "cursor") row.cursor.text ∷ named (codes "key") (list_text (map (λ part. part.text) row.key)) ∷ [])
