use Rattle.std.proofs.Common.{◌∙◌, ◌++◌, ℕ, List, [], ◌∷◌, Option, option_map, codes, ap}
use Rattle.json.specs.Print.{quoted}
use Rattle.json_write.specs.Objects.{named, object_text, open_object, optional}
use Rattle.json_squeeze.specs.Squeeze.{squeezed}
use Rattle.table_source.specs.Discovered.{name_path}
use Rattle.table_source.proofs.SaidLemmas.{seven}
use Rattle.table_source.proofs.said.table_text_of.Goals as goal

abbrev whole : List ℕ → List ℕ → Option (List ℕ) → Option (List ℕ) → List ℕ
whole name schema cursor key = object_text (
    named (codes "name") (quoted name) ∷ named (codes "json_schema") schema ∷ named (codes "supported_sync_modes") (codes "[\"full_refresh\",\"incremental\"]") ∷ named (codes "source_defined_cursor") (codes "false")
    ∷ optional (codes "default_cursor_field") cursor (optional (codes "source_defined_primary_key") key (named (codes "is_resumable") (codes "true") ∷ [])))

pub returns : goal.returns
returns c =
    let name = named (codes "name") (quoted c.as_str.result.now) in
    let schema = named (codes "json_schema") c.as_slice-2.result.now in
    seven c.put_string_member.new.text c.put_member.new.text c.put_member-2.new.text c.put_member-3.new.text c.put_optional_member.new.text c.put_optional_member-2.new.text c.put_member-4.new.text c.push.new.self
    name schema (named (codes "supported_sync_modes") (codes "[\"full_refresh\",\"incremental\"]")) (named (codes "source_defined_cursor") (codes "false")) (named (codes "is_resumable") (codes "true"))
    (codes "default_cursor_field") (codes "source_defined_primary_key") c.in_ok-cursor.cursor c.in_ok-key.key
    (c.in_ok-put_string_member.ensures.ok ∙ ap (λ (t : List ℕ). t ++ open_object (name ∷ [])) c.new-text.ensures)
    c.in_ok-put_member.ensures.ok c.in_ok-put_member-2.ensures.ok c.in_ok-put_member-3.ensures.ok c.in_ok-put_optional_member.ensures.ok c.in_ok-put_optional_member-2.ensures.ok c.in_ok-put_member-4.ensures.ok c.in_ok-push.ensures.ok
    ∙ ap (λ (n : List ℕ). whole n c.as_slice-2.result.now c.in_ok-cursor.cursor c.in_ok-key.key) c.as_str.ensures
    ∙ ap (λ (s : List ℕ). whole c.args.entry.now.name s c.in_ok-cursor.cursor c.in_ok-key.key) (c.as_slice-2.ensures ∙ c.in_ok-schema.ensures.squeezed ∙ ap squeezed c.as_slice.ensures)
    ∙ ap (λ (x : Option (List ℕ)). whole c.args.entry.now.name (squeezed c.args.entry.now.schema) x c.in_ok-key.key) c.in_ok-cursor.ensures
    ∙ ap (λ (y : Option (List ℕ)). whole c.args.entry.now.name (squeezed c.args.entry.now.schema) (option_map name_path c.args.entry.now.cursor) y) c.in_ok-key.ensures
