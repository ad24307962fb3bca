use Rattle.std.proofs.Common.{◌∙◌, ◌++◌, ℕ, List, [], ◌∷◌, codes, ap}
use Rattle.json.specs.Print.{quoted}
use Rattle.json_write.specs.Objects.{named, object_text, open_object}
use Rattle.file_source.proofs.SaidLemmas.{five}
use Rattle.file_source.proofs.said.file_text_of.Goals as goal

abbrev whole : List ℕ → List ℕ → List ℕ
whole name schema = object_text (
    named (codes "name") (quoted name) ∷ named (codes "json_schema") schema ∷ named (codes "supported_sync_modes") (codes "[\"full_refresh\",\"incremental\"]")
    ∷ named (codes "source_defined_cursor") (codes "true") ∷ named (codes "is_resumable") (codes "true") ∷ [])

pub returns : goal.returns
returns c =
    let name = named (codes "name") (quoted c.as_str.result.now) in
    five c.put_string_member.new.text c.put_member.new.text c.put_member-2.new.text c.put_member-3.new.text c.put_member-4.new.text c.push.new.self
    name (named (codes "json_schema") c.as_slice.result.now) (named (codes "supported_sync_modes") (codes "[\"full_refresh\",\"incremental\"]")) (named (codes "source_defined_cursor") (codes "true")) (named (codes "is_resumable") (codes "true"))
    (c.in_ok-put_string_member.ensures.ok ∙ ap (λ (t : List ℕ). t ++ open_object (name ∷ [])) c.new-text.ensures)
    c.in_ok-put_member.ensures.ok c.in_ok-put_member-2.ensures.ok c.in_ok-put_member-3.ensures.ok c.in_ok-put_member-4.ensures.ok c.in_ok-push.ensures.ok
    ∙ ap (λ (n : List ℕ). whole n c.as_slice.result.now) c.as_str.ensures
    ∙ ap (λ (s : List ℕ). whole c.args.name.now s) (c.as_slice.ensures ∙ c.in_ok-schema.ensures)
