use Rattle.std.proofs.Common.{◌≡◌, ◌++◌, [], ◌∷◌, List, ℕ, Option, map, codes, decimal, ap, ◌∙◌}
use Rattle.json_write.specs.Objects.{list_text, named, object_text, part_before}
use Rattle.state_kinds.specs.declared.entry.SavedEntry.{SavedEntry}
use Rattle.state_kinds.specs.Texts.{entry_parts, held_text}
use Rattle.state_kinds.proofs.StoreTextLemmas.{store_closes}
use Rattle.state_kinds.proofs.write.write_store.Goals as goal

abbrev entry_text : SavedEntry → List ℕ
entry_text entry = object_text (entry_parts entry)

pub returns : goal.returns
returns c =
    let version : c.put_number_member.new.text ≡ 123 ∷ part_before (named (codes "version") (decimal 1)) [] =
    c.in_ok-put_number_member.ensures.ok ∙ ap (λ (t : List ℕ). t ++ 123 ∷ part_before (named (codes "version") (decimal 1)) []) c.new-text.ensures in
    let held = c.in_ok-put_held.ensures ∙ ap (λ (o : Option (List ℕ)). c.put_entries.new.text ++ 44 ∷ part_before (named (codes "global") (held_text o)) []) c.global.ensures in
    store_closes c.args.set.now (list_text (map entry_text c.entries.result.now)) c.put_number_member.new.text c.put_key.new.text c.put_entries.new.text c.put_held.new.text c.push.new.self
    (ap (λ (es : List SavedEntry). list_text (map entry_text es)) c.entries.ensures.entries)
    version c.in_ok-put_key.ensures.ok c.in_ok-put_entries.ensures held c.in_ok-push.ensures.ok
