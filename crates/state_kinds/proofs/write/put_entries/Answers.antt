use Rattle.std.proofs.Common.{◌≡◌, ◌++◌, ◌∷◌, [], ℕ, List, cond, nat_eq, map, ap, ◌∙◌, append_assoc}
use Rattle.std.proofs.lemmas.List.{take_all}
use Rattle.json_write.specs.Objects.{object_text, open_list}
use Rattle.json_write.proofs.Texts.{list_step, list_closes}
use Rattle.state_kinds.specs.declared.entry.SavedEntry.{SavedEntry}
use Rattle.state_kinds.specs.Texts.{entry_parts}
use Rattle.state_kinds.proofs.write.put_entries.Goals as goal

abbrev entry_text : SavedEntry → List ℕ
entry_text entry = object_text (entry_parts entry)

pub loop-i-init : goal.loop-i-init
loop-i-init c = c.in_ok-push.ensures.ok

pub loop-i-preserved : goal.loop-i-preserved
loop-i-preserved c =
    let entries = c.args.entries.now in
    let i = c.loop-i.i in
    let mark = cond (nat_eq i 0) [] (44 ∷ []) in
    let entry = c.index-entries-i.result in
    let put : c.put_entry.new.text ≡ c.loop-i.text ++ (mark ++ entry_text entry) =
    c.in_ok-put_entry.ensures ∙ (ap (λ (t : List ℕ). t ++ entry_text entry) c.in_ok-put_comma.ensures.ok ∙ append_assoc c.loop-i.text mark (entry_text entry)) in
    list_step entry_text entries i entry c.args.text.now c.loop-i.text c.put_entry.new.text c.loop-i-test.true c.loop-i.invariant (put ∙ ap (λ (e : SavedEntry). c.loop-i.text ++ (mark ++ entry_text e)) c.index-entries-i.is)

pub returns : goal.returns
returns c =
    let entries = c.args.entries.now in
    let whole = c.loop-i.invariant ∙ ap (λ (es : List SavedEntry). c.args.text.now ++ open_list (map entry_text es)) (take_all c.loop-i.i entries c.loop-i-test.false) in
    list_closes c.args.text.now c.loop-i.text c.push-2.new.self (map entry_text entries) whole c.in_ok-push-2.ensures.ok
