-- The text of the state store grows by one part after another.
use Rattle.std.proofs.Common.{◌≡◌, ℕ, List, [], ◌∷◌, ◌++◌, ◌∙◌, ap, map, option_map, codes, decimal, append_assoc}
use Rattle.json.specs.Print.{quoted}
use Rattle.json_write.specs.Objects.{Part, list_text, more_text, named, object_text, optional, part_before}
use Rattle.json_write.proofs.Texts.{closes, grows, keyed, optional-append}
use Rattle.state_kinds.specs.declared.entry.SavedEntry.{SavedEntry}
use Rattle.state_kinds.specs.Saved.{Saved}
use Rattle.state_kinds.specs.Texts.{entry_parts, held_text, store_text}

pub entry_closes : (entry : SavedEntry) (name old named_text spaced counted held closed : List ℕ) → name ≡ entry.id.name → named_text ≡ old ++ 123 ∷ part_before (named (codes "name") (quoted name)) [] → spaced ≡ named_text ++ more_text (optional (codes "namespace") (option_map quoted entry.id.namespace) []) → counted ≡ spaced ++ 44 ∷ part_before (named (codes "generation") (decimal entry.generation)) [] → held ≡ counted ++ 44 ∷ part_before (named (codes "state") (held_text entry.state)) [] → closed ≡ held ++ 125 ∷ [] → closed ≡ old ++ object_text (entry_parts entry)
entry_closes entry name old named_text spaced counted held closed same e1 e2 e3 e4 e5 =
    let first : Part = named (codes "name") (quoted entry.id.name) in
    let space : List Part = optional (codes "namespace") (option_map quoted entry.id.namespace) [] in
    let generation : Part = named (codes "generation") (decimal entry.generation) in
    let state : Part = named (codes "state") (held_text entry.state) in
    let begun = e1 ∙ ap (λ (n : List ℕ). old ++ 123 ∷ part_before (named (codes "name") (quoted n)) []) same in
    let one = grows old named_text spaced first [] space begun e2 in
    let two = grows old spaced counted first space (generation ∷ []) one e3 in
    let three = grows old counted held first (space ++ generation ∷ []) (state ∷ []) two e4 in
    closes old held closed first ((space ++ generation ∷ []) ++ state ∷ []) three e5
    ∙ ap (λ (parts : List Part). old ++ object_text (first ∷ parts)) (append_assoc space (generation ∷ []) (state ∷ []) ∙ optional-append (codes "namespace") (option_map quoted entry.id.namespace) [] (generation ∷ state ∷ []))

pub store_closes : (set_is : Saved) (entries version keyed_text listed held closed : List ℕ) → entries ≡ list_text (map (λ (entry : SavedEntry). object_text (entry_parts entry)) set_is.entries) → version ≡ 123 ∷ part_before (named (codes "version") (decimal 1)) [] → keyed_text ≡ version ++ 44 ∷ (quoted (codes "streams") ++ 58 ∷ []) → listed ≡ keyed_text ++ entries → held ≡ listed ++ 44 ∷ part_before (named (codes "global") (held_text set_is.global)) [] → closed ≡ held ++ 125 ∷ [] → closed ≡ store_text set_is
store_closes set_is entries version keyed_text listed held closed all e1 e2 e3 e4 e5 =
    let first : Part = named (codes "version") (decimal 1) in
    let streams : Part = named (codes "streams") entries in
    let global : Part = named (codes "global") (held_text set_is.global) in
    let member = keyed 44 version keyed_text listed (codes "streams") entries e2 e3 in
    let one = grows [] version listed first [] (streams ∷ []) e1 member in
    let two = grows [] listed held first (streams ∷ []) (global ∷ []) one e4 in
    closes [] held closed first (streams ∷ global ∷ []) two e5
    ∙ ap (λ (es : List ℕ). object_text (first ∷ named (codes "streams") es ∷ global ∷ [])) all
