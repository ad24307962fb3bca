use Rattle.std.proofs.Common.{◌≡◌, length, ◌-◌, slice_range, refl, sym, ◌∙◌}
use Rattle.std.proofs.lemmas.Slice.Eq.{bytes_eq-Decides}
use Rattle.json_fields.proofs.Keys.{key_same}
use Rattle.json_fields.proofs.lookup.is_key.Goals as goal

pub returns-then-eq : goal.returns-then-eq
returns-then-eq c =
    let key = c.args.key.now in
    let name = c.args.name.now in
    let inside = slice_range key 1 (length key - 1) in
    let same : inside ≡ name = (bytes_eq-Decides inside c.as_bytes-2.result.now).0 (sym c.eq.ensures ∙ c.if-eq.true) ∙ c.as_bytes-2.ensures.value in
    (λ yes. key_same key name c.requires.key c.requires.word same, λ named. refl)
