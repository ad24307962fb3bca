use Rattle.std.proofs.Common.{◌≡◌, None, sym, ap, ◌∙◌}
use Rattle.json_scalar.proofs.Plain.{plain_string, all_plain, first_other}
use Rattle.json_fields.proofs.view.plain_inside.Goals as goal

pub returns-in-None : goal.returns-in-None
returns-in-None c =
    let inside = c.in-Some.inside.now in
    let plain : first_other inside ≡ None = ap first_other (sym c.as_bytes.ensures.value) ∙ sym c.first_not_plain.ensures ∙ c.in-None.is in
    plain_string c.args.text.now inside c.requires (sym c.from_utf8_unchecked-string.ensures ∙ c.in-Some.ensures) (all_plain inside plain)
