use Rattle.std.proofs.Common.{◌∙◌, ap, bytes_eq}
use Rattle.json_scalar.proofs.Plain.{plain_string}
use Rattle.json_scalar.proofs.Decoded.{same_name, no_name}
use Rattle.json_scalar.proofs.text.is_string_of.Goals as goal

pub returns-in-NoString : goal.returns-in-NoString
returns-in-NoString c = no_name c.args.text.now c.args.name.now (c.in-NoString.ensures {u = tt})

pub returns-in-Plain : goal.returns-in-Plain
returns-in-Plain c =
    let p = c.in-Plain.ensures {u = tt} in
    same_name c.args.text.now c.in-Plain.inside.now c.args.name.now c.eq.result c.eq.ensures (plain_string c.args.text.now c.in-Plain.inside.now p.utf8 p.spelled p.plain)

pub returns-in-Some : goal.returns-in-Some
returns-in-Some c =
    let found = rw (c.in-Some.is, (c.in-Escaped.ensures {u = tt}).whole) at (c.in_ok-meaning-in-Escaped.ensures {u = tt}).string in
    same_name c.args.text.now c.in-Some.meaning c.args.name.now c.eq-in-Some.result (c.eq-in-Some.ensures ∙ ap (λ l. bytes_eq l c.args.name.now) c.as_str.ensures) found

pub returns-in-None : goal.returns-in-None
returns-in-None c =
    let none = rw (c.in-None.is, (c.in-Escaped.ensures {u = tt}).whole) at (c.in_ok-meaning-in-Escaped.ensures {u = tt}).none in
    no_name c.args.text.now c.args.name.now none
