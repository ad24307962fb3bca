use Rattle.std.proofs.Common.{sym, ◌∙◌, subst}
use Rattle.json_scalar.specs.Text.{IsString}
use Rattle.json_scalar.proofs.Contents.{one_meaning}
use Rattle.json_scalar.proofs.Plain.{plain_string}
use Rattle.json_scalar.proofs.text.text_of.Goals as goal

pub returns-in_ok-copy_of-in-Plain-clause-string : goal.returns-in_ok-copy_of-in-Plain-clause-string
returns-in_ok-copy_of-in-Plain-clause-string c =
    let p = c.in-Plain.ensures {u = tt} in
    subst (IsString c.args.text.now) (sym (c.in_ok-copy_of-in-Plain.ensures {u = tt})) (plain_string c.args.text.now c.in-Plain.inside.now p.utf8 p.spelled p.plain)

pub returns-in_ok-copy_of-in-Plain-clause-only : goal.returns-in_ok-copy_of-in-Plain-clause-only
returns-in_ok-copy_of-in-Plain-clause-only c = λ meaning s.
    let p = c.in-Plain.ensures {u = tt} in
    one_meaning c.args.text.now meaning c.in-Plain.inside.now s (plain_string c.args.text.now c.in-Plain.inside.now p.utf8 p.spelled p.plain) ∙ sym (c.in_ok-copy_of-in-Plain.ensures {u = tt})

pub returns-in-Escaped-clause-only : goal.returns-in-Escaped-clause-only
returns-in-Escaped-clause-only c = rw (← (c.in-Escaped.ensures {u = tt}).whole) c.decoded.ensures.only

pub returns-in-Escaped-clause-none : goal.returns-in-Escaped-clause-none
returns-in-Escaped-clause-none c = rw (← (c.in-Escaped.ensures {u = tt}).whole) c.decoded.ensures.none
