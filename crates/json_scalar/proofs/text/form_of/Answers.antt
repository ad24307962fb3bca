use Rattle.std.proofs.Common.{sym, ◌∙◌, ap}
use Rattle.json_scalar.proofs.Plain.{first_other, all_plain, no_string}
use Rattle.json_scalar.proofs.text.form_of.Goals as goal

pub returns-in-None : goal.returns-in-None
returns-in-None c =
    let read = (c.in-Ok.ensures {u = tt}).cases in
    record {
      utf8 = read.1;
      spelled = sym read.0 ∙ c.in-Some.ensures {u = tt};
      plain = all_plain c.in-Some.inside.now (ap first_other (sym c.as_bytes.ensures.value) ∙ sym (c.in-None.ensures {u = tt}));
    }

pub returns-in-Some-first_not_plain : goal.returns-in-Some-first_not_plain
returns-in-Some-first_not_plain c =
    let read = (c.in-Ok.ensures {u = tt}).cases in
    no_string c.args.text.now c.in-Some.inside.now c.in-Some-first_not_plain.field-0 (sym read.0 ∙ c.in-Some.ensures {u = tt})
    (ap first_other (sym c.as_bytes.ensures.value) ∙ sym (c.in-Some-first_not_plain.ensures {u = tt})) c.in-Some-first_not_plain.field-0-test.1
