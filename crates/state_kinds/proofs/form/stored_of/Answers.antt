use Rattle.std.proofs.Common.{codes, subst, ℕ}
use Rattle.std.proofs.lemmas.Result.{IfOk-weaker}
use Rattle.json_fields.specs.Fields.{line_depth}
use Rattle.json_fields.specs.Parts.{HasCount}
use Rattle.json_fields.proofs.AnswerLemmas.{along, uncut}
use Rattle.state_kinds.proofs.FormLemmas.{stored_answer, stored_later, stored_uncut, stored_unversioned}
use Rattle.state_kinds.proofs.form.stored_of.Goals as goal

pub returns-in_default : goal.returns-in_default
returns-in_default c = stored_uncut c.args.text.now (uncut line_depth c.args.text.now c.in_ok-members.field-0 c.in_default.is c.in_ok-members.ensures.none)

pub returns-in-Some-eq1 : goal.returns-in-Some-eq1
returns-in-Some-eq1 c =
    let text = c.args.text.now in
    let version = along (HasCount text (codes "version")) c.in-Some-eq1.is c.in_ok-count_field.ensures in
    IfOk-weaker c.parts_of.result _ _ (λ found answer. stored_answer text found (subst (λ (n : ℕ). HasCount text (codes "version") n) c.in-Some-eq1.field-0-test version.is) answer) c.parts_of.ensures

pub returns-in-Some-2 : goal.returns-in-Some-2
returns-in-Some-2 c =
    stored_later c.args.text.now c.in-Some-2._other (along (HasCount c.args.text.now (codes "version")) c.in-Some-2.is c.in_ok-count_field.ensures) c.in-Some-2._other-test.1

pub returns : goal.returns
returns c = stored_unversioned c.args.text.now (along (HasCount c.args.text.now (codes "version")) c.in-None.is c.in_ok-count_field.ensures)
