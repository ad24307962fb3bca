use Rattle.std.proofs.Common.{ap}
use Rattle.std.specs.Option.{option_copied}
use Rattle.std.proofs.lemmas.Result.{IfOk-weaker}
use Rattle.json_fields.specs.Fields.{HasField}
use Rattle.json_fields.proofs.AnswerLemmas.{along}
use Rattle.state_kinds.proofs.FormLemmas.{state_absent, state_at}
use Rattle.state_kinds.proofs.form.state_field.Goals as goal

pub returns-in-Some : goal.returns-in-Some
returns-in-Some c =
    let text = c.args.text.now in
    let name = c.args.name.now in
    let held = along (HasField text name) (ap option_copied c.in-Some.is) c.in_ok-held.ensures.field in
    IfOk-weaker c.held_state_of.result _ _ (λ found answer. state_at text name c.in-Some.held.now found held answer) c.held_state_of.ensures

pub returns-in-None : goal.returns-in-None
returns-in-None c =
    let text = c.args.text.now in
    let name = c.args.name.now in
    state_absent text name (along (HasField text name) (ap option_copied c.in-None.is) c.in_ok-held.ensures.field)
