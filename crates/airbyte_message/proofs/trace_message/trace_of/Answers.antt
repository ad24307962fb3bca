use Rattle.std.proofs.Common.{ap, codes}
use Rattle.std.specs.Option.{option_copied, option_map}
use Rattle.std.proofs.lemmas.Result.{IfOk-weaker}
use Rattle.json_fields.specs.Fields.{line_depth}
use Rattle.json_fields.specs.Parts.{HasOptionalNumber}
use Rattle.json_fields.proofs.AnswerLemmas.{along, uncut}
use Rattle.airbyte_message.proofs.TraceLemmas.{IsTypeOf, trace_answer, trace_uncut, trace_untyped, trace_no_number}
use Rattle.airbyte_message.proofs.trace_message.trace_of.Goals as goal

pub returns-in_default : goal.returns-in_default
returns-in_default c = trace_uncut c.args.text.now (uncut line_depth c.args.text.now c.in_ok-members.field-0 c.in_default.is c.in_ok-members.ensures.none)

pub returns-in_default-2 : goal.returns-in_default-2
returns-in_default-2 c = trace_untyped c.args.text.now (along (IsTypeOf c.args.text.now) c.in_default-2.is c.in_ok-kind.ensures)

pub returns-in-Some-3 : goal.returns-in-Some-3
returns-in-Some-3 c =
    let text = c.args.text.now in
    let number = along (HasOptionalNumber text (codes "emitted_at")) (ap (option_map option_copied) c.in-Some-3.is) c.in_ok-emitted_at.ensures in
    IfOk-weaker c.told_of.result _ _ (λ found answer. trace_answer text c.in-Some-2.kind (option_copied c.in-Some-3.emitted_at) found (along (IsTypeOf text) c.in-Some-2.is c.in_ok-kind.ensures) number answer) c.told_of.ensures

pub returns : goal.returns
returns c = trace_no_number c.args.text.now (along (HasOptionalNumber c.args.text.now (codes "emitted_at")) (ap (option_map option_copied) c.in-None.is) c.in_ok-emitted_at.ensures)
