use Rattle.std.proofs.Common.{ap}
use Rattle.std.proofs.lemmas.Result.{IfOk-weaker}
use Rattle.std.specs.Option.{option_copied, option_map}
use Rattle.json_fields.specs.Fields.{HasField}
use Rattle.json_fields.specs.Words.{viewed}
use Rattle.json_fields.proofs.AnswerLemmas.{along}
use Rattle.json_fields.proofs.FieldLemmas.{text_answer, text_absent}
use Rattle.json_fields.proofs.lookup.text_in.Goals as goal

pub returns-in-Some : goal.returns-in-Some
returns-in-Some c =
    let field = along (HasField c.args.text.now c.args.name.now) (ap option_copied c.in-Some.is) c.in_ok-held.ensures.field in
    IfOk-weaker c.utf8_view.result _ _ (λ found string. text_answer c.args.text.now c.args.name.now c.in-Some.held.now (option_map viewed found) field string) c.utf8_view.ensures

pub returns-in-None : goal.returns-in-None
returns-in-None c =
    text_absent c.args.text.now c.args.name.now (along (HasField c.args.text.now c.args.name.now) (ap option_copied c.in-None.is) c.in_ok-held.ensures.field)
