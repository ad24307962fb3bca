use Rattle.std.proofs.Common.{List, ℕ, ap, subst}
use Rattle.std.specs.Option.{option_copied}
use Rattle.std.proofs.lemmas.Result.{IfOk-weaker}
use Rattle.json_fields.specs.Answer.{IsAnswer}
use Rattle.json_fields.specs.Fields.{HasField}
use Rattle.json_fields.proofs.AnswerLemmas.{along}
use Rattle.airbyte_message.specs.Words.{payload_text}
use Rattle.airbyte_message.proofs.ViewLemmas.{payload_at, payload_absent}
use Rattle.airbyte_message.proofs.read.message_in.Goals as goal

pub returns-in-Some : goal.returns-in-Some
returns-in-Some c =
    let line = c.args.line.now in
    let field = along (HasField line (payload_text c.args.kind)) (ap option_copied c.in-Some.is) (subst (λ (n : List ℕ). IsAnswer (HasField line n) (option_copied c.in_ok-payload.field-0)) c.payload.ensures.text c.in_ok-payload.ensures.field) in
    IfOk-weaker c.payload_of.result _ _ (λ found answer. payload_at line c.in-Some.payload.now c.args.kind found field answer) c.payload_of.ensures

pub returns-in-None : goal.returns-in-None
returns-in-None c =
    let line = c.args.line.now in
    payload_absent line c.args.kind (along (HasField line (payload_text c.args.kind)) (ap option_copied c.in-None.is) (subst (λ (n : List ℕ). IsAnswer (HasField line n) (option_copied c.in_ok-payload.field-0)) c.payload.ensures.text c.in_ok-payload.ensures.field))
