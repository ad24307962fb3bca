use Rattle.std.proofs.Common.{List, ℕ, Option, subst, ap}
use Rattle.std.proofs.lemmas.Result.{IfOk-weaker}
use Rattle.std.specs.Option.{option_copied}
use Rattle.json_fields.specs.Answer.{IsAnswer}
use Rattle.json_fields.specs.Fields.{HasField}
use Rattle.json_fields.proofs.FieldLemmas.{text_answer, text_absent, string_answer}
use Rattle.json_fields.proofs.fields.text_field.Goals as goal

pub returns-in-Some : goal.returns-in-Some
returns-in-Some c =
    let field = subst (λ (found : Option (List ℕ)). IsAnswer (HasField c.args.text.now c.args.name.now) found) (ap option_copied c.in-Some.is) c.in_ok-held.ensures.field in
    IfOk-weaker c.text_of.result _ _ (λ found string. text_answer c.args.text.now c.args.name.now c.in-Some.held.now found field string) (string_answer c.in-Some.held.now c.text_of.result c.text_of.ensures.string c.text_of.ensures.only c.text_of.ensures.none)

pub returns-in-None : goal.returns-in-None
returns-in-None c =
    text_absent c.args.text.now c.args.name.now (subst (λ (found : Option (List ℕ)). IsAnswer (HasField c.args.text.now c.args.name.now) found) (ap option_copied c.in-None.is) c.in_ok-held.ensures.field)
