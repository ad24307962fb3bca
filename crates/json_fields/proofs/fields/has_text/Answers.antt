use Rattle.std.proofs.Common.{List, ℕ, Option, subst, ap}
use Rattle.std.proofs.lemmas.Result.{IfOk-weaker}
use Rattle.std.specs.Option.{option_copied}
use Rattle.json_fields.specs.Answer.{IsAnswer}
use Rattle.json_fields.specs.Fields.{HasField}
use Rattle.json_fields.proofs.FieldLemmas.{has_text_iff, has_text_absent}
use Rattle.json_fields.proofs.fields.has_text.Goals as goal

pub returns-in-Some : goal.returns-in-Some
returns-in-Some c =
    let field = subst (λ (found : Option (List ℕ)). IsAnswer (HasField c.args.text.now c.args.name.now) found) (ap option_copied c.in-Some.is) c.in_ok-held.ensures.field in
    IfOk-weaker c.is_string_of.result _ _ (λ is string. has_text_iff c.args.text.now c.args.name.now c.args.meaning.now c.in-Some.held.now is field string) c.is_string_of.ensures

pub returns-in-None : goal.returns-in-None
returns-in-None c =
    has_text_absent c.args.text.now c.args.name.now c.args.meaning.now (subst (λ (found : Option (List ℕ)). IsAnswer (HasField c.args.text.now c.args.name.now) found) (ap option_copied c.in-None.is) c.in_ok-held.ensures.field)
