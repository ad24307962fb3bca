use Rattle.std.proofs.Common.{List, ℕ, Option, Some, None, subst, ap}
use Rattle.std.specs.Option.{option_copied}
use Rattle.json_scalar.specs.Text.{IsString}
use Rattle.json_fields.specs.Answer.{IsAnswer, IsOnly}
use Rattle.json_fields.specs.Fields.{HasOptional}
use Rattle.json_fields.proofs.FieldLemmas.{optional_text_absent, optional_text_answer, string_found}
use Rattle.json_fields.proofs.fields.optional_text.Goals as goal

pub returns-in-Some-2 : goal.returns-in-Some-2
returns-in-Some-2 c =
    let optional = subst (λ (found : Option (List ℕ)). IsOnly (HasOptional c.args.text.now c.args.name.now) found) (ap option_copied c.in-Some.is) c.in_ok-held.ensures in
    let told = c.in_ok-text-in-Some.ensures in
    let string = string_found c.in-Some.held.now c.in_ok-text-in-Some.field-0 told.string told.only told.none in
    optional_text_answer c.args.text.now c.args.name.now c.in-Some.held.now (Some c.in-Some-2.text) optional (subst (λ (found : Option (List ℕ)). IsAnswer (IsString c.in-Some.held.now) found) c.in-Some-2.is string)

pub returns-in-None-2 : goal.returns-in-None-2
returns-in-None-2 c =
    let optional = subst (λ (found : Option (List ℕ)). IsOnly (HasOptional c.args.text.now c.args.name.now) found) (ap option_copied c.in-Some.is) c.in_ok-held.ensures in
    let told = c.in_ok-text-in-Some.ensures in
    let string = string_found c.in-Some.held.now c.in_ok-text-in-Some.field-0 told.string told.only told.none in
    optional_text_answer c.args.text.now c.args.name.now c.in-Some.held.now None optional (subst (λ (found : Option (List ℕ)). IsAnswer (IsString c.in-Some.held.now) found) c.in-None-2.is string)

pub returns-in-None : goal.returns-in-None
returns-in-None c =
    optional_text_absent c.args.text.now c.args.name.now (subst (λ (found : Option (List ℕ)). IsOnly (HasOptional c.args.text.now c.args.name.now) found) (ap option_copied c.in-None.is) c.in_ok-held.ensures)
