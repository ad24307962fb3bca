use Rattle.std.proofs.Common.{◌≡◌, Option, List, ℕ, ap, codes, ◌∙◌, Some, None}
use Rattle.json_fields.specs.Fields.{HasOptionalText}
use Rattle.airbyte_message.specs.Words.{failure_text}
use Rattle.airbyte_message.specs.declared.failure_type.FailureType.{FailureType}
use Rattle.json_fields.proofs.AnswerLemmas.{along, optional_word, optional_word_absent, optional_word_none}
use Rattle.airbyte_message.proofs.trace_message.failure_of.Goals as goal

pub returns-in-Some-Some : goal.returns-in-Some-Some
returns-in-Some-Some c =
    let optional = along (HasOptionalText c.args.text.now (codes "failure_type")) (c.in-Some-Some.is ∙ ap (λ (n : Option (List ℕ)). Some n) c.in-Some-Some.field-0-is) c.in_ok-name.ensures in
    optional_word failure_text c.args.text.now (codes "failure_type") c.in-Some-Some.name c.as_str.result.now None optional c.as_str.ensures (along (λ (f : FailureType). c.as_str.result.now ≡ failure_text f) c.in-None-of.is c.of.ensures)

pub returns-in-Some : goal.returns-in-Some
returns-in-Some c =
    let optional = along (HasOptionalText c.args.text.now (codes "failure_type")) (c.in-Some-Some.is ∙ ap (λ (n : Option (List ℕ)). Some n) c.in-Some-Some.field-0-is) c.in_ok-name.ensures in
    optional_word failure_text c.args.text.now (codes "failure_type") c.in-Some-Some.name c.as_str.result.now (Some c.in-Some.failure) optional c.as_str.ensures (along (λ (f : FailureType). c.as_str.result.now ≡ failure_text f) c.in-Some.is c.of.ensures)

pub returns-in-Some-None : goal.returns-in-Some-None
returns-in-Some-None c =
    optional_word_absent failure_text c.args.text.now (codes "failure_type") (along (HasOptionalText c.args.text.now (codes "failure_type")) (c.in-Some-None.is ∙ ap (λ (n : Option (List ℕ)). Some n) c.in-Some-None.field-0-is) c.in_ok-name.ensures)

pub returns : goal.returns
returns c = optional_word_none failure_text c.args.text.now (codes "failure_type") (along (HasOptionalText c.args.text.now (codes "failure_type")) c.in-None.is c.in_ok-name.ensures)
