use Rattle.std.proofs.Common.{Option, List, ℕ, ap, sym, codes}
use Rattle.std.specs.Option.{option_copied}
use Rattle.json_fields.specs.Fields.{HasField, HasText, line_depth}
use Rattle.airbyte_message.specs.Traces.{IsTold}
use Rattle.json_fields.proofs.AnswerLemmas.{along, along_only, uncut}
use Rattle.airbyte_message.proofs.TraceLemmas.{HasFailure, error_answer, error_absent, error_uncut, error_no_message, error_no_failure}
use Rattle.airbyte_message.specs.declared.message.TraceMsg.TheVariants as trace
use Rattle.airbyte_message.specs.declared.trace_message.TraceType.TheVariants as types
use Rattle.airbyte_message.proofs.trace_message.error_of.Goals as goal

pub returns-in_default : goal.returns-in_default
returns-in_default c = error_absent c.args.text.now (option_copied c.args.emitted_at) (along (HasField c.args.text.now (codes "error")) (ap option_copied c.in_default.is) c.in_ok-error.ensures.field)

pub returns-in_default-2 : goal.returns-in_default-2
returns-in_default-2 c =
    let field = along (HasField c.args.text.now (codes "error")) (ap option_copied c.in-Some.is) c.in_ok-error.ensures.field in
    error_uncut c.args.text.now c.in-Some.error.now (option_copied c.args.emitted_at) field (uncut line_depth c.in-Some.error.now c.in_ok-parts.field-0 c.in_default-2.is c.in_ok-parts.ensures.none)

pub returns-in_default-3 : goal.returns-in_default-3
returns-in_default-3 c =
    let field = along (HasField c.args.text.now (codes "error")) (ap option_copied c.in-Some.is) c.in_ok-error.ensures.field in
    error_no_message c.args.text.now c.in-Some.error.now (option_copied c.args.emitted_at) field (along (HasText c.in-Some.error.now (codes "message")) c.in_default-3.is c.in_ok-text.ensures)

pub returns-in_default-4 : goal.returns-in_default-4
returns-in_default-4 c =
    let field = along (HasField c.args.text.now (codes "error")) (ap option_copied c.in-Some.is) c.in_ok-error.ensures.field in
    error_no_failure c.args.text.now c.in-Some.error.now (option_copied c.args.emitted_at) field (along (HasFailure c.in-Some.error.now) c.in_default-4.is c.in_ok-failure.ensures)

pub returns : goal.returns
returns c =
    let text = c.args.text.now in
    let at = option_copied c.args.emitted_at in
    let field = along (HasField text (codes "error")) (ap option_copied c.in-Some.is) c.in_ok-error.ensures.field in
    let answer = error_answer text c.in-Some.error.now c.in-Some-3.text c.in-Some-4.failure at field (along (HasText c.in-Some.error.now (codes "message")) c.in-Some-3.is c.in_ok-text.ensures) (along (HasFailure c.in-Some.error.now) c.in-Some-4.is c.in_ok-failure.ensures) in
    along_only (IsTold types.Error text at) (ap (λ (m : List ℕ). trace.Error m c.in-Some-4.failure c.in_ok-copied.field-0) (sym c.text.view_is)) (along_only (IsTold types.Error text at) (ap (λ (a : Option (List ℕ)). trace.Error c.in-Some-3.text c.in-Some-4.failure a) (sym c.in_ok-copied.ensures)) answer)
