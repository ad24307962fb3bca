use Rattle.std.proofs.Common.{Option, List, ℕ, ap, sym, codes}
use Rattle.std.specs.Option.{option_copied}
use Rattle.json_fields.specs.Fields.{HasField, line_depth}
use Rattle.airbyte_message.specs.Parts.{HasDescriptor}
use Rattle.airbyte_message.specs.Traces.{IsTold}
use Rattle.json_fields.proofs.AnswerLemmas.{along, along_only, uncut}
use Rattle.airbyte_message.proofs.TraceLemmas.{IsStatusOf, status_answer, status_absent, status_uncut, status_no_stream, status_no_word}
use Rattle.airbyte_message.specs.declared.message.TraceMsg.TheVariants as trace
use Rattle.airbyte_message.specs.declared.trace_message.TraceType.TheVariants as types
use Rattle.airbyte_message.proofs.trace_message.stream_status_of.Goals as goal

pub returns-in_default : goal.returns-in_default
returns-in_default c = status_absent c.args.text.now (option_copied c.args.emitted_at) (along (HasField c.args.text.now (codes "stream_status")) (ap option_copied c.in_default.is) c.in_ok-held.ensures.field)

pub returns-in_default-2 : goal.returns-in_default-2
returns-in_default-2 c =
    let field = along (HasField c.args.text.now (codes "stream_status")) (ap option_copied c.in-Some.is) c.in_ok-held.ensures.field in
    status_uncut c.args.text.now c.in-Some.held.now (option_copied c.args.emitted_at) field (uncut line_depth c.in-Some.held.now c.in_ok-parts.field-0 c.in_default-2.is c.in_ok-parts.ensures.none)

pub returns-in_default-3 : goal.returns-in_default-3
returns-in_default-3 c =
    let field = along (HasField c.args.text.now (codes "stream_status")) (ap option_copied c.in-Some.is) c.in_ok-held.ensures.field in
    status_no_stream c.args.text.now c.in-Some.held.now (option_copied c.args.emitted_at) field (along (HasDescriptor c.in-Some.held.now) c.in_default-3.is c.in_ok-id.ensures)

pub returns-in_default-4 : goal.returns-in_default-4
returns-in_default-4 c =
    let field = along (HasField c.args.text.now (codes "stream_status")) (ap option_copied c.in-Some.is) c.in_ok-held.ensures.field in
    status_no_word c.args.text.now c.in-Some.held.now (option_copied c.args.emitted_at) field (along (IsStatusOf c.in-Some.held.now) c.in_default-4.is c.in_ok-status.ensures)

pub returns : goal.returns
returns c =
    let text = c.args.text.now in
    let at = option_copied c.args.emitted_at in
    let field = along (HasField text (codes "stream_status")) (ap option_copied c.in-Some.is) c.in_ok-held.ensures.field in
    along_only (IsTold types.StreamStatus text at) (ap (λ (a : Option (List ℕ)). trace.Status c.in-Some-3.id c.in-Some-4.status a) (sym c.in_ok-copied.ensures)) (status_answer text c.in-Some.held.now c.in-Some-3.id c.in-Some-4.status at field (along (HasDescriptor c.in-Some.held.now) c.in-Some-3.is c.in_ok-id.ensures) (along (IsStatusOf c.in-Some.held.now) c.in-Some-4.is c.in_ok-status.ensures))
