use Rattle.std.proofs.Common.{sym, subst, IfOk}
use Rattle.std.specs.Option.{option_copied}
use Rattle.json_fields.specs.Answer.{IsAnswer}
use Rattle.airbyte_message.specs.Traces.{IsTold}
use Rattle.airbyte_message.specs.declared.trace_message.TraceType.{TraceType}
use Rattle.airbyte_message.proofs.trace_message.told_of.Goals as goal

pub returns-in-Error : goal.returns-in-Error
returns-in-Error c = subst (λ (t : TraceType). IfOk c.error_of.result (IsAnswer (IsTold t c.args.text.now (option_copied c.args.emitted_at)))) (sym c.in-Error.is) c.error_of.ensures

pub returns-in-StreamStatus : goal.returns-in-StreamStatus
returns-in-StreamStatus c = subst (λ (t : TraceType). IfOk c.stream_status_of.result (IsAnswer (IsTold t c.args.text.now (option_copied c.args.emitted_at)))) (sym c.in-StreamStatus.is) c.stream_status_of.ensures
