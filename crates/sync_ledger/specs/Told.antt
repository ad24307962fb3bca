-- What a line tells a ledger, by the message that it reads as: of a record its stream, a state, the status of a stream; of all
-- else what is to be said.
use Rattle.std.specs.Prelude.{ℕ, List, Option, None, Some}
use Rattle.outside.specs.declared.faults.Side.{Side}
use Rattle.airbyte_message.specs.declared.message.Message.{Message}
use Rattle.airbyte_message.specs.declared.message.Message.TheVariants as message
use Rattle.airbyte_message.specs.declared.message.TraceMsg.{TraceMsg}
use Rattle.airbyte_message.specs.declared.message.TraceMsg.TheVariants as trace
use Rattle.sync_ledger.specs.Said.{plain_line, log_line, error_said}
use Rattle.sync_ledger.specs.declared.said.Saying.{Saying}
use Rattle.sync_ledger.specs.declared.said.Saying.TheVariants as saying
use Rattle.sync_ledger.specs.declared.told.Told.{Told}
use Rattle.sync_ledger.specs.declared.told.Told.TheVariants as told
use Rattle.sync_ledger.specs.declared.verdict.Verdict.{Verdict}
use Rattle.sync_ledger.specs.declared.verdict.Verdict.TheVariants as verdict
use Rattle.sync_ledger.specs.declared.verdict.Echoed.{Echoed}
use Rattle.sync_ledger.specs.declared.verdict.Echoed.TheVariants as echoed

abbrev pub trace_told : Side → TraceMsg → Told
trace_told side (trace.Error text failure emitted_at) = told.Other (error_said side failure text)
trace_told side (trace.Status id status emitted_at) = told.Status id status
trace_told side (trace.Other object) = told.Other saying.Nothing

abbrev pub told_of : Side → List ℕ → Option Message → Told
told_of side line None = told.Other (saying.Say (plain_line side line))
told_of side line (Some (message.Rec content)) = told.Record content.id
told_of side line (Some (message.State state)) = told.State state
told_of side line (Some (message.Log log)) = told.Other (saying.Say (log_line side log.level log.text))
told_of side line (Some (message.Trace content)) = trace_told side content
told_of side line (Some (message.Spec content)) = told.Other saying.Nothing
told_of side line (Some (message.Connection content)) = told.Other saying.Nothing
told_of side line (Some (message.Catalog content)) = told.Other saying.Nothing
told_of side line (Some (message.Control content)) = told.Other saying.Nothing

-- what is to be done with a line of the source of which this is to be said
abbrev pub verdict_of : Saying → Verdict
verdict_of (saying.Say line) = verdict.Say line
verdict_of saying.Nothing = verdict.Nothing
verdict_of (saying.ConfigError line) = verdict.ConfigError line

-- what a line of the destination is of which this is to be said
abbrev pub echoed_of : Saying → Echoed
echoed_of (saying.Say line) = echoed.Say line
echoed_of saying.Nothing = echoed.Nothing
echoed_of (saying.ConfigError line) = echoed.ConfigError line
