use Rattle.std.proofs.Common.{None, Some, ap, subst}
use Rattle.std.specs.Option.{option_map}
use Rattle.json_fields.specs.Answer.{IsOnly}
use Rattle.json_fields.proofs.AnswerLemmas.{along}
use Rattle.airbyte_message.specs.Views.{HasPayload, HasRecord, record_at}
use Rattle.airbyte_message.specs.declared.message.Message.TheVariants as message
use Rattle.airbyte_message.specs.declared.read.MessageType.{MessageType}
use Rattle.airbyte_message.specs.declared.read.MessageType.TheVariants as types
use Rattle.airbyte_message.proofs.MessageLemmas.{IsLineOf}
use Rattle.airbyte_message.proofs.ViewLemmas.{message_at_type, record_told}
use Rattle.airbyte_message.proofs.read.view_in.Goals as goal

pub returns-in-Some-2 : goal.returns-in-Some-2
returns-in-Some-2 c =
    let line = c.args.line.now in
    let typed = subst (λ (t : MessageType). IsOnly (IsLineOf line) t) c.in-Rec.is (along (IsLineOf line) c.in-Some.is c.in_ok-kind.ensures) in
    let told = along (HasRecord line) (ap (option_map record_at) c.in-Some-2.is) c.in_ok-record-in-Rec.ensures in
    message_at_type line types.Rec (Some (message.Rec (record_at c.in-Some-2.record))) typed (record_told line (Some (record_at c.in-Some-2.record)) told)

pub returns-in-None : goal.returns-in-None
returns-in-None c =
    let line = c.args.line.now in
    let typed = subst (λ (t : MessageType). IsOnly (IsLineOf line) t) c.in-Rec.is (along (IsLineOf line) c.in-Some.is c.in_ok-kind.ensures) in
    let told = along (HasRecord line) (ap (option_map record_at) c.in-None.is) c.in_ok-record-in-Rec.ensures in
    message_at_type line types.Rec None typed (record_told line None told)

pub returns-in-Some-3 : goal.returns-in-Some-3
returns-in-Some-3 c =
    let line = c.args.line.now in
    let typed = along (IsLineOf line) c.in-Some.is c.in_ok-kind.ensures in
    message_at_type line c.in-Some.kind (Some c.in-Some-3.message) typed (along (HasPayload line c.in-Some.kind) c.in-Some-3.is c.in_ok-message-in_default-kind.ensures)

pub returns-in-None-2 : goal.returns-in-None-2
returns-in-None-2 c =
    let line = c.args.line.now in
    let typed = along (IsLineOf line) c.in-Some.is c.in_ok-kind.ensures in
    message_at_type line c.in-Some.kind None typed (along (HasPayload line c.in-Some.kind) c.in-None-2.is c.in_ok-message-in_default-kind.ensures)
