use Rattle.std.proofs.Common.{codes}
use Rattle.json_fields.specs.Fields.{HasOptionalText, line_depth}
use Rattle.json_fields.proofs.AnswerLemmas.{along, uncut}
use Rattle.airbyte_message.proofs.MessageLemmas.{IsSuccessOf, connection_answer, connection_uncut, connection_no_status, connection_no_message}
use Rattle.airbyte_message.proofs.connection_message.connection_of.Goals as goal

pub returns-in_default : goal.returns-in_default
returns-in_default c = connection_uncut c.args.text.now (uncut line_depth c.args.text.now c.in_ok-members.field-0 c.in_default.is c.in_ok-members.ensures.none)

pub returns-in_default-2 : goal.returns-in_default-2
returns-in_default-2 c = connection_no_status c.args.text.now (along (IsSuccessOf c.args.text.now) c.in_default-2.is c.in_ok-succeeded.ensures)

pub returns-in-Some-3 : goal.returns-in-Some-3
returns-in-Some-3 c =
    let text = c.args.text.now in
    connection_answer text c.in-Some-2.succeeded c.in-Some-3.text (along (IsSuccessOf text) c.in-Some-2.is c.in_ok-succeeded.ensures) (along (HasOptionalText text (codes "message")) c.in-Some-3.is c.in_ok-text.ensures)

pub returns : goal.returns
returns c = connection_no_message c.args.text.now (along (HasOptionalText c.args.text.now (codes "message")) c.in-None.is c.in_ok-text.ensures)
