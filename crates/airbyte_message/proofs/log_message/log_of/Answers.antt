use Rattle.std.proofs.Common.{codes}
use Rattle.json_fields.specs.Fields.{HasText, line_depth}
use Rattle.json_fields.proofs.AnswerLemmas.{along, uncut}
use Rattle.airbyte_message.proofs.MessageLemmas.{IsLevelOf, log_answer, log_uncut, log_no_level, log_no_message}
use Rattle.airbyte_message.proofs.log_message.log_of.Goals as goal

pub returns-in_default : goal.returns-in_default
returns-in_default c = log_uncut c.args.text.now (uncut line_depth c.args.text.now c.in_ok-members.field-0 c.in_default.is c.in_ok-members.ensures.none)

pub returns-in_default-2 : goal.returns-in_default-2
returns-in_default-2 c = log_no_level c.args.text.now (along (IsLevelOf c.args.text.now) c.in_default-2.is c.in_ok-level.ensures)

pub returns-in-Some-3 : goal.returns-in-Some-3
returns-in-Some-3 c =
    let text = c.args.text.now in
    log_answer text c.in-Some-2.level c.in-Some-3.text (along (IsLevelOf text) c.in-Some-2.is c.in_ok-level.ensures) (along (HasText text (codes "message")) c.in-Some-3.is c.in_ok-text.ensures)

pub returns : goal.returns
returns c = log_no_message c.args.text.now (along (HasText c.args.text.now (codes "message")) c.in-None.is c.in_ok-text.ensures)
