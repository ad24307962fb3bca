use Rattle.std.proofs.Common.{codes}
use Rattle.json_fields.specs.Fields.{HasText}
use Rattle.airbyte_message.specs.Words.{connection_text}
use Rattle.json_fields.proofs.AnswerLemmas.{along, word_text, word_absent}
use Rattle.airbyte_message.proofs.connection_message.success_of.Goals as goal

pub returns : goal.returns
returns c =
    word_text connection_text c.args.text.now (codes "status") c.in-Some.name c.as_str.result.now c.success_named.result (along (HasText c.args.text.now (codes "status")) c.in-Some.is c.in_ok-name.ensures) c.as_str.ensures c.success_named.ensures

pub returns-in_default : goal.returns-in_default
returns-in_default c =
    word_absent connection_text c.args.text.now (codes "status") (along (HasText c.args.text.now (codes "status")) c.in_default.is c.in_ok-name.ensures)
