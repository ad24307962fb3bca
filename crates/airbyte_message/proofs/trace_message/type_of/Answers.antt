use Rattle.std.proofs.Common.{codes}
use Rattle.json_fields.specs.Fields.{HasText}
use Rattle.airbyte_message.specs.Words.{trace_text}
use Rattle.json_fields.proofs.AnswerLemmas.{along, word_text, word_absent}
use Rattle.airbyte_message.proofs.trace_message.type_of.Goals as goal

pub returns-in-Some : goal.returns-in-Some
returns-in-Some c =
    word_text trace_text c.args.text.now (codes "type") c.in-Some.name c.as_str.result.now c.of.result (along (HasText c.args.text.now (codes "type")) c.in-Some.is c.in_ok-name.ensures) c.as_str.ensures c.of.ensures

pub returns-in-None : goal.returns-in-None
returns-in-None c =
    word_absent trace_text c.args.text.now (codes "type") (along (HasText c.args.text.now (codes "type")) c.in-None.is c.in_ok-name.ensures)
