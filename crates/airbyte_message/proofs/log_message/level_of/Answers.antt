use Rattle.std.proofs.Common.{codes}
use Rattle.json_fields.specs.Fields.{HasText}
use Rattle.airbyte_message.specs.Words.{level_text}
use Rattle.json_fields.proofs.AnswerLemmas.{along, word_text, word_absent}
use Rattle.airbyte_message.proofs.log_message.level_of.Goals as goal

pub returns-in-Some : goal.returns-in-Some
returns-in-Some c =
    word_text level_text c.args.text.now (codes "level") c.in-Some.name c.as_str.result.now c.of.result (along (HasText c.args.text.now (codes "level")) c.in-Some.is c.in_ok-name.ensures) c.as_str.ensures c.of.ensures

pub returns-in-None : goal.returns-in-None
returns-in-None c =
    word_absent level_text c.args.text.now (codes "level") (along (HasText c.args.text.now (codes "level")) c.in-None.is c.in_ok-name.ensures)
