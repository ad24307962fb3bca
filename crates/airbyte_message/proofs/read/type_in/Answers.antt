use Rattle.std.proofs.Common.{ap, codes}
use Rattle.std.specs.Option.{option_map}
use Rattle.json_fields.specs.Fields.{HasText}
use Rattle.json_fields.specs.Words.{viewed}
use Rattle.airbyte_message.specs.Words.{type_text}
use Rattle.json_fields.proofs.AnswerLemmas.{along, word_text, word_absent}
use Rattle.airbyte_message.proofs.read.type_in.Goals as goal

pub returns-in-Some : goal.returns-in-Some
returns-in-Some c =
    word_text type_text c.args.line.now (codes "type") (viewed c.in-Some.name) c.as_str.result.now c.type_named.result (along (HasText c.args.line.now (codes "type")) (ap (option_map viewed) c.in-Some.is) c.in_ok-name.ensures) c.as_str.ensures c.type_named.ensures

pub returns-in-None : goal.returns-in-None
returns-in-None c =
    word_absent type_text c.args.line.now (codes "type") (along (HasText c.args.line.now (codes "type")) (ap (option_map viewed) c.in-None.is) c.in_ok-name.ensures)
