use Rattle.std.proofs.Common.{codes}
use Rattle.json_fields.specs.Fields.{HasOptionalText}
use Rattle.json_fields.proofs.AnswerLemmas.{along}
use Rattle.airbyte_message.proofs.StateLemmas.{state_type_at, state_type_absent}
use Rattle.airbyte_message.proofs.state_message.type_of.Goals as goal

pub returns-in-Some : goal.returns-in-Some
returns-in-Some c = state_type_at c.args.text.now c.in-Some.name c.optional_type.result (along (HasOptionalText c.args.text.now (codes "type")) c.in-Some.is c.in_ok-name.ensures) c.optional_type.ensures

pub returns-in-None : goal.returns-in-None
returns-in-None c = state_type_absent c.args.text.now (along (HasOptionalText c.args.text.now (codes "type")) c.in-None.is c.in_ok-name.ensures)
