use Rattle.json_fields.specs.Fields.{line_depth}
use Rattle.json_fields.proofs.AnswerLemmas.{uncut}
use Rattle.airbyte_message.proofs.StateLemmas.{stats_uncut}
use Rattle.airbyte_message.proofs.state_message.stats_of.Goals as goal

pub returns-in-None : goal.returns-in-None
returns-in-None c =
    stats_uncut c.args.text.now (uncut line_depth c.args.text.now c.in_ok-members.field-0 c.in-None.is c.in_ok-members.ensures.none)
