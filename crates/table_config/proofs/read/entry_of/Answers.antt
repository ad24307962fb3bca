use Rattle.json_fields.proofs.AnswerLemmas.{along}
use Rattle.table_config.specs.Config.{IsEvery}
use Rattle.table_config.proofs.ConfigLemmas.{is_entry, no_entry}
use Rattle.table_config.proofs.read.entry_of.Goals as goal

pub returns-in_default : goal.returns-in_default
returns-in_default c = no_entry c.args.part.now (along (IsEvery c.args.part.now.every) c.in_default.is c.every_of.ensures)

pub returns : goal.returns
returns c =
    is_entry c.args.part.now c.in_ok-name.name c.in_ok-schema.schema c.in_ok-cursor.cursor c.in_ok-key.key c.in-Some.every
    c.in_ok-name.ensures.copied c.in_ok-schema.ensures.copied c.in_ok-cursor.ensures.copied c.in_ok-key.ensures.copied (along (IsEvery c.args.part.now.every) c.in-Some.is c.every_of.ensures)
