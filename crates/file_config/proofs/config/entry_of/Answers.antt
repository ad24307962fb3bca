use Rattle.json_fields.proofs.AnswerLemmas.{along}
use Rattle.file_config.specs.Config.{IsEvery}
use Rattle.file_config.proofs.ConfigLemmas.{is_entry, no_entry}
use Rattle.file_config.proofs.config.entry_of.Goals as goal

pub returns-in_default : goal.returns-in_default
returns-in_default c = no_entry c.args.part.now (along (IsEvery c.args.part.now.every) c.in_default.is c.every_of.ensures)

pub returns : goal.returns
returns c = is_entry c.args.part.now c.in_ok-name.name c.in_ok-path.path c.in-Some.every c.in_ok-name.ensures.copied c.in_ok-path.ensures.copied (along (IsEvery c.args.part.now.every) c.in-Some.is c.every_of.ensures)
