use Rattle.sync_rules.proofs.Owed.{owed_was_taken as proved}
use Rattle.sync_rules.proofs.laws.owed_was_taken.Goals as goal

pub returns : goal.returns
returns c = proved
