use Rattle.sync_rules.proofs.CallLemmas.{owed_is_put as proved}
use Rattle.sync_rules.proofs.laws.owed_is_put.Goals as goal

pub returns : goal.returns
returns c = proved
