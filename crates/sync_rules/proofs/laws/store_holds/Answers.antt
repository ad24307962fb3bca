use Rattle.sync_rules.proofs.StoreLemmas.{store_holds as proved}
use Rattle.sync_rules.proofs.laws.store_holds.Goals as goal

pub returns : goal.returns
returns c = proved
