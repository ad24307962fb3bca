use Rattle.sync_rules.proofs.Ways.{stays_safe as proved}
use Rattle.sync_rules.proofs.laws.stays_safe.Goals as goal

pub returns : goal.returns
returns c = proved
