use Rattle.sync_rules.proofs.Ways.{fronts_are_safe as proved}
use Rattle.sync_rules.proofs.laws.fronts_are_safe.Goals as goal

pub returns : goal.returns
returns c = proved
