use Rattle.sync_rules.proofs.Rising.{taken_rise as proved}
use Rattle.sync_rules.proofs.laws.taken_rise.Goals as goal

pub returns : goal.returns
returns c = proved
