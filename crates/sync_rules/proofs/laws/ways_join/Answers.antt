use Rattle.sync_rules.proofs.Ways.{ways_join as proved}
use Rattle.sync_rules.proofs.laws.ways_join.Goals as goal

pub returns : goal.returns
returns c = proved
