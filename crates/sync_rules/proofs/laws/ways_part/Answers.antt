use Rattle.sync_rules.proofs.Ways.{ways_part as proved}
use Rattle.sync_rules.proofs.laws.ways_part.Goals as goal

pub returns : goal.returns
returns c = proved
