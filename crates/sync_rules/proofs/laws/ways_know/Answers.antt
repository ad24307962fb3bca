use Rattle.sync_rules.proofs.Honest.{ways_know as proved}
use Rattle.sync_rules.proofs.laws.ways_know.Goals as goal

pub returns : goal.returns
returns c = proved
