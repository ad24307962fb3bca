use Rattle.replay_rules.proofs.Floors.{seen_are_above as proved}
use Rattle.replay_rules.proofs.laws.seen_are_above.Goals as goal

pub returns : goal.returns
returns c = proved
