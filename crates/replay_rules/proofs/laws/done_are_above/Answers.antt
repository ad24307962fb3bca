use Rattle.replay_rules.proofs.Floors.{done_are_above as proved}
use Rattle.replay_rules.proofs.laws.done_are_above.Goals as goal

pub returns : goal.returns
returns c = proved
