use Rattle.replay_rules.proofs.Standing.{saved_stand as proved}
use Rattle.replay_rules.proofs.laws.saved_stand.Goals as goal

pub returns : goal.returns
returns c = proved
