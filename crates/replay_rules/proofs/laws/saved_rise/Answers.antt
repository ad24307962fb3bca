use Rattle.replay_rules.proofs.Rises.{saved_rise as proved}
use Rattle.replay_rules.proofs.laws.saved_rise.Goals as goal

pub returns : goal.returns
returns c = proved
