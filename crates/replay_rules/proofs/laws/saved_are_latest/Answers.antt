use Rattle.replay_rules.proofs.Latest.{saved_are_latest as proved}
use Rattle.replay_rules.proofs.laws.saved_are_latest.Goals as goal

pub returns : goal.returns
returns c = proved
