use Rattle.replay_rules.proofs.Sounds.{fronts_are_sound as proved}
use Rattle.replay_rules.proofs.laws.fronts_are_sound.Goals as goal

pub returns : goal.returns
returns c = proved
