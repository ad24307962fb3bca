use Rattle.replay_rules.proofs.Sounds.{calls_stay_sound as proved}
use Rattle.replay_rules.proofs.laws.calls_stay_sound.Goals as goal

pub returns : goal.returns
returns c = proved
