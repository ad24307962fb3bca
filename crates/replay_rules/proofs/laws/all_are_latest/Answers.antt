use Rattle.replay_rules.proofs.WellEnded.{all_are_latest as proved}
use Rattle.replay_rules.proofs.laws.all_are_latest.Goals as goal

pub returns : goal.returns
returns c = proved
