use Rattle.replay_rules.proofs.Worked.{replays_as_worked as proved}
use Rattle.replay_rules.proofs.laws.replays_as_worked.Goals as goal

pub returns : goal.returns
returns c = proved
