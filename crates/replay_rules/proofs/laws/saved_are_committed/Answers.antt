use Rattle.replay_rules.proofs.SavedBack.{saved_are_committed as proved}
use Rattle.replay_rules.proofs.laws.saved_are_committed.Goals as goal

pub returns : goal.returns
returns c = proved
