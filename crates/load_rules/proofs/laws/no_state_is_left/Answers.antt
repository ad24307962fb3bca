use Rattle.load_rules.proofs.Drained.{no_state_is_left as proved}
use Rattle.load_rules.proofs.laws.no_state_is_left.Goals as goal

pub returns : goal.returns
returns c = proved
