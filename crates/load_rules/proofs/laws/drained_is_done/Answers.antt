use Rattle.load_rules.proofs.Drained.{drained_is_done as proved}
use Rattle.load_rules.proofs.laws.drained_is_done.Goals as goal

pub returns : goal.returns
returns c = proved
