use Rattle.load_rules.proofs.Held.{held_are_uncommitted as proved}
use Rattle.load_rules.proofs.laws.held_are_uncommitted.Goals as goal

pub returns : goal.returns
returns c = proved
