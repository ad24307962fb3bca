use Rattle.load_rules.proofs.Tails.{sealed_in_front as proved}
use Rattle.load_rules.proofs.laws.sealed_in_front.Goals as goal

pub returns : goal.returns
returns c = proved
