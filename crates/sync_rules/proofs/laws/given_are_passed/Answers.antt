use Rattle.sync_rules.proofs.Giving.{given_are_passed as proved}
use Rattle.sync_rules.proofs.laws.given_are_passed.Goals as goal

pub returns : goal.returns
returns c = proved
