use Rattle.load_rules.proofs.Worked.{stores_as_worked as proved}
use Rattle.load_rules.proofs.laws.stores_as_worked.Goals as goal

pub returns : goal.returns
returns c = proved
