use Rattle.sync_rules.proofs.Worked.{breaches_as_worked as proved}
use Rattle.sync_rules.proofs.laws.breaches_as_worked.Goals as goal

pub returns : goal.returns
returns c = proved
