use Rattle.sync_rules.proofs.Worked.{generations_as_worked as proved}
use Rattle.sync_rules.proofs.laws.generations_as_worked.Goals as goal

pub returns : goal.returns
returns c = proved
