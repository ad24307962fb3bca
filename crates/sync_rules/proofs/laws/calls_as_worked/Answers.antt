use Rattle.sync_rules.proofs.Worked.{calls_as_worked as proved}
use Rattle.sync_rules.proofs.laws.calls_as_worked.Goals as goal

pub returns : goal.returns
returns c = proved
