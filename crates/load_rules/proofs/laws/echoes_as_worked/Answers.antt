use Rattle.load_rules.proofs.Worked.{echoes_as_worked as proved}
use Rattle.load_rules.proofs.laws.echoes_as_worked.Goals as goal

pub returns : goal.returns
returns c = proved
