use Rattle.load_rules.proofs.Worked.{runs_as_worked as proved}
use Rattle.load_rules.proofs.laws.runs_as_worked.Goals as goal

pub returns : goal.returns
returns c = proved
