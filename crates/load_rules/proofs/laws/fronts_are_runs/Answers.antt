use Rattle.load_rules.proofs.RunFronts.{fronts_are_runs as proved}
use Rattle.load_rules.proofs.laws.fronts_are_runs.Goals as goal

pub returns : goal.returns
returns c = proved
