use Rattle.load_rules.proofs.SafeRuns.{runs_grow as proved}
use Rattle.load_rules.proofs.laws.runs_grow.Goals as goal

pub returns : goal.returns
returns c = proved
