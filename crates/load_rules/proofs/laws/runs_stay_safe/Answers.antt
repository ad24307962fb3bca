use Rattle.load_rules.proofs.SafeRuns.{runs_stay_safe as proved}
use Rattle.load_rules.proofs.laws.runs_stay_safe.Goals as goal

pub returns : goal.returns
returns c = proved
