use Rattle.load_rules.proofs.SafeRuns.{runs_are_ordered as proved}
use Rattle.load_rules.proofs.laws.runs_are_ordered.Goals as goal

pub returns : goal.returns
returns c = proved
