use Rattle.load_rules.proofs.HonestRuns.{runs_are_honest as proved}
use Rattle.load_rules.proofs.laws.runs_are_honest.Goals as goal

pub returns : goal.returns
returns c = proved
