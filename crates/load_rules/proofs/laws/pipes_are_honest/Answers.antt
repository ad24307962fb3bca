use Rattle.load_rules.proofs.Honesty.{pipes_are_honest as proved}
use Rattle.load_rules.proofs.laws.pipes_are_honest.Goals as goal

pub returns : goal.returns
returns c = proved
