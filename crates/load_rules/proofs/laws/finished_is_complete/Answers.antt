use Rattle.load_rules.proofs.Finishes.{finished_is_complete as proved}
use Rattle.load_rules.proofs.laws.finished_is_complete.Goals as goal

pub returns : goal.returns
returns c = proved
