use Rattle.load_rules.proofs.LoadFronts.{fronts_are_safe as proved}
use Rattle.load_rules.proofs.laws.fronts_are_safe.Goals as goal

pub returns : goal.returns
returns c = proved
