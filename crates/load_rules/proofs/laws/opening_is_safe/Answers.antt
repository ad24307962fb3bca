use Rattle.load_rules.proofs.LoadFronts.{opening_is_safe as proved}
use Rattle.load_rules.proofs.laws.opening_is_safe.Goals as goal

pub returns : goal.returns
returns c = proved
