use Rattle.load_rules.proofs.LoadFronts.{stays_safe as proved}
use Rattle.load_rules.proofs.laws.stays_safe.Goals as goal

pub returns : goal.returns
returns c = proved
