use Rattle.load_rules.proofs.Sides.{sides_stand as proved}
use Rattle.load_rules.proofs.laws.sides_stand.Goals as goal

pub returns : goal.returns
returns c = proved
