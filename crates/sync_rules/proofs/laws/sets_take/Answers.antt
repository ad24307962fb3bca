use Rattle.sync_rules.proofs.Takings.{sets_take as proved}
use Rattle.sync_rules.proofs.laws.sets_take.Goals as goal

pub returns : goal.returns
returns c = proved
