use Rattle.sync_rules.proofs.Taking.{lines_take as proved}
use Rattle.sync_rules.proofs.laws.lines_take.Goals as goal

pub returns : goal.returns
returns c = proved
