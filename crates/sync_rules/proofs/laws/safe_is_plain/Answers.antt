use Rattle.sync_rules.proofs.Ways.{safe_is_plain as proved}
use Rattle.sync_rules.proofs.laws.safe_is_plain.Goals as goal

pub returns : goal.returns
returns c = proved
