use Rattle.sync_rules.proofs.Honest.{honest_is_safe as proved}
use Rattle.sync_rules.proofs.laws.honest_is_safe.Goals as goal

pub returns : goal.returns
returns c = proved
