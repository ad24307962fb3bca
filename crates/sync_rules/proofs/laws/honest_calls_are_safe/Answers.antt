use Rattle.sync_rules.proofs.HonestCalls.{honest_calls_are_safe as proved}
use Rattle.sync_rules.proofs.laws.honest_calls_are_safe.Goals as goal

pub returns : goal.returns
returns c = proved
