use Rattle.sync_rules.proofs.CallLemmas.{calls_tell as proved}
use Rattle.sync_rules.proofs.laws.calls_tell.Goals as goal

pub returns : goal.returns
returns c = proved
