use Rattle.sync_rules.proofs.CallLemmas.{calls_join as proved}
use Rattle.sync_rules.proofs.laws.calls_join.Goals as goal

pub returns : goal.returns
returns c = proved
