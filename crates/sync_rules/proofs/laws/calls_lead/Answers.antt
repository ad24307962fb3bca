use Rattle.sync_rules.proofs.CallLemmas.{calls_lead as proved}
use Rattle.sync_rules.proofs.laws.calls_lead.Goals as goal

pub returns : goal.returns
returns c = proved
