use Rattle.sync_rules.proofs.Ways.{own_events_tell as proved}
use Rattle.sync_rules.proofs.laws.own_events_tell.Goals as goal

pub returns : goal.returns
returns c = proved
