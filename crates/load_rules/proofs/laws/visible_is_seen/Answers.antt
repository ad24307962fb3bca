use Rattle.load_rules.proofs.Seen.{visible_is_seen as proved}
use Rattle.load_rules.proofs.laws.visible_is_seen.Goals as goal

pub returns : goal.returns
returns c = proved
