use Rattle.load_rules.proofs.Drained.{order_is_free as proved}
use Rattle.load_rules.proofs.laws.order_is_free.Goals as goal

pub returns : goal.returns
returns c = proved
