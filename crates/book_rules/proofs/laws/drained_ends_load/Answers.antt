use Rattle.book_rules.proofs.Ended.{drained_ends_load as proved}
use Rattle.book_rules.proofs.laws.drained_ends_load.Goals as goal

pub returns : goal.returns
returns c = proved
