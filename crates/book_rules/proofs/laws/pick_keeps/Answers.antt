use Rattle.book_rules.proofs.Kept.{pick_keeps as proved}
use Rattle.book_rules.proofs.laws.pick_keeps.Goals as goal

pub returns : goal.returns
returns c = proved
