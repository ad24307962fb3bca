use Rattle.book_rules.proofs.Kept.{give_back_keeps as proved}
use Rattle.book_rules.proofs.laws.give_back_keeps.Goals as goal

pub returns : goal.returns
returns c = proved
