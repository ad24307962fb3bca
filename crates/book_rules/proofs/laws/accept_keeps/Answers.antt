use Rattle.book_rules.proofs.Kept.{accept_keeps as proved}
use Rattle.book_rules.proofs.laws.accept_keeps.Goals as goal

pub returns : goal.returns
returns c = proved
