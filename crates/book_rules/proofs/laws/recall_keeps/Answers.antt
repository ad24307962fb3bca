use Rattle.book_rules.proofs.Kept.{recall_keeps as proved}
use Rattle.book_rules.proofs.laws.recall_keeps.Goals as goal

pub returns : goal.returns
returns c = proved
