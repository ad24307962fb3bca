use Rattle.book_rules.proofs.Finishing.{finish_keeps as proved}
use Rattle.book_rules.proofs.laws.finish_keeps.Goals as goal

pub returns : goal.returns
returns c = proved
