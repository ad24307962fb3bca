use Rattle.book_rules.proofs.Handing.{push_keeps as proved}
use Rattle.book_rules.proofs.laws.push_keeps.Goals as goal

pub returns : goal.returns
returns c = proved
