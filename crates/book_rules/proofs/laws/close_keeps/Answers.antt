use Rattle.book_rules.proofs.Handing.{close_keeps as proved}
use Rattle.book_rules.proofs.laws.close_keeps.Goals as goal

pub returns : goal.returns
returns c = proved
