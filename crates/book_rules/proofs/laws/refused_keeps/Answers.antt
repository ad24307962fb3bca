use Rattle.book_rules.proofs.Starting.{refused_keeps as proved}
use Rattle.book_rules.proofs.laws.refused_keeps.Goals as goal

pub returns : goal.returns
returns c = proved
