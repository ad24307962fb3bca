use Rattle.book_rules.proofs.Starting.{starts_begin as proved}
use Rattle.book_rules.proofs.laws.starts_begin.Goals as goal

pub returns : goal.returns
returns c = proved
