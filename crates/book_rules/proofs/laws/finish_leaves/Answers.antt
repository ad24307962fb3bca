use Rattle.book_rules.proofs.Leaving.{finish_leaves as proved}
use Rattle.book_rules.proofs.laws.finish_leaves.Goals as goal

pub returns : goal.returns
returns c = proved
