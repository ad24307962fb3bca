use Rattle.book_rules.proofs.Leaving.{finish_leaves_done as proved}
use Rattle.book_rules.proofs.laws.finish_leaves_done.Goals as goal

pub returns : goal.returns
returns c = proved
