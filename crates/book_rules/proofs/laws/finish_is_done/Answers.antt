use Rattle.book_rules.proofs.Leaving.{finish_is_done as proved}
use Rattle.book_rules.proofs.laws.finish_is_done.Goals as goal

pub returns : goal.returns
returns c = proved
