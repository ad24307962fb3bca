use Rattle.book_rules.proofs.Ended.{ends_finished as proved}
use Rattle.book_rules.proofs.laws.ends_finished.Goals as goal

pub returns : goal.returns
returns c = proved
