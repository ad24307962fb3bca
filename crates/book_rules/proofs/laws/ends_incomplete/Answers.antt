use Rattle.book_rules.proofs.Ended.{ends_incomplete as proved}
use Rattle.book_rules.proofs.laws.ends_incomplete.Goals as goal

pub returns : goal.returns
returns c = proved
