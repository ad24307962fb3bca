use Rattle.book_rules.proofs.Kept.{put_keeps as proved}
use Rattle.book_rules.proofs.laws.put_keeps.Goals as goal

pub returns : goal.returns
returns c = proved
