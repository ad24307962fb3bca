use Rattle.book_rules.proofs.Running.{readers_read_last as proved}
use Rattle.book_rules.proofs.laws.readers_read_last.Goals as goal

pub returns : goal.returns
returns c = proved
