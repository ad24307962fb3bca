use Rattle.book_rules.proofs.Handing.{take_output_keeps as proved}
use Rattle.book_rules.proofs.laws.take_output_keeps.Goals as goal

pub returns : goal.returns
returns c = proved
