use Rattle.book_rules.proofs.Finishing.{books_can_finish as proved}
use Rattle.book_rules.proofs.laws.books_can_finish.Goals as goal

pub returns : goal.returns
returns c = proved
