use Rattle.book_rules.proofs.Kept.{books_are_ready as proved}
use Rattle.book_rules.proofs.laws.books_are_ready.Goals as goal

pub returns : goal.returns
returns c = proved
