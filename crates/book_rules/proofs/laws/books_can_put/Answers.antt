use Rattle.book_rules.proofs.Kept.{books_can_put as proved}
use Rattle.book_rules.proofs.laws.books_can_put.Goals as goal

pub returns : goal.returns
returns c = proved
