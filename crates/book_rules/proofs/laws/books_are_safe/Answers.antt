use Rattle.book_rules.proofs.Kept.{books_are_safe as proved}
use Rattle.book_rules.proofs.laws.books_are_safe.Goals as goal

pub returns : goal.returns
returns c = proved
