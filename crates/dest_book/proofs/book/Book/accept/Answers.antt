use Rattle.book_rules.proofs.Kept.{books_are_ready}
use Rattle.dest_book.proofs.book.Book.accept.Goals as goal

pub accept-requires : goal.accept-requires
accept-requires g c = books_are_ready c.self.inside.parts c.self.invariant
