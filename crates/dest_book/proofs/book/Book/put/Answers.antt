use Rattle.book_rules.proofs.Kept.{books_can_put}
use Rattle.dest_book.proofs.book.Book.put.Goals as goal

pub put-requires : goal.put-requires
put-requires g c = books_can_put c.self.inside.parts c.self.invariant
