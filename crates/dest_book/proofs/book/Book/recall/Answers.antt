use Rattle.book_rules.proofs.Kept.{recall_own}
use Rattle.dest_book.proofs.book.Book.recall.Goals as goal

pub returns-clause-own : goal.returns-clause-own
returns-clause-own g c = recall_own c.self.inside.parts c.recall.new.self c.self.invariant c.recall.ensures
