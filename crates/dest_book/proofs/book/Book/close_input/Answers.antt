use Rattle.book_rules.proofs.Handing.{close_own}
use Rattle.dest_book.proofs.book.Book.close_input.Goals as goal

pub returns-clause-own : goal.returns-clause-own
returns-clause-own g c = close_own c.args.torn c.self.inside.parts c.close_input.new.self c.self.invariant c.close_input.ensures
