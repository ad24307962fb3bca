use Rattle.std.proofs.Common.{◌<◌, length, sym, subst}
use Rattle.book_rules.specs.Views.{BookView}
use Rattle.book_rules.proofs.Finishing.{books_can_finish}
use Rattle.dest_book.proofs.book.Book.finish.Goals as goal

pub finish-requires : goal.finish-requires
finish-requires g c = λ none. books_can_finish c.args.stream c.self.inside.parts c.self.invariant (subst (λ (book : BookView). c.args.stream < length book.catalog) (sym c.self.view_is) c.requires)
