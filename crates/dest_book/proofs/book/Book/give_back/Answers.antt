use Rattle.std.proofs.Common.{subst}
use Rattle.book_rules.specs.Books.{IsGiveBackRun, Runs}
use Rattle.book_rules.specs.Views.{BookView}
use Rattle.book_rules.proofs.Kept.{give_back_runs}
use Rattle.dest_book.proofs.book.Book.give_back.Goals as goal

pub returns-clause-runs : goal.returns-clause-runs
returns-clause-runs g c = subst (λ (old : BookView). Runs (IsGiveBackRun c.args.item.batch) old c.give_back.new.self) c.self.view_is (give_back_runs c.args.item c.give_back.result c.self.inside.parts c.give_back.new.self c.self.invariant c.give_back.ensures)
