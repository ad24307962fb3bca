use Rattle.std.proofs.Common.{◌≡◌}
use Rattle.book_queue.specs.Content.{Sealed, is_handed_out, move}
use Rattle.book_queue.specs.Views.{count_if}
use Rattle.book_queue.proofs.queue.BookQueue.take_all_back.Given as goal

abbrev pub invariant-loop-number : goal.invariant-loop-number
invariant-loop-number l = record l.self { held = move is_handed_out Sealed l.self.held } ≡ record l.initial.self { held = move is_handed_out Sealed l.initial.self.held }

abbrev pub decreases-loop-number : goal.decreases-loop-number
decreases-loop-number l = count_if is_handed_out l.self.held
