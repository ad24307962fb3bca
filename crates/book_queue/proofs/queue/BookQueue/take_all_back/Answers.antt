use Rattle.std.proofs.Common.{◌∙◌, ◌<◌, ap, subst, sym}
use Rattle.book_queue.specs.Content.{QueueView, Sealed, is_handed_out, move}
use Rattle.book_queue.specs.Views.{count_if}
use Rattle.book_queue.proofs.Recalling.{fewer_out, moved_again, none_moved_back}
use Rattle.book_queue.proofs.queue.BookQueue.take_all_back.Goals as goal

pub loop-number-smaller : goal.loop-number-smaller
loop-number-smaller c = subst {A = QueueView} (λ view. count_if is_handed_out view.held < count_if is_handed_out c.loop-number.self.held) (sym c.take_back.ensures.back) (fewer_out c.in-Some.number c.loop-number.self.held c.in-Some.ensures.some)

pub loop-number-preserved : goal.loop-number-preserved
loop-number-preserved c = ap {A = QueueView} (λ view. record view { held = move is_handed_out Sealed view.held }) c.take_back.ensures.back ∙ (ap (λ held. record c.loop-number.self { held = held }) (moved_again c.in-Some.number c.loop-number.self.held) ∙ c.loop-number.invariant)

pub returns : goal.returns
returns c = ap (λ held. record c.loop-number.self { held = held }) (none_moved_back c.loop-number.self.held c.in_default.ensures.none) ∙ c.loop-number.invariant
