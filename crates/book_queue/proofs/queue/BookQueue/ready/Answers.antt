use Rattle.std.proofs.Common.{◌≡◌, subst}
use Rattle.book_queue.specs.Content.{ready_of}
use Rattle.book_queue.specs.Views.{IsOldestBelow}
use Rattle.book_queue.proofs.Ready.{ready_is}
use Rattle.book_queue.proofs.queue.BookQueue.ready.Goals as goal

pub returns : goal.returns
returns c = subst (λ view. c.oldest_sealed.result ≡ ready_of view.held) c.self.view_is (ready_is c.self.inside.pool.held c.self.inside.pool.streams c.self.inside.pool.next c.self.inside.lanes.items c.self.inside.out.items c.self.inside.next_batch c.oldest_sealed.result c.self.invariant.are c.stands.ensures.rise (subst (λ lanes. IsOldestBelow lanes c.self.inside.pool.streams c.oldest_sealed.result) c.deref.ensures.value (subst (λ streams. IsOldestBelow c.deref.result.now streams c.oldest_sealed.result) c.streams.ensures c.oldest_sealed.ensures)))
