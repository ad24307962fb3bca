use Rattle.std.proofs.Common.{subst}
use Rattle.book_queue.specs.Content.{IsQueue}
use Rattle.book_queue.proofs.Standing.{stands_so}
use Rattle.book_queue.proofs.queue.BookQueue.stands.Goals as goal

pub returns : goal.returns
returns c = subst IsQueue c.self.view_is (stands_so c.self.inside.pool c.self.inside.lanes.items c.self.inside.out.items c.self.inside.parked c.self.inside.batch c.self.inside.next_batch c.self.invariant c.stands.ensures.rise c.stands.ensures.few c.stands.ensures.small)
