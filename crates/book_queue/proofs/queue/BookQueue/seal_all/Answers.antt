use Rattle.book_queue.proofs.Kept.{all_sealed_kept}
use Rattle.book_queue.proofs.Places.{all_sealed_view}
use Rattle.book_queue.proofs.Standing.{seen_as}
use Rattle.book_queue.proofs.queue.BookQueue.seal_all.Goals as goal

pub invariant_of-self : goal.invariant_of-self
invariant_of-self c = record {
  are = rw c.seal_all.ensures (rw c.next-next.ensures (all_sealed_kept c.self.inside.pool.held c.self.inside.pool.streams c.self.inside.pool.next c.self.inside.lanes.items c.self.inside.out.items c.self.inside.next_batch c.self.invariant.are));
  may_come = c.self.invariant.may_come;
  some = c.self.invariant.some;
  counted = c.self.invariant.counted;
}

pub returns : goal.returns
returns c =
    rw (c.seal_all.ensures, c.next-next.ensures, ← c.self.view_is)
    (seen_as c.self.inside.pool _ c.self.inside.out.items c.self.inside.parked c.self.inside.batch c.self.inside.next_batch _
    (all_sealed_view c.self.inside.lanes.items c.self.inside.out.items c.self.inside.pool.next c.self.inside.pool.held c.self.invariant.are.slots_fit))
