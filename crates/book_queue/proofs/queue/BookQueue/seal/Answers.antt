use Rattle.std.proofs.Common.{arith, ◌<◌, subst, sym}
use Rattle.book_queue.proofs.Kept.{sealed_kept, seqs_below}
use Rattle.book_queue.proofs.Places.{sealed_view}
use Rattle.book_queue.proofs.Standing.{seen_as}
use Rattle.book_queue.proofs.queue.BookQueue.seal.Goals as goal

pub invariant_of-self : goal.invariant_of-self
invariant_of-self c =
    let below : c.args.stream < c.self.inside.pool.streams = subst (λ view. c.args.stream < view.streams) (sym c.self.view_is) c.requires
    in record {
      are = rw c.seal.ensures (rw c.next-next.ensures (sealed_kept c.self.inside.pool.held c.self.inside.pool.streams c.self.inside.pool.next c.self.inside.lanes.items c.self.inside.out.items c.self.inside.next_batch c.args.stream c.self.invariant.are below));
      may_come = c.self.invariant.may_come;
      some = c.self.invariant.some;
      counted = c.self.invariant.counted;
    }

pub returns : goal.returns
returns c =
    let below : c.args.stream < c.self.inside.pool.streams = subst (λ view. c.args.stream < view.streams) (sym c.self.view_is) c.requires
    in rw (c.seal.ensures, c.next-next.ensures, ← c.self.view_is)
    (seen_as c.self.inside.pool _ c.self.inside.out.items c.self.inside.parked c.self.inside.batch c.self.inside.next_batch _
    (sealed_view c.self.inside.lanes.items c.self.inside.out.items c.self.inside.pool.next c.args.stream c.self.inside.pool.held (omega (arith, c.self.invariant.are.long, below)) (seqs_below c.self.inside.lanes.items c.self.inside.out.items c.self.inside.pool.next c.self.inside.pool.held c.self.invariant.are.slots_fit)))
