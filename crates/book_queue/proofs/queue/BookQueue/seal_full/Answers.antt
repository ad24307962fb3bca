use Rattle.std.proofs.Common.{arith, ◌≡◌, ◌∙◌, ◌<◌, ap, subst, sym}
use Rattle.book_queue.specs.Content.{count_of}
use Rattle.book_queue.proofs.Pushing.{full_left, full_sealed, queue_count}
use Rattle.book_queue.proofs.queue.BookQueue.seal_full.Goals as goal

pub returns-then-index-self : goal.returns-then-index-self
returns-then-index-self c =
    let counted = subst (λ view. c.index.result.now.queued ≡ count_of c.args.stream view.held) c.self.view_is (queue_count c.self.inside.pool c.self.inside.lanes.items c.self.inside.out.items c.self.inside.parked c.self.inside.batch c.self.inside.next_batch c.args.stream c.index.result.now c.self.invariant (subst (λ view. c.args.stream < view.streams) (sym c.self.view_is) c.requires) c.index.ensures)
    in let batch = ap (λ view. view.batch) c.self.view_is
    in c.seal.ensures ∙ ap (λ held. record c.args.self.now { held = held }) (full_sealed c.args.self.now.batch c.args.stream c.args.self.now.held (omega (arith, c.if-index-self.true, counted, batch)))

pub returns-else-index-self : goal.returns-else-index-self
returns-else-index-self c =
    let counted = subst (λ view. c.index.result.now.queued ≡ count_of c.args.stream view.held) c.self.view_is (queue_count c.self.inside.pool c.self.inside.lanes.items c.self.inside.out.items c.self.inside.parked c.self.inside.batch c.self.inside.next_batch c.args.stream c.index.result.now c.self.invariant (subst (λ view. c.args.stream < view.streams) (sym c.self.view_is) c.requires) c.index.ensures)
    in let batch = ap (λ view. view.batch) c.self.view_is
    in ap (λ held. record c.args.self.now { held = held }) (full_left c.args.self.now.batch c.args.stream c.args.self.now.held (omega (arith, c.if-index-self.false, counted, batch)))
