use Rattle.std.proofs.Common.{◌≡◌, ◌∙◌, ◌<◌, ◌≤◌, ◌+◌, ◌++◌, [], ◌∷◌, None, ap, refl, subst, sym}
use Rattle.book_queue.specs.Content.{QueueView, queued, sealed_full}
use Rattle.book_queue.specs.Views.{view_of}
use Rattle.book_queue.proofs.Pushing.{comes_in, grow_room}
use Rattle.book_queue.proofs.queue.BookQueue.put.Goals as goal

pub grow-requires-clause-room : goal.grow-requires-clause-room
grow-requires-clause-room c = grow_room c.self.inside.pool c.self.inside.lanes.items c.self.inside.out.items c.self.inside.parked c.self.inside.batch c.self.inside.next_batch c.args.came.stream c.self.invariant (subst (λ view. c.args.came.stream < view.streams) (sym c.self.view_is) c.requires.stream) (c.in-Ok.ensures.room.0 refl).0

pub invariant_of-self : goal.invariant_of-self
invariant_of-self c = (comes_in c.self.inside.pool c.push.new.self c.self.inside.lanes.items c.grow.new.lanes.items c.self.inside.out.items c.self.inside.parked c.self.inside.batch c.self.inside.next_batch c.args.came.stream c.args.came.seq c.args.came.line c.self.invariant (subst (λ view. view.parked ≡ None) (sym c.self.view_is) c.requires.parked) (subst (λ view. c.args.came.stream < view.streams) (sym c.self.view_is) c.requires.stream) (subst (λ view. view.next ≤ c.args.came.seq) (sym c.self.view_is) c.requires.above) c.in-Ok.ensures.ok c.grow.ensures).kept

pub returns-in-Ok-clause-fits : goal.returns-in-Ok-clause-fits
returns-in-Ok-clause-fits c =
    let comes = comes_in c.self.inside.pool c.push.new.self c.self.inside.lanes.items c.grow.new.lanes.items c.self.inside.out.items c.self.inside.parked c.self.inside.batch c.self.inside.next_batch c.args.came.stream c.args.came.seq c.args.came.line c.self.invariant (subst (λ view. view.parked ≡ None) (sym c.self.view_is) c.requires.parked) (subst (λ view. c.args.came.stream < view.streams) (sym c.self.view_is) c.requires.stream) (subst (λ view. view.next ≤ c.args.came.seq) (sym c.self.view_is) c.requires.above) c.in-Ok.ensures.ok c.grow.ensures
    in let seen = subst (λ view. view_of c.push.new.self c.grow.new.lanes.items c.self.inside.out.items c.self.inside.parked c.self.inside.batch c.self.inside.next_batch ≡ record view { held = view.held ++ queued c.args.came.seq c.args.came.stream c.args.came.line ∷ []; next = c.args.came.seq + 1 }) c.self.view_is comes.seen
    in λ is. c.seal_full.ensures ∙ ap {A = QueueView} (λ view. record view { held = sealed_full view.batch c.args.came.stream view.held }) seen
