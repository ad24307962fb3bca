use Rattle.std.proofs.Common.{◌≡◌, ◌-◌, None, Some, false, true, length, slice_get, subst}
use Rattle.std.specs.List.{list_any}
use Rattle.book_queue.specs.Content.{is_handed_out, is_in_batch}
use Rattle.book_queue.proofs.Recalling.{none_handed, some_handed}
use Rattle.book_queue.proofs.queue.BookQueue.last_out.Goals as goal

pub returns-in_err-last-clause-none : goal.returns-in_err-last-clause-none
returns-in_err-last-clause-none c = rw c.from_residual.ensures (subst (λ view. list_any is_handed_out view.held ≡ false) c.self.view_is (none_handed c.self.inside.pool c.self.inside.lanes.items c.self.inside.out.items c.self.inside.parked c.self.inside.batch c.self.inside.next_batch c.self.invariant (subst (λ out. None ≡ slice_get out (length out - 1)) c.deref.ensures.value c.in_err-last.ensures.value)))

pub returns-clause-some : goal.returns-clause-some
returns-clause-some c = subst (λ view. list_any (is_in_batch c.in_ok-last.last.now.number) view.held ≡ true) c.self.view_is (some_handed c.self.inside.pool c.self.inside.lanes.items c.self.inside.out.items c.self.inside.parked c.self.inside.batch c.self.inside.next_batch (length c.self.inside.out.items - 1) c.in_ok-last.last.now c.self.invariant (subst (λ out. Some c.in_ok-last.last.now ≡ slice_get out (length out - 1)) c.deref.ensures.value c.in_ok-last.ensures.value))
