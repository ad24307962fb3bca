use Rattle.std.proofs.Common.{◌≡◌, ◌==◌, ◌<◌, false, length, map, refl, slice_index_or, subst, sym}
use Rattle.std.specs.List.{list_any}
use Rattle.book_queue.specs.declared.batch.Batch.{Batch}
use Rattle.book_queue.specs.Content.{is_in_batch, IsBatchOf}
use Rattle.book_queue.specs.Views.{held_of}
use Rattle.book_queue.proofs.Handing.{is_stranger, stands_at}
use Rattle.book_queue.proofs.Standing.{batch_stands}
use Rattle.book_queue.proofs.queue.BookQueue.stream_of.Goals as goal

pub returns-in_err-index-clause-none : goal.returns-in_err-index-clause-none
returns-in_err-index-clause-none c = rw c.from_residual.ensures (subst (λ view. list_any (is_in_batch c.args.number) view.held ≡ false) c.self.view_is (sym (is_stranger c.self.inside.pool c.self.inside.lanes.items c.self.inside.out.items c.self.inside.out.items c.self.inside.parked c.self.inside.batch c.self.inside.next_batch c.args.number c.self.invariant (subst (λ out. list_any (λ batch. batch.number == c.args.number) out ≡ false) c.deref.ensures.value c.in_err-index.ensures.none) refl).none))

pub returns-clause-some : goal.returns-clause-some
returns-clause-some c =
    let within = subst (λ out. c.in_ok-index.index < length out) c.deref.ensures.value c.in_ok-index.ensures.within
    in let numbered = subst (λ out. (d : Batch) → (slice_index_or out c.in_ok-index.index d).number ≡ c.args.number) c.deref.ensures.value c.in_ok-index.ensures.numbered
    in let found = stands_at c.args.number c.in_ok-index.index c.self.inside.out.items c.index.result.now within numbered c.index.ensures
    in subst (λ view. IsBatchOf c.index.result.now.stream c.args.number view.held) c.self.view_is (subst (λ one. IsBatchOf one.stream c.args.number (map (held_of c.self.inside.lanes.items c.self.inside.out.items) c.self.inside.pool.held)) found.1 (batch_stands c.self.inside.pool.held c.self.inside.pool.streams c.self.inside.pool.next c.self.inside.lanes.items c.self.inside.out.items c.self.inside.next_batch c.args.number c.self.invariant.are found.0))
