use Rattle.std.proofs.Common.{◌≡◌, ◌==◌, ◌∙◌, ◌<◌, [], false, length, refl, slice_index_or, subst}
use Rattle.std.specs.List.{list_any}
use Rattle.buffer_pool.specs.Content.{chain_of}
use Rattle.book_queue.specs.declared.batch.Batch.{Batch}
use Rattle.book_queue.specs.Content.{batch_of}
use Rattle.book_queue.proofs.Handing.{is_stranger, lines_of, ok_as}
use Rattle.book_queue.proofs.queue.BookQueue.copy.Goals as goal

pub returns-in-Some : goal.returns-in-Some
returns-in-Some c =
    let within = subst (λ out. c.in-Some.index < length out) c.deref.ensures.value c.in-Some.ensures.within
    in let numbered = subst (λ out. (d : Batch) → (slice_index_or out c.in-Some.index d).number ≡ c.args.number) c.deref.ensures.value c.in-Some.ensures.numbered
    in let lines = subst (λ view. chain_of c.index.result.now.chain c.self.inside.pool.held ≡ batch_of c.args.number view.held) c.self.view_is (lines_of c.self.inside.pool c.self.inside.lanes.items c.self.inside.out.items c.self.inside.parked c.self.inside.batch c.self.inside.next_batch c.args.number c.in-Some.index c.index.result.now c.self.invariant within numbered c.index.ensures)
    in ok_as (λ copied. copied ≡ chain_of c.index.result.now.chain c.self.inside.pool.held) (λ copied. copied ≡ batch_of c.args.number c.args.self.now.held) c.copy.result c.copy.ensures (λ copied is. is ∙ lines)

pub returns-in-None : goal.returns-in-None
returns-in-None c = c.new.ensures ∙ subst (λ view. [] ≡ batch_of c.args.number view.held) c.self.view_is (is_stranger c.self.inside.pool c.self.inside.lanes.items c.self.inside.out.items c.self.inside.out.items c.self.inside.parked c.self.inside.batch c.self.inside.next_batch c.args.number c.self.invariant (subst (λ out. list_any (λ batch. batch.number == c.args.number) out ≡ false) c.deref.ensures.value c.in-None.ensures.none) refl).lines
