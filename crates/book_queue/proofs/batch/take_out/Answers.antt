use Rattle.std.proofs.Common.{subst, ◌≡◌, ◌<◌, length, slice_index_or}
use Rattle.book_queue.specs.declared.batch.Batch.{Batch}
use Rattle.book_queue.proofs.Seen.{taken_out}
use Rattle.book_queue.proofs.batch.take_out.Goals as goal

pub returns-clause-some : goal.returns-clause-some
returns-clause-some c = taken_out c.args.number c.in_ok-index.index c.args.out.now.items c.remove.new.self.items c.remove.result (subst (λ out. c.in_ok-index.index < length out) c.deref.ensures.value c.in_ok-index.ensures.within) (subst (λ out. (d : Batch) → (slice_index_or out c.in_ok-index.index d).number ≡ c.args.number) c.deref.ensures.value c.in_ok-index.ensures.numbered) c.remove.ensures.value c.remove.ensures.items
