use Rattle.std.proofs.Common.{◌≡◌, ◌==◌, drop}
use Rattle.std.specs.List.{list_any}
use Rattle.book_queue.proofs.batch.index_of.Given as goal

abbrev pub invariant-loop-index : goal.invariant-loop-index
invariant-loop-index l = list_any (λ batch. batch.number == l.number) l.out ≡ list_any (λ batch. batch.number == l.number) (drop l.index l.out)
