use Rattle.book_queue.specs.Views.{IsOldestBelow}
use Rattle.book_queue.proofs.lane.oldest_sealed.Given as goal

abbrev pub invariant-loop-stream : goal.invariant-loop-stream
invariant-loop-stream l = IsOldestBelow l.lanes l.stream l.found
