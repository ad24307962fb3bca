use Rattle.std.proofs.Common.{◌≡◌, take}
use Rattle.book_queue.proofs.queue.are_same.Given as goal

abbrev pub invariant-loop-index : goal.invariant-loop-index
invariant-loop-index l = take l.index l.lines ≡ take l.index l.others
