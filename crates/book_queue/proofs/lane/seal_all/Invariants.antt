use Rattle.std.proofs.Common.{◌≡◌, ◌++◌, take, drop, length, map}
use Rattle.book_queue.specs.Views.{sealed_to}
use Rattle.book_queue.proofs.lane.seal_all.Given as goal

abbrev pub invariant-loop-index : goal.invariant-loop-index
invariant-loop-index l = record {
  behind : drop l.index l.lanes.items ≡ drop l.index l.initial.lanes.items;
  so_far : take l.index l.lanes.items ++ map (sealed_to l.next) (drop l.index l.initial.lanes.items) ≡ map (sealed_to l.next) l.initial.lanes.items;
  same : length l.lanes.items ≡ length l.initial.lanes.items;
}
