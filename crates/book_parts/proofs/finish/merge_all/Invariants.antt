use Rattle.std.proofs.Common.{◌<◌, ◌-◌, ◌^◌, length}
use Rattle.std.specs.Prelude.{slice_index}
use Rattle.book_parts.specs.Finishing.{MergesSoFar}
use Rattle.book_parts.proofs.finish.merge_all.Given as goal

abbrev pub invariant-pages : goal.invariant-pages
invariant-pages g l = record {
  known : l.stream < length (g.D.Dock.seen l.dock).face.side_marks;
  so_far : MergesSoFar l.stream l.page (g.D.Dock.seen l.initial.dock) (g.D.Dock.seen l.dock);
}

abbrev pub decreases-pages : goal.decreases-pages
decreases-pages g l = 2 ^ 63 - slice_index (g.D.Dock.seen l.dock).face.side_marks l.stream
