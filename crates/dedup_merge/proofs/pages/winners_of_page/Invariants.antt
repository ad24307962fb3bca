use Rattle.std.proofs.Common.{take}
use Rattle.std.specs.Prelude.{IfSome}
use Rattle.outside.specs.Dock.{tables, ReadAtMost}
use Rattle.dedup_merge.specs.Winners.{KeysRise, key_count}
use Rattle.dedup_merge.specs.Steps.{ReadsOnly, BestSoFar, KnowsKeys, side_of_store}
use Rattle.dedup_merge.proofs.pages.winners_of_page.Given as goal

-- the rows so far were taken in, and a winner was read for each of their keys
abbrev pub invariant-loop-row : goal.invariant-loop-row
invariant-loop-row g l = record {
  only : ReadsOnly (g.D.Dock.seen l.initial.dock) (g.D.Dock.seen l.dock);
  read : ReadAtMost (key_count (take l.row-index l.rows)) (g.D.Dock.seen l.initial.dock).rows_read (g.D.Dock.seen l.dock).rows_read;
  rise : KeysRise l.best;
  knows : KnowsKeys (take l.row-index l.rows) l.best;
  so_far : IfSome (side_of_store l.stream (tables (g.D.Dock.seen l.initial.dock))) (λ before. BestSoFar before (take l.row-index l.rows) l.best);
}
