use Rattle.std.proofs.Common.{filter, take, []}
use Rattle.dedup_merge.specs.Winners.{KeysRise, has_key}
use Rattle.dedup_merge.specs.Steps.{BestSoFar}
use Rattle.dedup_merge.proofs.rows.winners.Given as goal

-- the rows so far that take part were taken in
abbrev pub invariant-loop-row : goal.invariant-loop-row
invariant-loop-row l = record {
  rise : KeysRise l.best;
  so_far : BestSoFar [] (filter has_key (take l.row-index l.row-items)) l.best;
}
