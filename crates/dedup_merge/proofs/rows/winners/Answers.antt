use Rattle.std.proofs.Common.{List, [], take, filter, sym, subst, arith}
use Rattle.outside.specs.declared.event.RawRow.{RawRow}
use Rattle.dedup_merge.specs.Winners.{has_key}
use Rattle.dedup_merge.specs.Steps.{BestSoFar}
use Rattle.dedup_merge.proofs.PageLemmas.{rows_taken}
use Rattle.dedup_merge.proofs.StepLemmas.{keyed_rises, keyed_best}
use Rattle.dedup_merge.proofs.rows.winners.Goals as goal

pub loop-row-preserved : goal.loop-row-preserved
loop-row-preserved c =
    let rows = c.as_slice-row-items.result.now in
    let i = c.loop-row.row-index in
    let row = c.row-item.result in
    record {
      rise = keyed_rises row c.loop-row.best c.take_keyed.new.best c.in_ok-take_keyed.ensures c.loop-row.invariant.rise;
      so_far = subst (λ (rs : List RawRow). BestSoFar [] (filter has_key rs) c.take_keyed.new.best) (sym (rows_taken rows i row (omega arith) c.row-item.is)) (keyed_best (take i rows) row c.loop-row.best c.take_keyed.new.best c.in_ok-take_keyed.ensures c.loop-row.invariant.so_far);
    }
