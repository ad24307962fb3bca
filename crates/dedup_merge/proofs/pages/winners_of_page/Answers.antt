use Rattle.std.proofs.Common.{◌≡◌, ◌+◌, List, [], ◌∷◌, ◌++◌, take, sym, subst, arith}
use Rattle.std.specs.Prelude.{IfSome}
use Rattle.outside.specs.Dock.{tables, ReadAtMost}
use Rattle.outside.specs.declared.event.RawRow.{RawRow}
use Rattle.dedup_merge.specs.Winners.{key_count}
use Rattle.dedup_merge.specs.Steps.{BestSoFar, KnowsKeys, side_of_store}
use Rattle.dedup_merge.proofs.PageLemmas.{only_trans, side_kept, rows_taken, best_next, counted_next, counted_whole, all_taken, page_taken}
use Rattle.dedup_merge.proofs.StepLemmas.{still_rises, still_knows}
use Rattle.dedup_merge.proofs.pages.winners_of_page.Goals as goal

pub returns-in_err-take_row-clause-only : goal.returns-in_err-take_row-clause-only
returns-in_err-take_row-clause-only g c = only_trans (g.D.Dock.seen c.args.dock.now) (g.D.Dock.seen c.loop-row.dock) (g.D.Dock.seen c.take_row.new.dock) c.loop-row.invariant.only c.take_row.ensures.only

pub returns-in_err-take_row-clause-read : goal.returns-in_err-take_row-clause-read
returns-in_err-take_row-clause-read g c = counted_whole c.args.rows.now c.loop-row.row-index c.row-item.result c.loop-row.best (g.D.Dock.seen c.args.dock.now).rows_read (g.D.Dock.seen c.loop-row.dock).rows_read (g.D.Dock.seen c.take_row.new.dock).rows_read (omega arith) c.row-item.is c.loop-row.invariant.knows c.loop-row.invariant.read c.take_row.ensures.read

pub loop-row-preserved : goal.loop-row-preserved
loop-row-preserved g c =
    let rows = c.args.rows.now in
    let i = c.loop-row.row-index in
    let row = c.row-item.result in
    let old = g.D.Dock.seen c.args.dock.now in
    let mid = g.D.Dock.seen c.loop-row.dock in
    let new = g.D.Dock.seen c.take_row.new.dock in
    let side = side_of_store c.args.stream (tables old) in
    let takes = c.in_ok-take_row.ensures.takes in
    let more : take (i + 1) rows ≡ take i rows ++ row ∷ [] = rows_taken rows i row (omega arith) c.row-item.is in
    record {
      only = only_trans old mid new c.loop-row.invariant.only c.take_row.ensures.only;
      read = subst (λ (rs : List RawRow). ReadAtMost (key_count rs) old.rows_read new.rows_read) (sym more) (counted_next (take i rows) row c.loop-row.best old.rows_read mid.rows_read new.rows_read c.loop-row.invariant.knows c.loop-row.invariant.read c.take_row.ensures.read);
      rise = still_rises takes.prior row c.loop-row.best c.take_row.new.best takes.takes c.loop-row.invariant.rise;
      knows = subst (λ (rs : List RawRow). KnowsKeys rs c.take_row.new.best) (sym more) (still_knows takes.prior row c.loop-row.best c.take_row.new.best takes.takes (take i rows) c.loop-row.invariant.knows);
      so_far = subst (λ (rs : List RawRow). IfSome side (λ before. BestSoFar before rs c.take_row.new.best)) (sym more) (best_next side (side_of_store c.args.stream (tables mid)) (take i rows) row c.loop-row.best c.take_row.new.best (side_kept c.args.stream old mid c.loop-row.invariant.only) takes c.loop-row.invariant.so_far);
    }

pub returns-clause-winners : goal.returns-clause-winners
returns-clause-winners g c =
    let side = side_of_store c.args.stream (tables (g.D.Dock.seen c.args.dock.now)) in
    let all = all_taken c.args.rows.now c.loop-row.row-index (omega arith) in
    page_taken side c.args.rows.now c.loop-row.best c.in_ok-into_rows.field-0 c.loop-row.invariant.rise c.in_ok-into_rows.ensures (subst (λ (rs : List RawRow). IfSome side (λ before. BestSoFar before rs c.loop-row.best)) all c.loop-row.invariant.so_far)
