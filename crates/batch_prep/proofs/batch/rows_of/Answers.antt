use Rattle.std.proofs.Common.{[], subst, option_to_list, ◌++◌}
use Rattle.outside.specs.declared.line.SeqLine.{SeqLine}
use Rattle.batch_prep.specs.Items.{AddsRow}
use Rattle.batch_prep.proofs.RowLemmas.{rows_more}
use Rattle.batch_prep.proofs.batch.rows_of.Goals as goal

pub loop-line-preserved : goal.loop-line-preserved
loop-line-preserved c =
    let plan = c.args.item.now.plan in
    let lines = c.as_slice-line-items.result.now in
    let row = c.in_ok-row.row in
    rows_more plan lines c.loop-line.line-index c.line-item.result c.loop-line.rows c.keep.new.rows (option_to_list row) c.loop-line-test.true c.loop-line.invariant
    (subst (λ (l : SeqLine). AddsRow plan l [] (option_to_list row ++ [])) c.line-item.is (c.in_ok-row.ensures [])) c.in_ok-keep.ensures
