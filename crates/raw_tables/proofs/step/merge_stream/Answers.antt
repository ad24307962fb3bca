use Rattle.std.proofs.Common.{List, subst}
use Rattle.std.proofs.lemmas.Result.{on_ok_weaker, on_err_weaker}
use Rattle.outside.specs.declared.table.StreamTable.{StreamTable}
use Rattle.outside.specs.Tables.{merged_table}
use Rattle.raw_tables.specs.Found.{StandsAt}
use Rattle.raw_tables.proofs.TableLemmas.{put_back, put_back_same}
use Rattle.raw_tables.proofs.step.merge_stream.Goals as goal

pub returns-in-Some-clause-ok : goal.returns-in-Some-clause-ok
returns-in-Some-clause-ok c =
    let at = subst (λ (ts : List StreamTable). StandsAt ts c.args.plan.now.id c.in-Some.index) c.as_slice.ensures c.in-Some.ensures in
    on_ok_weaker c.merge_winners-merged.result (λ e. put_back c.args.tables.now c.replace-table.new.self c.replace.new.self c.args.plan.now.id c.in-Some.index c.stand_in.result c.replace-table.result c.merge_winners-merged.new.table (merged_table c.args.plan.now c.args.winners c.args.mark) at c.replace-table.ensures.set c.replace-table.ensures.taken c.replace.ensures.set e) c.merge_winners-merged.ensures.ok

pub returns-in-Some-clause-err : goal.returns-in-Some-clause-err
returns-in-Some-clause-err c =
    let at = subst (λ (ts : List StreamTable). StandsAt ts c.args.plan.now.id c.in-Some.index) c.as_slice.ensures c.in-Some.ensures in
    on_err_weaker c.merge_winners-merged.result (λ e. put_back_same c.args.tables.now c.replace-table.new.self c.replace.new.self c.in-Some.index c.stand_in.result c.replace-table.result c.merge_winners-merged.new.table at.within c.replace-table.ensures.set c.replace-table.ensures.taken c.replace.ensures.set e) c.merge_winners-merged.ensures.err
