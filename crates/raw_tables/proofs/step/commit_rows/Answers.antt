use Rattle.std.proofs.Common.{List, subst}
use Rattle.std.proofs.lemmas.Result.{on_ok_weaker, on_err_weaker}
use Rattle.outside.specs.declared.table.StreamTable.{StreamTable}
use Rattle.outside.specs.Tables.{committed_table}
use Rattle.raw_tables.specs.Found.{StandsAt}
use Rattle.raw_tables.proofs.TableLemmas.{put_back, put_back_same}
use Rattle.raw_tables.proofs.step.commit_rows.Goals as goal

pub returns-in-Some-clause-ok : goal.returns-in-Some-clause-ok
returns-in-Some-clause-ok c =
    let at = subst (λ (ts : List StreamTable). StandsAt ts c.args.id.now c.in-Some.index) c.as_slice.ensures c.in-Some.ensures in
    on_ok_weaker c.add_rows-added.result (λ e. put_back c.args.tables.now c.replace-table.new.self c.replace.new.self c.args.id.now c.in-Some.index c.stand_in.result c.replace-table.result c.add_rows-added.new.table (committed_table c.args.rows.items) at c.replace-table.ensures.set c.replace-table.ensures.taken c.replace.ensures.set e) c.add_rows-added.ensures.ok

pub returns-in-Some-clause-err : goal.returns-in-Some-clause-err
returns-in-Some-clause-err c =
    let at = subst (λ (ts : List StreamTable). StandsAt ts c.args.id.now c.in-Some.index) c.as_slice.ensures c.in-Some.ensures in
    on_err_weaker c.add_rows-added.result (λ e. put_back_same c.args.tables.now c.replace-table.new.self c.replace.new.self c.in-Some.index c.stand_in.result c.replace-table.result c.add_rows-added.new.table at.within c.replace-table.ensures.set c.replace-table.ensures.taken c.replace.ensures.set e) c.add_rows-added.ensures.err
