use Rattle.std.proofs.Common.{List, subst}
use Rattle.outside.specs.declared.table.StreamTable.{StreamTable}
use Rattle.outside.specs.Tables.{opened_table}
use Rattle.raw_tables.specs.Found.{StandsAt}
use Rattle.raw_tables.proofs.TableLemmas.{put_back}
use Rattle.raw_tables.proofs.step.open_stream.Goals as goal

pub returns-in-Some-clause-ok : goal.returns-in-Some-clause-ok
returns-in-Some-clause-ok c =
    let at = subst (λ (ts : List StreamTable). StandsAt ts c.args.plan.now.id c.in-Some.index) c.as_slice.ensures c.in-Some.ensures in
    put_back c.args.tables.now c.replace-table.new.self c.replace.new.self c.args.plan.now.id c.in-Some.index c.stand_in.result c.replace-table.result c.open.result (opened_table c.args.plan.now) at c.replace-table.ensures.set c.replace-table.ensures.taken c.replace.ensures.set c.open.ensures
