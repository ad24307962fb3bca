use Rattle.std.proofs.Common.{List, ℕ, refl, subst, sym}
use Rattle.table_run.specs.Runs.{CouldNotOpen, IsChecked, MayCheck, WasOpened, outside_of}
use Rattle.table_run.proofs.RunLemmas.{checked_run, no_memory_behind}
use Rattle.table_run.proofs.run.run_check.Goals as goal

pub returns-in-Ok-clause-runs : goal.returns-in-Ok-clause-runs
returns-in-Ok-clause-runs g c =
    let old = outside_of (g.K.Desk.seen c.args.desk.now) (g.R.RowStore.seen c.args.rows.now) in
    let mid = outside_of (g.K.Desk.seen c.checked.new.desk) (g.R.RowStore.seen c.checked.new.rows) in
    let new = outside_of (g.K.Desk.seen c.say_answer.new.desk) (g.R.RowStore.seen c.checked.new.rows) in
    let is = subst (λ (line : List ℕ). IsChecked (WasOpened old mid) (CouldNotOpen old mid) old.desk.texts c.args.config.now line) (sym c.as_slice.ensures) c.in-Ok.ensures.line in
    checked_run c.say_answer.result c.args.config.now c.as_slice.result.now old mid new is c.in-Ok.ensures.only c.in-Ok.ensures.faults c.say_answer.ensures.reads refl (c.say_answer.ensures.runs (g.R.RowStore.seen c.checked.new.rows))

pub returns-in-Err-clause-runs : goal.returns-in-Err-clause-runs
returns-in-Err-clause-runs g c =
    no_memory_behind (λ opened failed. MayCheck opened failed (g.K.Desk.seen c.args.desk.now).texts c.args.config.now) (outside_of (g.K.Desk.seen c.args.desk.now) (g.R.RowStore.seen c.args.rows.now))
    (outside_of (g.K.Desk.seen c.checked.new.desk) (g.R.RowStore.seen c.checked.new.rows)) c.in-Err.ensures.only c.in-Err.ensures.faults
