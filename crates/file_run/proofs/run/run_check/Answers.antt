use Rattle.std.proofs.Common.{inl, inr, List, ℕ, refl, subst}
use Rattle.file_run.specs.Runs.{MayCheck, MaySayOne, RunsAs}
use Rattle.file_run.proofs.RunLemmas.{checked_said, memory_wanted}
use Rattle.file_run.proofs.run.run_check.Goals as goal

pub returns-in-Ok : goal.returns-in-Ok
returns-in-Ok g c =
    let mid = g.K.Desk.seen c.checked.new.desk in
    let now = g.K.Desk.seen c.say_answer.new.desk in
    let runs = subst (λ (l : List ℕ). RunsAs c.say_answer.result (λ failed by_name. MaySayOne l) mid now) c.as_slice.ensures c.say_answer.ensures.runs in
    record { runs = checked_said c.say_answer.result c.args.config.now c.in-Ok.line (g.K.Desk.seen c.args.desk.now) mid now c.in-Ok.ensures.only c.in-Ok.ensures.line c.say_answer.ensures.reads runs; cause = c.say_answer.ensures.cause }

pub returns-in-Err : goal.returns-in-Err
returns-in-Err g c = record { runs = memory_wanted (λ failed by_name. MayCheck failed by_name c.args.config.now) (g.K.Desk.seen c.args.desk.now) (g.K.Desk.seen c.checked.new.desk) c.in-Err.ensures.only; cause = inr (inl refl) }
