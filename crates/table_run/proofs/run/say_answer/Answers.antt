use Rattle.std.proofs.Common.{◌≡◌, Err, Result}
use Rattle.outside.specs.declared.status.Status.{Status}
use Rattle.outside.specs.declared.status.Status.TheVariants as status
use Rattle.table_run.proofs.RunLemmas.{one_not_said, one_said}
use Rattle.table_run.proofs.run.say_answer.Goals as goal

pub returns-in-Ok-clause-runs : goal.returns-in-Ok-clause-runs
returns-in-Ok-clause-runs g c =
    λ rows. one_said c.write_out.result c.args.line.now _ (g.K.Desk.seen c.args.desk.now) (g.K.Desk.seen c.say_line.new.desk) (g.K.Desk.seen c.write_out.new.desk) rows (λ e. cc) c.in-Ok.ensures.ok c.in-Ok.ensures.front.only
    (c.in-Ok.ensures.stays (λ e. cc)) c.write_out.ensures

pub returns-in-Err-clause-runs : goal.returns-in-Err-clause-runs
returns-in-Err-clause-runs g c =
    λ rows. one_not_said c.in-Err.why c.args.line.now (◌≡◌ {A = Result (Unit {0}) Status} (Err c.in-Err.why) (Err status.WriteFault)) (g.K.Desk.seen c.args.desk.now) (g.K.Desk.seen c.say_line.new.desk) rows (λ e. λ k. Err (e k))
    c.in-Err.ensures.cause c.in-Err.ensures.front c.in-Err.ensures.stays (λ e. cc)
