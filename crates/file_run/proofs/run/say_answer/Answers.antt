use Rattle.std.proofs.Common.{inl, refl}
use Rattle.outside.specs.declared.status.Status.TheVariants as status
use Rattle.file_run.specs.Runs.{MaySayOne}
use Rattle.file_run.proofs.RunLemmas.{line_cause, line_not_said, ok_no_fault, one_said, said_cause, written_out}
use Rattle.file_run.proofs.run.say_answer.Goals as goal

pub returns-in-Ok-clause-runs : goal.returns-in-Ok-clause-runs
returns-in-Ok-clause-runs g c =
    let old = g.K.Desk.seen c.args.desk.now in
    let mid = g.K.Desk.seen c.say_line.new.desk in
    written_out status.Ok c.write_out.result (λ failed by_name. MaySayOne c.args.line.now) old mid (g.K.Desk.seen c.write_out.new.desk)
    (one_said c.args.line.now _ old mid c.in-Ok.ensures.ok c.in-Ok.ensures.front.only (c.in-Ok.ensures.stays (ok_no_fault c.in-Ok.field-0 status.WriteFault))) c.write_out.ensures

pub returns-in-Err-clause-runs : goal.returns-in-Err-clause-runs
returns-in-Err-clause-runs g c =
    let old = g.K.Desk.seen c.args.desk.now in
    let mid = g.K.Desk.seen c.say_line.new.desk in
    written_out c.in-Err.why c.write_out-in-Err.result (λ failed by_name. MaySayOne c.args.line.now) old mid (g.K.Desk.seen c.write_out-in-Err.new.desk)
    (line_not_said c.in-Err.why c.args.line.now old mid c.in-Err.ensures.cause c.in-Err.ensures.front c.in-Err.ensures.stays) c.write_out-in-Err.ensures

pub returns-in-Ok-clause-cause : goal.returns-in-Ok-clause-cause
returns-in-Ok-clause-cause g c = said_cause status.Ok c.write_out.result (g.K.Desk.seen c.say_line.new.desk) (g.K.Desk.seen c.write_out.new.desk) (inl refl) c.write_out.ensures

pub returns-in-Err-clause-cause : goal.returns-in-Err-clause-cause
returns-in-Err-clause-cause g c = said_cause c.in-Err.why c.write_out-in-Err.result (g.K.Desk.seen c.say_line.new.desk) (g.K.Desk.seen c.write_out-in-Err.new.desk) (line_cause c.in-Err.why c.in-Err.ensures.cause) c.write_out-in-Err.ensures
