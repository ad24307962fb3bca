use Rattle.worker_run.specs.Reading.{StopsShort}
use Rattle.worker_run.proofs.ReadingLemmas.{on_err}
use Rattle.worker_run.proofs.RunLemmas.{attempted, short_lines, short_end}
use Rattle.worker_run.proofs.top.run_attempt.Goals as goal

pub returns-in_err-end-clause-fault : goal.returns-in_err-end-clause-fault
returns-in_err-end-clause-fault g c =
    let before = (g.K.Desk.seen c.args.desk.now).said in
    let now = (g.K.Desk.seen c.take_lines.new.desk).said in
    on_err c.from_residual-in_err-end.result (StopsShort c.args.messages c.args.stream before now) (short_lines c.args.messages c.args.stream c.in_ok-world.world before now c.in_ok-world.ensures.begun c.in_err-end.ensures.fault)

pub returns-in_err-say_end-clause-fault : goal.returns-in_err-say_end-clause-fault
returns-in_err-say_end-clause-fault g c =
    let before = (g.K.Desk.seen c.args.desk.now).said in
    let mid = (g.K.Desk.seen c.take_lines.new.desk).said in
    let now = (g.K.Desk.seen c.say_end.new.desk).said in
    on_err c.from_residual-in_err-say_end.result (StopsShort c.args.messages c.args.stream before now) (short_end c.args.messages c.args.stream c.in_ok-world.world c.take_lines.new.world c.in_ok-end.end before mid now c.in_ok-world.ensures.begun c.in_ok-end.ensures.lines c.in_err-say_end.ensures.front.front)

pub returns-clause-attempt : goal.returns-clause-attempt
returns-clause-attempt g c =
    let before = (g.K.Desk.seen c.args.desk.now).said in
    let mid = (g.K.Desk.seen c.take_lines.new.desk).said in
    let now = (g.K.Desk.seen c.say_end.new.desk).said in
    attempted c.args.messages c.args.stream c.in_ok-world.world c.take_lines.new.world c.in_ok-end.end before mid now c.in_ok-world.ensures.begun c.in_ok-end.ensures.lines c.in_ok-say_end.ensures.ok
