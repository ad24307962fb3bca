use Rattle.std.proofs.Common.{◌≡◌, take}
use Rattle.outside.specs.Desk.{SaidLines, SaysOnly}
use Rattle.worker_run.specs.Output.{committed_lines}
use Rattle.worker_run.proofs.output.say_committed.Given as goal

-- the rows of the events so far were said
abbrev pub invariant-loop-event : goal.invariant-loop-event
invariant-loop-event g l = record {
  said : SaidLines (committed_lines (take l.event-index l.events)) (g.K.Desk.seen l.fn.desk) (g.K.Desk.seen l.desk);
  only : SaysOnly ⊥ (g.K.Desk.seen l.fn.desk) (g.K.Desk.seen l.desk);
  stays : (g.K.Desk.seen l.desk).say_faults ≡ (g.K.Desk.seen l.fn.desk).say_faults;
}
