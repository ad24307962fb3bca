use Rattle.std.proofs.Common.{◌≡◌, take}
use Rattle.outside.specs.Desk.{SaidLines, SaysOnly}
use Rattle.worker_run.specs.Output.{body_lines}
use Rattle.worker_run.proofs.output.say_bodies.Given as goal

-- the bodies so far were said
abbrev pub invariant-loop-row : goal.invariant-loop-row
invariant-loop-row g l = record {
  said : SaidLines (body_lines (take l.row-index l.rows)) (g.K.Desk.seen l.fn.desk) (g.K.Desk.seen l.desk);
  only : SaysOnly ⊥ (g.K.Desk.seen l.fn.desk) (g.K.Desk.seen l.desk);
  stays : (g.K.Desk.seen l.desk).say_faults ≡ (g.K.Desk.seen l.fn.desk).say_faults;
}
