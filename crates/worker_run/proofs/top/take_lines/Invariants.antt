use Rattle.std.proofs.Common.{◌≡◌}
use Rattle.outside.specs.Desk.{SaysOnly}
use Rattle.worker_run.specs.Reading.{SaysLines}
use Rattle.worker_run.proofs.top.take_lines.Given as goal

-- only what the lines say was said
abbrev pub invariant-lines : goal.invariant-lines
invariant-lines g l = record {
  says : SaysLines l.fn.world l.world (g.K.Desk.seen l.fn.desk).said (g.K.Desk.seen l.desk).said;
  only : SaysOnly ⊥ (g.K.Desk.seen l.fn.desk) (g.K.Desk.seen l.desk);
  stays : (g.K.Desk.seen l.desk).say_faults ≡ (g.K.Desk.seen l.fn.desk).say_faults;
}
