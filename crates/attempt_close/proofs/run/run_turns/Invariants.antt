use Rattle.std.proofs.Common.{◌≡◌, ◌+◌, ◌-◌, ◌*◌, ◌<◌}
use Rattle.catalog.specs.Reading.{ids_of}
use Rattle.attempt_turns.specs.History.{Ran}
use Rattle.attempt_turns.specs.Worker.{Live, Stands}
use Rattle.attempt_close.specs.Turns.{Fits, IsSettled, all_left}
use Rattle.attempt_close.proofs.Counting.{Quiet}
use Rattle.attempt_close.proofs.run.run_turns.Given as goal

abbrev pub invariant-turns : goal.invariant-turns
invariant-turns g l = record {
  ran : Ran (Stands l.fn.w) (Stands l.w) (g.L.Link.seen l.fn.link) (g.L.Link.seen l.link) (g.K.Desk.seen l.fn.desk) (g.K.Desk.seen l.desk);
  live : Live l.w (g.L.Link.seen l.link);
  fits : Fits (ids_of l.configured) l.w (g.L.Link.seen l.link).face.codes;
  settled : IsSettled l.w (g.L.Link.seen l.link).face.codes;
  known : l.known ≡ (g.L.Link.seen l.link).face.codes;
  quiet : Quiet l.quiet l.w (g.L.Link.seen l.fn.link) (g.L.Link.seen l.link);
  few : l.quiet < 5400;
  number : l.w.number ≡ l.fn.w.number;
  running : (g.L.Link.seen l.link).face.running ≡ (g.L.Link.seen l.fn.link).face.running;
}

abbrev pub decreases-turns : goal.decreases-turns
decreases-turns g l = 5400 * all_left l.w l.known + (5400 - l.quiet)
