use Rattle.std.proofs.Common.{◌≡◌, [], option_map}
use Rattle.line_streams.specs.Input.{to_come, LeavesLines, GoesOn}
use Rattle.line_streams.proofs.input.InputLines.poll.Given as goal

-- bytes were read and given back to nobody, and no read failed
abbrev pub invariant-loop : goal.invariant-loop
invariant-loop g l = record {
  on : GoesOn l.fn.self l.self;
  lines : LeavesLines [] (to_come l.fn.self) (to_come l.self);
  faults : l.self.faults ≡ l.fn.self.faults;
}
