use Rattle.std.proofs.Common.{◌≡◌, ◌-◌, ◌≤◌, length, take}
use Rattle.basics.specs.Told.{told_more}
use Rattle.line_streams.proofs.output.write_through.Given as goal

-- the front of the text up to here was taken, and no write failed
abbrev pub invariant-loop-at : goal.invariant-loop-at
invariant-loop-at g l = record {
  within : l.at ≤ length l.text;
  taken : g.W.Sink.bytes l.sink ≡ told_more (take l.at l.text) (g.W.Sink.bytes l.fn.sink);
  faults : g.W.Sink.faults l.sink ≡ g.W.Sink.faults l.fn.sink;
}

abbrev pub decreases-loop-at : goal.decreases-loop-at
decreases-loop-at g l = length l.text - l.at
