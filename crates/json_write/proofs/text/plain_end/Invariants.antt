use Rattle.std.proofs.Common.{length, ◌-◌, ◌≡◌, ◌≤◌, slice_range}
use Rattle.json.specs.Print.{escape}
use Rattle.json_write.proofs.text.plain_end.Given as goal

abbrev pub invariant-loop-end : goal.invariant-loop-end
invariant-loop-end l = record {
  after : l.from ≤ l.end;
  within : l.end ≤ length l.bytes;
  plain : escape (slice_range l.bytes l.from l.end) ≡ slice_range l.bytes l.from l.end;
}

abbrev pub decreases-loop-end : goal.decreases-loop-end
decreases-loop-end l = length l.bytes - l.end
