use Rattle.std.proofs.Common.{◌≡◌, ◌≤◌, ◌-◌, length, drop}
use Rattle.text_lines.specs.Lines.{lines_of}
use Rattle.text_lines.proofs.next_line.Given as goal

-- nothing but blank pieces was passed over
abbrev pub invariant-loop-start : goal.invariant-loop-start
invariant-loop-start l = record {
  not_before : l.from ≤ l.start;
  inside : l.start ≤ length l.text;
  left : lines_of (drop l.from l.text) ≡ lines_of (drop l.start l.text);
}

abbrev pub decreases-loop-start : goal.decreases-loop-start
decreases-loop-start l = length l.text - l.start
