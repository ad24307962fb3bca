use Rattle.std.proofs.Common.{◌≡◌, ◌++◌, take}
use Rattle.worker_run.specs.Output.{shown}
use Rattle.worker_run.proofs.lines.push_shown.Given as goal

-- the bytes so far stand behind the line
abbrev pub invariant-loop-byte : goal.invariant-loop-byte
invariant-loop-byte l = l.line.items ≡ l.fn.line.items ++ shown (take l.byte-index l.text)
