use Rattle.std.proofs.Common.{◌≡◌, ◌++◌, take}
use Rattle.sync_ledger.specs.Said.{shown}
use Rattle.sync_ledger.proofs.said.put_shown.Given as goal

-- the bytes so far stand behind the line
abbrev pub invariant-loop-byte : goal.invariant-loop-byte
invariant-loop-byte l = l.line ≡ l.fn.line ++ shown (take l.byte-index l.message)
