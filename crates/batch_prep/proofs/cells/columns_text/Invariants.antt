use Rattle.std.proofs.Common.{List, ℕ, take}
use Rattle.batch_prep.specs.Written.{AreOpen, AreWritten}
use Rattle.batch_prep.proofs.cells.columns_text.Given as goal

-- the columns so far are written, and their changes stand behind those that came with the record
abbrev pub invariant-loop-i : goal.invariant-loop-i
invariant-loop-i l = (came : List (List ℕ)) → AreOpen came l.fn.changes → AreWritten l.body (take l.i l.column-items) came l.text l.changes
