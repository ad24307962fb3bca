use Rattle.std.proofs.Common.{◌≡◌, drop}
use Rattle.outside_mem.specs.MemDesk.{text_named}
use Rattle.outside_mem.proofs.mem_desk.find.Given as goal

-- the entries that are left have the answer
abbrev pub invariant-loop-entry : goal.invariant-loop-entry
invariant-loop-entry l = text_named (drop l.entry-index l.texts) l.name ≡ text_named l.fn.texts l.fn.name
