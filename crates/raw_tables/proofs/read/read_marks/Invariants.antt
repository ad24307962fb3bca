use Rattle.std.proofs.Common.{◌≡◌, map, take}
use Rattle.outside.specs.Tables.{marks_in}
use Rattle.raw_tables.proofs.read.read_marks.Given as goal

-- the marks so far
abbrev pub invariant-loop-id : goal.invariant-loop-id
invariant-loop-id l = l.made ≡ map (marks_in l.tables) (take l.id-index l.ids)
