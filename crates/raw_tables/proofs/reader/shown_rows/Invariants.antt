use Rattle.std.proofs.Common.{◌≡◌, filter, map, take}
use Rattle.outside.specs.Tables.{row_of}
use Rattle.raw_tables.specs.Visible.{is_seen}
use Rattle.raw_tables.proofs.reader.shown_rows.Given as goal

-- the shown rows so far
abbrev pub invariant-loop-placed : goal.invariant-loop-placed
invariant-loop-placed l = l.made.items ≡ filter (is_seen l.marks) (map row_of (take l.placed-index l.rows))
