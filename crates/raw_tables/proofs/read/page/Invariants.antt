use Rattle.std.proofs.Common.{◌≡◌, ◌≤◌, map, filter, take, length}
use Rattle.outside.specs.Tables.{is_unmerged, last_place, row_of}
use Rattle.raw_tables.proofs.read.page.Given as goal

-- the unmerged rows so far
abbrev pub invariant-loop-placed : goal.invariant-loop-placed
invariant-loop-placed l = record {
  rows : l.rows ≡ map row_of (filter (is_unmerged l.plan l.table.marks l.from) (take l.placed-index l.placed-items));
  mark : l.mark ≡ last_place l.from (filter (is_unmerged l.plan l.table.marks l.from) (take l.placed-index l.placed-items));
  few : length l.rows ≤ l.most;
}
