use Rattle.std.proofs.Common.{take}
use Rattle.table_source.specs.Table.{KeepsBehind}
use Rattle.table_source.proofs.rows.keyed_behind.Given as goal

abbrev pub invariant-loop-row : goal.invariant-loop-row
invariant-loop-row l = KeepsBehind l.keying l.behind (take l.row-index l.rows) l.kept
