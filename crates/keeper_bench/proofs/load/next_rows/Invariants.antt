use Rattle.std.proofs.Common.{◌≡◌, length}
use Rattle.keeper_bench.proofs.load.next_rows.Given as goal

-- the load has one stream
abbrev pub invariant-loop : goal.invariant-loop
invariant-loop g l = length (g.D.Dock.seen l.dock).face.side_marks ≡ 1
