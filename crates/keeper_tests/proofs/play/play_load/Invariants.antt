use Rattle.std.proofs.Common.{◌≡◌, length}
use Rattle.keeper_tests.proofs.play.play_load.Given as goal

-- the load has one stream
abbrev pub invariant-loop-turn : goal.invariant-loop-turn
invariant-loop-turn g l = length (g.D.Dock.seen l.dock).face.side_marks ≡ 1
