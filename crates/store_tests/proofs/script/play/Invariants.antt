use Rattle.std.proofs.Common.{◌≡◌, length}
use Rattle.std.specs.Prelude.{IsTrue}
use Rattle.store_tests.proofs.script.play.Given as goal

-- an open load has one stream
abbrev pub invariant-loop-command : goal.invariant-loop-command
invariant-loop-command g l = IsTrue l.is_open → length (g.D.Dock.seen l.dock).face.side_marks ≡ 1
