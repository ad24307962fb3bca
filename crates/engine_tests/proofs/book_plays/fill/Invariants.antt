use Rattle.std.specs.Prelude.{IsTrue}
use Rattle.engine_tests.proofs.book_plays.fill.Given as goal

-- the input is open
abbrev pub invariant-loop-line : goal.invariant-loop-line
invariant-loop-line l = IsTrue l.dock.hand.is_open
