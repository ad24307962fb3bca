use Rattle.std.specs.Prelude.{◌≡◌, length}
use Rattle.engine_tests.proofs.book_plays.play_book.Given as goal

-- the catalog has as many streams
abbrev pub invariant-loop-act : goal.invariant-loop-act
invariant-loop-act l = l.streams ≡ length l.book.catalog
