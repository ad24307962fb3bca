use Rattle.std.specs.Prelude.{◌≡◌}
use Rattle.engine_tests.proofs.book_plays.put_emitted.Given as goal

-- the catalog stays
abbrev pub invariant-lines : goal.invariant-lines
invariant-lines l = l.book.catalog ≡ l.initial.book.catalog
