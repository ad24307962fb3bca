use Rattle.std.proofs.Common.{◌≡◌, take}
use Rattle.catalog.specs.Reading.{ids_of}
use Rattle.book_parts.proofs.plan.ids_in.Given as goal

abbrev pub invariant-loop-number : goal.invariant-loop-number
invariant-loop-number l = l.ids ≡ ids_of (take l.number l.catalog)
