-- What single events hold.
use Rattle.std.specs.Prelude.{ℕ, List, [], Option, None, Some}
use Rattle.outside.specs.declared.event.Event.{Event}
use Rattle.outside.specs.declared.event.Event.TheVariants.{Committed}
use Rattle.outside.specs.declared.event.RawRow.{RawRow}

abbrev pub rows_of : Event → List RawRow
rows_of (Committed stream rows) = rows
rows_of event = []
