-- What holds of every store that events made, beside what they made of it.
use Rattle.std.specs.Prelude.{◌≡◌, ℕ, List, Bool}
use Rattle.std.specs.List.{AllByRecursion}
use Rattle.outside.specs.Tables.{tables_of}
use Rattle.outside.specs.Places.{IsUpTo}
use Rattle.outside.specs.Dock.{HasOwnIds, IsPlace, took_over}
use Rattle.outside.specs.declared.event.Event.{Event}
use Rattle.outside.specs.declared.table.StreamTable.{StreamTable}
use Rattle.outside.specs.declared.table.Tables.{Tables}

-- marks are places, and rows have places that were given
pub record TableFits (places : ℕ) (table : StreamTable) : Type 0 where
  pub shown : IsPlace table.shown.mark
  pub hidden : IsPlace table.hidden.mark
  pub rows : AllByRecursion (IsUpTo places) table.rows

pub record TablesFit (tables : Tables) : Type 0 where
  pub places : IsPlace tables.places
  pub streams : AllByRecursion (TableFits tables.places) tables.streams
  pub own_ids : HasOwnIds tables.plan

-- tables, and whether the input has ended, that are kept beside the events that made them
pub record IsStore (tables : Tables) (over : Bool) (events : List Event) : Type 0 where
  pub tables_are : tables ≡ tables_of events
  pub over_is : over ≡ took_over events
  pub fits : TablesFit tables
