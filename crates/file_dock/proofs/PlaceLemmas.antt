-- Places that rise one after another are behind all those before.
use Rattle.std.proofs.Common.{ℕ, ◌≤◌, List, [], ◌∷◌, arith}
use Rattle.std.specs.List.{AllByRecursion}
use Rattle.outside.specs.Places.{IsUpTo, IsBehind, PlacesRise, RowsRise}
use Rattle.outside.specs.declared.table.PlacedRow.{PlacedRow}
use Rattle.outside.specs.declared.table.StreamTable.{StreamTable}
use Rattle.file_dock.specs.Places.{RiseFrom}

all_behind : (places low before : ℕ) (rows : List PlacedRow) → low ≤ before → RiseFrom places before rows → AllByRecursion (IsBehind low) rows
all_behind places low before [] below rise = tt
all_behind places low before (placed ∷ rows) below rise = (omega (arith, below, rise.0), all_behind places low placed.place rows (omega (arith, below, rise.0)) rise.2)

all_given : (places before : ℕ) (rows : List PlacedRow) → RiseFrom places before rows → AllByRecursion (IsUpTo places) rows
all_given places before [] rise = tt
all_given places before (placed ∷ rows) rise = (rise.1, all_given places placed.place rows rise.2)

all_rise : (places before : ℕ) (rows : List PlacedRow) → RiseFrom places before rows → PlacesRise rows
all_rise places before [] rise = tt
all_rise places before (placed ∷ rows) rise = (all_behind places placed.place placed.place rows (omega arith) rise.2, all_rise places placed.place rows rise.2)

pub rows_rise : (places : ℕ) (table : StreamTable) → RiseFrom places 0 table.rows → RowsRise places table
rows_rise places table rise = record { rise = all_rise places 0 table.rows rise; given = all_given places 0 table.rows rise }
