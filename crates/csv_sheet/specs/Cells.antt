-- The records of a sheet, whose fields stand one behind the other.
use Rattle.std.specs.Prelude.{ℕ, zero, suc, List, [], ◌∷◌, take, drop}
use Rattle.csv_sheet.specs.Sheet.{Fields}

-- so many records, each of so many columns
abbrev pub records_cut : ℕ → ℕ → Fields → List Fields
records_cut columns zero cells = []
records_cut columns (suc count) cells = take columns cells ∷ records_cut columns count (drop columns cells)
