-- Rows that rise over all tables rise in each.
use Rattle.std.proofs.Common.{ℕ, List, [], ◌∷◌, ◌≤◌, true, false, cond, map, filter, arith}
use Rattle.outside.specs.Rows.{AreRising}
use Rattle.row_store.specs.MemRows.{AreTables, rows_of, is_of}
use Rattle.row_store.specs.declared.mem_rows.TableRow.{TableRow}
use Rattle.source_tests.specs.Rows.{RiseFrom}

of_table : (table : List ℕ) (entries : List TableRow) (before low : ℕ) → low ≤ before → RiseFrom entries before → AreRising (rows_of entries table) low
of_table table [] before low below rising = tt
of_table table (entry ∷ rest) before low below rising = elim (is_of table entry) as (λ b. AreRising (map (λ e. e.row) (cond b (entry ∷ filter (is_of table) rest) (filter (is_of table) rest))) low) [
  | true ↦ record { above = grind (arith); small = rising.small; others = of_table table rest entry.row.id entry.row.id (grind (arith)) rising.others }
  | false ↦ of_table table rest entry.row.id low (grind (arith)) rising.others
]

pub are_tables : (entries : List TableRow) → RiseFrom entries 0 → AreTables entries
are_tables entries rising = λ table. of_table table entries 0 0 (grind (arith)) rising
