-- Rows of tables whose ids rise over all of them.
use Rattle.std.specs.Prelude.{ℕ, List, [], ◌∷◌}
use Rattle.outside.specs.Rows.{Rises}
use Rattle.row_store.specs.declared.mem_rows.TableRow.{TableRow}

-- the ids of rows rise from above this one, whatever tables they are of, and are below 2^63
abbrev pub RiseFrom : List TableRow → ℕ → Type 0
RiseFrom [] before = Unit {0}
RiseFrom (entry ∷ rest) before = Rises (RiseFrom rest) before entry.row.id
