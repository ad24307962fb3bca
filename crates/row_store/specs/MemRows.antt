-- Rows in memory: what they are made of, and when their calls fail.
use Rattle.std.specs.Prelude.{ℕ, List, map, filter, take, Bool, Option, None, Some, Result, Ok, Err}
use Rattle.std.specs.Str.{bytes_eq}
use Rattle.outside.specs.Rows.{RowsSeen, RowsByTable, AreRising, rows_after}
use Rattle.outside.specs.declared.fault.Fault.{Fault}
use Rattle.outside.specs.declared.line.NumberedRow.{NumberedRow}
use Rattle.outside_mem.specs.Calls.{Calls, first_calls}
use Rattle.outside_mem.specs.MemDesk.{one_more}
use Rattle.row_store.specs.declared.mem_rows.TableRow.{TableRow}

abbrev pub is_of : List ℕ → TableRow → Bool
is_of table entry = bytes_eq entry.table table

-- the rows of a table, in order
abbrev pub rows_of : List TableRow → RowsByTable
rows_of entries table = map (λ entry. entry.row) (filter (is_of table) entries)

-- the first rows of a table behind an id, at most so many
abbrev pub page_of : List TableRow → List ℕ → ℕ → ℕ → List NumberedRow
page_of entries table after most = take most (rows_after after (rows_of entries table))

-- the ids of each table rise, from at least 1, and are below 2^63
abbrev pub AreTables : List TableRow → Type 0
AreTables entries = (table : List ℕ) → AreRising (rows_of entries table) 0

-- what contracts see of the store; the name it was last opened by, None before
pub record RowsState : Type 0 where
  pub entries : List TableRow
  pub calls : Calls
  pub faults : ℕ
  pub opens : ℕ
  pub opened : Option (List ℕ)

-- what it tells: all of it
abbrev pub seen_of : RowsState → RowsSeen
seen_of state = record { rows = Some (rows_of state.entries); faults = state.faults; opens = state.opens }

abbrev pub unopened : List TableRow → List ℕ → RowsState
unopened entries fails = record { entries = entries; calls = first_calls fails; faults = 0; opens = 0; opened = None }

-- the count of opens behind a call
abbrev pub opens_after : {T : Type 0} → Result T Fault → ℕ → ℕ
opens_after (Ok done) opens = one_more opens
opens_after (Err why) opens = opens

-- the name that a store was last opened by, behind a call that asks for this one
abbrev pub opened_after : {T : Type 0} → Result T Fault → List ℕ → Option (List ℕ) → Option (List ℕ)
opened_after (Ok done) name opened = Some name
opened_after (Err why) name opened = opened
