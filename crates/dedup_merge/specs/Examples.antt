-- Two rows of one key, of which the first has the greater cursor.
use Rattle.std.specs.Prelude.{ℕ, List, [], ◌∷◌, false, true, None}
use Rattle.outside.specs.declared.event.Event.{Event}
use Rattle.outside.specs.declared.event.Event.TheVariants.{Opened, Committed}
use Rattle.outside.specs.declared.event.RawRow.{RawRow}
use Rattle.outside.specs.declared.event.StreamPlan.{StreamPlan}

-- the row of this sequence, with the key `k`
abbrev pub row_with : ℕ → List ℕ → RawRow
row_with sequence cursor = record { load = 1; seq = sequence; generation = 0; extracted_at = 0; loaded_at = 0; raw_id = []; key = 107 ∷ []; cursor = cursor; body = []; columns = []; meta = [] }

-- its cursor is true
abbrev pub best_row : RawRow
best_row = row_with 0 (116 ∷ [])

-- its cursor is false
abbrev pub exceeded_row : RawRow
exceeded_row = row_with 1 (102 ∷ [])

abbrev pub plan_a : StreamPlan
plan_a = record { id = record { name = 97 ∷ []; namespace = None }; dedup = true; generation = 0; minimum = 0; hidden = false }

abbrev pub two_row_events : List Event
two_row_events = Opened 1 0 (plan_a ∷ []) ∷ Committed 0 (best_row ∷ exceeded_row ∷ []) ∷ []
