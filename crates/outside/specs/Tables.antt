-- What a destination's store holds after a list of events: the rules on generations, event by event.
use Rattle.std.specs.Prelude.{ℕ, ◌+◌, max, List, [], ◌∷◌, ◌++◌, length, map, filter, fold, take, slice_get, slice_set, Bool, true, false, not, ◌&&◌, nat_eq, nat_lt, nat_le, if◌then◌else◌, unwrap_or, Option, None, Some}
use Rattle.std.specs.Str.{bytes_eq}
use Rattle.basics.specs.declared.stream.StreamId.{StreamId}
use Rattle.outside.specs.Winners.{put_winners, winner_in}
use Rattle.outside.specs.declared.event.Event.{Event}
use Rattle.outside.specs.declared.event.Event.TheVariants.{Opened, Took, TookEnd, Committed, Emitted, Merged, Shown, Started, ReadLine, ReadEnd, Given, Closed, Got, GotEnd, Saved, Ended}
use Rattle.outside.specs.declared.event.RawRow.{RawRow}
use Rattle.outside.specs.declared.event.StreamPlan.{StreamPlan}
use Rattle.outside.specs.declared.load.Marks.{Marks}
use Rattle.outside.specs.declared.load.Unmerged.{Unmerged}
use Rattle.outside.specs.declared.table.Generations.{Generations}
use Rattle.outside.specs.declared.table.PlacedRow.{PlacedRow}
use Rattle.outside.specs.declared.table.TableSide.{TableSide}
use Rattle.outside.specs.declared.table.StreamTable.{StreamTable}
use Rattle.outside.specs.declared.table.Tables.{Tables}

-- Streams. A stream is its id: name and namespace, of which an empty one is a namespace.

abbrev pub same_namespace : Option (List ℕ) → Option (List ℕ) → Bool
same_namespace None None = true
same_namespace None (Some b) = false
same_namespace (Some a) None = false
same_namespace (Some a) (Some b) = bytes_eq a b

abbrev pub same_id : StreamId → StreamId → Bool
same_id a b = bytes_eq a.name b.name && same_namespace a.namespace b.namespace

-- a side without winners, of which nothing is merged
abbrev pub empty_side : TableSide
empty_side = record { mark = 0; winners = [] }

-- floor 0, no top and no greatest generation
abbrev pub first_marks : Marks
first_marks = record { floor = 0; top = None; greatest = None }

-- the table of a stream that never came
abbrev pub empty_table : StreamId → StreamTable
empty_table id = record { id = id; marks = first_marks; rows = []; shown = empty_side; hidden = empty_side; hidden_for = None }

abbrev pub table_in : List StreamTable → StreamId → StreamTable
table_in [] id = empty_table id
table_in (table ∷ tables) id = if same_id table.id id then table else table_in tables id

-- the tables with that of this stream changed; one that never came is put behind the others
abbrev pub changed : (StreamTable → StreamTable) → StreamId → List StreamTable → List StreamTable
changed change id [] = change (empty_table id) ∷ []
changed change id (table ∷ tables) = if same_id table.id id then change table ∷ tables else table ∷ changed change id tables

-- Sides. A load uses the hidden side of a stream that it hides, and the shown side of every other.

abbrev pub side_of : StreamPlan → StreamTable → TableSide
side_of plan table = if plan.hidden then table.hidden else table.shown

abbrev pub with_side : StreamPlan → TableSide → StreamTable → StreamTable
with_side plan side table = if plan.hidden then record table { hidden = side } else record table { shown = side }

-- Ranges of generations

abbrev pub is_from_to : ℕ → ℕ → ℕ → Bool
is_from_to low high generation = nat_le low generation && nat_le generation high

-- The range of the shown side is floor to top; where there is no top, nothing lies in it.
abbrev pub is_in_shown : ℕ → Option ℕ → ℕ → Bool
is_in_shown floor None generation = false
is_in_shown floor (Some top) generation = is_from_to floor top generation

-- the range of the load's side; that of a hidden side is minimum to generation
abbrev pub is_in_range : StreamPlan → Marks → ℕ → Bool
is_in_range plan marks generation = if plan.hidden then is_from_to plan.minimum plan.generation generation else is_in_shown marks.floor marks.top generation

-- Opening a load

-- whether a generation rises above another, or is the first
abbrev pub rises_above : Option ℕ → ℕ → Bool
rises_above None generation = true
rises_above (Some before) generation = nat_lt before generation

-- the larger of the two
abbrev pub raised_to : Option ℕ → ℕ → Option ℕ
raised_to None generation = Some generation
raised_to (Some before) generation = Some (max before generation)

-- the hidden side was kept for the plan's minimum and generation
abbrev pub is_kept_for : Option Generations → StreamPlan → Bool
is_kept_for None plan = false
is_kept_for (Some kept) plan = nat_eq kept.low plan.minimum && nat_eq kept.high plan.generation

-- a side of which all rows are to be merged anew; its winners stay
abbrev pub started_again : TableSide → TableSide
started_again side = record side { mark = 0 }

-- Each stream: the greatest generation rises to the plan's.
abbrev pub with_greatest : StreamPlan → Marks → Marks
with_greatest plan marks = record marks { greatest = raised_to marks.greatest plan.generation }

-- A stream that is not hidden: the top rises to the plan's generation. Where it does rise, the shown side's mark
-- returns to 0, and its winners stay.
abbrev pub opened_shown : StreamPlan → StreamTable → StreamTable
opened_shown plan table = record table { marks = record (with_greatest plan table.marks) { top = raised_to table.marks.top plan.generation }; shown = (if rises_above table.marks.top plan.generation then started_again table.shown else table.shown) }

-- A hidden stream: a hidden side that was kept for another minimum or another generation is emptied.
abbrev pub opened_hidden : StreamPlan → StreamTable → StreamTable
opened_hidden plan table = record table { marks = with_greatest plan table.marks; hidden = (if is_kept_for table.hidden_for plan then table.hidden else empty_side); hidden_for = Some (record { low = plan.minimum; high = plan.generation }) }

abbrev pub opened_table : StreamPlan → StreamTable → StreamTable
opened_table plan table = if plan.hidden then opened_hidden plan table else opened_shown plan table

abbrev pub opened_stream : List StreamTable → StreamPlan → List StreamTable
opened_stream tables plan = changed (opened_table plan) plan.id tables

-- Committing rows

-- rows with the places behind this one
abbrev pub placed_after : ℕ → List RawRow → List PlacedRow
placed_after place [] = []
placed_after place (row ∷ rows) = record { place = place + 1; row = row } ∷ placed_after (place + 1) rows

abbrev pub committed_table : List PlacedRow → StreamTable → StreamTable
committed_table rows table = record table { rows = table.rows ++ rows }

-- Merging: the winners of these keys are replaced, and the mark is set.

abbrev pub merged_side : List RawRow → ℕ → TableSide → TableSide
merged_side winners mark side = record { mark = mark; winners = put_winners side.winners winners }

abbrev pub merged_table : StreamPlan → List RawRow → ℕ → StreamTable → StreamTable
merged_table plan winners mark table = with_side plan (merged_side winners mark (side_of plan table)) table

-- Showing

-- the floor that a stream has when it is shown: the larger of its own and the plan's minimum
abbrev pub floor_of : ℕ → ℕ → ℕ
floor_of floor minimum = max floor minimum

abbrev pub is_from : ℕ → PlacedRow → Bool
is_from floor placed = nat_le floor placed.row.generation

abbrev pub shown_marks : StreamPlan → Marks → Marks
shown_marks plan marks = record marks { floor = floor_of marks.floor plan.minimum; top = Some plan.generation }

-- A hidden stream: floor and top are set, the hidden side becomes the shown one with its winners and its mark, the hidden
-- side is left empty, and the rows below the floor go. (A side that is kept for nothing is emptied when it is opened.)
abbrev pub shown_hidden : StreamPlan → StreamTable → StreamTable
shown_hidden plan table = record { id = table.id; marks = shown_marks plan table.marks; rows = filter (is_from (floor_of table.marks.floor plan.minimum)) table.rows; shown = table.hidden; hidden = empty_side; hidden_for = None }

-- A stream that is not hidden, or was shown already, stays.
abbrev pub shown_table : StreamPlan → StreamTable → StreamTable
shown_table plan table = if plan.hidden then shown_hidden plan table else table

-- from then on the load's side is the shown one
abbrev pub shown_plan : StreamPlan → StreamPlan
shown_plan plan = record plan { hidden = false }

-- The tables after an event. An event names a stream by its place in the plan of the last load; one that is not there
-- changes nothing.

abbrev pub no_tables : Tables
no_tables = record { load = 0; places = 0; plan = []; streams = [] }

abbrev pub plan_at : Tables → ℕ → Option StreamPlan
plan_at tables stream = slice_get tables.plan stream

abbrev pub tables_opened : ℕ → List StreamPlan → Tables → Tables
tables_opened load plan tables = record { load = load; places = tables.places; plan = plan; streams = fold opened_stream tables.streams plan }

-- a place is counted over the rows of all streams
abbrev pub tables_committed : Option StreamPlan → List RawRow → Tables → Tables
tables_committed None rows tables = tables
tables_committed (Some plan) rows tables = record tables { places = tables.places + length rows; streams = changed (committed_table (placed_after tables.places rows)) plan.id tables.streams }

abbrev pub tables_merged : Option StreamPlan → List RawRow → ℕ → Tables → Tables
tables_merged None winners mark tables = tables
tables_merged (Some plan) winners mark tables = record tables { streams = changed (merged_table plan winners mark) plan.id tables.streams }

abbrev pub tables_shown : Option StreamPlan → ℕ → Tables → Tables
tables_shown None stream tables = tables
tables_shown (Some plan) stream tables = record tables { plan = slice_set tables.plan stream (shown_plan plan); streams = changed (shown_table plan) plan.id tables.streams }

-- The numbers of a `Shown` only repeat what follows from the plan and the events before.
abbrev pub tables_after : Tables → Event → Tables
tables_after tables (Opened load moment plan) = tables_opened load plan tables
tables_after tables (Committed stream rows) = tables_committed (plan_at tables stream) rows tables
tables_after tables (Merged stream winners mark) = tables_merged (plan_at tables stream) winners mark tables
tables_after tables (Shown stream floor top) = tables_shown (plan_at tables stream) stream tables
tables_after tables event = tables

abbrev pub tables_of : List Event → Tables
tables_of events = fold tables_after no_tables events

-- What is read

abbrev pub marks_in : Tables → StreamId → Marks
marks_in tables id = (table_in tables.streams id).marks

-- a row takes part in the load's side where its generation is in range and its key is not empty
abbrev pub takes_part : StreamPlan → Marks → PlacedRow → Bool
takes_part plan marks placed = is_in_range plan marks placed.row.generation && not (bytes_eq placed.row.key [])

abbrev pub is_unmerged : StreamPlan → Marks → ℕ → PlacedRow → Bool
is_unmerged plan marks mark placed = nat_lt mark placed.place && takes_part plan marks placed

-- the rows behind the mark of the load's side that take part, in order of commitment
abbrev pub unmerged_in : StreamPlan → StreamTable → List PlacedRow
unmerged_in plan table = filter (is_unmerged plan table.marks (side_of plan table).mark) table.rows

abbrev pub row_of : PlacedRow → RawRow
row_of placed = placed.row

-- the place of the last row, or the mark where there is none
abbrev pub last_place : ℕ → List PlacedRow → ℕ
last_place mark rows = fold (λ place placed. placed.place) mark rows

-- at most so many of the unmerged rows, and whether others follow
abbrev pub page_in : StreamPlan → StreamTable → ℕ → Unmerged
page_in plan table most = record { rows = map row_of (take most (unmerged_in plan table)); mark = last_place (side_of plan table).mark (take most (unmerged_in plan table)); more = nat_lt most (length (unmerged_in plan table)) }

abbrev pub no_page : Unmerged
no_page = record { rows = []; mark = 0; more = false }

abbrev pub page_for : Option StreamPlan → Tables → ℕ → Unmerged
page_for None tables most = no_page
page_for (Some plan) tables most = page_in plan (table_in tables.streams plan.id) most

abbrev pub page_of : Tables → ℕ → ℕ → Unmerged
page_of tables stream most = page_for (plan_at tables stream) tables most

abbrev pub winners_for : Option StreamPlan → Tables → List RawRow
winners_for None tables = []
winners_for (Some plan) tables = (side_of plan (table_in tables.streams plan.id)).winners

-- the winners of the load's side of a stream
abbrev pub winners_at : Tables → ℕ → List RawRow
winners_at tables stream = winners_for (plan_at tables stream) tables

abbrev pub winner_of : Tables → ℕ → List ℕ → Option RawRow
winner_of tables stream key = winner_in (winners_at tables stream) key

-- the marks of the load's sides, stream by stream
abbrev pub side_marks_of : Tables → List ℕ
side_marks_of tables = map (λ plan. (side_of plan (table_in tables.streams plan.id)).mark) tables.plan

-- The event that showing a stream adds: with the floor and the top that stand afterwards.

abbrev pub shown_with : ℕ → Marks → Event
shown_with stream marks = Shown stream marks.floor (unwrap_or marks.top 0)

abbrev pub shown_event_for : Option StreamPlan → Tables → ℕ → Event
shown_event_for None tables stream = shown_with stream first_marks
shown_event_for (Some plan) tables stream = shown_with stream (shown_table plan (table_in tables.streams plan.id)).marks

abbrev pub shown_event : Tables → ℕ → Event
shown_event tables stream = shown_event_for (plan_at tables stream) tables stream
