-- What was merged into the sides of a stream, and which merges fit.
use Rattle.std.specs.Prelude.{◌≡◌, ℕ, ◌≤◌, List, [], ◌∷◌, ◌++◌, map, filter, fold, Bool, ◌&&◌, nat_le, if◌then◌else◌, Contains, Option, None, Some, IsSome}
use Rattle.basics.specs.declared.stream.StreamId.{StreamId}
use Rattle.outside.specs.declared.event.Event.{Event}
use Rattle.outside.specs.declared.event.Event.TheVariants.{Opened, Merged, Shown}
use Rattle.outside.specs.declared.event.RawRow.{RawRow}
use Rattle.outside.specs.declared.event.StreamPlan.{StreamPlan}
use Rattle.outside.specs.declared.load.Marks.{Marks}
use Rattle.outside.specs.declared.table.PlacedRow.{PlacedRow}
use Rattle.outside.specs.declared.table.StreamTable.{StreamTable}
use Rattle.outside.specs.declared.table.Tables.{Tables}
use Rattle.outside.specs.Dock.{HasOwnIds}
use Rattle.outside.specs.Tables.{no_tables, tables_of, tables_after, table_in, same_id, side_of, is_kept_for, is_unmerged, takes_part, unmerged_in, row_of, plan_at, winners_at}
use Rattle.dedup_merge.specs.Winners.{AreWinnersOf}

-- The rows of a store that the load's side of a stream is made of

-- those that take part
abbrev pub parts_for : Option StreamPlan → Tables → List PlacedRow
parts_for None store = []
parts_for (Some plan) store = filter (takes_part plan (table_in store.streams plan.id).marks) (table_in store.streams plan.id).rows

abbrev pub parts_at : Tables → ℕ → List PlacedRow
parts_at store stream = parts_for (plan_at store stream) store

-- those that are not merged
abbrev pub unmerged_for : Option StreamPlan → Tables → List PlacedRow
unmerged_for None store = []
unmerged_for (Some plan) store = unmerged_in plan (table_in store.streams plan.id)

abbrev pub unmerged_at : Tables → ℕ → List PlacedRow
unmerged_at store stream = unmerged_for (plan_at store stream) store

-- the mark of the load's side
abbrev pub mark_for : Option StreamPlan → Tables → ℕ
mark_for None store = 0
mark_for (Some plan) store = (side_of plan (table_in store.streams plan.id)).mark

abbrev pub mark_at : Tables → ℕ → ℕ
mark_at store stream = mark_for (plan_at store stream) store

-- The load's side of a stream stands with the rows that were merged into it: its winners are theirs, all rows that take
-- part up to its mark are among them, and no other than such as take part.
pub record SideStands (store : Tables) (stream : ℕ) (merged : List RawRow) : Type 0 where
  pub winners_are : AreWinnersOf merged (winners_at store stream)
  pub all_up_to : (placed : PlacedRow) → Contains (parts_at store stream) placed → placed.place ≤ mark_at store stream → Contains merged placed.row
  pub no_other : (row : RawRow) → Contains merged row → Contains (map row_of (parts_at store stream)) row

-- rows with the same load and sequence are the same
abbrev pub HasOneOfAStamp : List RawRow → Type 0
HasOneOfAStamp rows = (a b : RawRow) → Contains rows a → Contains rows b → a.load ≡ b.load → a.seq ≡ b.seq → a ≡ b

-- What was merged, event by event

-- the rows that were merged into each side of a stream since it was last emptied, in the order in which they were merged
pub record MergedRows : Type 0 where
  pub shown : List RawRow
  pub hidden : List RawRow

abbrev pub none_merged : MergedRows
none_merged = record { shown = []; hidden = [] }

-- those of the load's side
abbrev pub merged_on : StreamPlan → MergedRows → List RawRow
merged_on plan merged = if plan.hidden then merged.hidden else merged.shown

-- the rows that take part above the old mark of the load's side, up to the new one
abbrev pub is_between : StreamPlan → Marks → ℕ → ℕ → PlacedRow → Bool
is_between plan marks old new placed = nat_le placed.place new && is_unmerged plan marks old placed

abbrev pub rows_between : StreamPlan → ℕ → StreamTable → List RawRow
rows_between plan mark table = map row_of (filter (is_between plan table.marks (side_of plan table).mark mark) table.rows)

-- Opening: the hidden side that was kept for another minimum or another generation is emptied. A shown side whose mark
-- returns to 0 keeps what was merged into it.
abbrev pub rows_opened : Option StreamPlan → StreamTable → MergedRows → MergedRows
rows_opened None table merged = merged
rows_opened (Some plan) table merged = if plan.hidden then record merged { hidden = (if is_kept_for table.hidden_for plan then merged.hidden else []) } else merged

-- Merging: the rows between the marks follow those that were merged before.
abbrev pub rows_merged : Option StreamPlan → ℕ → StreamTable → MergedRows → MergedRows
rows_merged None mark table merged = merged
rows_merged (Some plan) mark table merged = if plan.hidden then record merged { hidden = merged.hidden ++ rows_between plan mark table } else record merged { shown = merged.shown ++ rows_between plan mark table }

-- Showing: the hidden side becomes the shown one, and the hidden side is left empty.
abbrev pub rows_shown : Option StreamPlan → MergedRows → MergedRows
rows_shown None merged = merged
rows_shown (Some plan) merged = if plan.hidden then record { shown = merged.hidden; hidden = [] } else merged

-- the plan, where it is this stream's
abbrev pub own_plan : StreamId → Option StreamPlan → Option StreamPlan
own_plan id None = None
own_plan id (Some plan) = if same_id plan.id id then Some plan else None

abbrev pub plan_of : StreamId → List StreamPlan → Option StreamPlan
plan_of id [] = None
plan_of id (plan ∷ plans) = if same_id plan.id id then Some plan else plan_of id plans

abbrev pub rows_after : StreamId → Tables → MergedRows → Event → MergedRows
rows_after id store merged (Opened load moment plans) = rows_opened (plan_of id plans) (table_in store.streams id) merged
rows_after id store merged (Merged stream winners mark) = rows_merged (own_plan id (plan_at store stream)) mark (table_in store.streams id) merged
rows_after id store merged (Shown stream floor top) = rows_shown (own_plan id (plan_at store stream)) merged
rows_after id store merged event = merged

-- the tables, and what was merged into the sides of one stream
pub record Merging : Type 0 where
  pub store : Tables
  pub merged : MergedRows

abbrev pub merging_after : StreamId → Merging → Event → Merging
merging_after id merging event = record { store = tables_after merging.store event; merged = rows_after id merging.store merging.merged event }

abbrev pub merging_of : StreamId → List Event → Merging
merging_of id events = fold (merging_after id) (record { store = no_tables; merged = none_merged }) events

abbrev pub merged_for : Option StreamPlan → List Event → List RawRow
merged_for None events = []
merged_for (Some plan) events = merged_on plan (merging_of plan.id events).merged

-- the rows that were merged into the load's side of a stream
abbrev pub merged_at : List Event → ℕ → List RawRow
merged_at events stream = merged_for (plan_at (tables_of events) stream) events

-- Which merges fit

-- the winners of the load's side are those of the rows that were merged into it
abbrev pub HasWinners : List Event → ℕ → Type 0
HasWinners events stream = AreWinnersOf (merged_at events stream) (winners_at (tables_of events) stream)

-- A merge fits behind these events where its stream is one of the load, its mark is at most the number of committed
-- rows, and the winners behind it are those of all that was merged.
pub record FitsMerge (events : List Event) (stream : ℕ) (winners : List RawRow) (mark : ℕ) : Type 0 where
  pub known : IsSome (plan_at (tables_of events) stream)
  pub within : mark ≤ (tables_of events).places
  pub winners_are : HasWinners (events ++ Merged stream winners mark ∷ []) stream

abbrev pub Fits : List Event → Event → Type 0
Fits events (Opened load moment plans) = HasOwnIds plans
Fits events (Merged stream winners mark) = FitsMerge events stream winners mark
Fits events event = Unit {0}

-- each merge of the events fits behind those before it, and no load names a stream twice
abbrev pub MergesFit : List Event → Type 0
MergesFit events = (before : List Event) (event : Event) (behind : List Event) → events ≡ before ++ event ∷ behind → Fits before event
