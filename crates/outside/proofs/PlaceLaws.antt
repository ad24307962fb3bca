-- The places of every store that events made rise.
use Rattle.std.proofs.Common.{ℕ, ◌+◌, ◌<◌, ◌≤◌, List, [], ◌∷◌, ◌++◌, length, filter, fold, Bool, true, false, cond, Option, None, Some, subst, arith}
use Rattle.std.specs.List.{AllByRecursion}
use Rattle.basics.specs.declared.stream.StreamId.{StreamId}
use Rattle.outside.specs.declared.event.Event.{Event}
use Rattle.outside.specs.declared.event.Event.TheVariants.{Opened, Took, TookEnd, Committed, Emitted, Merged, Shown, Started, ReadLine, ReadEnd, Given, Closed, Got, GotEnd, Saved, Ended}
use Rattle.outside.specs.declared.event.RawRow.{RawRow}
use Rattle.outside.specs.declared.event.StreamPlan.{StreamPlan}
use Rattle.outside.specs.declared.table.PlacedRow.{PlacedRow}
use Rattle.outside.specs.declared.table.TableSide.{TableSide}
use Rattle.outside.specs.declared.table.StreamTable.{StreamTable}
use Rattle.outside.specs.declared.table.Tables.{Tables}
use Rattle.outside.specs.Tables.{no_tables, empty_table, table_in, changed, placed_after, tables_of, tables_after, tables_opened, tables_committed, tables_merged, tables_shown, plan_at, opened_stream, opened_table, opened_shown, opened_hidden, committed_table, merged_table, merged_side, side_of, shown_table, shown_hidden, is_from, floor_of, same_id}
use Rattle.outside.specs.Places.{IsUpTo, IsBehind, PlacesRise, RowsRise, TablesRise}
use Rattle.outside.proofs.ToldLaws.{all_both, all_map}

pub all_filtered : {A : Type 0} (P : A → Type 0) (test : A → Bool) (xs : List A) → AllByRecursion P xs → AllByRecursion P (filter test xs)
all_filtered P test [] all = tt
all_filtered P test (x ∷ xs) all =
    let Q : List _ → Type 0 = AllByRecursion P in
    elim (test x) as (λ b. Q (cond b (x ∷ filter test xs) (filter test xs))) [ true ↦ (all.0, all_filtered P test xs all.1) | false ↦ all_filtered P test xs all.1 ]

pub rise_filtered : (test : PlacedRow → Bool) (rows : List PlacedRow) → PlacesRise rows → PlacesRise (filter test rows)
rise_filtered test [] rise = tt
rise_filtered test (placed ∷ rows) rise = elim (test placed) as (λ b. PlacesRise (cond b (placed ∷ filter test rows) (filter test rows))) [ true ↦ (all_filtered (IsBehind placed.place) test rows rise.0, rise_filtered test rows rise.1) | false ↦ rise_filtered test rows rise.1 ]

-- Rows behind others

rise_both : (places : ℕ) (xs ys : List PlacedRow) → PlacesRise xs → AllByRecursion (IsUpTo places) xs → PlacesRise ys → AllByRecursion (IsBehind places) ys → PlacesRise (xs ++ ys)
rise_both places [] ys rise given more behind = more
rise_both places (x ∷ xs) ys rise given more behind =
    let first = given.0 in
    (all_both (IsBehind x.place) xs ys rise.0 (all_map (IsBehind places) (IsBehind x.place) ys (λ p at. omega arith) behind), rise_both places xs ys rise.1 given.1 more behind)

behind_placed : (low place : ℕ) (rows : List RawRow) → low ≤ place → AllByRecursion (IsBehind low) (placed_after place rows)
behind_placed low place [] above = tt
behind_placed low place (row ∷ rows) above = (omega arith, behind_placed low (place + 1) rows (omega arith))

rise_placed : (place : ℕ) (rows : List RawRow) → PlacesRise (placed_after place rows)
rise_placed place [] = tt
rise_placed place (row ∷ rows) = (behind_placed (place + 1) (place + 1) rows (omega arith), rise_placed (place + 1) rows)

pub all_placed : (before : ℕ) (rows : List RawRow) → AllByRecursion (IsUpTo (before + length rows)) (placed_after before rows)
all_placed before [] = tt
all_placed before (row ∷ rows) = (omega arith, subst (λ (n : ℕ). AllByRecursion (IsUpTo n) (placed_after (before + 1) rows)) (omega arith) (all_placed (before + 1) rows))

-- Tables

rise_higher : (low high : ℕ) → low ≤ high → (table : StreamTable) → RowsRise low table → RowsRise high table
rise_higher low high below table rise = record { rise = rise.rise; given = all_map (IsUpTo low) (IsUpTo high) table.rows (λ p at. omega arith) rise.given }

rise_changed : (low high : ℕ) (change : StreamTable → StreamTable) (id : StreamId) (tables : List StreamTable) → low ≤ high → ((table : StreamTable) → RowsRise low table → RowsRise high (change table)) → AllByRecursion (RowsRise low) tables → AllByRecursion (RowsRise high) (changed change id tables)
rise_changed low high change id [] below step rise = (step (empty_table id) (record { rise = tt; given = tt }), tt)
rise_changed low high change id (table ∷ tables) below step rise =
    let rest = rise_changed low high change id tables below step rise.1 in
    let tail = all_map (RowsRise low) (RowsRise high) tables (rise_higher low high below) rise.1 in
    let P : List StreamTable → Type 0 = AllByRecursion (RowsRise high) in
    elim (same_id table.id id) as (λ b. P (cond b (change table ∷ tables) (table ∷ changed change id tables))) [ true ↦ (step table rise.0, tail) | false ↦ (rise_higher low high below table rise.0, rest) ]

opened_rise : (places : ℕ) (plan : StreamPlan) (table : StreamTable) → RowsRise places table → RowsRise places (opened_table plan table)
opened_rise places plan table rise = elim (plan.hidden) as (λ b. RowsRise places (cond b (opened_hidden plan table) (opened_shown plan table))) [ true ↦ record { rise = rise.rise; given = rise.given } | false ↦ record { rise = rise.rise; given = rise.given } ]

all_opened : (places : ℕ) (plans : List StreamPlan) (tables : List StreamTable) → AllByRecursion (RowsRise places) tables → AllByRecursion (RowsRise places) (fold opened_stream tables plans)
all_opened places [] tables rise = rise
all_opened places (plan ∷ plans) tables rise = all_opened places plans (opened_stream tables plan) (rise_changed places places (opened_table plan) plan.id tables (omega arith) (opened_rise places plan) rise)

committed_rise : (before : ℕ) (rows : List RawRow) (table : StreamTable) → RowsRise before table → RowsRise (before + length rows) (committed_table (placed_after before rows) table)
committed_rise before rows table rise =
    let higher = rise_higher before (before + length rows) (omega arith) table rise in
    record {
      rise = rise_both before table.rows (placed_after before rows) rise.rise rise.given (rise_placed before rows) (behind_placed before before rows (omega arith));
      given = all_both (IsUpTo (before + length rows)) table.rows (placed_after before rows) higher.given (all_placed before rows);
    }

merged_rise : (places : ℕ) (plan : StreamPlan) (winners : List RawRow) (mark : ℕ) (table : StreamTable) → RowsRise places table → RowsRise places (merged_table plan winners mark table)
merged_rise places plan winners mark table rise =
    let side : TableSide = merged_side winners mark (side_of plan table) in
    elim (plan.hidden) as (λ b. RowsRise places (cond b (record table { hidden = side }) (record table { shown = side }))) [ true ↦ record { rise = rise.rise; given = rise.given } | false ↦ record { rise = rise.rise; given = rise.given } ]

shown_rise : (places : ℕ) (plan : StreamPlan) (table : StreamTable) → RowsRise places table → RowsRise places (shown_table plan table)
shown_rise places plan table rise =
    let test = is_from (floor_of table.marks.floor plan.minimum) in
    elim (plan.hidden) as (λ b. RowsRise places (cond b (shown_hidden plan table) table)) [ true ↦ record { rise = rise_filtered test table.rows rise.rise; given = all_filtered (IsUpTo places) test table.rows rise.given } | false ↦ rise ]

committed_for : (plan : Option StreamPlan) (rows : List RawRow) (tables : Tables) → TablesRise tables → TablesRise (tables_committed plan rows tables)
committed_for None rows tables rise = rise
committed_for (Some plan) rows tables rise = rise_changed tables.places (tables.places + length rows) (committed_table (placed_after tables.places rows)) plan.id tables.streams (omega arith) (committed_rise tables.places rows) rise

merged_for : (plan : Option StreamPlan) (winners : List RawRow) (mark : ℕ) (tables : Tables) → TablesRise tables → TablesRise (tables_merged plan winners mark tables)
merged_for None winners mark tables rise = rise
merged_for (Some plan) winners mark tables rise = rise_changed tables.places tables.places (merged_table plan winners mark) plan.id tables.streams (omega arith) (merged_rise tables.places plan winners mark) rise

shown_for : (plan : Option StreamPlan) (stream : ℕ) (tables : Tables) → TablesRise tables → TablesRise (tables_shown plan stream tables)
shown_for None stream tables rise = rise
shown_for (Some plan) stream tables rise = rise_changed tables.places tables.places (shown_table plan) plan.id tables.streams (omega arith) (shown_rise tables.places plan) rise

rise_after : (tables : Tables) (event : Event) → TablesRise tables → TablesRise (tables_after tables event)
rise_after tables (Opened load moment plan) rise = all_opened tables.places plan tables.streams rise
rise_after tables (Committed stream rows) rise = committed_for (plan_at tables stream) rows tables rise
rise_after tables (Merged stream winners mark) rise = merged_for (plan_at tables stream) winners mark tables rise
rise_after tables (Shown stream floor top) rise = shown_for (plan_at tables stream) stream tables rise
rise_after tables (Took line) rise = rise
rise_after tables TookEnd rise = rise
rise_after tables (Emitted line) rise = rise
rise_after tables event rise = rise

rise_from : (events : List Event) (tables : Tables) → TablesRise tables → TablesRise (fold tables_after tables events)
rise_from [] tables rise = rise
rise_from (event ∷ events) tables rise = rise_from events (tables_after tables event) (rise_after tables event rise)

pub tables_rise : (events : List Event) → TablesRise (tables_of events)
tables_rise events = rise_from events no_tables tt

-- so in the table of each stream
pub rise_in : (places : ℕ) (tables : List StreamTable) (id : StreamId) → AllByRecursion (RowsRise places) tables → RowsRise places (table_in tables id)
rise_in places [] id rise = record { rise = tt; given = tt }
rise_in places (table ∷ tables) id rise = elim (same_id table.id id) as (λ b. RowsRise places (cond b table (table_in tables id))) [ true ↦ rise.0 | false ↦ rise_in places tables id rise.1 ]
