-- Each event keeps what holds of a store.
use Rattle.std.proofs.Common.{◌≡◌, ℕ, ◌+◌, ◌<◌, ◌≤◌, ◌^◌, zero, suc, List, [], ◌∷◌, ◌++◌, fold, set, length, Bool, true, false, cond, subst, Option, None, Some, slice_get, refl, ◌∙◌, ap, arith}
use Rattle.std.specs.List.{AllByRecursion}
use Rattle.std.proofs.lemmas.List.Sums.{fold-append}
use Rattle.basics.specs.declared.stream.StreamId.{StreamId}
use Rattle.outside.specs.declared.event.Event.{Event}
use Rattle.outside.specs.declared.event.RawRow.{RawRow}
use Rattle.outside.specs.declared.event.StreamPlan.{StreamPlan}
use Rattle.outside.specs.declared.table.PlacedRow.{PlacedRow}
use Rattle.outside.specs.declared.table.TableSide.{TableSide}
use Rattle.outside.specs.declared.table.StreamTable.{StreamTable}
use Rattle.outside.specs.declared.table.Tables.{Tables}
use Rattle.outside.specs.Tables.{no_tables, empty_table, empty_side, started_again, table_in, changed, side_of, side_marks_of, placed_after, tables_of, tables_after, tables_opened, tables_committed, tables_merged, tables_shown, opened_stream, opened_table, opened_shown, opened_hidden, committed_table, merged_table, merged_side, shown_table, shown_hidden, shown_plan, is_from, floor_of, rises_above, is_kept_for, same_id}
use Rattle.outside.specs.Dock.{HasOwnIds, HasOtherId, IsPlace, took_over, took_over_after}
use Rattle.outside.proofs.ToldLaws.{all_both, all_map}
use Rattle.outside.specs.Places.{IsUpTo}
use Rattle.outside.proofs.PlaceLaws.{all_filtered, all_placed}
use Rattle.raw_tables.specs.Store.{TableFits, TablesFit}
use Rattle.raw_tables.proofs.TableLaws.{marks_set, marks_kept, marks_shown}

pub tables_more : (events : List Event) (event : Event) → tables_of (events ++ event ∷ []) ≡ tables_after (tables_of events) event
tables_more events event = fold-append tables_after no_tables events (event ∷ [])

pub over_more : (events : List Event) (event : Event) → took_over (events ++ event ∷ []) ≡ took_over_after (took_over events) event
over_more events event = fold-append took_over_after true events (event ∷ [])

fits_empty : (places : ℕ) (id : StreamId) → TableFits places (empty_table id)
fits_empty places id = record { shown = omega arith; hidden = omega arith; rows = tt }

fits_higher : (low high : ℕ) → low ≤ high → (table : StreamTable) → TableFits low table → TableFits high table
fits_higher low high below table fits = record { shown = fits.shown; hidden = fits.hidden; rows = all_map (IsUpTo low) (IsUpTo high) table.rows (λ p at. omega arith) fits.rows }

fits_changed : (low high : ℕ) (change : StreamTable → StreamTable) (id : StreamId) (tables : List StreamTable) → low ≤ high → ((table : StreamTable) → TableFits low table → TableFits high (change table)) → AllByRecursion (TableFits low) tables → AllByRecursion (TableFits high) (changed change id tables)
fits_changed low high change id [] below step fits = (step (empty_table id) (fits_empty low id), tt)
fits_changed low high change id (table ∷ tables) below step fits =
    let rest = fits_changed low high change id tables below step fits.1 in
    let tail = all_map (TableFits low) (TableFits high) tables (fits_higher low high below) fits.1 in
    let P : List StreamTable → Type 0 = AllByRecursion (TableFits high) in
    elim (same_id table.id id) as (λ b. P (cond b (change table ∷ tables) (table ∷ changed change id tables))) [ true ↦ (step table fits.0, tail) | false ↦ (fits_higher low high below table fits.0, rest) ]

-- Opening

opened_shown_fits : (places : ℕ) (plan : StreamPlan) (table : StreamTable) → TableFits places table → TableFits places (opened_shown plan table)
opened_shown_fits places plan table fits = record {
  shown = elim (rises_above table.marks.top plan.generation) as (λ b. IsPlace (cond b (started_again table.shown) table.shown).mark) [ true ↦ omega arith | false ↦ fits.shown ];
  hidden = fits.hidden;
  rows = fits.rows;
}

opened_hidden_fits : (places : ℕ) (plan : StreamPlan) (table : StreamTable) → TableFits places table → TableFits places (opened_hidden plan table)
opened_hidden_fits places plan table fits = record {
  shown = fits.shown;
  hidden = elim (is_kept_for table.hidden_for plan) as (λ b. IsPlace (cond b table.hidden empty_side).mark) [ true ↦ fits.hidden | false ↦ omega arith ];
  rows = fits.rows;
}

opened_fits : (places : ℕ) (plan : StreamPlan) (table : StreamTable) → TableFits places table → TableFits places (opened_table plan table)
opened_fits places plan table fits = elim (plan.hidden) as (λ b. TableFits places (cond b (opened_hidden plan table) (opened_shown plan table))) [ true ↦ opened_hidden_fits places plan table fits | false ↦ opened_shown_fits places plan table fits ]

all_opened : (places : ℕ) (plans : List StreamPlan) (tables : List StreamTable) → AllByRecursion (TableFits places) tables → AllByRecursion (TableFits places) (fold opened_stream tables plans)
all_opened places [] tables fits = fits
all_opened places (plan ∷ plans) tables fits = all_opened places plans (opened_stream tables plan) (fits_changed places places (opened_table plan) plan.id tables (omega arith) (opened_fits places plan) fits)

pub fits_opened : (load : ℕ) (plan : List StreamPlan) (tables : Tables) → TablesFit tables → HasOwnIds plan → TablesFit (tables_opened load plan tables)
fits_opened load plan tables fits own = record { places = fits.places; streams = all_opened tables.places plan tables.streams fits.streams; own_ids = own }

-- Committing

committed_fits : (before : ℕ) (rows : List RawRow) (table : StreamTable) → TableFits before table → TableFits (before + length rows) (committed_table (placed_after before rows) table)
committed_fits before rows table fits =
    let higher = fits_higher before (before + length rows) (omega arith) table fits in
    record { shown = fits.shown; hidden = fits.hidden; rows = all_both (IsUpTo (before + length rows)) table.rows (placed_after before rows) higher.rows (all_placed before rows) }

pub fits_committed : (plan : Option StreamPlan) (rows : List RawRow) (tables : Tables) → TablesFit tables → (tables_committed plan rows tables).places < 2 ^ 63 → TablesFit (tables_committed plan rows tables)
fits_committed None rows tables fits within = fits
fits_committed (Some plan) rows tables fits within = record {
  places = within;
  streams = fits_changed tables.places (tables.places + length rows) (committed_table (placed_after tables.places rows)) plan.id tables.streams (omega arith) (committed_fits tables.places rows) fits.streams;
  own_ids = fits.own_ids;
}

committed_mark : (rows : List PlacedRow) (plan : StreamPlan) (table : StreamTable) (b : Bool) → plan.hidden ≡ b → (side_of plan (committed_table rows table)).mark ≡ (side_of plan table).mark
committed_mark rows plan table true e = rw e
committed_mark rows plan table false e = rw e

pub marks_committed : (plan : Option StreamPlan) (rows : List RawRow) (tables : Tables) → side_marks_of (tables_committed plan rows tables) ≡ side_marks_of tables
marks_committed None rows tables = refl
marks_committed (Some plan) rows tables = marks_kept (committed_table (placed_after tables.places rows)) plan.id tables.streams tables.plan (λ t. refl) (λ p t. committed_mark (placed_after tables.places rows) p t p.hidden refl)

-- Merging

merged_id : (plan : StreamPlan) (winners : List RawRow) (mark : ℕ) (table : StreamTable) (b : Bool) → plan.hidden ≡ b → (merged_table plan winners mark table).id ≡ table.id
merged_id plan winners mark table true e = rw e
merged_id plan winners mark table false e = rw e

merged_mark : (plan : StreamPlan) (winners : List RawRow) (mark : ℕ) (table : StreamTable) (b : Bool) → plan.hidden ≡ b → (side_of plan (merged_table plan winners mark table)).mark ≡ mark
merged_mark plan winners mark table true e = rw e
merged_mark plan winners mark table false e = rw e

merged_fits : (places : ℕ) (plan : StreamPlan) (winners : List RawRow) (mark : ℕ) → IsPlace mark → (table : StreamTable) → TableFits places table → TableFits places (merged_table plan winners mark table)
merged_fits places plan winners mark within table fits =
    let side : TableSide = merged_side winners mark (side_of plan table) in
    elim (plan.hidden) as (λ b. TableFits places (cond b (record table { hidden = side }) (record table { shown = side }))) [ true ↦ record { shown = fits.shown; hidden = within; rows = fits.rows } | false ↦ record { shown = within; hidden = fits.hidden; rows = fits.rows } ]

pub fits_merged : (plan : Option StreamPlan) (winners : List RawRow) (mark : ℕ) (tables : Tables) → IsPlace mark → TablesFit tables → TablesFit (tables_merged plan winners mark tables)
fits_merged None winners mark tables within fits = fits
fits_merged (Some plan) winners mark tables within fits = record {
  places = fits.places;
  streams = fits_changed tables.places tables.places (merged_table plan winners mark) plan.id tables.streams (omega arith) (merged_fits tables.places plan winners mark within) fits.streams;
  own_ids = fits.own_ids;
}

pub marks_merged : (stream : ℕ) (plan : StreamPlan) (winners : List RawRow) (mark : ℕ) (tables : Tables) → HasOwnIds tables.plan → slice_get tables.plan stream ≡ Some plan → side_marks_of (tables_merged (Some plan) winners mark tables) ≡ set (side_marks_of tables) stream mark
marks_merged stream plan winners mark tables own at = marks_set (merged_table plan winners mark) tables.streams tables.plan stream plan (λ t. merged_id plan winners mark t plan.hidden refl) own at ∙ ap (set (side_marks_of tables) stream) (merged_mark plan winners mark (table_in tables.streams plan.id) plan.hidden refl)

-- Showing

shown_fits : (places : ℕ) (plan : StreamPlan) (table : StreamTable) → TableFits places table → TableFits places (shown_table plan table)
shown_fits places plan table fits =
    let kept = all_filtered (IsUpTo places) (is_from (floor_of table.marks.floor plan.minimum)) table.rows fits.rows in
    elim (plan.hidden) as (λ b. TableFits places (cond b (shown_hidden plan table) table)) [ true ↦ record { shown = fits.hidden; hidden = omega arith; rows = kept } | false ↦ fits ]

apart_kept : (id : StreamId) (plans : List StreamPlan) (stream : ℕ) (plan : StreamPlan) → slice_get plans stream ≡ Some plan → AllByRecursion (HasOtherId id) plans → AllByRecursion (HasOtherId id) (set plans stream (shown_plan plan))
apart_kept id [] stream plan at apart = tt
apart_kept id (first ∷ plans) zero plan at apart = let e : first ≡ plan = cc in (subst (λ (p : StreamPlan). same_id p.id id ≡ false) e apart.0, apart.1)
apart_kept id (first ∷ plans) (suc stream) plan at apart = (apart.0, apart_kept id plans stream plan at apart.1)

own_kept : (plans : List StreamPlan) (stream : ℕ) (plan : StreamPlan) → slice_get plans stream ≡ Some plan → HasOwnIds plans → HasOwnIds (set plans stream (shown_plan plan))
own_kept [] stream plan at own = tt
own_kept (first ∷ plans) zero plan at own = let e : first ≡ plan = cc in (subst (λ (p : StreamPlan). AllByRecursion (HasOtherId p.id) plans) e own.0, own.1)
own_kept (first ∷ plans) (suc stream) plan at own = (apart_kept first.id plans stream plan at own.0, own_kept plans stream plan at own.1)

pub fits_shown : (stream : ℕ) (plan : StreamPlan) (tables : Tables) → slice_get tables.plan stream ≡ Some plan → TablesFit tables → TablesFit (tables_shown (Some plan) stream tables)
fits_shown stream plan tables at fits = record {
  places = fits.places;
  streams = fits_changed tables.places tables.places (shown_table plan) plan.id tables.streams (omega arith) (shown_fits tables.places plan) fits.streams;
  own_ids = own_kept tables.plan stream plan at fits.own_ids;
}

pub marks_after_show : (stream : ℕ) (plan : StreamPlan) (tables : Tables) → HasOwnIds tables.plan → slice_get tables.plan stream ≡ Some plan → side_marks_of (tables_shown (Some plan) stream tables) ≡ side_marks_of tables
marks_after_show stream plan tables own at = marks_shown tables.streams tables.plan stream plan own at
