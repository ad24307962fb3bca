-- A store after one more event.
use Rattle.std.proofs.Common.{◌≡◌, ℕ, ◌<◌, ◌^◌, zero, suc, List, [], ◌∷◌, ◌++◌, map, length, set, slice_index, Bool, true, false, Option, None, Some, slice_get, refl, sym, ◌∙◌, ap, subst, arith}
use Rattle.std.specs.Prelude.{unwrap_or}
use Rattle.std.specs.List.{AllByRecursion}
use Rattle.std.proofs.lemmas.List.{map-append}
use Rattle.outside.specs.declared.dock.DockTally.{DockTally}
use Rattle.outside.specs.declared.event.Event.{Event}
use Rattle.outside.specs.declared.event.Event.TheVariants.{Opened, Committed, Merged, Shown, TookEnd}
use Rattle.outside.specs.declared.event.RawRow.{RawRow}
use Rattle.outside.specs.declared.event.StreamPlan.{StreamPlan}
use Rattle.outside.specs.declared.table.StreamTable.{StreamTable}
use Rattle.outside.specs.declared.table.Tables.{Tables}
use Rattle.outside.specs.Dock.{event_of, took_over, took_over_after, HasOwnIds, IsPage, IsPlace, HasStreams}
use Rattle.outside.specs.Tables.{tables_of, tables_after, tables_committed, tables_merged, tables_shown, tables_opened, plan_at, shown_event, shown_event_for, shown_table, table_in, side_of, side_marks_of, page_of}
use Rattle.outside.specs.Places.{TablesRise}
use Rattle.outside.proofs.PlaceLaws.{tables_rise}
use Rattle.raw_tables.specs.Store.{IsStore, TablesFit, TableFits}
use Rattle.raw_tables.proofs.StoreLaws.{tables_more, over_more, fits_committed, fits_merged, fits_shown, fits_opened, marks_merged, marks_after_show}
use Rattle.raw_tables.proofs.PageLaws.{store_page, mark_fits, fits_in}
use Rattle.outside_mem.specs.MemDock.{ToldEvent, told, IsPlain, trace_tables}

-- the places of a store rise
pub store_rises : (tables : Tables) (over : Bool) (events : List Event) → IsStore tables over events → TablesRise tables
store_rises tables over events store = subst (λ (t : Tables). TablesRise t) (sym store.tables_are) (tables_rise events)

-- The store before, and its trace with one event more

module _ (tables : Tables) (over : Bool) (trace now : List ToldEvent) (counts : DockTally) (store : IsStore tables over (map event_of trace)) where
  events_now : (event : Event) → now ≡ trace ++ told event counts ∷ [] → map event_of now ≡ map event_of trace ++ event ∷ []
  events_now event added = ap (map event_of) added ∙ map-append event_of trace (told event counts ∷ [])

  pub tables_now : (event : Event) (new : Tables) → new ≡ tables_after tables event → now ≡ trace ++ told event counts ∷ [] → new ≡ tables_of (map event_of now)
  tables_now event new made added = made ∙ (ap (λ (t : Tables). tables_after t event) store.tables_are ∙ (sym (tables_more (map event_of trace) event) ∙ ap tables_of (sym (events_now event added))))

  over_now : (event : Event) (new : Bool) → new ≡ took_over_after over event → now ≡ trace ++ told event counts ∷ [] → new ≡ took_over (map event_of now)
  over_now event new made added = made ∙ (ap (λ (o : Bool). took_over_after o event) store.over_is ∙ (sym (over_more (map event_of trace) event) ∙ ap took_over (sym (events_now event added))))

  pub store_plain : (event : Event) → IsPlain event → now ≡ trace ++ told event counts ∷ [] → IsStore tables over (map event_of now)
  store_plain event plain added = record {
    tables_are = tables_now event tables (sym (plain.tables tables)) added;
    over_is = over_now event over (sym (plain.over over)) added;
    fits = store.fits;
  }

  pub store_ended : now ≡ trace ++ told TookEnd counts ∷ [] → IsStore tables true (map event_of now)
  store_ended added = record {
    tables_are = tables_now TookEnd tables refl added;
    over_is = over_now TookEnd true refl added;
    fits = store.fits;
  }

  pub store_committed : (new : Tables) (stream : ℕ) (rows : List RawRow) → new ≡ tables_committed (plan_at tables stream) rows tables → (tables.places < 2 ^ 63 → new.places < 2 ^ 63) → now ≡ trace ++ told (Committed stream rows) counts ∷ [] → IsStore new over (map event_of now)
  store_committed new stream rows made within added =
      let places : (tables_committed (plan_at tables stream) rows tables).places < 2 ^ 63 = subst (λ (t : Tables). t.places < 2 ^ 63) made (within store.fits.places) in
      record {
        tables_are = tables_now (Committed stream rows) new made added;
        over_is = over_now (Committed stream rows) over refl added;
        fits = subst (λ (t : Tables). TablesFit t) (sym made) (fits_committed (plan_at tables stream) rows tables store.fits places);
      }

  pub store_merged : (new : Tables) (stream : ℕ) (winners : List RawRow) (mark : ℕ) → IsPlace mark → new ≡ tables_merged (plan_at tables stream) winners mark tables → now ≡ trace ++ told (Merged stream winners mark) counts ∷ [] → IsStore new over (map event_of now)
  store_merged new stream winners mark within made added = record {
    tables_are = tables_now (Merged stream winners mark) new made added;
    over_is = over_now (Merged stream winners mark) over refl added;
    fits = subst (λ (t : Tables). TablesFit t) (sym made) (fits_merged (plan_at tables stream) winners mark tables within store.fits);
  }

  shown_fits : (stream : ℕ) (plan : Option StreamPlan) → slice_get tables.plan stream ≡ plan → TablesFit (tables_shown plan stream tables)
  shown_fits stream None at = store.fits
  shown_fits stream (Some plan) at = fits_shown stream plan tables at store.fits

  store_shown : (new : Tables) (stream floor top : ℕ) → new ≡ tables_shown (plan_at tables stream) stream tables → now ≡ trace ++ told (Shown stream floor top) counts ∷ [] → IsStore new over (map event_of now)
  store_shown new stream floor top made added = record {
    tables_are = tables_now (Shown stream floor top) new made added;
    over_is = over_now (Shown stream floor top) over refl added;
    fits = subst (λ (t : Tables). TablesFit t) (sym made) (shown_fits stream (plan_at tables stream) refl);
  }

  showing_at : (new : Tables) (stream : ℕ) (plan : Option StreamPlan) → new ≡ tables_shown (plan_at tables stream) stream tables → now ≡ trace ++ told (shown_event_for plan tables stream) counts ∷ [] → IsStore new over (map event_of now)
  showing_at new stream None made added = store_shown new stream 0 0 made added
  showing_at new stream (Some plan) made added = store_shown new stream (shown_table plan (table_in tables.streams plan.id)).marks.floor (unwrap_or (shown_table plan (table_in tables.streams plan.id)).marks.top 0) made added

  pub store_showing : (new : Tables) (stream : ℕ) → new ≡ tables_shown (plan_at tables stream) stream tables → now ≡ trace ++ told (shown_event tables stream) counts ∷ [] → IsStore new over (map event_of now)
  store_showing new stream made added = showing_at new stream (plan_at tables stream) made added

  pub store_opened : (new : Tables) (load moment : ℕ) (plan : List StreamPlan) → HasOwnIds plan → now ≡ trace ++ told (Opened load moment plan) counts ∷ [] → new ≡ tables_of (map event_of now) → IsStore new false (map event_of now)
  store_opened new load moment plan own added made =
      let opened : new ≡ tables_opened load plan tables = made ∙ sym (tables_now (Opened load moment plan) (tables_opened load plan tables) refl added) in
      record {
        tables_are = made;
        over_is = over_now (Opened load moment plan) false refl added;
        fits = subst (λ (t : Tables). TablesFit t) (sym opened) (fits_opened load plan tables store.fits own);
      }

-- A stream of the load

in_plan : (tables : List StreamTable) (plans : List StreamPlan) (stream : ℕ) → stream < length (map (λ plan. (side_of plan (table_in tables plan.id)).mark) plans) → (plan : StreamPlan) × (slice_get plans stream ≡ Some plan)
in_plan tables [] stream within = absurd (omega arith)
in_plan tables (plan ∷ plans) zero within = (plan, refl)
in_plan tables (plan ∷ plans) (suc stream) within = in_plan tables plans stream (omega arith)

pub marks_at_merge : (tables new : Tables) (over : Bool) (trace now : List ToldEvent) (stream : ℕ) (winners : List RawRow) (mark : ℕ) → IsStore tables over (map event_of trace) → new ≡ trace_tables now → new ≡ tables_merged (plan_at tables stream) winners mark tables → stream < length (side_marks_of (trace_tables trace)) → side_marks_of (trace_tables now) ≡ set (side_marks_of (trace_tables trace)) stream mark
marks_at_merge tables new over trace now stream winners mark store after made within =
    let inside : stream < length (side_marks_of tables) = subst (λ (t : Tables). stream < length (side_marks_of t)) (sym store.tables_are) within in
    let found = in_plan tables.streams tables.plan stream inside in
    ap side_marks_of (sym after ∙ (made ∙ ap (λ (o : Option StreamPlan). tables_merged o winners mark tables) found.1)) ∙ (marks_merged stream found.0 winners mark tables store.fits.own_ids found.1 ∙ ap (λ (t : Tables). set (side_marks_of t) stream mark) store.tables_are)

pub marks_at_show : (tables new : Tables) (over : Bool) (trace now : List ToldEvent) (stream : ℕ) → IsStore tables over (map event_of trace) → new ≡ trace_tables now → new ≡ tables_shown (plan_at tables stream) stream tables → stream < length (side_marks_of (trace_tables trace)) → side_marks_of (trace_tables now) ≡ side_marks_of (trace_tables trace)
marks_at_show tables new over trace now stream store after made within =
    let inside : stream < length (side_marks_of tables) = subst (λ (t : Tables). stream < length (side_marks_of t)) (sym store.tables_are) within in
    let found = in_plan tables.streams tables.plan stream inside in
    ap side_marks_of (sym after ∙ (made ∙ ap (λ (o : Option StreamPlan). tables_shown o stream tables) found.1)) ∙ (marks_after_show stream found.0 tables store.fits.own_ids found.1 ∙ ap side_marks_of store.tables_are)

pub page_known : (tables : Tables) (over : Bool) (trace : List ToldEvent) (stream most : ℕ) → IsStore tables over (map event_of trace) → 0 < most → stream < length (side_marks_of (trace_tables trace)) → IsPage (slice_index (side_marks_of (trace_tables trace)) stream) most (page_of (trace_tables trace) stream most)
page_known tables over trace stream most store some within =
    let fits : TablesFit (trace_tables trace) = subst (λ (t : Tables). TablesFit t) store.tables_are store.fits in
    let found = in_plan (trace_tables trace).streams (trace_tables trace).plan stream within in
    store_page (trace_tables trace) stream most found.0 fits some found.1

marks_placed : (places : ℕ) (tables : List StreamTable) (plans : List StreamPlan) → AllByRecursion (TableFits places) tables → AllByRecursion IsPlace (map (λ plan. (side_of plan (table_in tables plan.id)).mark) plans)
marks_placed places tables [] fits = tt
marks_placed places tables (plan ∷ plans) fits = (mark_fits places plan (table_in tables plan.id) (fits_in places tables plan fits), marks_placed places tables plans fits)

length_marks : (tables : List StreamTable) (plans : List StreamPlan) → length (map (λ plan. (side_of plan (table_in tables plan.id)).mark) plans) ≡ length plans
length_marks tables [] = refl
length_marks tables (plan ∷ plans) = ap suc (length_marks tables plans)

pub streams_opened : (tables new : Tables) (over later : Bool) (trace now : List ToldEvent) (load moment : ℕ) (plan : List StreamPlan) (counts : DockTally) → IsStore tables over (map event_of trace) → IsStore new later (map event_of now) → now ≡ trace ++ told (Opened load moment plan) counts ∷ [] → HasStreams plan (side_marks_of (trace_tables now))
streams_opened tables new over later trace now load moment plan counts store after added =
    let made : tables_opened load plan tables ≡ trace_tables now = tables_now tables over trace now counts store (Opened load moment plan) (tables_opened load plan tables) refl added in
    let plans : plan ≡ (trace_tables now).plan = ap (λ (t : Tables). t.plan) made in
    let fits : TablesFit (trace_tables now) = subst (λ (t : Tables). TablesFit t) after.tables_are after.fits in
    record {
      one_each = length_marks (trace_tables now).streams (trace_tables now).plan ∙ ap length (sym plans);
      places = marks_placed (trace_tables now).places (trace_tables now).streams (trace_tables now).plan fits.streams;
    }
