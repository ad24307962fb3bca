-- Which merges fit: those of pages do, behind events whose merges fit.
use Rattle.std.proofs.Common.{◌≡◌, ℕ, ◌≤◌, zero, suc, List, [], ◌∷◌, ◌++◌, map, filter, fold, take, Bool, true, false, Option, None, Some, refl, sym, ◌∙◌, ap, subst}
use Rattle.std.specs.Prelude.{IsSome}
use Rattle.std.specs.List.{AllByRecursion}
use Rattle.std.proofs.lemmas.List.Sums.{fold-append}
use Rattle.basics.specs.declared.stream.StreamId.{StreamId}
use Rattle.outside.specs.declared.event.Event.{Event}
use Rattle.outside.specs.declared.event.Event.TheVariants.{Merged}
use Rattle.outside.specs.declared.event.RawRow.{RawRow}
use Rattle.outside.specs.declared.event.StreamPlan.{StreamPlan}
use Rattle.outside.specs.declared.table.PlacedRow.{PlacedRow}
use Rattle.outside.specs.declared.table.StreamTable.{StreamTable}
use Rattle.outside.specs.declared.table.Tables.{Tables}
use Rattle.outside.specs.Places.{IsUpTo}
use Rattle.outside.specs.Tables.{no_tables, tables_of, tables_after, tables_merged, table_in, side_of, is_unmerged, last_place, page_for, page_of, plan_at, winners_for, winners_at, row_of}
use Rattle.outside.specs.Winners.{put_winners}
use Rattle.outside.proofs.PlaceLaws.{all_filtered, rise_in, tables_rise}
use Rattle.outside.proofs.TableLaws.{id_own}
use Rattle.dedup_merge.specs.Winners.{AreWinnersOf, has_key}
use Rattle.dedup_merge.specs.Merges.{MergedRows, none_merged, merged_on, rows_between, rows_merged, own_plan, rows_after, Merging, merging_after, merging_of, merged_for, merged_at, mark_for, mark_at, unmerged_for, HasWinners, FitsMerge}
use Rattle.dedup_merge.specs.Pages.{TakesIn}
use Rattle.dedup_merge.proofs.JoinLemmas.{winners_on}
use Rattle.dedup_merge.proofs.LeftLemmas.{page_between, plan_kept, winners_some}
use Rattle.dedup_merge.proofs.StandLemmas.{page_keyed}

-- One event more

pub store_is : (id : StreamId) (events : List Event) (start : Merging) → (fold (merging_after id) start events).store ≡ fold tables_after start.store events
store_is id [] start = refl
store_is id (event ∷ events) start = store_is id events (merging_after id start event)

pub store_of : (id : StreamId) (events : List Event) → (merging_of id events).store ≡ tables_of events
store_of id events = store_is id events (record { store = no_tables; merged = none_merged })

pub tables_next : (events : List Event) (event : Event) → tables_of (events ++ event ∷ []) ≡ tables_after (tables_of events) event
tables_next events event = fold-append tables_after no_tables events (event ∷ [])

pub merged_next : (id : StreamId) (events : List Event) (event : Event) → (merging_of id (events ++ event ∷ [])).merged ≡ rows_after id (tables_of events) (merging_of id events).merged event
merged_next id events event =
    ap (λ (m : Merging). m.merged) (fold-append (merging_after id) (record { store = no_tables; merged = none_merged }) events (event ∷ []))
    ∙ ap (λ (store : Tables). rows_after id store (merging_of id events).merged event) (store_of id events)

-- A merge of a page

pub own_is : (plan : StreamPlan) → own_plan plan.id (Some plan) ≡ Some plan
own_is plan = rw (id_own plan.id) refl

merged_more : (mark : ℕ) (table : StreamTable) (merged : MergedRows) (i : StreamId) (d : Bool) (g m : ℕ) (h : Bool) → merged_on (record { id = i; dedup = d; generation = g; minimum = m; hidden = h }) (rows_merged (Some (record { id = i; dedup = d; generation = g; minimum = m; hidden = h })) mark table merged)
    ≡ merged_on (record { id = i; dedup = d; generation = g; minimum = m; hidden = h }) merged ++ rows_between (record { id = i; dedup = d; generation = g; minimum = m; hidden = h }) mark table
merged_more mark table merged i d g m true = refl
merged_more mark table merged i d g m false = refl

last_given : (places from : ℕ) (rows : List PlacedRow) → from ≤ places → AllByRecursion (IsUpTo places) rows → last_place from rows ≤ places
last_given places from [] within given = within
last_given places from (row ∷ rows) within given = last_given places row.place rows given.0 given.1

all_front : (P : PlacedRow → Type 0) (n : ℕ) (rows : List PlacedRow) → AllByRecursion P rows → AllByRecursion P (take n rows)
all_front P zero rows all = tt
all_front P (suc n) [] all = tt
all_front P (suc n) (row ∷ rows) all = (all.0, all_front P n rows all.1)

module _ (events : List Event) (stream most : ℕ) (written : List RawRow) (mark : ℕ) (ends : mark ≡ (page_of (tables_of events) stream most).mark) (plan : StreamPlan) (at : plan_at (tables_of events) stream ≡ Some plan) where
  page_is : page_of (tables_of events) stream most ≡ page_for (Some plan) (tables_of events) most
  page_is = ap (λ (p : Option StreamPlan). page_for p (tables_of events) most) at

  at_after : plan_at (tables_of (events ++ Merged stream written mark ∷ [])) stream ≡ Some plan
  at_after = ap (λ (store : Tables). plan_at store stream) (tables_next events (Merged stream written mark)) ∙ (plan_kept (tables_of events) stream written mark (plan_at (tables_of events) stream) ∙ at)

  mark_is : mark ≡ (page_for (Some plan) (tables_of events) most).mark
  mark_is = ends ∙ ap (λ (u : _). u.mark) page_is

  -- the page follows what was merged before
  between_is : rows_between plan mark (table_in (tables_of events).streams plan.id) ≡ (page_for (Some plan) (tables_of events) most).rows
  between_is =
      let table = table_in (tables_of events).streams plan.id in
      ap (λ (m : ℕ). rows_between plan m table) mark_is ∙ ap (map row_of) (page_between plan table.marks (side_of plan table).mark most table.rows (rise_in (tables_of events).places (tables_of events).streams plan.id (tables_rise events)).rise)

  pub merged_is : merged_at (events ++ Merged stream written mark ∷ []) stream ≡ merged_at events stream ++ (page_of (tables_of events) stream most).rows
  merged_is =
      let after = events ++ Merged stream written mark ∷ [] in
      let table = table_in (tables_of events).streams plan.id in
      let merged = (merging_of plan.id events).merged in
      ap (λ (p : Option StreamPlan). merged_for p after) at_after
      ∙ (ap (merged_on plan) (merged_next plan.id events (Merged stream written mark) ∙ ap (λ (p : Option StreamPlan). rows_merged p mark table merged) (ap (own_plan plan.id) at ∙ own_is plan))
      ∙ (merged_more mark table merged plan.id plan.dedup plan.generation plan.minimum plan.hidden
      ∙ (ap (λ (rs : List RawRow). merged_on plan merged ++ rs) (between_is ∙ ap (λ (u : _). u.rows) (sym page_is))
      ∙ ap (λ (p : Option StreamPlan). merged_for p events ++ (page_of (tables_of events) stream most).rows) (sym at))))

  pub winners_are : winners_at (tables_of (events ++ Merged stream written mark ∷ [])) stream ≡ put_winners (winners_at (tables_of events) stream) written
  winners_are =
      ap (λ (p : Option StreamPlan). winners_for p (tables_of (events ++ Merged stream written mark ∷ []))) at_after
      ∙ (ap (winners_for (Some plan)) (tables_next events (Merged stream written mark) ∙ ap (λ (p : Option StreamPlan). tables_merged p written mark (tables_of events)) at)
      ∙ (winners_some (tables_of events) stream written mark plan ∙ ap (λ (p : Option StreamPlan). put_winners (winners_for p (tables_of events)) written) (sym at)))

  mark_within : mark_at (tables_of events) stream ≤ (tables_of events).places → mark ≤ (tables_of events).places
  mark_within within =
      let store = tables_of events in
      let table = table_in (tables_of events).streams plan.id in
      let rows = rise_in (tables_of events).places (tables_of events).streams plan.id (tables_rise events) in
      let own : (side_of plan (table_in (tables_of events).streams plan.id)).mark ≤ (tables_of events).places = subst (λ (m : ℕ). m ≤ (tables_of events).places) (ap (λ (p : Option StreamPlan). mark_for p (tables_of events)) at) within in
      let last = last_given store.places (side_of plan table).mark (take most (unmerged_for (Some plan) store)) own (all_front (IsUpTo store.places) most (unmerged_for (Some plan) store) (all_filtered (IsUpTo store.places) (is_unmerged plan table.marks (side_of plan table).mark) table.rows rows.given)) in
      subst (λ (m : ℕ). m ≤ (tables_of events).places) (sym mark_is) last

  fits_some : TakesIn (page_of (tables_of events) stream most).rows (winners_at (tables_of events) stream) (put_winners (winners_at (tables_of events) stream) written) → HasWinners events stream → mark_at (tables_of events) stream ≤ (tables_of events).places → FitsMerge events stream written mark
  fits_some takes has within =
      let page = (page_of (tables_of events) stream most).rows in
      let keyed : filter has_key (page_of (tables_of events) stream most).rows ≡ (page_of (tables_of events) stream most).rows = subst (λ (u : _). filter has_key u.rows ≡ u.rows) (sym page_is) (page_keyed (tables_of events) most (tables_rise events) plan) in
      let whole = winners_on (merged_at events stream) page (winners_at (tables_of events) stream) written keyed has takes in
      record {
        known = rw at refl;
        within = mark_within within;
        winners_are = subst (λ (rs : List RawRow). AreWinnersOf rs (winners_at (tables_of (events ++ Merged stream written mark ∷ [])) stream)) (sym merged_is) (subst (λ (ws : List RawRow). AreWinnersOf (merged_at events stream ++ (page_of (tables_of events) stream most).rows) ws) (sym winners_are) whole);
      }

-- a merge of a page fits where the side's winners are those of what was merged, and its mark was given
pub page_fits : (events : List Event) (stream most : ℕ) (written : List RawRow) (mark : ℕ) → mark ≡ (page_of (tables_of events) stream most).mark → TakesIn (page_of (tables_of events) stream most).rows (winners_at (tables_of events) stream) (put_winners (winners_at (tables_of events) stream) written)
    → IsSome (plan_at (tables_of events) stream) → HasWinners events stream → mark_at (tables_of events) stream ≤ (tables_of events).places → FitsMerge events stream written mark
page_fits events stream most written mark ends takes known has within = by_plan (plan_at (tables_of events) stream) refl known where
  by_plan : (plan : Option StreamPlan) → plan_at (tables_of events) stream ≡ plan → IsSome plan → FitsMerge events stream written mark
  by_plan None at is = absurd (cc)
  by_plan (Some plan) at is = fits_some events stream most written mark ends plan at takes has within
