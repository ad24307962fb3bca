-- Behind events whose merges fit, the winners of each side are those of what was merged into it, and marks were given.
use Rattle.std.proofs.Common.{◌≡◌, ℕ, ◌≤◌, ◌+◌, List, [], ◌∷◌, ◌++◌, fold, length, Bool, true, false, cond, Option, None, Some, refl, sym, ◌∙◌, ap, subst, append_assoc, arith}
use Rattle.std.specs.List.{AllByRecursion}
use Rattle.std.proofs.lemmas.List.{append-nil}
use Rattle.basics.specs.declared.stream.StreamId.{StreamId}
use Rattle.outside.specs.declared.event.Event.{Event}
use Rattle.outside.specs.declared.event.Event.TheVariants.{Opened, Committed, Merged, Shown}
use Rattle.outside.specs.declared.event.RawRow.{RawRow}
use Rattle.outside.specs.declared.event.StreamPlan.{StreamPlan}
use Rattle.outside.specs.declared.table.TableSide.{TableSide}
use Rattle.outside.specs.declared.table.StreamTable.{StreamTable}
use Rattle.outside.specs.declared.table.Tables.{Tables}
use Rattle.outside.specs.Dock.{HasOwnIds, HasOtherId}
use Rattle.outside.specs.Tables.{tables_of, tables_after, tables_committed, tables_merged, tables_shown, table_in, changed, same_id, empty_side, side_of, merged_table, opened_stream, opened_table, opened_shown, opened_hidden, started_again, rises_above, is_kept_for, committed_table, placed_after, shown_table, shown_hidden, plan_at, winners_for, winners_at}
use Rattle.outside.proofs.TableLaws.{KeepsId, id_is, table_own, table_other}
use Rattle.dedup_merge.specs.Winners.{AreWinnersOf}
use Rattle.dedup_merge.specs.Merges.{MergedRows, merged_on, rows_opened, rows_merged, rows_shown, own_plan, plan_of, rows_after, merging_of, merged_for, merged_at, mark_for, mark_at, HasWinners, FitsMerge, Fits, MergesFit}
use Rattle.dedup_merge.proofs.LeftLemmas.{plan_kept, merged_id}
use Rattle.dedup_merge.proofs.FitLemmas.{tables_next, merged_next, own_is}

pub record SideFits (places : ℕ) (merged : List RawRow) (side : TableSide) : Type 0 where
  pub winners_are : AreWinnersOf merged side.winners
  pub within : side.mark ≤ places

pub record SidesFit (places : ℕ) (merged : MergedRows) (table : StreamTable) : Type 0 where
  pub shown : SideFits places merged.shown table.shown
  pub hidden : SideFits places merged.hidden table.hidden

none_fit : (places : ℕ) → SideFits places [] empty_side
none_fit places = record { winners_are = record { rise = tt; each = λ key. refl }; within = omega arith }

higher : (low high : ℕ) (merged : MergedRows) (table : StreamTable) → low ≤ high → SidesFit low merged table → SidesFit high merged table
higher low high merged table below fits =
    let a = fits.shown.within in
    let b = fits.hidden.within in
    record { shown = record { winners_are = fits.shown.winners_are; within = omega arith }; hidden = record { winners_are = fits.hidden.winners_are; within = omega arith } }

-- Opening

opened_by : (places : ℕ) (table : StreamTable) (merged : MergedRows) (i : StreamId) (d : Bool) (g m : ℕ) (h : Bool) → SidesFit places merged table → SidesFit places (rows_opened (Some (record { id = i; dedup = d; generation = g; minimum = m; hidden = h })) table merged) (opened_table (record { id = i; dedup = d; generation = g; minimum = m; hidden = h }) table)
opened_by places table merged i d g m true fits = record {
  shown = fits.shown;
  hidden = elim (is_kept_for table.hidden_for (record { id = i; dedup = d; generation = g; minimum = m; hidden = true })) as (λ k. SideFits places (cond k merged.hidden []) (cond k table.hidden empty_side)) [ true ↦ fits.hidden | false ↦ none_fit places ];
}
opened_by places table merged i d g m false fits = record {
  shown = elim (rises_above table.marks.top g) as (λ r. SideFits places merged.shown (cond r (started_again table.shown) table.shown)) [ true ↦ record { winners_are = fits.shown.winners_are; within = omega arith } | false ↦ fits.shown ];
  hidden = fits.hidden;
}

abbrev opened_as : Option StreamPlan → StreamTable → StreamTable
opened_as None table = table
opened_as (Some plan) table = opened_table plan table

opened_id : (plan : StreamPlan) (table : StreamTable) → (opened_table plan table).id ≡ table.id
opened_id plan table = elim (plan.hidden) as (λ b. (cond b (opened_hidden plan table) (opened_shown plan table)).id ≡ table.id) [ true ↦ refl | false ↦ refl ]

none_of : (id : StreamId) (plans : List StreamPlan) → AllByRecursion (HasOtherId id) plans → plan_of id plans ≡ None
none_of id [] apart = refl
none_of id (plan ∷ plans) apart = rw apart.0 (none_of id plans apart.1)

opened_in : (plans : List StreamPlan) (tables : List StreamTable) (id : StreamId) → HasOwnIds plans → table_in (fold opened_stream tables plans) id ≡ opened_as (plan_of id plans) (table_in tables id)
opened_in [] tables id own = refl
opened_in (plan ∷ plans) tables id own = by_test (same_id plan.id id) refl (opened_in plans (opened_stream tables plan) id own.1) where
  by_test : (b : Bool) → same_id plan.id id ≡ b → table_in (fold opened_stream (opened_stream tables plan) plans) id ≡ opened_as (plan_of id plans) (table_in (opened_stream tables plan) id) → table_in (fold opened_stream tables (plan ∷ plans)) id ≡ opened_as (plan_of id (plan ∷ plans)) (table_in tables id)
  by_test true e rest =
      let same : plan.id ≡ id = id_is plan.id id e in
      let none : plan_of id plans ≡ None = none_of id plans (subst (λ (i : StreamId). AllByRecursion (HasOtherId i) plans) same own.0) in
      let here : table_in (opened_stream tables plan) id ≡ opened_table plan (table_in tables id) = subst (λ (i : StreamId). table_in (opened_stream tables plan) i ≡ opened_table plan (table_in tables i)) same (table_own (opened_table plan) plan.id tables (opened_id plan)) in
      rw e (rest ∙ (ap (λ (p : Option StreamPlan). opened_as p (table_in (opened_stream tables plan) id)) none ∙ here))
  by_test false e rest = rw e (rest ∙ ap (opened_as (plan_of id plans)) (table_other (opened_table plan) plan.id id tables (opened_id plan) e))

opened_fit : (places : ℕ) (plan : Option StreamPlan) (table : StreamTable) (merged : MergedRows) → SidesFit places merged table → SidesFit places (rows_opened plan table merged) (opened_as plan table)
opened_fit places None table merged fits = fits
opened_fit places (Some plan) table merged fits = opened_by places table merged plan.id plan.dedup plan.generation plan.minimum plan.hidden fits

-- Merging: the load's side is the one that the merge fits, and the other stays

merged_by : (places mark : ℕ) (winners : List RawRow) (table : StreamTable) (merged : MergedRows) (i : StreamId) (d : Bool) (g m : ℕ) (h : Bool) → mark ≤ places
    → AreWinnersOf (merged_on (record { id = i; dedup = d; generation = g; minimum = m; hidden = h }) (rows_merged (Some (record { id = i; dedup = d; generation = g; minimum = m; hidden = h })) mark table merged)) (side_of (record { id = i; dedup = d; generation = g; minimum = m; hidden = h }) (merged_table (record { id = i; dedup = d; generation = g; minimum = m; hidden = h }) winners mark table)).winners
    → SidesFit places merged table → SidesFit places (rows_merged (Some (record { id = i; dedup = d; generation = g; minimum = m; hidden = h })) mark table merged) (merged_table (record { id = i; dedup = d; generation = g; minimum = m; hidden = h }) winners mark table)
merged_by places mark winners table merged i d g m true within are fits = record { shown = fits.shown; hidden = record { winners_are = are; within = within } }
merged_by places mark winners table merged i d g m false within are fits = record { shown = record { winners_are = are; within = within }; hidden = fits.hidden }

-- Showing

shown_by : (places : ℕ) (table : StreamTable) (merged : MergedRows) (i : StreamId) (d : Bool) (g m : ℕ) (h : Bool) → SidesFit places merged table → SidesFit places (rows_shown (Some (record { id = i; dedup = d; generation = g; minimum = m; hidden = h })) merged) (shown_table (record { id = i; dedup = d; generation = g; minimum = m; hidden = h }) table)
shown_by places table merged i d g m true fits = record { shown = fits.hidden; hidden = none_fit places }
shown_by places table merged i d g m false fits = fits

shown_id : (plan : StreamPlan) (table : StreamTable) → (shown_table plan table).id ≡ table.id
shown_id plan table = elim (plan.hidden) as (λ b. (cond b (shown_hidden plan table) table).id ≡ table.id) [ true ↦ refl | false ↦ refl ]

-- One event

own_table : (change : StreamTable → StreamTable) (own id : StreamId) (tables : List StreamTable) → KeepsId change → same_id own id ≡ true → table_in (changed change own tables) id ≡ change (table_in tables id)
own_table change own id tables keeps e = subst (λ (i : StreamId). table_in (changed change own tables) i ≡ change (table_in tables i)) (id_is own id e) (table_own change own tables keeps)

committed_fit : (id : StreamId) (store : Tables) (merged : MergedRows) (rows : List RawRow) (plan : Option StreamPlan) → SidesFit store.places merged (table_in store.streams id) → SidesFit (tables_committed plan rows store).places merged (table_in (tables_committed plan rows store).streams id)
committed_fit id store merged rows None fits = fits
committed_fit id store merged rows (Some plan) fits = by_test (same_id plan.id id) refl where
  change : StreamTable → StreamTable
  change = committed_table (placed_after store.places rows)

  more : SidesFit (store.places + length rows) merged (table_in store.streams id)
  more = higher store.places (store.places + length rows) merged (table_in store.streams id) (omega arith) fits

  by_test : (b : Bool) → same_id plan.id id ≡ b → SidesFit (store.places + length rows) merged (table_in (changed (committed_table (placed_after store.places rows)) plan.id store.streams) id)
  by_test true e = subst (λ (t : StreamTable). SidesFit (store.places + length rows) merged t) (sym (own_table (committed_table (placed_after store.places rows)) plan.id id store.streams (λ t. refl) e)) (record { shown = more.shown; hidden = more.hidden })
  by_test false e = subst (λ (t : StreamTable). SidesFit (store.places + length rows) merged t) (sym (table_other (committed_table (placed_after store.places rows)) plan.id id store.streams (λ t. refl) e)) more

-- what is asked of a merge into the table of this stream
abbrev AsksMerge : StreamId → Tables → MergedRows → List RawRow → ℕ → Option StreamPlan → Type 0
AsksMerge id store merged winners mark None = Unit {0}
AsksMerge id store merged winners mark (Some plan) = same_id plan.id id ≡ true → (mark ≤ store.places) × AreWinnersOf (merged_on plan (rows_merged (Some plan) mark (table_in store.streams id) merged)) (side_of plan (merged_table plan winners mark (table_in store.streams id))).winners

merged_fit : (id : StreamId) (store : Tables) (merged : MergedRows) (winners : List RawRow) (mark : ℕ) (plan : Option StreamPlan) → AsksMerge id store merged winners mark plan → SidesFit store.places merged (table_in store.streams id) → SidesFit (tables_merged plan winners mark store).places (rows_merged (own_plan id plan) mark (table_in store.streams id) merged) (table_in (tables_merged plan winners mark store).streams id)
merged_fit id store merged winners mark None asks fits = fits
merged_fit id store merged winners mark (Some plan) asks fits = by_test (same_id plan.id id) refl where
  by_test : (b : Bool) → same_id plan.id id ≡ b → SidesFit store.places (rows_merged (own_plan id (Some plan)) mark (table_in store.streams id) merged) (table_in (changed (merged_table plan winners mark) plan.id store.streams) id)
  by_test true e =
      let given = asks e in
      let own = merged_by store.places mark winners (table_in store.streams id) merged plan.id plan.dedup plan.generation plan.minimum plan.hidden given.0 given.1 fits in
      rw e (subst (λ (t : StreamTable). SidesFit store.places (rows_merged (Some plan) mark (table_in store.streams id) merged) t) (sym (own_table (merged_table plan winners mark) plan.id id store.streams (λ t. merged_id plan winners mark t plan.hidden refl) e)) own)
  by_test false e = rw e (subst (λ (t : StreamTable). SidesFit store.places merged t) (sym (table_other (merged_table plan winners mark) plan.id id store.streams (λ t. merged_id plan winners mark t plan.hidden refl) e)) fits)

shown_fit : (id : StreamId) (store : Tables) (merged : MergedRows) (stream : ℕ) (plan : Option StreamPlan) → SidesFit store.places merged (table_in store.streams id) → SidesFit (tables_shown plan stream store).places (rows_shown (own_plan id plan) merged) (table_in (tables_shown plan stream store).streams id)
shown_fit id store merged stream None fits = fits
shown_fit id store merged stream (Some plan) fits = by_test (same_id plan.id id) refl where
  by_test : (b : Bool) → same_id plan.id id ≡ b → SidesFit store.places (rows_shown (own_plan id (Some plan)) merged) (table_in (changed (shown_table plan) plan.id store.streams) id)
  by_test true e =
      let own = shown_by store.places (table_in store.streams id) merged plan.id plan.dedup plan.generation plan.minimum plan.hidden fits in
      rw e (subst (λ (t : StreamTable). SidesFit store.places (rows_shown (Some plan) merged) t) (sym (own_table (shown_table plan) plan.id id store.streams (shown_id plan) e)) own)
  by_test false e = rw e (subst (λ (t : StreamTable). SidesFit store.places merged t) (sym (table_other (shown_table plan) plan.id id store.streams (shown_id plan) e)) fits)

-- Events

abbrev pub SidesAt : StreamId → List Event → Type 0
SidesAt id events = SidesFit (tables_of events).places (merging_of id events).merged (table_in (tables_of events).streams id)

-- what a merge that fits gives the stream whose plan it names
asked : (id : StreamId) (events : List Event) (stream : ℕ) (winners : List RawRow) (mark : ℕ) → FitsMerge events stream winners mark → (plan : Option StreamPlan) → plan_at (tables_of events) stream ≡ plan → AsksMerge id (tables_of events) (merging_of id events).merged winners mark plan
asked id events stream winners mark fits None at = tt
asked id events stream winners mark fits (Some plan) at = λ e.
    (let event = Merged stream winners mark in
    let after = events ++ Merged stream winners mark ∷ [] in
    let store = tables_of events in
    let same : plan.id ≡ id = id_is plan.id id e in
    let at_after : plan_at (tables_of (events ++ Merged stream winners mark ∷ [])) stream ≡ Some plan = ap (λ (t : Tables). plan_at t stream) (tables_next events event) ∙ (plan_kept store stream winners mark (plan_at store stream) ∙ at) in
    let named : rows_merged (own_plan plan.id (plan_at (tables_of events) stream)) mark (table_in (tables_of events).streams plan.id) (merging_of plan.id events).merged ≡ rows_merged (Some plan) mark (table_in (tables_of events).streams plan.id) (merging_of plan.id events).merged = ap (λ (p : Option StreamPlan). rows_merged p mark (table_in (tables_of events).streams plan.id) (merging_of plan.id events).merged) (ap (own_plan plan.id) at ∙ own_is plan) in
    let rows : merged_at (events ++ Merged stream winners mark ∷ []) stream ≡ merged_on plan (rows_merged (Some plan) mark (table_in (tables_of events).streams plan.id) (merging_of plan.id events).merged) = ap (λ (p : Option StreamPlan). merged_for p after) at_after ∙ ap (merged_on plan) (merged_next plan.id events event ∙ named) in
    let made : winners_at (tables_of (events ++ Merged stream winners mark ∷ [])) stream ≡ (side_of plan (merged_table plan winners mark (table_in (tables_of events).streams plan.id))).winners =
    ap (λ (p : Option StreamPlan). winners_for p (tables_of after)) at_after ∙ (ap (winners_for (Some plan)) (tables_next events event ∙ ap (λ (p : Option StreamPlan). tables_merged p winners mark store) at)
    ∙ ap (λ (t : StreamTable). (side_of plan t).winners) (table_own (merged_table plan winners mark) plan.id store.streams (λ t. merged_id plan winners mark t plan.hidden refl))) in
    let own : AreWinnersOf (merged_on plan (rows_merged (Some plan) mark (table_in (tables_of events).streams plan.id) (merging_of plan.id events).merged)) (side_of plan (merged_table plan winners mark (table_in (tables_of events).streams plan.id))).winners =
    subst (λ (rs : List RawRow). AreWinnersOf rs (side_of plan (merged_table plan winners mark (table_in (tables_of events).streams plan.id))).winners) rows (subst (λ (ws : List RawRow). AreWinnersOf (merged_at (events ++ Merged stream winners mark ∷ []) stream) ws) made fits.winners_are) in
    (fits.within, subst (λ (i : StreamId). AreWinnersOf (merged_on plan (rows_merged (Some plan) mark (table_in (tables_of events).streams i) (merging_of i events).merged)) (side_of plan (merged_table plan winners mark (table_in (tables_of events).streams i))).winners) same own))

after_fits : (id : StreamId) (events : List Event) (event : Event) → Fits events event → SidesAt id events → SidesFit (tables_after (tables_of events) event).places (rows_after id (tables_of events) (merging_of id events).merged event) (table_in (tables_after (tables_of events) event).streams id)
after_fits id events (Opened load moment plans) own fits =
    let store = tables_of events in
    subst (λ (t : StreamTable). SidesFit (tables_of events).places (rows_opened (plan_of id plans) (table_in (tables_of events).streams id) (merging_of id events).merged) t) (sym (opened_in plans store.streams id own)) (opened_fit store.places (plan_of id plans) (table_in store.streams id) (merging_of id events).merged fits)
after_fits id events (Committed stream rows) own fits = committed_fit id (tables_of events) (merging_of id events).merged rows (plan_at (tables_of events) stream) fits
after_fits id events (Merged stream winners mark) own fits = merged_fit id (tables_of events) (merging_of id events).merged winners mark (plan_at (tables_of events) stream) (asked id events stream winners mark own (plan_at (tables_of events) stream) refl) fits
after_fits id events (Shown stream floor top) own fits = shown_fit id (tables_of events) (merging_of id events).merged stream (plan_at (tables_of events) stream) fits
after_fits id events event own fits = fits

next_fits : (id : StreamId) (events : List Event) (event : Event) → Fits events event → SidesAt id events → SidesAt id (events ++ event ∷ [])
next_fits id events event own fits =
    subst (λ (t : Tables). SidesFit t.places (merging_of id (events ++ event ∷ [])).merged (table_in t.streams id)) (sym (tables_next events event))
    (subst (λ (m : MergedRows). SidesFit (tables_after (tables_of events) event).places m (table_in (tables_after (tables_of events) event).streams id)) (sym (merged_next id events event)) (after_fits id events event own fits))

along : (id : StreamId) (whole before rest : List Event) → whole ≡ before ++ rest → MergesFit whole → SidesAt id before → SidesAt id whole
along id whole before [] splits fit fits = subst (λ (es : List Event). SidesAt id es) (sym (splits ∙ append-nil before)) fits
along id whole before (event ∷ rest) splits fit fits = along id whole (before ++ event ∷ []) rest (splits ∙ sym (append_assoc before (event ∷ []) rest)) fit (next_fits id before event (fit before event rest splits) fits)

pub sides_at : (id : StreamId) (events : List Event) → MergesFit events → SidesAt id events
sides_at id events fit = along id events [] events refl fit (record { shown = none_fit 0; hidden = none_fit 0 })

-- the load's side

on_side : (places : ℕ) (table : StreamTable) (merged : MergedRows) (i : StreamId) (d : Bool) (g m : ℕ) (h : Bool) → SidesFit places merged table → SideFits places (merged_on (record { id = i; dedup = d; generation = g; minimum = m; hidden = h }) merged) (side_of (record { id = i; dedup = d; generation = g; minimum = m; hidden = h }) table)
on_side places table merged i d g m true fits = fits.hidden
on_side places table merged i d g m false fits = fits.shown

pub side_fits : (events : List Event) (stream : ℕ) → MergesFit events → HasWinners events stream × (mark_at (tables_of events) stream ≤ (tables_of events).places)
side_fits events stream fit = by_plan (plan_at (tables_of events) stream) where
  by_plan : (plan : Option StreamPlan) → AreWinnersOf (merged_for plan events) (winners_for plan (tables_of events)) × (mark_for plan (tables_of events) ≤ (tables_of events).places)
  by_plan None = (record { rise = tt; each = λ key. refl }, omega arith)
  by_plan (Some plan) =
      let own = on_side (tables_of events).places (table_in (tables_of events).streams plan.id) (merging_of plan.id events).merged plan.id plan.dedup plan.generation plan.minimum plan.hidden (sides_at plan.id events fit) in
      (own.winners_are, own.within)
