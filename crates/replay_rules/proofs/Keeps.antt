-- A row that is committed stands in its table as long as its load goes on.
use Rattle.std.proofs.Common.{arith, ◌≡◌, ◌⊎◌, inl, inr, ℕ, zero, suc, ◌+◌, ◌<◌, ◌≤◌, List, [], ◌∷◌, ◌++◌, map, filter, slice_get, Option, None, Some, Bool, true, false, refl, sym, ◌∙◌, ap, subst, append_assoc, append-nil}
use Rattle.std.specs.Prelude.{slice_set, ◌||◌}
use Rattle.std.specs.List.{list_any}
use Rattle.std.proofs.lemmas.Bool.{cases_Bool, false≢true}
use Rattle.std.proofs.lemmas.List.{map-append}
use Rattle.basics.specs.declared.stream.StreamId.{StreamId}
use Rattle.outside.proofs.TableLaws.{KeepsId, id_is, id_own, table_own, table_other}
use Rattle.outside.specs.Dock.{is_opening}
use Rattle.outside.specs.Tables.{same_id, tables_of, tables_after, table_in, plan_at, row_of, is_from, floor_of, changed, committed_table, placed_after, merged_table, shown_table, shown_plan, tables_committed, tables_merged, tables_shown}
use Rattle.outside.specs.declared.event.Event.{Event}
use Rattle.outside.specs.declared.event.Event.TheVariants.{Opened, Took, TookEnd, Committed, Emitted, Merged, Shown, Started, ReadLine, ReadEnd, Given, Closed, Got, GotEnd, Saved, Ended}
use Rattle.outside.specs.declared.event.RawRow.{RawRow}
use Rattle.outside.specs.declared.event.StreamPlan.{StreamPlan}
use Rattle.outside.specs.declared.load.Marks.{Marks}
use Rattle.outside.specs.declared.table.PlacedRow.{PlacedRow}
use Rattle.outside.specs.declared.table.StreamTable.{StreamTable}
use Rattle.outside.specs.declared.table.Tables.{Tables}
use Rattle.raw_tables.proofs.StoreLaws.{tables_more}
use Rattle.dedup_merge.proofs.LeftLemmas.{le_from}
use Rattle.dedup_merge.proofs.SameRowLemmas.{Has}
use Rattle.load_rules.specs.Prefixes.{EachFits}
use Rattle.load_rules.specs.Stores.{StoreFits, IsStoreRun}
use Rattle.load_rules.proofs.SideHolds.{has_left, IsAbove}
use Rattle.load_rules.proofs.Sides.{run_holds}

some_is : {A : Type 0} {x y : A} → Some x ≡ Some y → x ≡ y
some_is e = cc

none_some : {A : Type 0} {x : A} → None ≡ Some x → ⊥
none_some e = cc

pub has_right : {A : Type 0} (x : A) (xs ys : List A) → Has x ys → Has x (xs ++ ys)
has_right x [] ys has = has
has_right x (y ∷ xs) ys has = inr (has_right x xs ys has)

-- ---- rows

rows_placed : (place : ℕ) (rows : List RawRow) → map row_of (placed_after place rows) ≡ rows
rows_placed place [] = refl
rows_placed place (row ∷ rows) = ap (λ rest. row ∷ rest) (rows_placed (place + 1) rows)

row_stays : (floor : ℕ) (rows : List PlacedRow) (row : RawRow) → floor ≤ row.generation → Has row (map row_of rows) → Has row (map row_of (filter (is_from floor) rows))
row_stays floor [] row low has = absurd has
row_stays floor (p ∷ rows) row low (inl is) =
    let passes : is_from floor p ≡ true = le_from floor p.row.generation (subst (λ (it : RawRow). floor ≤ it.generation) (sym is) low) in
    rw passes (inl is)
row_stays floor (p ∷ rows) row low (inr has) = at (cases_Bool (is_from floor p)) (row_stays floor rows row low has)
  where
    at : (is_from floor p ≡ true) ⊎ (is_from floor p ≡ false) → Has row (map row_of (filter (is_from floor) rows)) → Has row (map row_of (filter (is_from floor) (p ∷ rows)))
    at (inl passes) rest = rw passes (inr rest)
    at (inr fails) rest = rw fails rest

-- ---- plans

pub set_parts : (plans : List StreamPlan) (n j : ℕ) (x q : StreamPlan) → slice_get (slice_set plans n x) j ≡ Some q → ((j ≡ n) × (q ≡ x)) ⊎ (slice_get plans j ≡ Some q)
set_parts [] n j x q at = absurd (none_some at)
set_parts (plan ∷ plans) zero zero x q at = inl (refl, sym (some_is at))
set_parts (plan ∷ plans) zero (suc j) x q at = inr at
set_parts (plan ∷ plans) (suc n) zero x q at = inr at
set_parts (plan ∷ plans) (suc n) (suc j) x q at = on (set_parts plans n j x q at)
  where
    on : ((j ≡ n) × (q ≡ x)) ⊎ (slice_get plans j ≡ Some q) → ((suc j ≡ suc n) × (q ≡ x)) ⊎ (slice_get plans j ≡ Some q)
    on (inl both) = inl (ap (λ k. suc k) both.0, both.1)
    on (inr old) = inr old

-- ---- a table that keeps a row

-- The row stands in the stream's table, and each plan of the stream in the load leaves it there.
pub record Keeps (store : Tables) (id : StreamId) (row : RawRow) : Type 0 where
  pub stands : Has row (map row_of (table_in store.streams id).rows)
  pub plans : (n : ℕ) (plan : StreamPlan) → plan_at store n ≡ Some plan → plan.id ≡ id → (plan.minimum ≤ row.generation) × (plan.hidden ≡ true → (table_in store.streams id).marks.floor ≤ row.generation)

-- a change of tables that keeps plans and marks and leaves the row
keeps_changed : (store now : Tables) (id : StreamId) (row : RawRow) → now.plan ≡ store.plan → (table_in now.streams id).marks.floor ≡ (table_in store.streams id).marks.floor → (Has row (map row_of (table_in store.streams id).rows) → Has row (map row_of (table_in now.streams id).rows)) → Keeps store id row → Keeps now id row
keeps_changed store now id row plans floor rows keeps = record {
  stands = rows keeps.stands;
  plans = λ n plan at same. (let old = keeps.plans n plan (ap (λ list. slice_get list n) (sym plans) ∙ at) same in (old.0, λ hides. subst (λ k. k ≤ row.generation) (sym floor) (old.1 hides)));
}

rows_more : (table : StreamTable) (more : List PlacedRow) (row : RawRow) → Has row (map row_of table.rows) → Has row (map row_of (committed_table more table).rows)
rows_more table more row has = subst (λ rows. Has row rows) (sym (map-append row_of table.rows more)) (has_left row (map row_of table.rows) (map row_of more) has)

-- the table of a stream behind a change of one
pub changed_table : (change : StreamTable → StreamTable) (own id : StreamId) (tables : List StreamTable) → KeepsId change → ((own ≡ id) × (table_in (changed change own tables) id ≡ change (table_in tables id))) ⊎ ((same_id own id ≡ false) × (table_in (changed change own tables) id ≡ table_in tables id))
changed_table change own id tables keeps = at (cases_Bool (same_id own id))
  where
    at : (same_id own id ≡ true) ⊎ (same_id own id ≡ false) → ((own ≡ id) × (table_in (changed change own tables) id ≡ change (table_in tables id))) ⊎ ((same_id own id ≡ false) × (table_in (changed change own tables) id ≡ table_in tables id))
    at (inl is) = let same = id_is own id is in inl (same, subst (λ (it : StreamId). table_in (changed change own tables) it ≡ change (table_in tables it)) same (table_own change own tables keeps))
    at (inr other) = inr (other, table_other change own id tables keeps other)

keeps_committed : (store : Tables) (id : StreamId) (row : RawRow) (rows : List RawRow) (found : Option StreamPlan) → Keeps store id row → Keeps (tables_committed found rows store) id row
keeps_committed store id row rows None keeps = keeps
keeps_committed store id row rows (Some plan) keeps = at (changed_table change plan.id id store.streams (λ table. refl))
  where
    change : StreamTable → StreamTable
    change = committed_table (placed_after store.places rows)

    at : ((plan.id ≡ id) × (table_in (changed change plan.id store.streams) id ≡ change (table_in store.streams id))) ⊎ ((same_id plan.id id ≡ false) × (table_in (changed change plan.id store.streams) id ≡ table_in store.streams id)) → Keeps (tables_committed (Some plan) rows store) id row
    at (inl own) = keeps_changed store (tables_committed (Some plan) rows store) id row refl (ap (λ (t : StreamTable). t.marks.floor) own.1) (λ has. subst (λ (t : StreamTable). Has row (map row_of t.rows)) (sym own.1) (rows_more (table_in store.streams id) (placed_after store.places rows) row has)) keeps
    at (inr other) = keeps_changed store (tables_committed (Some plan) rows store) id row refl (ap (λ (t : StreamTable). t.marks.floor) other.1) (λ has. subst (λ (t : StreamTable). Has row (map row_of t.rows)) (sym other.1) has) keeps

pub merged_same : (plan : StreamPlan) (winners : List RawRow) (mark : ℕ) (table : StreamTable) (b : Bool) → plan.hidden ≡ b → ((merged_table plan winners mark table).id ≡ table.id) × ((merged_table plan winners mark table).rows ≡ table.rows) × ((merged_table plan winners mark table).marks ≡ table.marks)
merged_same plan winners mark table true is = rw is (refl, refl, refl)
merged_same plan winners mark table false is = rw is (refl, refl, refl)

keeps_merged : (store : Tables) (id : StreamId) (row : RawRow) (winners : List RawRow) (mark : ℕ) (found : Option StreamPlan) → Keeps store id row → Keeps (tables_merged found winners mark store) id row
keeps_merged store id row winners mark None keeps = keeps
keeps_merged store id row winners mark (Some plan) keeps = at (changed_table (merged_table plan winners mark) plan.id id store.streams (λ table. (merged_same plan winners mark table plan.hidden refl).0))
  where
    at : ((plan.id ≡ id) × (table_in (changed (merged_table plan winners mark) plan.id store.streams) id ≡ merged_table plan winners mark (table_in store.streams id))) ⊎ ((same_id plan.id id ≡ false) × (table_in (changed (merged_table plan winners mark) plan.id store.streams) id ≡ table_in store.streams id)) → Keeps (tables_merged (Some plan) winners mark store) id row
    at (inl own) =
        let same = merged_same plan winners mark (table_in store.streams id) plan.hidden refl in
        keeps_changed store (tables_merged (Some plan) winners mark store) id row refl (ap (λ (t : StreamTable). t.marks.floor) own.1 ∙ ap (λ (m : Marks). m.floor) same.2)
        (λ has. subst (λ (t : StreamTable). Has row (map row_of t.rows)) (sym own.1) (subst (λ rows. Has row (map row_of rows)) (sym same.1) has)) keeps
    at (inr other) = keeps_changed store (tables_merged (Some plan) winners mark store) id row refl (ap (λ (t : StreamTable). t.marks.floor) other.1) (λ has. subst (λ (t : StreamTable). Has row (map row_of t.rows)) (sym other.1) has) keeps

pub shown_is : (plan : StreamPlan) (table : StreamTable) → plan.hidden ≡ true → ((shown_table plan table).rows ≡ filter (is_from (floor_of table.marks.floor plan.minimum)) table.rows) × ((shown_table plan table).marks.floor ≡ floor_of table.marks.floor plan.minimum)
shown_is plan table hides = rw hides (refl, refl)

pub shown_id : (plan : StreamPlan) (table : StreamTable) (b : Bool) → plan.hidden ≡ b → (shown_table plan table).id ≡ table.id
shown_id plan table true is = rw is refl
shown_id plan table false is = rw is refl

keeps_shown : (store : Tables) (id : StreamId) (row : RawRow) (n : ℕ) (plan : StreamPlan) → plan_at store n ≡ Some plan → plan.hidden ≡ true → Keeps store id row → Keeps (tables_shown (Some plan) n store) id row
keeps_shown store id row n plan named hides keeps = at (changed_table (shown_table plan) plan.id id store.streams (λ table. shown_id plan table plan.hidden refl))
  where
    now : Tables
    now = tables_shown (Some plan) n store

    plans_are : (floor : ℕ) → ((table_in store.streams id).marks.floor ≤ row.generation → floor ≤ row.generation) → (plan.id ≡ id → floor ≤ row.generation) → (j : ℕ) (q : StreamPlan) → slice_get (slice_set store.plan n (shown_plan plan)) j ≡ Some q → q.id ≡ id → (q.minimum ≤ row.generation) × (q.hidden ≡ true → floor ≤ row.generation)
    plans_are floor grows own j q at same = on (set_parts store.plan n j (shown_plan plan) q at)
      where
        on : ((j ≡ n) × (q ≡ shown_plan plan)) ⊎ (slice_get store.plan j ≡ Some q) → (q.minimum ≤ row.generation) × (q.hidden ≡ true → floor ≤ row.generation)
        on (inl this) = (subst (λ (it : StreamPlan). it.minimum ≤ row.generation) (sym this.1) (keeps.plans n plan named (ap (λ (it : StreamPlan). it.id) (sym this.1) ∙ same)).0, λ is. absurd (false≢true (ap (λ (it : StreamPlan). it.hidden) (sym this.1) ∙ is)))
        on (inr old) = let was = keeps.plans j q old same in (was.0, λ is. grows (was.1 is))

    at : ((plan.id ≡ id) × (table_in (changed (shown_table plan) plan.id store.streams) id ≡ shown_table plan (table_in store.streams id))) ⊎ ((same_id plan.id id ≡ false) × (table_in (changed (shown_table plan) plan.id store.streams) id ≡ table_in store.streams id)) → Keeps (tables_shown (Some plan) n store) id row
    at (inl own) =
        let is = shown_is plan (table_in store.streams id) hides in
        let was = keeps.plans n plan named own.0 in
        let low = was.0 in
        let above = was.1 hides in
        let most : floor_of (table_in store.streams id).marks.floor plan.minimum ≤ row.generation = omega (arith, low, above) in
        let floor : (table_in now.streams id).marks.floor ≡ floor_of (table_in store.streams id).marks.floor plan.minimum = ap (λ (t : StreamTable). t.marks.floor) own.1 ∙ is.1 in
        record {
          stands = subst (λ (t : StreamTable). Has row (map row_of t.rows)) (sym own.1) (subst (λ rows. Has row (map row_of rows)) (sym is.0) (row_stays (floor_of (table_in store.streams id).marks.floor plan.minimum) (table_in store.streams id).rows row most keeps.stands));
          plans = plans_are (table_in now.streams id).marks.floor (λ old. subst (λ k. k ≤ row.generation) (sym floor) most) (λ same. subst (λ k. k ≤ row.generation) (sym floor) most);
        }
    at (inr other) = record {
      stands = subst (λ (t : StreamTable). Has row (map row_of t.rows)) (sym other.1) keeps.stands;
      plans = plans_are (table_in now.streams id).marks.floor (λ old. subst (λ k. k ≤ row.generation) (ap (λ (t : StreamTable). t.marks.floor) (sym other.1)) old) (λ same. absurd (false≢true (sym other.0 ∙ (ap (λ it. same_id it id) same ∙ id_own id))));
    }

keeps_step : (id : StreamId) (row : RawRow) (events : List Event) (event : Event) → StoreFits events event → is_opening event ≡ false → Keeps (tables_of events) id row → Keeps (tables_after (tables_of events) event) id row
keeps_step id row events (Opened x y z) fits none keeps = absurd (false≢true (sym none))
keeps_step id row events (Committed n rows) fits none keeps = keeps_committed (tables_of events) id row rows (plan_at (tables_of events) n) keeps
keeps_step id row events (Merged n winners mark) fits none keeps = keeps_merged (tables_of events) id row winners mark (plan_at (tables_of events) n) keeps
keeps_step id row events (Shown n floor top) fits none keeps = subst (λ found. Keeps (tables_shown found n (tables_of events)) id row) (sym fits.planned) (keeps_shown (tables_of events) id row n fits.plan fits.planned fits.hidden keeps)
keeps_step id row events (Took x) fits none keeps = keeps
keeps_step id row events TookEnd fits none keeps = keeps
keeps_step id row events (Emitted x) fits none keeps = keeps
keeps_step id row events (Started x) fits none keeps = keeps
keeps_step id row events (ReadLine x) fits none keeps = keeps
keeps_step id row events ReadEnd fits none keeps = keeps
keeps_step id row events (Given x) fits none keeps = keeps
keeps_step id row events Closed fits none keeps = keeps
keeps_step id row events (Got x) fits none keeps = keeps
keeps_step id row events GotEnd fits none keeps = keeps
keeps_step id row events (Saved x) fits none keeps = keeps
keeps_step id row events (Ended x) fits none keeps = keeps

-- behind a commit of the row
pub keeps_first : (id : StreamId) (row : RawRow) (events : List Event) (n : ℕ) (rows : List RawRow) (plan : StreamPlan) → IsStoreRun events → plan_at (tables_of events) n ≡ Some plan → plan.id ≡ id → plan.minimum ≤ row.generation → Has row rows → Keeps (tables_after (tables_of events) (Committed n rows)) id row
keeps_first id row events n rows plan run named same low has = subst (λ found. Keeps (tables_committed found rows (tables_of events)) id row) (sym named) (record {
  stands = subst (λ (t : StreamTable). Has row (map row_of t.rows)) (sym table) (subst (λ list. Has row list) (sym (map-append row_of (table_in store.streams id).rows (placed_after store.places rows))) (has_right row (map row_of (table_in store.streams id).rows) (map row_of (placed_after store.places rows)) (subst (λ list. Has row list) (sym (rows_placed store.places rows)) has)));
  plans = λ j q at own. (
      let is : q ≡ plan = some_is (sym at ∙ (ap (λ k. plan_at store k) ((run_holds id events run).differ j n q plan at named (own ∙ sym same)) ∙ named)) in
      (subst (λ (it : StreamPlan). it.minimum ≤ row.generation) (sym is) low, λ hides. subst (λ (t : StreamTable). t.marks.floor ≤ row.generation) (sym table) (hidden j q at own hides (subst (λ (it : StreamPlan). it.minimum ≤ row.generation) (sym is) low))));
})
  where
    store : Tables
    store = tables_of events

    table : table_in (changed (committed_table (placed_after store.places rows)) plan.id store.streams) id ≡ committed_table (placed_after store.places rows) (table_in store.streams id)
    table = subst (λ (it : StreamId). table_in (changed (committed_table (placed_after store.places rows)) plan.id store.streams) it ≡ committed_table (placed_after store.places rows) (table_in store.streams it)) same (table_own (committed_table (placed_after store.places rows)) plan.id store.streams (λ t. refl))

    hidden : (j : ℕ) (q : StreamPlan) → plan_at store j ≡ Some q → q.id ≡ id → q.hidden ≡ true → q.minimum ≤ row.generation → (table_in store.streams id).marks.floor ≤ row.generation
    hidden j q at own hides less =
        let above : (table_in store.streams id).marks.floor < q.minimum = subst (IsAbove (table_in store.streams id).marks.floor) ((run_holds id events run).kept j q at own hides) (run_holds id events run).table.above in
        omega (arith, above, less)

none_first : (a b : Bool) → (a || b) ≡ false → a ≡ false
none_first true b is = is
none_first false b is = refl

none_rest : (a b : Bool) → (a || b) ≡ false → b ≡ false
none_rest true b is = absurd (false≢true (sym is))
none_rest false b is = is

pub keeps_along : (id : StreamId) (row : RawRow) (before events : List Event) → EachFits StoreFits before events → list_any is_opening events ≡ false → Keeps (tables_of before) id row → Keeps (tables_of (before ++ events)) id row
keeps_along id row before [] fits none keeps = subst (λ trace. Keeps (tables_of trace) id row) (sym (append-nil before)) keeps
keeps_along id row before (event ∷ events) fits none keeps =
    subst (λ trace. Keeps (tables_of trace) id row) (append_assoc before (event ∷ []) events)
    (keeps_along id row (before ++ event ∷ []) events fits.1 (none_rest (is_opening event) (list_any is_opening events) none)
    (subst (λ store. Keeps store id row) (sym (tables_more before event)) (keeps_step id row before event fits.0 (none_first (is_opening event) (list_any is_opening events) none) keeps)))
