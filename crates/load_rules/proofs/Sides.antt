-- Along a run of a store the load's side of each stream stands with what was merged into it.
use Rattle.std.proofs.Common.{arith, ◌≡◌, ◌⊎◌, inl, inr, ℕ, zero, suc, ◌≤◌, nat_lt, List, [], ◌∷◌, ◌++◌, map, filter, fold, Option, None, Some, Bool, true, false, cond, refl, sym, ◌∙◌, ap, subst, append_assoc}
use Rattle.std.specs.Prelude.{slice_get, slice_set, Contains}
use Rattle.std.specs.List.{AllByRecursion}
use Rattle.std.proofs.lemmas.List.{append-nil}
use Rattle.std.proofs.lemmas.List.Sums.{fold-append}
use Rattle.std.proofs.lemmas.Bool.{cases_Bool, false≢true}
use Rattle.basics.specs.declared.stream.StreamId.{StreamId}
use Rattle.outside.specs.declared.event.Event.{Event}
use Rattle.outside.specs.declared.event.Event.TheVariants.{Opened, Took, TookEnd, Committed, Emitted, Merged, Shown, Started, ReadLine, ReadEnd, Given, Closed, Got, GotEnd, Saved, Ended}
use Rattle.outside.specs.declared.event.RawRow.{RawRow}
use Rattle.outside.specs.declared.event.StreamPlan.{StreamPlan}
use Rattle.outside.specs.declared.table.PlacedRow.{PlacedRow}
use Rattle.outside.specs.declared.table.StreamTable.{StreamTable}
use Rattle.outside.specs.declared.table.Tables.{Tables}
use Rattle.outside.specs.Dock.{HasOwnIds, HasOtherId}
use Rattle.outside.specs.Tables.{no_tables, tables_of, tables_after, tables_committed, tables_merged, tables_shown, table_in, changed, same_id, opened_stream, opened_table, opened_hidden, opened_shown, committed_table, placed_after, merged_table, shown_table, shown_hidden, shown_plan, plan_at, takes_part, side_of, row_of}
use Rattle.outside.proofs.TableLaws.{KeepsId, id_is, id_own, table_own, table_other}
use Rattle.dedup_merge.specs.Merges.{MergedRows, merged_on, rows_opened, rows_merged, rows_shown, own_plan, plan_of, rows_after, merging_of, merged_for, mark_for, parts_for}
use Rattle.dedup_merge.proofs.SameRowLemmas.{has_from, has_to, has_kept, has_passed}
use Rattle.dedup_merge.proofs.FitLemmas.{tables_next, merged_next}
use Rattle.dedup_merge.proofs.SideLemmas.{sides_at, side_fits}
use Rattle.load_rules.specs.Prefixes.{EachFits}
use Rattle.load_rules.specs.Marks.{Past, own_rows, rows_in, past_after, ever_committed}
use Rattle.load_rules.specs.Stores.{HidesRight, OpenedFits, StoreFits, IsStoreRun}
use Rattle.load_rules.specs.Laws.{SidesStand}
use Rattle.load_rules.proofs.TakenLists.{each_more}
use Rattle.load_rules.proofs.RunFronts.{store_merges_fit}
use Rattle.load_rules.proofs.SideHolds.{Holds, FromRow, TableHolds, kept_part, has_row, opened_holds, committed_holds, merged_holds, shown_holds}

-- Plans

-- no two numbers have one id
abbrev pub IdsDiffer : List StreamPlan → Type 0
IdsDiffer plans = (i j : ℕ) (p q : StreamPlan) → slice_get plans i ≡ Some p → slice_get plans j ≡ Some q → p.id ≡ q.id → i ≡ j

some_is : {A : Type 0} {x y : A} → Some x ≡ Some y → x ≡ y
some_is e = cc

none_some : {A : Type 0} {x : A} → None ≡ Some x → ⊥
none_some e = cc

other_id : (id : StreamId) (plans : List StreamPlan) (j : ℕ) (q : StreamPlan) → AllByRecursion (HasOtherId id) plans → slice_get plans j ≡ Some q → id ≡ q.id → ⊥
other_id id [] j q apart at same = none_some at
other_id id (plan ∷ plans) zero q apart at same = false≢true (sym apart.0 ∙ (ap (λ (it : StreamPlan). same_id it.id id) (some_is at) ∙ (ap (λ it. same_id it id) (sym same) ∙ id_own id)))
other_id id (plan ∷ plans) (suc j) q apart at same = other_id id plans j q apart.1 at same

pub ids_differ : (plans : List StreamPlan) → HasOwnIds plans → IdsDiffer plans
ids_differ [] own i j p q a b same = absurd (none_some a)
ids_differ (plan ∷ plans) own zero zero p q a b same = refl
ids_differ (plan ∷ plans) own zero (suc j) p q a b same = absurd (other_id plan.id plans j q own.0 b (ap (λ (it : StreamPlan). it.id) (some_is a) ∙ same))
ids_differ (plan ∷ plans) own (suc i) zero p q a b same = absurd (other_id plan.id plans i p own.0 a (ap (λ (it : StreamPlan). it.id) (some_is b) ∙ sym same))
ids_differ (plan ∷ plans) own (suc i) (suc j) p q a b same = ap (λ n. suc n) (ids_differ plans own.1 i j p q a b same)

-- a plan of the list is that of its id
pub plan_found : (plans : List StreamPlan) (i : ℕ) (p : StreamPlan) (id : StreamId) → HasOwnIds plans → slice_get plans i ≡ Some p → p.id ≡ id → plan_of id plans ≡ Some p
plan_found [] i p id own at same = absurd (none_some at)
plan_found (plan ∷ plans) zero p id own at same = rw (ap (λ (it : StreamPlan). same_id it.id id) (some_is at) ∙ (ap (λ it. same_id it id) same ∙ id_own id)) at
plan_found (plan ∷ plans) (suc i) p id own at same = at_test (cases_Bool (same_id plan.id id)) (plan_found plans i p id own.1 at same)
  where
    at_test : (same_id plan.id id ≡ true) ⊎ (same_id plan.id id ≡ false) → plan_of id plans ≡ Some p → plan_of id (plan ∷ plans) ≡ Some p
    at_test (inl is) rest = absurd (other_id plan.id plans i p own.0 at (id_is plan.id id is ∙ sym same))
    at_test (inr other) rest = rw other rest

set_cases : (plans : List StreamPlan) (n j : ℕ) (x q : StreamPlan) → slice_get (slice_set plans n x) j ≡ Some q → ((j ≡ n) × (q ≡ x)) ⊎ ((j ≡ n → ⊥) × (slice_get plans j ≡ Some q))
set_cases [] n j x q at = absurd (none_some at)
set_cases (plan ∷ plans) zero zero x q at = inl (refl, sym (some_is at))
set_cases (plan ∷ plans) zero (suc j) x q at = inr ((λ e. omega (arith, e)), at)
set_cases (plan ∷ plans) (suc n) zero x q at = inr ((λ e. omega (arith, e)), at)
set_cases (plan ∷ plans) (suc n) (suc j) x q at = on (set_cases plans n j x q at)
  where
    on : ((j ≡ n) × (q ≡ x)) ⊎ ((j ≡ n → ⊥) × (slice_get plans j ≡ Some q)) → ((suc j ≡ suc n) × (q ≡ x)) ⊎ ((suc j ≡ suc n → ⊥) × (slice_get plans j ≡ Some q))
    on (inl both) = inl (ap (λ k. suc k) both.0, both.1)
    on (inr old) = inr ((λ e. old.0 (omega (arith, e))), old.1)

set_differ : (plans : List StreamPlan) (n : ℕ) (p x : StreamPlan) → slice_get plans n ≡ Some p → x.id ≡ p.id → IdsDiffer plans → IdsDiffer (slice_set plans n x)
set_differ plans n p x found same differ i j a b at_i at_j ids = at (set_cases plans n i x a at_i) (set_cases plans n j x b at_j)
  where
    at : ((i ≡ n) × (a ≡ x)) ⊎ ((i ≡ n → ⊥) × (slice_get plans i ≡ Some a)) → ((j ≡ n) × (b ≡ x)) ⊎ ((j ≡ n → ⊥) × (slice_get plans j ≡ Some b)) → i ≡ j
    at (inl first) (inl second) = first.0 ∙ sym second.0
    at (inl first) (inr old) = first.0 ∙ differ n j p b found old.1 (sym same ∙ (ap (λ (it : StreamPlan). it.id) (sym first.1) ∙ ids))
    at (inr old) (inl second) = differ i n a p old.1 found (ids ∙ (ap (λ (it : StreamPlan). it.id) second.1 ∙ same)) ∙ sym second.0
    at (inr old) (inr other) = differ i j a b old.1 other.1 ids

-- The state of a run

-- a stream that its load hides has its hidden side kept for the plan
abbrev pub KeepsFor : Tables → StreamId → Type 0
KeepsFor store id = (n : ℕ) (plan : StreamPlan) → plan_at store n ≡ Some plan → plan.id ≡ id → plan.hidden ≡ true → (table_in store.streams id).hidden_for ≡ Some (record { low = plan.minimum; high = plan.generation })

pub record RunHolds (id : StreamId) (store : Tables) (merged : MergedRows) (ever : List PlacedRow) : Type 0 where
  pub table : TableHolds (table_in store.streams id) merged ever
  pub differ : IdsDiffer store.plan
  pub kept : KeepsFor store id

opened_id : (plan : StreamPlan) (table : StreamTable) → (opened_table plan table).id ≡ table.id
opened_id plan table = elim (plan.hidden) as (λ b. (cond b (opened_hidden plan table) (opened_shown plan table)).id ≡ table.id) [ true ↦ refl | false ↦ refl ]

merged_id : (winners : List RawRow) (mark : ℕ) (table : StreamTable) (i : StreamId) (d : Bool) (g m : ℕ) (h : Bool) → (merged_table (record { id = i; dedup = d; generation = g; minimum = m; hidden = h }) winners mark table).id ≡ table.id
merged_id winners mark table i d g m true = refl
merged_id winners mark table i d g m false = refl

merged_kept : (winners : List RawRow) (mark : ℕ) (table : StreamTable) (i : StreamId) (d : Bool) (g m : ℕ) (h : Bool) → (merged_table (record { id = i; dedup = d; generation = g; minimum = m; hidden = h }) winners mark table).hidden_for ≡ table.hidden_for
merged_kept winners mark table i d g m true = refl
merged_kept winners mark table i d g m false = refl

shown_id : (plan : StreamPlan) (table : StreamTable) → (shown_table plan table).id ≡ table.id
shown_id plan table = elim (plan.hidden) as (λ b. (cond b (shown_hidden plan table) table).id ≡ table.id) [ true ↦ refl | false ↦ refl ]

own_table : (change : StreamTable → StreamTable) (own id : StreamId) (tables : List StreamTable) → KeepsId change → own ≡ id → table_in (changed change own tables) id ≡ change (table_in tables id)
own_table change own id tables keeps same = subst (λ (i : StreamId). table_in (changed change own tables) i ≡ change (table_in tables i)) same (table_own change own tables keeps)

abbrev opened_as : Option StreamPlan → StreamTable → StreamTable
opened_as None table = table
opened_as (Some plan) table = opened_table plan table

none_of : (id : StreamId) (plans : List StreamPlan) → AllByRecursion (HasOtherId id) plans → plan_of id plans ≡ None
none_of id [] apart = refl
none_of id (plan ∷ plans) apart = rw apart.0 (none_of id plans apart.1)

opened_in : (plans : List StreamPlan) (tables : List StreamTable) (id : StreamId) → HasOwnIds plans → table_in (fold opened_stream tables plans) id ≡ opened_as (plan_of id plans) (table_in tables id)
opened_in [] tables id own = refl
opened_in (plan ∷ plans) tables id own = at (cases_Bool (same_id plan.id id)) (opened_in plans (opened_stream tables plan) id own.1)
  where
    at : (same_id plan.id id ≡ true) ⊎ (same_id plan.id id ≡ false) → table_in (fold opened_stream (opened_stream tables plan) plans) id ≡ opened_as (plan_of id plans) (table_in (opened_stream tables plan) id) → table_in (fold opened_stream tables (plan ∷ plans)) id ≡ opened_as (plan_of id (plan ∷ plans)) (table_in tables id)
    at (inl is) rest =
        let same : plan.id ≡ id = id_is plan.id id is in
        let none : plan_of id plans ≡ None = none_of id plans (subst (λ (i : StreamId). AllByRecursion (HasOtherId i) plans) same own.0) in
        rw is (rest ∙ (ap (λ (p : Option StreamPlan). opened_as p (table_in (opened_stream tables plan) id)) none ∙ own_table (opened_table plan) plan.id id tables (opened_id plan) same))
    at (inr other) rest = rw other (rest ∙ ap (opened_as (plan_of id plans)) (table_other (opened_table plan) plan.id id tables (opened_id plan) other))

abbrev HidesIn : StreamTable → Option StreamPlan → Type 0
HidesIn table None = Unit {0}
HidesIn table (Some plan) = plan.hidden ≡ nat_lt table.marks.floor plan.minimum

hides_in : (events : List Event) (id : StreamId) (plans : List StreamPlan) → AllByRecursion (HidesRight events) plans → HidesIn (table_in (tables_of events).streams id) (plan_of id plans)
hides_in events id [] right = tt
hides_in events id (plan ∷ plans) right = at (cases_Bool (same_id plan.id id)) (hides_in events id plans right.1)
  where
    at : (same_id plan.id id ≡ true) ⊎ (same_id plan.id id ≡ false) → HidesIn (table_in (tables_of events).streams id) (plan_of id plans) → HidesIn (table_in (tables_of events).streams id) (plan_of id (plan ∷ plans))
    at (inl is) rest = rw is (subst (λ (i : StreamId). plan.hidden ≡ nat_lt (table_in (tables_of events).streams i).marks.floor plan.minimum) (id_is plan.id id is) right.0)
    at (inr other) rest = rw other rest

table_opened : (table : StreamTable) (merged : MergedRows) (ever : List PlacedRow) (found : Option StreamPlan) → HidesIn table found → TableHolds table merged ever → TableHolds (opened_as found table) (rows_opened found table merged) ever
table_opened table merged ever None hides holds = holds
table_opened table merged ever (Some plan) hides holds = opened_holds table merged ever plan.id plan.dedup plan.generation plan.minimum plan.hidden hides holds

hidden_is : (table : StreamTable) (i : StreamId) (d : Bool) (g m : ℕ) (h : Bool) → h ≡ true → (opened_table (record { id = i; dedup = d; generation = g; minimum = m; hidden = h }) table).hidden_for ≡ Some (record { low = m; high = g })
hidden_is table i d g m true is = refl
hidden_is table i d g m false is = absurd (false≢true is)

run_opened : (id : StreamId) (events : List Event) (merged : MergedRows) (ever : List PlacedRow) (load moment : ℕ) (plans : List StreamPlan) → OpenedFits events load plans → RunHolds id (tables_of events) merged ever → RunHolds id (tables_after (tables_of events) (Opened load moment plans)) (rows_after id (tables_of events) merged (Opened load moment plans)) ever
run_opened id events merged ever load moment plans fits holds =
    let store = tables_of events in
    let opened = opened_in plans store.streams id fits.own in
    record {
      table = subst (λ table. TableHolds table (rows_opened (plan_of id plans) (table_in store.streams id) merged) ever) (sym opened) (table_opened (table_in store.streams id) merged ever (plan_of id plans) (hides_in events id plans fits.hidden) holds.table);
      differ = ids_differ plans fits.own;
      kept = λ n plan at same hides. ap (λ (table : StreamTable). table.hidden_for) (opened ∙ ap (λ found. opened_as found (table_in store.streams id)) (plan_found plans n plan id fits.own at same)) ∙ hidden_is (table_in store.streams id) plan.id plan.dedup plan.generation plan.minimum plan.hidden hides;
    }

-- a change of tables that keeps what they were opened for
run_changed : (id : StreamId) (store now : Tables) (merged after : MergedRows) (ever more : List PlacedRow) → now.plan ≡ store.plan → (table_in now.streams id).hidden_for ≡ (table_in store.streams id).hidden_for → TableHolds (table_in now.streams id) after more → RunHolds id store merged ever → RunHolds id now after more
run_changed id store now merged after ever more plans kept table holds = record {
  table = table;
  differ = subst IdsDiffer (sym plans) holds.differ;
  kept = λ n plan at same hides. kept ∙ holds.kept n plan (ap (λ list. slice_get list n) (sym plans) ∙ at) same hides;
}

run_committed : (id : StreamId) (store : Tables) (merged : MergedRows) (ever : List PlacedRow) (rows : List RawRow) (found : Option StreamPlan) → (table_in store.streams id).shown.mark ≤ store.places → (table_in store.streams id).hidden.mark ≤ store.places → RunHolds id store merged ever → RunHolds id (tables_committed found rows store) merged (ever ++ own_rows id store.places rows found)
run_committed id store merged ever rows None shown_in hidden_in holds = subst (RunHolds id store merged) (sym (append-nil ever)) holds
run_committed id store merged ever rows (Some plan) shown_in hidden_in holds = at (cases_Bool (same_id plan.id id))
  where
    change : StreamTable → StreamTable
    change = committed_table (placed_after store.places rows)

    now : Tables
    now = tables_committed (Some plan) rows store

    at : (same_id plan.id id ≡ true) ⊎ (same_id plan.id id ≡ false) → RunHolds id (tables_committed (Some plan) rows store) merged (ever ++ own_rows id store.places rows (Some plan))
    at (inl is) =
        let same = own_table (committed_table (placed_after store.places rows)) plan.id id store.streams (λ t. refl) (id_is plan.id id is) in
        rw is (run_changed id store now merged merged ever (ever ++ placed_after store.places rows) refl (ap (λ (t : StreamTable). t.hidden_for) same) (subst (λ table. TableHolds table merged (ever ++ placed_after store.places rows)) (sym same) (committed_holds (table_in store.streams id) merged ever store.places rows shown_in hidden_in holds.table)) holds)
    at (inr other) =
        let same = table_other (committed_table (placed_after store.places rows)) plan.id id store.streams (λ t. refl) other in
        rw (other, append-nil ever) (run_changed id store now merged merged ever ever refl (ap (λ (t : StreamTable). t.hidden_for) same) (subst (λ table. TableHolds table merged ever) (sym same) holds.table) holds)

run_merged : (id : StreamId) (store : Tables) (merged : MergedRows) (ever : List PlacedRow) (n : ℕ) (winners : List RawRow) (mark : ℕ) (found : Option StreamPlan) → plan_at store n ≡ found → RunHolds id store merged ever → RunHolds id (tables_merged found winners mark store) (rows_merged (own_plan id found) mark (table_in store.streams id) merged) ever
run_merged id store merged ever n winners mark None named holds = holds
run_merged id store merged ever n winners mark (Some plan) named holds = at (cases_Bool (same_id plan.id id))
  where
    keeps : KeepsId (merged_table plan winners mark)
    keeps t = merged_id winners mark t plan.id plan.dedup plan.generation plan.minimum plan.hidden

    at : (same_id plan.id id ≡ true) ⊎ (same_id plan.id id ≡ false) → RunHolds id (tables_merged (Some plan) winners mark store) (rows_merged (own_plan id (Some plan)) mark (table_in store.streams id) merged) ever
    at (inl is) =
        let same = own_table (merged_table plan winners mark) plan.id id store.streams keeps (id_is plan.id id is) in
        let table = merged_holds (table_in store.streams id) merged ever winners mark plan.id plan.dedup plan.generation plan.minimum plan.hidden (λ hides. holds.kept n plan named (id_is plan.id id is) hides) holds.table in
        rw is (run_changed id store (tables_merged (Some plan) winners mark store) merged (rows_merged (Some plan) mark (table_in store.streams id) merged) ever ever refl (ap (λ (t : StreamTable). t.hidden_for) same ∙ merged_kept winners mark (table_in store.streams id) plan.id plan.dedup plan.generation plan.minimum plan.hidden) (subst (λ t. TableHolds t (rows_merged (Some plan) mark (table_in store.streams id) merged) ever) (sym same) table) holds)
    at (inr other) =
        let same = table_other (merged_table plan winners mark) plan.id id store.streams keeps other in
        rw other (run_changed id store (tables_merged (Some plan) winners mark store) merged merged ever ever refl (ap (λ (t : StreamTable). t.hidden_for) same) (subst (λ t. TableHolds t merged ever) (sym same) holds.table) holds)

run_shown : (id : StreamId) (store : Tables) (merged : MergedRows) (ever : List PlacedRow) (n : ℕ) (plan : StreamPlan) → plan_at store n ≡ Some plan → plan.hidden ≡ true → RunHolds id store merged ever → RunHolds id (tables_shown (Some plan) n store) (rows_shown (own_plan id (Some plan)) merged) ever
run_shown id store merged ever n plan named hides holds = record {
  table = at (cases_Bool (same_id plan.id id));
  differ = set_differ store.plan n plan (shown_plan plan) named refl holds.differ;
  kept = λ j other found same hidden. behind j other (set_cases store.plan n j (shown_plan plan) other found) same hidden (cases_Bool (same_id plan.id id));
}
  where
    change : StreamTable → StreamTable
    change = shown_table plan

    at : (same_id plan.id id ≡ true) ⊎ (same_id plan.id id ≡ false) → TableHolds (table_in (changed (shown_table plan) plan.id store.streams) id) (rows_shown (own_plan id (Some plan)) merged) ever
    at (inl is) =
        let same = own_table (shown_table plan) plan.id id store.streams (shown_id plan) (id_is plan.id id is) in
        rw is (subst (λ t. TableHolds t (rows_shown (Some plan) merged) ever) (sym same) (shown_holds (table_in store.streams id) merged ever plan.id plan.dedup plan.generation plan.minimum plan.hidden hides (holds.kept n plan named (id_is plan.id id is) hides) holds.table))
    at (inr other) =
        let same = table_other (shown_table plan) plan.id id store.streams (shown_id plan) other in
        rw other (subst (λ t. TableHolds t merged ever) (sym same) holds.table)

    behind : (j : ℕ) (other : StreamPlan) → ((j ≡ n) × (other ≡ shown_plan plan)) ⊎ ((j ≡ n → ⊥) × (slice_get store.plan j ≡ Some other)) → other.id ≡ id → other.hidden ≡ true → (same_id plan.id id ≡ true) ⊎ (same_id plan.id id ≡ false) → (table_in (changed (shown_table plan) plan.id store.streams) id).hidden_for ≡ Some (record { low = other.minimum; high = other.generation })
    behind j other (inl shown) same hidden own = absurd (false≢true (sym (ap (λ (it : StreamPlan). it.hidden) shown.1) ∙ hidden))
    behind j other (inr old) same hidden (inl is) = absurd (old.0 (holds.differ j n other plan old.1 named (same ∙ sym (id_is plan.id id is))))
    behind j other (inr old) same hidden (inr apart) = ap (λ (t : StreamTable). t.hidden_for) (table_other (shown_table plan) plan.id id store.streams (shown_id plan) apart) ∙ holds.kept j other old.1 same hidden

-- Events

abbrev pub HoldsAt : StreamId → List Event → Type 0
HoldsAt id events = RunHolds id (tables_of events) (merging_of id events).merged (ever_committed id events)

past_tables : (id : StreamId) (events : List Event) (past : Past) → (fold (past_after id) past events).tables ≡ fold tables_after past.tables events
past_tables id [] past = refl
past_tables id (event ∷ events) past = past_tables id events (past_after id past event)

pub ever_next : (id : StreamId) (events : List Event) (event : Event) → ever_committed id (events ++ event ∷ []) ≡ ever_committed id events ++ rows_in id (tables_of events) event
ever_next id events event =
    let first : Past = record { tables = no_tables; rows = [] } in
    ap (λ (past : Past). past.rows) (fold-append (past_after id) first events (event ∷ []))
    ∙ ap (λ tables. ever_committed id events ++ rows_in id tables event) (past_tables id events first)

shown_at : (id : StreamId) (store : Tables) (merged : MergedRows) (ever : List PlacedRow) (n : ℕ) (plan : StreamPlan) (found : Option StreamPlan) → found ≡ Some plan → plan_at store n ≡ Some plan → plan.hidden ≡ true → RunHolds id store merged ever → RunHolds id (tables_shown found n store) (rows_shown (own_plan id found) merged) ever
shown_at id store merged ever n plan found is named hides holds = subst (λ found. RunHolds id (tables_shown found n store) (rows_shown (own_plan id found) merged) ever) (sym is) (run_shown id store merged ever n plan named hides holds)

step_holds : (id : StreamId) (events : List Event) (event : Event) → IsStoreRun events → StoreFits events event → HoldsAt id events → RunHolds id (tables_after (tables_of events) event) (rows_after id (tables_of events) (merging_of id events).merged event) (ever_committed id events ++ rows_in id (tables_of events) event)
step_holds id events (Opened load moment plans) run fits holds = subst (RunHolds id (tables_after (tables_of events) (Opened load moment plans)) (rows_after id (tables_of events) (merging_of id events).merged (Opened load moment plans))) (sym (append-nil (ever_committed id events))) (run_opened id events (merging_of id events).merged (ever_committed id events) load moment plans fits holds)
step_holds id events (Committed n rows) run fits holds =
    let sides = sides_at id events (store_merges_fit events run) in
    run_committed id (tables_of events) (merging_of id events).merged (ever_committed id events) rows (plan_at (tables_of events) n) sides.shown.within sides.hidden.within holds
step_holds id events (Merged n winners mark) run fits holds = subst (RunHolds id (tables_after (tables_of events) (Merged n winners mark)) (rows_after id (tables_of events) (merging_of id events).merged (Merged n winners mark))) (sym (append-nil (ever_committed id events))) (run_merged id (tables_of events) (merging_of id events).merged (ever_committed id events) n winners mark (plan_at (tables_of events) n) refl holds)
step_holds id events (Shown n floor top) run fits holds = subst (RunHolds id (tables_after (tables_of events) (Shown n floor top)) (rows_after id (tables_of events) (merging_of id events).merged (Shown n floor top))) (sym (append-nil (ever_committed id events))) (shown_at id (tables_of events) (merging_of id events).merged (ever_committed id events) n fits.plan (plan_at (tables_of events) n) fits.planned fits.planned fits.hidden holds)
step_holds id events (Took x) run fits holds = subst (RunHolds id (tables_of events) (merging_of id events).merged) (sym (append-nil (ever_committed id events))) holds
step_holds id events TookEnd run fits holds = subst (RunHolds id (tables_of events) (merging_of id events).merged) (sym (append-nil (ever_committed id events))) holds
step_holds id events (Emitted x) run fits holds = subst (RunHolds id (tables_of events) (merging_of id events).merged) (sym (append-nil (ever_committed id events))) holds
step_holds id events (Started x) run fits holds = subst (RunHolds id (tables_of events) (merging_of id events).merged) (sym (append-nil (ever_committed id events))) holds
step_holds id events (ReadLine x) run fits holds = subst (RunHolds id (tables_of events) (merging_of id events).merged) (sym (append-nil (ever_committed id events))) holds
step_holds id events ReadEnd run fits holds = subst (RunHolds id (tables_of events) (merging_of id events).merged) (sym (append-nil (ever_committed id events))) holds
step_holds id events (Given x) run fits holds = subst (RunHolds id (tables_of events) (merging_of id events).merged) (sym (append-nil (ever_committed id events))) holds
step_holds id events Closed run fits holds = subst (RunHolds id (tables_of events) (merging_of id events).merged) (sym (append-nil (ever_committed id events))) holds
step_holds id events (Got x) run fits holds = subst (RunHolds id (tables_of events) (merging_of id events).merged) (sym (append-nil (ever_committed id events))) holds
step_holds id events GotEnd run fits holds = subst (RunHolds id (tables_of events) (merging_of id events).merged) (sym (append-nil (ever_committed id events))) holds
step_holds id events (Saved x) run fits holds = subst (RunHolds id (tables_of events) (merging_of id events).merged) (sym (append-nil (ever_committed id events))) holds
step_holds id events (Ended x) run fits holds = subst (RunHolds id (tables_of events) (merging_of id events).merged) (sym (append-nil (ever_committed id events))) holds

next_holds : (id : StreamId) (events : List Event) (event : Event) → IsStoreRun events → StoreFits events event → HoldsAt id events → HoldsAt id (events ++ event ∷ [])
next_holds id events event run fits holds =
    subst (λ store. RunHolds id store (merging_of id (events ++ event ∷ [])).merged (ever_committed id (events ++ event ∷ []))) (sym (tables_next events event))
    (subst (λ merged. RunHolds id (tables_after (tables_of events) event) merged (ever_committed id (events ++ event ∷ []))) (sym (merged_next id events event))
    (subst (RunHolds id (tables_after (tables_of events) event) (rows_after id (tables_of events) (merging_of id events).merged event)) (sym (ever_next id events event)) (step_holds id events event run fits holds)))

-- what holds at first and goes on by each event that fits, holds behind a run
pub along_run : (P : List Event → Type 0) → ((events : List Event) (event : Event) → IsStoreRun events → StoreFits events event → P events → P (events ++ event ∷ [])) → (before rest : List Event) → IsStoreRun before → EachFits StoreFits before rest → P before → P (before ++ rest)
along_run P step before [] run fits here = subst P (sym (append-nil before)) here
along_run P step before (event ∷ rest) run fits here = subst P (append_assoc before (event ∷ []) rest) (along_run P step (before ++ event ∷ []) rest (each_more StoreFits [] before event run fits.0) fits.1 (step before event run fits.0 here))

first_holds : (id : StreamId) → HoldsAt id []
first_holds id = record {
  table = record {
    shown = record { all = λ p there takes low. absurd there; none = λ row there. absurd there };
    hidden = record { all = λ p there takes low. absurd there; none = λ row there. absurd there };
    above = tt;
    placed = λ p there. absurd there;
    same = refl;
  };
  differ = λ i j p q a b same. absurd (none_some a);
  kept = λ n plan at same hides. absurd (none_some at);
}

pub run_holds : (id : StreamId) (trace : List Event) → IsStoreRun trace → HoldsAt id trace
run_holds id trace run = along_run (HoldsAt id) (next_holds id) [] trace tt run (first_holds id)

-- The load's side

side_holds : (table : StreamTable) (merged : MergedRows) (ever : List PlacedRow) (i : StreamId) (d : Bool) (g m : ℕ) (h : Bool) → (h ≡ true → table.hidden_for ≡ Some (record { low = m; high = g })) → TableHolds table merged ever
    → Holds (takes_part (record { id = i; dedup = d; generation = g; minimum = m; hidden = h }) table.marks) table.rows (side_of (record { id = i; dedup = d; generation = g; minimum = m; hidden = h }) table).mark (merged_on (record { id = i; dedup = d; generation = g; minimum = m; hidden = h }) merged)
side_holds table merged ever i d g m true kept holds = subst (λ kept. Holds (kept_part kept) table.rows table.hidden.mark merged.hidden) (kept refl) holds.hidden
side_holds table merged ever i d g m false kept holds = holds.shown

row_there : (test : PlacedRow → Bool) (rows : List PlacedRow) (row : RawRow) → FromRow test rows row → Contains (map row_of (filter test rows)) row
row_there test rows row f = subst (Contains (map row_of (filter test rows))) f.is (has_to (map row_of (filter test rows)) f.placed.row (has_row f.placed (filter test rows) (has_kept test f.placed rows f.there f.takes)))

pub sides_stand : SidesStand
sides_stand trace stream run = record {
  winners_are = (side_fits trace stream (store_merges_fit trace run)).0;
  all_up_to = λ placed there low. all (plan_at (tables_of trace) stream) refl placed there low;
  no_other = λ row there. none (plan_at (tables_of trace) stream) refl row there;
}
  where
    side : (plan : StreamPlan) → plan_at (tables_of trace) stream ≡ Some plan → Holds (takes_part plan (table_in (tables_of trace).streams plan.id).marks) (table_in (tables_of trace).streams plan.id).rows (side_of plan (table_in (tables_of trace).streams plan.id)).mark (merged_on plan (merging_of plan.id trace).merged)
    side plan at =
        let holds = run_holds plan.id trace run in
        side_holds (table_in (tables_of trace).streams plan.id) (merging_of plan.id trace).merged (ever_committed plan.id trace) plan.id plan.dedup plan.generation plan.minimum plan.hidden (λ hides. holds.kept stream plan at refl hides) holds.table

    all : (found : Option StreamPlan) → plan_at (tables_of trace) stream ≡ found → (placed : PlacedRow) → Contains (parts_for found (tables_of trace)) placed → placed.place ≤ mark_for found (tables_of trace) → Contains (merged_for found trace) placed.row
    all None at placed there low = absurd (has_from [] placed there)
    all (Some plan) at placed there low =
        let table = table_in (tables_of trace).streams plan.id in
        let own = has_passed (takes_part plan table.marks) placed table.rows (has_from (filter (takes_part plan table.marks) table.rows) placed there) in
        has_to (merged_on plan (merging_of plan.id trace).merged) placed.row ((side plan at).all placed own.0 own.1 low)

    none : (found : Option StreamPlan) → plan_at (tables_of trace) stream ≡ found → (row : RawRow) → Contains (merged_for found trace) row → Contains (map row_of (parts_for found (tables_of trace))) row
    none None at row there = absurd (has_from [] row there)
    none (Some plan) at row there =
        let table = table_in (tables_of trace).streams plan.id in
        row_there (takes_part plan table.marks) table.rows row ((side plan at).none row (has_from (merged_on plan (merging_of plan.id trace).merged) row there))
