-- A stream's floor never falls, and what is to be seen of the stream lies above it.
use Rattle.std.proofs.Common.{arith, ◌≡◌, ◌⊎◌, inl, inr, ℕ, ◌≤◌, nat_le, ltb-false, List, [], ◌∷◌, ◌++◌, map, filter, slice_get, Option, None, Some, Bool, true, false, Less, Greater, nat_cmp, refl, sym, ◌∙◌, ap, subst, append_assoc, append-nil}
use Rattle.std.specs.Prelude.{fold, ◌&&◌}
use Rattle.std.specs.Ordering.{ordering_reverse}
use Rattle.std.specs.Str.{bytes_eq}
use Rattle.std.specs.Cmp.Lexicographic.{slice_cmp, nat_list_cmp_total}
use Rattle.std.specs.List.{AllByRecursion}
use Rattle.std.proofs.lemmas.Bool.{false≢true}
use Rattle.std.proofs.lemmas.Bool.Decides.{nat_tests}
use Rattle.std.proofs.lemmas.List.Sorted.{Contains-permutation, IsPermutation-sym}
use Rattle.basics.specs.declared.stream.StreamId.{StreamId}
use Rattle.outside.proofs.TableLaws.{KeepsId, id_own}
use Rattle.outside.proofs.WinnerLaws.{key_is, key_own}
use Rattle.outside.specs.Tables.{same_id, tables_of, tables_after, table_in, plan_at, row_of, is_in_shown, changed, committed_table, placed_after, opened_stream, opened_table, merged_table, shown_table, shown_plan, tables_opened, tables_committed, tables_merged, tables_shown}
use Rattle.outside.specs.Winners.{winner_in}
use Rattle.outside.specs.declared.event.Event.{Event}
use Rattle.outside.specs.declared.event.Event.TheVariants.{Opened, Took, TookEnd, Committed, Emitted, Merged, Shown, Started, ReadLine, ReadEnd, Given, Closed, Got, GotEnd, Saved, Ended}
use Rattle.outside.specs.declared.event.RawRow.{RawRow}
use Rattle.outside.specs.declared.event.StreamPlan.{StreamPlan}
use Rattle.outside.specs.declared.load.Marks.{Marks}
use Rattle.outside.specs.declared.table.StreamTable.{StreamTable}
use Rattle.outside.specs.declared.table.Tables.{Tables}
use Rattle.raw_tables.proofs.StoreLaws.{tables_more}
use Rattle.raw_tables.specs.Visible.{is_seen}
use Rattle.dedup_merge.specs.Winners.{IsKeyBelow, KeysRise, WinsAmong, candidate_row, has_key, is_of_key, rows_of_key}
use Rattle.dedup_merge.proofs.SameRowLemmas.{Has, has_from, has_to, has_passed}
use Rattle.load_rules.specs.Marks.{marks_of, ever_committed, IsSeenOf}
use Rattle.load_rules.specs.Stores.{HidesRight, StoreFits, IsStoreRun}
use Rattle.load_rules.specs.Finished.{is_dedup}
use Rattle.load_rules.proofs.Sides.{along_run}
use Rattle.sync_rules.proofs.KindLemmas.{by_bool, has_back, some_is, some_none}
use Rattle.replay_rules.specs.Laws.{SeenAreAbove, DoneAreAbove}
use Rattle.replay_rules.proofs.Lines.{get_has}
use Rattle.replay_rules.proofs.Keeps.{changed_table, merged_same, shown_id, shown_is, set_parts}

-- ---- floors

abbrev pub floor_in : Tables → StreamId → ℕ
floor_in store id = (table_in store.streams id).marks.floor

opened_floor : (plan : StreamPlan) (table : StreamTable) (b : Bool) → plan.hidden ≡ b → (opened_table plan table).marks.floor ≡ table.marks.floor
opened_floor plan table true is = rw is refl
opened_floor plan table false is = rw is refl

opened_id : (plan : StreamPlan) (table : StreamTable) (b : Bool) → plan.hidden ≡ b → (opened_table plan table).id ≡ table.id
opened_id plan table true is = rw is refl
opened_id plan table false is = rw is refl

le_of : (a b : ℕ) → b ≡ a → a ≤ b
le_of a b is = omega (arith, is)

changed_floor : (change : StreamTable → StreamTable) (own id : StreamId) (tables : List StreamTable) → KeepsId change → ((table : StreamTable) → table.marks.floor ≤ (change table).marks.floor) → (table_in tables id).marks.floor ≤ (table_in (changed change own tables) id).marks.floor
changed_floor change own id tables keeps grows = at (changed_table change own id tables keeps)
  where
    at : ((own ≡ id) × (table_in (changed change own tables) id ≡ change (table_in tables id))) ⊎ ((same_id own id ≡ false) × (table_in (changed change own tables) id ≡ table_in tables id)) → (table_in tables id).marks.floor ≤ (table_in (changed change own tables) id).marks.floor
    at (inl own_is) = subst (λ (it : StreamTable). (table_in tables id).marks.floor ≤ it.marks.floor) (sym own_is.1) (grows (table_in tables id))
    at (inr other) = le_of (table_in tables id).marks.floor (table_in (changed change own tables) id).marks.floor (ap (λ (it : StreamTable). it.marks.floor) other.1)

opened_stays : (plan : StreamPlan) (own id : StreamId) (tables : List StreamTable) → (table_in (changed (opened_table plan) own tables) id).marks.floor ≡ (table_in tables id).marks.floor
opened_stays plan own id tables = at (changed_table (opened_table plan) own id tables (λ table. opened_id plan table plan.hidden refl))
  where
    at : ((own ≡ id) × (table_in (changed (opened_table plan) own tables) id ≡ opened_table plan (table_in tables id))) ⊎ ((same_id own id ≡ false) × (table_in (changed (opened_table plan) own tables) id ≡ table_in tables id)) → (table_in (changed (opened_table plan) own tables) id).marks.floor ≡ (table_in tables id).marks.floor
    at (inl own_is) = ap (λ (it : StreamTable). it.marks.floor) own_is.1 ∙ opened_floor plan (table_in tables id) plan.hidden refl
    at (inr other) = ap (λ (it : StreamTable). it.marks.floor) other.1

all_opened : (plans : List StreamPlan) (tables : List StreamTable) (id : StreamId) → (table_in (fold opened_stream tables plans) id).marks.floor ≡ (table_in tables id).marks.floor
all_opened [] tables id = refl
all_opened (plan ∷ plans) tables id = all_opened plans (opened_stream tables plan) id ∙ opened_stays plan plan.id id tables

floor_committed : (store : Tables) (rows : List RawRow) (found : Option StreamPlan) (id : StreamId) → floor_in store id ≤ floor_in (tables_committed found rows store) id
floor_committed store rows None id = omega arith
floor_committed store rows (Some plan) id = changed_floor (committed_table (placed_after store.places rows)) plan.id id store.streams (λ table. refl) (λ table. omega arith)

floor_merged : (store : Tables) (winners : List RawRow) (mark : ℕ) (found : Option StreamPlan) (id : StreamId) → floor_in store id ≤ floor_in (tables_merged found winners mark store) id
floor_merged store winners mark None id = omega arith
floor_merged store winners mark (Some plan) id = changed_floor (merged_table plan winners mark) plan.id id store.streams (λ table. (merged_same plan winners mark table plan.hidden refl).0)
    (λ table. le_of table.marks.floor (merged_table plan winners mark table).marks.floor (ap (λ (it : Marks). it.floor) (merged_same plan winners mark table plan.hidden refl).2))

shown_floor : (plan : StreamPlan) (table : StreamTable) (b : Bool) → plan.hidden ≡ b → table.marks.floor ≤ (shown_table plan table).marks.floor
shown_floor plan table true is = let same = (shown_is plan table is).1 in omega (arith, same)
shown_floor plan table false is = rw is (omega arith)

floor_shown : (store : Tables) (n : ℕ) (found : Option StreamPlan) (id : StreamId) → floor_in store id ≤ floor_in (tables_shown found n store) id
floor_shown store n None id = omega arith
floor_shown store n (Some plan) id = changed_floor (shown_table plan) plan.id id store.streams (λ table. shown_id plan table plan.hidden refl) (λ table. shown_floor plan table plan.hidden refl)

floor_step : (store : Tables) (event : Event) (id : StreamId) → floor_in store id ≤ floor_in (tables_after store event) id
floor_step store (Opened x y z) id = le_of (floor_in store id) (floor_in (tables_opened x z store) id) (all_opened z store.streams id)
floor_step store (Took x) id = omega arith
floor_step store TookEnd id = omega arith
floor_step store (Committed x y) id = floor_committed store y (plan_at store x) id
floor_step store (Emitted x) id = omega arith
floor_step store (Merged x y z) id = floor_merged store y z (plan_at store x) id
floor_step store (Shown x y z) id = floor_shown store x (plan_at store x) id
floor_step store (Started x) id = omega arith
floor_step store (ReadLine x) id = omega arith
floor_step store ReadEnd id = omega arith
floor_step store (Given x) id = omega arith
floor_step store Closed id = omega arith
floor_step store (Got x) id = omega arith
floor_step store GotEnd id = omega arith
floor_step store (Saved x) id = omega arith
floor_step store (Ended x) id = omega arith

floor_along : (before more : List Event) (id : StreamId) → (marks_of before id).floor ≤ (marks_of (before ++ more) id).floor
floor_along before [] id = le_of (marks_of before id).floor (marks_of (before ++ []) id).floor (ap (λ trace. (marks_of trace id).floor) (append-nil before))
floor_along before (event ∷ more) id =
    let first : (marks_of before id).floor ≤ (marks_of (before ++ event ∷ []) id).floor = subst (λ store. (marks_of before id).floor ≤ floor_in store id) (sym (tables_more before event)) (floor_step (tables_of before) event id) in
    let rest = floor_along (before ++ event ∷ []) more id in
    let same = ap (λ trace. (marks_of trace id).floor) (append_assoc before (event ∷ []) more) in
    omega (arith, first, rest, same)

-- ---- what is seen

le_is : (a b : ℕ) → nat_le a b ≡ true → a ≤ b
le_is a b e = grind (arith, nat_tests)

both_true : (a b : Bool) → (a && b) ≡ true → a ≡ true
both_true true b is = refl
both_true false b is = absurd (false≢true is)

seen_above : (marks : Marks) (row : RawRow) → is_seen marks row ≡ true → marks.floor ≤ row.generation
seen_above marks row seen = at marks.top seen
  where
    at : (top : Option ℕ) → is_in_shown marks.floor top row.generation ≡ true → marks.floor ≤ row.generation
    at None is = absurd (false≢true is)
    at (Some top) is = le_is marks.floor row.generation (both_true (nat_le marks.floor row.generation) (nat_le row.generation top) is)

below_apart : (row other : RawRow) → IsKeyBelow row other → bytes_eq row.key other.key ≡ true → ⊥
below_apart row other less same =
    let is : row.key ≡ other.key = key_is row.key other.key same in
    let own : slice_cmp nat_cmp row.key row.key ≡ Less = subst (λ (key : List ℕ). slice_cmp nat_cmp row.key key ≡ Less) (sym is) less in
    let turned : slice_cmp nat_cmp row.key row.key ≡ Greater = nat_list_cmp_total.antisymm row.key row.key ∙ ap ordering_reverse own in
    let t : Less ≡ Greater = sym own ∙ turned in cc

each_in : {A : Type 0} (P : A → Type 0) (xs : List A) (x : A) → AllByRecursion P xs → Has x xs → P x
each_in P [] x each has = absurd has
each_in P (y ∷ xs) x each (inl is) = subst P is each.0
each_in P (y ∷ xs) x each (inr has) = each_in P xs x each.1 has

-- a winner is that of its key
own_winner : (winners : List RawRow) (row : RawRow) → KeysRise winners → Has row winners → winner_in winners row.key ≡ Some row
own_winner [] row rise has = absurd has
own_winner (first ∷ winners) row rise (inl is) = rw (key_own first.key row.key (ap (λ (it : RawRow). it.key) is)) (ap (λ it. Some it) is)
own_winner (first ∷ winners) row rise (inr has) =
    by_bool (bytes_eq first.key row.key) (λ same. absurd (below_apart first row (each_in (IsKeyBelow first) winners row rise.0 has) same)) (λ other. rw other (own_winner winners row rise.1 has))

all_of : {A : Type 0} (P : A → Type 0) (xs : List A) → ((x : A) → Has x xs → P x) → AllByRecursion P xs
all_of P [] each = tt
all_of P (x ∷ xs) each = (each x (inl refl), all_of P xs (λ y has. each y (inr has)))

won : (rows : List RawRow) (found : Option RawRow) (row : RawRow) → found ≡ Some row → WinsAmong rows found → Has row rows
won rows None row is wins = absurd (some_none (sym is))
won rows (Some other) row is wins = subst (λ list. Has row list) (sym wins.rows_are) (has_back row (map candidate_row wins.before) (wins.winner.row ∷ map candidate_row wins.behind) (inl (wins.is ∙ some_is is)))

-- each row that is to be seen passes
seen_pass : (dedup : Bool) (trace : List Event) (id : StreamId) (rows : List RawRow) → IsSeenOf dedup trace id rows → (row : RawRow) → Has row rows → is_seen (marks_of trace id) row ≡ true
seen_pass true trace id rows seen row has =
    let all = filter (is_seen (marks_of trace id)) (map row_of (ever_committed id trace)) in
    let among = won (rows_of_key row.key (filter has_key all)) (winner_in rows row.key) row (own_winner rows row seen.rise has) (seen.each row.key) in
    let keyed = (has_passed (is_of_key row.key) row (filter has_key all) among).0 in
    (has_passed (is_seen (marks_of trace id)) row (map row_of (ever_committed id trace)) (has_passed has_key row all keyed).0).1
seen_pass false trace id rows seen row has =
    let all = filter (is_seen (marks_of trace id)) (map row_of (ever_committed id trace)) in
    (has_passed (is_seen (marks_of trace id)) row (map row_of (ever_committed id trace)) (has_from all row (Contains-permutation rows all row (IsPermutation-sym all rows seen.are) (has_to rows row has)))).1

pub seen_are_above : SeenAreAbove
seen_are_above before more dedup id rows seen = all_of (λ row. (marks_of before id).floor ≤ row.generation) rows (λ row has.
    (let low = floor_along before more id in let above = seen_above (marks_of (before ++ more) id) row (seen_pass dedup (before ++ more) id rows seen row has) in omega (arith, low, above)))

-- ---- the minimum of a load that hides a stream no more

abbrev pub Minimums : Tables → Type 0
Minimums store = (n : ℕ) (plan : StreamPlan) → plan_at store n ≡ Some plan → plan.hidden ≡ false → plan.minimum ≤ floor_in store plan.id

minimums_kept : (store now : Tables) → now.plan ≡ store.plan → ((id : StreamId) → floor_in store id ≤ floor_in now id) → Minimums store → Minimums now
minimums_kept store now plans_same grows stand n plan at shown = (let low = stand n plan (ap (λ list. slice_get list n) (sym plans_same) ∙ at) shown in let more = grows plan.id in omega (arith, low, more))

committed_plan : (store : Tables) (rows : List RawRow) (found : Option StreamPlan) → (tables_committed found rows store).plan ≡ store.plan
committed_plan store rows None = refl
committed_plan store rows (Some plan) = refl

merged_plan : (store : Tables) (winners : List RawRow) (mark : ℕ) (found : Option StreamPlan) → (tables_merged found winners mark store).plan ≡ store.plan
merged_plan store winners mark None = refl
merged_plan store winners mark (Some plan) = refl

own_minimum : (store : Tables) (number : ℕ) (shown : StreamPlan) → shown.hidden ≡ true → shown.minimum ≤ floor_in (tables_shown (Some shown) number store) shown.id
own_minimum store number shown hides = by (changed_table (shown_table shown) shown.id shown.id store.streams (λ table. shown_id shown table shown.hidden refl))
  where
    by : ((shown.id ≡ shown.id) × (table_in (changed (shown_table shown) shown.id store.streams) shown.id ≡ shown_table shown (table_in store.streams shown.id))) ⊎ ((same_id shown.id shown.id ≡ false) × (table_in (changed (shown_table shown) shown.id store.streams) shown.id ≡ table_in store.streams shown.id)) → shown.minimum ≤ floor_in (tables_shown (Some shown) number store) shown.id
    by (inl own_is) = (let floor = ap (λ (it : StreamTable). it.marks.floor) own_is.1 ∙ (shown_is shown (table_in store.streams shown.id) hides).1 in omega (arith, floor))
    by (inr other) = absurd (false≢true (sym other.0 ∙ id_own shown.id))

minimums_shown : (store : Tables) (number : ℕ) (shown : StreamPlan) → shown.hidden ≡ true → Minimums store → Minimums (tables_shown (Some shown) number store)
minimums_shown store number shown hides stand n plan at open_now = on (set_parts store.plan number n (shown_plan shown) plan at)
  where
    on : ((n ≡ number) × (plan ≡ shown_plan shown)) ⊎ (slice_get store.plan n ≡ Some plan) → plan.minimum ≤ floor_in (tables_shown (Some shown) number store) plan.id
    on (inl own_is) = subst (λ (it : StreamPlan). it.minimum ≤ floor_in (tables_shown (Some shown) number store) it.id) (sym own_is.1) (own_minimum store number shown hides)
    on (inr old) = (let low = stand n plan old open_now in let more = floor_shown store number (Some shown) plan.id in omega (arith, low, more))

minimums_opened : (events : List Event) (load moment : ℕ) (plans : List StreamPlan) → AllByRecursion (HidesRight events) plans → Minimums (tables_after (tables_of events) (Opened load moment plans))
minimums_opened events load moment plans right n plan at shown = (
    let hides = each_in (HidesRight events) plans plan right (get_has plans n plan at) in
    let low : plan.minimum ≤ floor_in (tables_of events) plan.id = ltb-false (floor_in (tables_of events) plan.id) plan.minimum (sym hides ∙ shown) in
    let more = floor_step (tables_of events) (Opened load moment plans) plan.id in
    omega (arith, low, more))

minimums_step : (events : List Event) (event : Event) → StoreFits events event → Minimums (tables_of events) → Minimums (tables_after (tables_of events) event)
minimums_step events (Opened x y z) fits stand = minimums_opened events x y z fits.hidden
minimums_step events (Took x) fits stand = stand
minimums_step events TookEnd fits stand = stand
minimums_step events (Committed x y) fits stand = minimums_kept (tables_of events) (tables_committed (plan_at (tables_of events) x) y (tables_of events)) (committed_plan (tables_of events) y (plan_at (tables_of events) x)) (λ id. floor_committed (tables_of events) y (plan_at (tables_of events) x) id) stand
minimums_step events (Emitted x) fits stand = stand
minimums_step events (Merged x y z) fits stand = minimums_kept (tables_of events) (tables_merged (plan_at (tables_of events) x) y z (tables_of events)) (merged_plan (tables_of events) y z (plan_at (tables_of events) x)) (λ id. floor_merged (tables_of events) y z (plan_at (tables_of events) x) id) stand
minimums_step events (Shown x y z) fits stand = subst (λ found. Minimums (tables_shown found x (tables_of events))) (sym fits.planned) (minimums_shown (tables_of events) x fits.plan fits.hidden stand)
minimums_step events (Started x) fits stand = stand
minimums_step events (ReadLine x) fits stand = stand
minimums_step events ReadEnd fits stand = stand
minimums_step events (Given x) fits stand = stand
minimums_step events Closed fits stand = stand
minimums_step events (Got x) fits stand = stand
minimums_step events GotEnd fits stand = stand
minimums_step events (Saved x) fits stand = stand
minimums_step events (Ended x) fits stand = stand

minimums_next : (events : List Event) (event : Event) → IsStoreRun events → StoreFits events event → Minimums (tables_of events) → Minimums (tables_of (events ++ event ∷ []))
minimums_next events event run fits stand = subst Minimums (sym (tables_more events event)) (minimums_step events event fits stand)

minimums_stand : (trace : List Event) → IsStoreRun trace → Minimums (tables_of trace)
minimums_stand trace run = along_run (λ events. Minimums (tables_of events)) minimums_next [] trace tt run (λ n plan at shown. absurd (some_none (sym at)))

pub done_are_above : DoneAreAbove
done_are_above trace number stream rows run done seen = all_of (λ row. done.plan.minimum ≤ row.generation) rows (λ row has.
    (let low : done.plan.minimum ≤ (marks_of trace stream.id).floor = subst (λ id. done.plan.minimum ≤ (marks_of trace id).floor) done.same (minimums_stand trace run number done.plan done.planned done.shown) in
    let above = seen_above (marks_of trace stream.id) row (seen_pass (is_dedup stream.dest) trace stream.id rows seen row has) in omega (arith, low, above)))
