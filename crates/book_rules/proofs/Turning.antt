-- What merges of a stream's pages do to a store, and what showing it does.
use Rattle.std.proofs.Common.{arith, ◌≡◌, ◌⊎◌, inl, inr, ℕ, zero, suc, ◌≤◌, max, nat_lt, nat_le, List, [], ◌∷◌, ◌++◌, filter, drop, Option, None, Some, Bool, true, false, cond, ◌&&◌, not, refl, sym, ◌∙◌, ap, subst}
use Rattle.std.specs.Prelude.{IfSome, IsSome, slice_get, slice_set}
use Rattle.std.specs.List.{AllByRecursion}
use Rattle.std.specs.Str.{bytes_eq}
use Rattle.std.proofs.lemmas.Bool.Decides.{nat_tests}
use Rattle.std.proofs.lemmas.Bool.{cases_Bool, cases_eq, false_from_ne_true, false≢true}
use Rattle.basics.specs.Told.{told_more}
use Rattle.catalog.specs.declared.stream.ConfStream.{ConfStream}
use Rattle.outside.specs.Dock.{DockSeen, dock_events}
use Rattle.outside.specs.Tables.{is_from, is_from_to, is_in_shown, merged_table, plan_at, same_id, shown_event, shown_event_for, shown_plan, shown_table, table_in, tables_after, tables_merged, tables_of, tables_shown, unmerged_in}
use Rattle.outside.specs.declared.event.Event.{Event}
use Rattle.outside.specs.declared.event.Event.TheVariants.{Merged}
use Rattle.outside.specs.declared.event.RawRow.{RawRow}
use Rattle.outside.specs.declared.event.StreamPlan.{StreamPlan}
use Rattle.outside.specs.declared.table.PlacedRow.{PlacedRow}
use Rattle.outside.specs.declared.table.StreamTable.{StreamTable}
use Rattle.outside.specs.declared.table.Tables.{Tables}
use Rattle.outside.proofs.TableLaws.{KeepsId, id_is, table_other, table_own}
use Rattle.outside.proofs.ToldLaws.{all_map}
use Rattle.dedup_merge.specs.Merges.{unmerged_at, unmerged_for}
use Rattle.dedup_merge.specs.Pages.{FitsBehind, IsPageMerge, MergesPage}
use Rattle.dedup_merge.proofs.FitLemmas.{tables_next}
use Rattle.dedup_merge.proofs.LeftLemmas.{both_parts, le_from}
use Rattle.load_rules.specs.Lines.{Reading}
use Rattle.load_rules.proofs.RunFronts.{store_merges_fit}
use Rattle.load_rules.proofs.Sides.{IdsDiffer}
use Rattle.book_rules.proofs.Committing.{filter_none}
use Rattle.book_rules.proofs.Lists.{none_some, some_is}
use Rattle.book_rules.proofs.Putting.{all_filter}
use Rattle.book_rules.proofs.Running.{KeepsRunOf, PlansAre, StayRun, of_tables, run_one, told_is}

-- A merge leaves the plans of the load, and the tables of all other streams

merged_keeps : (winners : List RawRow) (mark : ℕ) (table : StreamTable) (h : Bool) (plan : StreamPlan) → plan.hidden ≡ h → (merged_table plan winners mark table).id ≡ table.id
merged_keeps winners mark table true plan hidden = rw hidden refl
merged_keeps winners mark table false plan hidden = rw hidden refl

merged_id : (plan : StreamPlan) (winners : List RawRow) (mark : ℕ) → KeepsId (merged_table plan winners mark)
merged_id plan winners mark table = merged_keeps winners mark table plan.hidden plan refl

shown_keeps : (table : StreamTable) (h : Bool) (plan : StreamPlan) → plan.hidden ≡ h → (shown_table plan table).id ≡ table.id
shown_keeps table true plan hidden = rw hidden refl
shown_keeps table false plan hidden = rw hidden refl

shown_id : (plan : StreamPlan) → KeepsId (shown_table plan)
shown_id plan table = shown_keeps table plan.hidden plan refl

merged_plan : (found : Option StreamPlan) (winners : List RawRow) (mark : ℕ) (store : Tables) → (tables_merged found winners mark store).plan ≡ store.plan
merged_plan None winners mark store = refl
merged_plan (Some plan) winners mark store = refl

apart : (plans : List StreamPlan) (i j : ℕ) (p q : StreamPlan) → IdsDiffer plans → slice_get plans i ≡ Some p → slice_get plans j ≡ Some q → (j ≡ i → ⊥) → same_id p.id q.id ≡ false
apart plans i j p q differ at_i at_j other = at (cases_Bool (same_id p.id q.id))
  where
    at : (same_id p.id q.id ≡ true) ⊎ (same_id p.id q.id ≡ false) → same_id p.id q.id ≡ false
    at (inl same) = absurd (other (sym (differ i j p q at_i at_j (id_is p.id q.id same))))
    at (inr other_id) = other_id

merged_other : (store : Tables) (stream number : ℕ) (winners : List RawRow) (mark : ℕ) (found own : Option StreamPlan) → IdsDiffer store.plan → plan_at store stream ≡ found → plan_at store number ≡ own → (number ≡ stream → ⊥) → unmerged_at (tables_merged found winners mark store) number ≡ unmerged_at store number
merged_other store stream number winners mark None own differ found_is own_is other = refl
merged_other store stream number winners mark (Some p) None differ found_is own_is other = ap (λ (it : Option StreamPlan). unmerged_for it (tables_merged (Some p) winners mark store)) own_is ∙ ap (λ (it : Option StreamPlan). unmerged_for it store) (sym own_is)
merged_other store stream number winners mark (Some p) (Some q) differ found_is own_is other =
    ap (λ (it : Option StreamPlan). unmerged_for it (tables_merged (Some p) winners mark store)) own_is
    ∙ (ap (λ (it : StreamTable). unmerged_in q it) (table_other (merged_table p winners mark) p.id q.id store.streams (merged_id p winners mark) (apart store.plan stream number p q differ found_is own_is other))
    ∙ ap (λ (it : Option StreamPlan). unmerged_for it store) (sym own_is))

drop_nil : {A : Type 0} (n : ℕ) → drop {A = A} n [] ≡ []
drop_nil zero = refl
drop_nil (suc n) = refl

-- where nothing of a stream was left to merge, nothing is behind a page of whatever stream
merged_left : (store : Tables) (stream most number : ℕ) (winners : List RawRow) (mark : ℕ) → IdsDiffer store.plan → IsPageMerge store stream most winners mark → unmerged_at store number ≡ [] → unmerged_at (tables_after store (Merged stream winners mark)) number ≡ []
merged_left store stream most number winners mark differ page none = at (cases_eq number stream)
  where
    at : (number ≡ stream) ⊎ (number ≡ stream → ⊥) → unmerged_at (tables_after store (Merged stream winners mark)) number ≡ []
    at (inl same) = ap (unmerged_at (tables_after store (Merged stream winners mark))) same ∙ (page.left ∙ (ap (λ list. drop most list) (ap (unmerged_at store) (sym same) ∙ none) ∙ drop_nil most))
    at (inr other) = merged_other store stream number winners mark (plan_at store stream) (plan_at store number) differ refl refl other ∙ none

-- nothing of a stream is left to merge, where the trace is told
abbrev pub NoneLeft : ℕ → Option (List Event) → Type 0
NoneLeft number told = IfSome told (λ events. unmerged_at (tables_of events) number ≡ [])

-- Pages of a stream, merged or not

pub record MergeStays (stream : ℕ) (old new : DockSeen) : Type 0 where
  pub plans : (plans : List StreamPlan) → PlansAre plans (dock_events old) → PlansAre plans (dock_events new)
  pub left : (plans : List StreamPlan) → IdsDiffer plans → PlansAre plans (dock_events old) → (number : ℕ) → NoneLeft number (dock_events old) → NoneLeft number (dock_events new)
  pub run : (streams : List ConfStream) (plans : List StreamPlan) → IsSome (slice_get plans stream) → PlansAre plans (dock_events old) → KeepsRunOf streams old new

pub merge_none : (stream : ℕ) (old new : DockSeen) → dock_events new ≡ dock_events old → MergeStays stream old new
merge_none stream old new same = record {
  plans = λ plans are. subst (PlansAre plans) (sym same) are;
  left = λ plans differ are number none. subst (NoneLeft number) (sym same) none;
  run = λ streams plans known are read before now first second reads. subst (StayRun streams read before) (some_is before now (sym first ∙ (sym same ∙ second))) (record { store = λ it. it; fit = λ it. it });
}

merge_plans : (plans : List StreamPlan) (event : Event) (before now : Option (List Event)) → ((store : Tables) → (tables_after store event).plan ≡ store.plan) → now ≡ told_more (event ∷ []) before → PlansAre plans before → PlansAre plans now
merge_plans plans event None now keeps added are = subst (PlansAre plans) (sym added) tt
merge_plans plans event (Some events) now keeps added are = subst (PlansAre plans) (sym added) (ap (λ (store : Tables). store.plan) (tables_next events event) ∙ (keeps (tables_of events) ∙ are))

merge_left : (plans : List StreamPlan) (stream most number : ℕ) (written : List RawRow) (mark : ℕ) (before now : Option (List Event)) → IdsDiffer plans → PlansAre plans before → IfSome before (λ events. IsPageMerge (tables_of events) stream most written mark) → now ≡ told_more (Merged stream written mark ∷ []) before → NoneLeft number before → NoneLeft number now
merge_left plans stream most number written mark None now differ are page added none = subst (NoneLeft number) (sym added) tt
merge_left plans stream most number written mark (Some events) now differ are page added none =
    subst (NoneLeft number) (sym added) (ap (λ (store : Tables). unmerged_at store number) (tables_next events (Merged stream written mark)) ∙ merged_left (tables_of events) stream most number written mark (subst IdsDiffer (sym are) differ) page none)

known_at : (plans : List StreamPlan) (stream : ℕ) (events : List Event) → IsSome (slice_get plans stream) → (tables_of events).plan ≡ plans → IsSome (plan_at (tables_of events) stream)
known_at plans stream events known are = subst (λ (it : List StreamPlan). IsSome (slice_get it stream)) (sym are) known

merge_run : (streams : List ConfStream) (stream : ℕ) (written : List RawRow) (mark : ℕ) (read : Reading) (before now : List Event) → now ≡ before ++ Merged stream written mark ∷ [] → IsSome (plan_at (tables_of before) stream) → FitsBehind stream written mark before → StayRun streams read before now
merge_run streams stream written mark read before now is known fits = subst (StayRun streams read before) (sym is) (run_one streams read before (Merged stream written mark) (λ run. fits known (store_merges_fit before run)) tt)

pub merge_page : (stream most : ℕ) (old new : DockSeen) → MergesPage stream most old new → MergeStays stream old new
merge_page stream most old new m = record {
  plans = λ plans are. merge_plans plans (Merged stream m.written m.mark) (dock_events old) (dock_events new) (λ store. merged_plan (plan_at store stream) m.written m.mark store) m.added are;
  left = λ plans differ are number none. merge_left plans stream most number m.written m.mark (dock_events old) (dock_events new) differ are (of_tables (λ store. IsPageMerge store stream most m.written m.mark) (dock_events old) m.merge) m.added none;
  run = λ streams plans known are read before now first second reads.
      merge_run streams stream m.written m.mark read before now (told_is (Merged stream m.written m.mark ∷ []) before now (dock_events old) (dock_events new) m.added first second)
      (known_at plans stream before known (subst (PlansAre plans) first are))
      (subst (λ (it : Option (List Event)). IfSome it (FitsBehind stream m.written m.mark)) first m.fits);
}

-- Showing a stream that is hidden

shown_plans : (store : Tables) (stream : ℕ) (p : StreamPlan) → plan_at store stream ≡ Some p → (tables_shown (plan_at store stream) stream store).plan ≡ slice_set store.plan stream (shown_plan p)
shown_plans store stream p planned = ap (λ (it : Option StreamPlan). (tables_shown it stream store).plan) planned

le_is : (a b : ℕ) → nat_le a b ≡ true → a ≤ b
le_is a b e = grind (arith, nat_tests)

-- what is left to merge on the hidden side is so on the shown one, which it becomes
not_shown : (mark floor low high : ℕ) (p : PlacedRow) → (nat_lt mark p.place && (is_from_to low high p.row.generation && not (bytes_eq p.row.key []))) ≡ false → (nat_lt mark p.place && (is_in_shown (max floor low) (Some high) p.row.generation && not (bytes_eq p.row.key []))) ≡ false
not_shown mark floor low high p given = false_from_ne_true _ (λ t.
    let outer = both_parts (nat_lt mark p.place) (is_in_shown (max floor low) (Some high) p.row.generation && not (bytes_eq p.row.key [])) t in
    let inner = both_parts (is_in_shown (max floor low) (Some high) p.row.generation) (not (bytes_eq p.row.key [])) outer.1 in
    let range = both_parts (nat_le (max floor low) p.row.generation) (nat_le p.row.generation high) inner.0 in
    let above : max floor low ≤ p.row.generation = le_is (max floor low) p.row.generation range.0 in
    let enough : nat_le low p.row.generation ≡ true = le_from low p.row.generation (omega (arith, above)) in
    let all : (nat_lt mark p.place && ((nat_le low p.row.generation && nat_le p.row.generation high) && not (bytes_eq p.row.key []))) ≡ true = rw (outer.0, enough, range.1, inner.1) refl in
    false≢true (sym given ∙ all))

cons_nil : {A : Type 0} (x : A) (xs : List A) → x ∷ xs ≡ [] → ⊥
cons_nil x xs e = cc

none_in : {A : Type 0} (u : A → Bool) (xs : List A) → filter u xs ≡ [] → AllByRecursion (λ x. u x ≡ false) xs
none_in u [] none = tt
none_in u (x ∷ xs) none = at (u x) refl none (none_in u xs)
  where
    at : (b : Bool) → u x ≡ b → cond b (x ∷ filter u xs) (filter u xs) ≡ [] → (filter u xs ≡ [] → AllByRecursion (λ x. u x ≡ false) xs) → (u x ≡ false) × AllByRecursion (λ x. u x ≡ false) xs
    at true is none rest = absurd (cons_nil x (filter u xs) none)
    at false is none rest = (is, rest none)

-- what is left to merge on the hidden side, and on the shown one that it becomes
abbrev left_hidden : StreamTable → StreamPlan → PlacedRow → Bool
left_hidden table plan p = nat_lt table.hidden.mark p.place && (is_from_to plan.minimum plan.generation p.row.generation && not (bytes_eq p.row.key []))

abbrev left_shown : StreamTable → StreamPlan → PlacedRow → Bool
left_shown table plan p = nat_lt table.hidden.mark p.place && (is_in_shown (max table.marks.floor plan.minimum) (Some plan.generation) p.row.generation && not (bytes_eq p.row.key []))

unmerged_shown : (table : StreamTable) (plan : StreamPlan) → plan.hidden ≡ true → unmerged_in plan table ≡ [] → unmerged_in (shown_plan plan) (shown_table plan table) ≡ []
unmerged_shown table plan hidden none =
    let none_hidden : filter (left_hidden table plan) table.rows ≡ [] = ap (λ (b : Bool). unmerged_in (record plan { hidden = b }) table) (sym hidden) ∙ none in
    let each_hidden : AllByRecursion (λ p. left_hidden table plan p ≡ false) table.rows = none_in (left_hidden table plan) table.rows none_hidden in
    let each_shown : AllByRecursion (λ p. left_shown table plan p ≡ false) table.rows = all_map (λ p. left_hidden table plan p ≡ false) (λ p. left_shown table plan p ≡ false) table.rows (λ p. not_shown table.hidden.mark table.marks.floor plan.minimum plan.generation p) each_hidden in
    let kept = filter (is_from (max table.marks.floor plan.minimum)) table.rows in
    let none_shown : filter (left_shown table plan) kept ≡ [] = filter_none (left_shown table plan) kept (all_filter (λ p. left_shown table plan p ≡ false) (is_from (max table.marks.floor plan.minimum)) table.rows each_shown) in
    ap (λ (b : Bool). unmerged_in (shown_plan plan) (shown_table (record plan { hidden = b }) table)) hidden ∙ none_shown

got_set : (plans : List StreamPlan) (n : ℕ) (p x : StreamPlan) → slice_get plans n ≡ Some p → slice_get (slice_set plans n x) n ≡ Some x
got_set [] n p x at = absurd (none_some p at)
got_set (first ∷ plans) zero p x at = refl
got_set (first ∷ plans) (suc n) p x at = got_set plans n p x at

got_other : (plans : List StreamPlan) (n j : ℕ) (x : StreamPlan) → (j ≡ n → ⊥) → slice_get (slice_set plans n x) j ≡ slice_get plans j
got_other [] n j x other = refl
got_other (first ∷ plans) zero zero x other = absurd (other refl)
got_other (first ∷ plans) zero (suc j) x other = refl
got_other (first ∷ plans) (suc n) zero x other = refl
got_other (first ∷ plans) (suc n) (suc j) x other = got_other plans n j x (λ e. other (ap suc e))

-- a stream that is shown: its plan is that of a stream that is not hidden, and nothing more is left to merge
pub record ShowStays (stream : ℕ) (plan : StreamPlan) (store now : Tables) : Type 0 where
  pub plans : now.plan ≡ slice_set store.plan stream (shown_plan plan)
  pub own_plan : plan_at now stream ≡ Some (shown_plan plan)
  pub own : unmerged_at store stream ≡ [] → unmerged_at now stream ≡ []
  pub other_plan : (number : ℕ) → (number ≡ stream → ⊥) → plan_at now number ≡ plan_at store number
  pub other : (number : ℕ) → (number ≡ stream → ⊥) → unmerged_at now number ≡ unmerged_at store number

show_own : (store : Tables) (stream : ℕ) (plan : StreamPlan) → plan_at store stream ≡ Some plan → plan.hidden ≡ true → unmerged_at store stream ≡ [] → unmerged_at (tables_shown (Some plan) stream store) stream ≡ []
show_own store stream plan planned hidden none =
    ap (λ (it : Option StreamPlan). unmerged_for it (tables_shown (Some plan) stream store)) (got_set store.plan stream plan (shown_plan plan) planned)
    ∙ (ap (λ (it : StreamTable). unmerged_in (shown_plan plan) it) (table_own (shown_table plan) plan.id store.streams (shown_id plan))
    ∙ unmerged_shown (table_in store.streams plan.id) plan hidden (ap (λ (it : Option StreamPlan). unmerged_for it store) (sym planned) ∙ none))

show_other : (store : Tables) (stream number : ℕ) (plan : StreamPlan) (own : Option StreamPlan) → IdsDiffer store.plan → plan_at store stream ≡ Some plan → plan_at store number ≡ own → (number ≡ stream → ⊥) → unmerged_at (tables_shown (Some plan) stream store) number ≡ unmerged_at store number
show_other store stream number plan None differ planned own_is other =
    ap (λ (it : Option StreamPlan). unmerged_for it (tables_shown (Some plan) stream store)) (got_other store.plan stream number (shown_plan plan) other ∙ own_is) ∙ ap (λ (it : Option StreamPlan). unmerged_for it store) (sym own_is)
show_other store stream number plan (Some q) differ planned own_is other =
    ap (λ (it : Option StreamPlan). unmerged_for it (tables_shown (Some plan) stream store)) (got_other store.plan stream number (shown_plan plan) other ∙ own_is)
    ∙ (ap (λ (it : StreamTable). unmerged_in q it) (table_other (shown_table plan) plan.id q.id store.streams (shown_id plan) (apart store.plan stream number plan q differ planned own_is other))
    ∙ ap (λ (it : Option StreamPlan). unmerged_for it store) (sym own_is))

show_stays_some : (store : Tables) (stream : ℕ) (plan : StreamPlan) → IdsDiffer store.plan → plan_at store stream ≡ Some plan → plan.hidden ≡ true → ShowStays stream plan store (tables_shown (Some plan) stream store)
show_stays_some store stream plan differ planned hidden = record {
  plans = refl;
  own_plan = got_set store.plan stream plan (shown_plan plan) planned;
  own = show_own store stream plan planned hidden;
  other_plan = λ number other. got_other store.plan stream number (shown_plan plan) other;
  other = λ number other. show_other store stream number plan (plan_at store number) differ planned refl other;
}

-- the event that shows a stream, and the tables behind it
pub shown_is : (events : List Event) (stream : ℕ) (plan : StreamPlan) → plan_at (tables_of events) stream ≡ Some plan → shown_event (tables_of events) stream ≡ shown_event_for (Some plan) (tables_of events) stream
shown_is events stream plan planned = ap (λ (it : Option StreamPlan). shown_event_for it (tables_of events) stream) planned

pub show_stays : (events : List Event) (stream : ℕ) (plan : StreamPlan) → IdsDiffer (tables_of events).plan → plan_at (tables_of events) stream ≡ Some plan → plan.hidden ≡ true → ShowStays stream plan (tables_of events) (tables_of (events ++ shown_event (tables_of events) stream ∷ []))
show_stays events stream plan differ planned hidden =
    let after : tables_of (events ++ shown_event_for (Some plan) (tables_of events) stream ∷ []) ≡ tables_shown (Some plan) stream (tables_of events) = tables_next events (shown_event_for (Some plan) (tables_of events) stream) ∙ ap (λ (it : Option StreamPlan). tables_shown it stream (tables_of events)) planned in
    subst (λ (it : Event). ShowStays stream plan (tables_of events) (tables_of (events ++ it ∷ []))) (sym (shown_is events stream plan planned)) (subst (ShowStays stream plan (tables_of events)) (sym after) (show_stays_some (tables_of events) stream plan differ planned hidden))
