-- Which rows a merge of a page merged, and which it left.
use Rattle.std.proofs.Common.{◌≡◌, ℕ, ◌<◌, ◌≤◌, zero, suc, List, [], ◌∷◌, filter, take, drop, Bool, true, false, ◌&&◌, nat_lt, nat_le, Option, None, Some, refl, sym, ◌∙◌, ap, arith}
use Rattle.std.specs.List.{AllByRecursion}
use Rattle.std.proofs.lemmas.Bool.Decides.{nat_tests}
use Rattle.outside.specs.declared.event.RawRow.{RawRow}
use Rattle.outside.specs.declared.event.StreamPlan.{StreamPlan}
use Rattle.outside.specs.declared.load.Marks.{Marks}
use Rattle.outside.specs.declared.table.PlacedRow.{PlacedRow}
use Rattle.outside.specs.declared.table.StreamTable.{StreamTable}
use Rattle.outside.specs.declared.table.Tables.{Tables}
use Rattle.outside.specs.Places.{IsBehind, PlacesRise, TablesRise}
use Rattle.outside.specs.Tables.{table_in, side_of, merged_table, merged_side, tables_merged, plan_at, is_unmerged, takes_part, unmerged_in, last_place, page_for, page_of, winners_for}
use Rattle.outside.specs.Winners.{put_winners}
use Rattle.outside.proofs.PlaceLaws.{rise_filtered, rise_in}
use Rattle.outside.proofs.TableLaws.{table_own}
use Rattle.dedup_merge.specs.Merges.{unmerged_for, unmerged_at, parts_for, mark_for, is_between}

-- Tests

pub lt_is : (a b : ℕ) → nat_lt a b ≡ true → a < b
lt_is a b e = grind (arith, nat_tests)

pub lt_from : (a b : ℕ) → a < b → nat_lt a b ≡ true
lt_from a b e = grind (arith, nat_tests)

not_lt : (a b : ℕ) → b ≤ a → nat_lt a b ≡ false
not_lt a b e = grind (arith, nat_tests)

lt_fails : (a b : ℕ) → nat_lt a b ≡ false → b ≤ a
lt_fails a b e = grind (arith, nat_tests)

pub le_from : (a b : ℕ) → a ≤ b → nat_le a b ≡ true
le_from a b e = grind (arith, nat_tests)

not_le : (a b : ℕ) → b < a → nat_le a b ≡ false
not_le a b e = grind (arith, nat_tests)

pub both_parts : (a b : Bool) → (a && b) ≡ true → (a ≡ true) × (b ≡ true)
both_parts true true e = (refl, refl)
both_parts true false e = absurd (cc)
both_parts false b e = absurd (cc)

pub stands_behind : ℕ → PlacedRow → Bool
stands_behind mark placed = nat_lt mark placed.place

-- Filters

filter_and : (first second : PlacedRow → Bool) (rows : List PlacedRow) → filter (λ p. first p && second p) rows ≡ filter first (filter second rows)
filter_and first second [] = refl
filter_and first second (p ∷ rows) = by_tests (first p) (second p) refl refl (filter_and first second rows) where
  by_tests : (a b : Bool) → first p ≡ a → second p ≡ b → filter (λ p. first p && second p) rows ≡ filter first (filter second rows) → filter (λ p. first p && second p) (p ∷ rows) ≡ filter first (filter second (p ∷ rows))
  by_tests true true e f rest = rw (e, f, e) (ap (λ (ps : List PlacedRow). p ∷ ps) rest)
  by_tests true false e f rest = rw (e, f) rest
  by_tests false true e f rest = rw (e, f, e) rest
  by_tests false false e f rest = rw (e, f) rest

-- what is unmerged at a later mark
further_on : (plan : StreamPlan) (marks : Marks) (old new : ℕ) (rows : List PlacedRow) → old ≤ new → filter (is_unmerged plan marks new) rows ≡ filter (λ (p : PlacedRow). nat_lt new p.place) (filter (is_unmerged plan marks old) rows)
further_on plan marks old new [] le = refl
further_on plan marks old new (p ∷ rows) le = by_tests (nat_lt old p.place) (nat_lt new p.place) (takes_part plan marks p) refl refl refl (further_on plan marks old new rows le) where
  by_tests : (a b c : Bool) → nat_lt old p.place ≡ a → nat_lt new p.place ≡ b → takes_part plan marks p ≡ c → filter (is_unmerged plan marks new) rows ≡ filter (λ (p : PlacedRow). nat_lt new p.place) (filter (is_unmerged plan marks old) rows)
      → filter (is_unmerged plan marks new) (p ∷ rows) ≡ filter (λ (p : PlacedRow). nat_lt new p.place) (filter (is_unmerged plan marks old) (p ∷ rows))
  by_tests true true true e f g rest = rw (e, g, f) (ap (λ (qs : List PlacedRow). p ∷ qs) rest)
  by_tests true false true e f g rest = rw (e, g, f) rest
  by_tests true true false e f g rest = rw (e, f, g) rest
  by_tests true false false e f g rest = rw (e, f, g) rest
  by_tests false true c e f g rest = absurd (let q = lt_is new p.place f in let r = lt_fails old p.place e in omega (arith, q, r, le))
  by_tests false false c e f g rest = rw (e, f) rest

above_mark : (plan : StreamPlan) (marks : Marks) (mark : ℕ) (rows : List PlacedRow) → AllByRecursion (IsBehind mark) (filter (is_unmerged plan marks mark) rows)
above_mark plan marks mark [] = tt
above_mark plan marks mark (row ∷ rows) = by_test (is_unmerged plan marks mark row) refl (above_mark plan marks mark rows) where
  by_test : (b : Bool) → is_unmerged plan marks mark row ≡ b → AllByRecursion (IsBehind mark) (filter (is_unmerged plan marks mark) rows) → AllByRecursion (IsBehind mark) (filter (is_unmerged plan marks mark) (row ∷ rows))
  by_test true e rest = rw e (lt_is mark row.place (both_parts (nat_lt mark row.place) (takes_part plan marks row) e).0, rest)
  by_test false e rest = rw e rest

-- The last place of a front

last_least : (n start : ℕ) (rows : List PlacedRow) → AllByRecursion (IsBehind start) rows → PlacesRise rows → start ≤ last_place start (take n rows)
last_least zero start rows behind rise = omega arith
last_least (suc n) start [] behind rise = omega arith
last_least (suc n) start (p ∷ rows) behind rise = let rest = last_least n p.place rows rise.0 rise.1 in let first = behind.0 in omega (arith, rest, first)

all_behind : (start : ℕ) (rows : List PlacedRow) → AllByRecursion (IsBehind start) rows → filter (λ (p : PlacedRow). nat_lt start p.place) rows ≡ rows
all_behind start [] behind = refl
all_behind start (p ∷ rows) behind = let t = lt_from start p.place behind.0 in rw t (ap (λ (ps : List PlacedRow). p ∷ ps) (all_behind start rows behind.1))

none_up_to : (start : ℕ) (rows : List PlacedRow) → AllByRecursion (IsBehind start) rows → filter (λ (p : PlacedRow). nat_le p.place start) rows ≡ []
none_up_to start [] behind = refl
none_up_to start (p ∷ rows) behind = let f = not_le p.place start behind.0 in rw f (none_up_to start rows behind.1)

rest_is : (n start : ℕ) (rows : List PlacedRow) → AllByRecursion (IsBehind start) rows → PlacesRise rows → filter (λ (p : PlacedRow). nat_lt (last_place start (take n rows)) p.place) rows ≡ drop n rows
rest_is zero start rows behind rise = all_behind start rows behind
rest_is (suc n) start [] behind rise = refl
rest_is (suc n) start (p ∷ rows) behind rise =
    let least = last_least n p.place rows rise.0 rise.1 in
    let f = not_lt (last_place p.place (take n rows)) p.place least in
    rw f (rest_is n p.place rows rise.0 rise.1)

front_is : (n start : ℕ) (rows : List PlacedRow) → AllByRecursion (IsBehind start) rows → PlacesRise rows → filter (λ (p : PlacedRow). nat_le p.place (last_place start (take n rows))) rows ≡ take n rows
front_is zero start rows behind rise = none_up_to start rows behind
front_is (suc n) start [] behind rise = refl
front_is (suc n) start (p ∷ rows) behind rise =
    let least = last_least n p.place rows rise.0 rise.1 in
    let t = le_from p.place (last_place p.place (take n rows)) least in
    rw t (ap (λ (ps : List PlacedRow). p ∷ ps) (front_is n p.place rows rise.0 rise.1))

-- behind the last row of a page stands what was unmerged behind the page
left_of : (plan : StreamPlan) (marks : Marks) (mark n : ℕ) (rows : List PlacedRow) → PlacesRise rows → filter (is_unmerged plan marks (last_place mark (take n (filter (is_unmerged plan marks mark) rows)))) rows ≡ drop n (filter (is_unmerged plan marks mark) rows)
left_of plan marks mark n rows rise =
    let us = filter (is_unmerged plan marks mark) rows in
    let above = above_mark plan marks mark rows in
    let rising = rise_filtered (is_unmerged plan marks mark) rows rise in
    further_on plan marks mark (last_place mark (take n us)) rows (last_least n mark us above rising) ∙ rest_is n mark us above rising

-- and up to it the page
pub page_between : (plan : StreamPlan) (marks : Marks) (mark n : ℕ) (rows : List PlacedRow) → PlacesRise rows → filter (is_between plan marks mark (last_place mark (take n (filter (is_unmerged plan marks mark) rows)))) rows ≡ take n (filter (is_unmerged plan marks mark) rows)
page_between plan marks mark n rows rise =
    let us = filter (is_unmerged plan marks mark) rows in
    let above = above_mark plan marks mark rows in
    let rising = rise_filtered (is_unmerged plan marks mark) rows rise in
    filter_and (λ (p : PlacedRow). nat_le p.place (last_place mark (take n us))) (is_unmerged plan marks mark) rows ∙ front_is n mark us above rising

-- A table that was merged into

module _ (plan : StreamPlan) (winners : List RawRow) (mark : ℕ) (table : StreamTable) where
  pub merged_id : (b : Bool) → plan.hidden ≡ b → (merged_table plan winners mark table).id ≡ table.id
  merged_id true e = rw e
  merged_id false e = rw e

  merged_marks : (b : Bool) → plan.hidden ≡ b → (merged_table plan winners mark table).marks ≡ table.marks
  merged_marks true e = rw e
  merged_marks false e = rw e

  merged_rows : (b : Bool) → plan.hidden ≡ b → (merged_table plan winners mark table).rows ≡ table.rows
  merged_rows true e = rw e
  merged_rows false e = rw e

  merged_own : (b : Bool) → plan.hidden ≡ b → side_of plan (merged_table plan winners mark table) ≡ merged_side winners mark (side_of plan table)
  merged_own true e = rw e
  merged_own false e = rw e

  pub marks_are : (merged_table plan winners mark table).marks ≡ table.marks
  marks_are = merged_marks plan.hidden refl

  pub rows_are : (merged_table plan winners mark table).rows ≡ table.rows
  rows_are = merged_rows plan.hidden refl

  pub own_is : side_of plan (merged_table plan winners mark table) ≡ merged_side winners mark (side_of plan table)
  own_is = merged_own plan.hidden refl

drop_none : {A : Type 0} (n : ℕ) → drop {A = A} n [] ≡ []
drop_none zero = refl
drop_none (suc n) = refl

module _ (store : Tables) (stream : ℕ) (written : List RawRow) (mark : ℕ) where
  pub plan_kept : (plan : Option StreamPlan) → plan_at (tables_merged plan written mark store) stream ≡ plan_at store stream
  plan_kept None = refl
  plan_kept (Some plan) = refl

  module _ (plan : StreamPlan) where
    own_table : table_in (tables_merged (Some plan) written mark store).streams plan.id ≡ merged_table plan written mark (table_in store.streams plan.id)
    own_table = table_own (merged_table plan written mark) plan.id store.streams (λ t. merged_id plan written mark t plan.hidden refl)

    pub winners_some : winners_for (Some plan) (tables_merged (Some plan) written mark store) ≡ put_winners (winners_for (Some plan) store) written
    winners_some = ap (λ (t : StreamTable). (side_of plan t).winners) own_table ∙ ap (λ (s : _). s.winners) (own_is plan written mark (table_in store.streams plan.id))

    pub mark_some : mark_for (Some plan) (tables_merged (Some plan) written mark store) ≡ mark
    mark_some = ap (λ (t : StreamTable). (side_of plan t).mark) own_table ∙ ap (λ (s : _). s.mark) (own_is plan written mark (table_in store.streams plan.id))

    pub parts_some : parts_for (Some plan) (tables_merged (Some plan) written mark store) ≡ parts_for (Some plan) store
    parts_some =
        let table = table_in store.streams plan.id in
        let here : StreamTable = merged_table plan written mark table in
        ap (λ (t : StreamTable). filter (takes_part plan t.marks) t.rows) own_table
        ∙ (ap (λ (m : Marks). filter (takes_part plan m) here.rows) (marks_are plan written mark table) ∙ ap (filter (takes_part plan table.marks)) (rows_are plan written mark table))

    -- at the end of the page
    pub left_some : (most : ℕ) → TablesRise store → mark ≡ (page_for (Some plan) store most).mark → unmerged_for (Some plan) (tables_merged (Some plan) written mark store) ≡ drop most (unmerged_for (Some plan) store)
    left_some most rise ends =
        let table = table_in store.streams plan.id in
        let here : StreamTable = merged_table plan written mark table in
        let own = (side_of plan table).mark in
        ap (unmerged_in plan) own_table
        ∙ (ap (λ (m : Marks). filter (is_unmerged plan m (side_of plan here).mark) here.rows) (marks_are plan written mark table)
        ∙ (ap (λ (rs : List PlacedRow). filter (is_unmerged plan table.marks (side_of plan here).mark) rs) (rows_are plan written mark table)
        ∙ (ap (λ (m : ℕ). filter (is_unmerged plan table.marks m) table.rows) (ap (λ (s : _). s.mark) (own_is plan written mark table) ∙ ends)
        ∙ left_of plan table.marks own most table.rows (rise_in store.places store.streams plan.id rise).rise)))

-- what was unmerged behind the page is left
pub left_at : (store : Tables) (stream most : ℕ) (written : List RawRow) (mark : ℕ) → TablesRise store → mark ≡ (page_of store stream most).mark → unmerged_at (tables_merged (plan_at store stream) written mark store) stream ≡ drop most (unmerged_at store stream)
left_at store stream most written mark rise ends = by_plan (plan_at store stream) refl where
  by_plan : (plan : Option StreamPlan) → plan_at store stream ≡ plan → unmerged_at (tables_merged (plan_at store stream) written mark store) stream ≡ drop most (unmerged_at store stream)
  by_plan None at =
      let before : unmerged_at store stream ≡ [] = ap (λ (p : Option StreamPlan). unmerged_for p store) at in
      let after : unmerged_at (tables_merged (plan_at store stream) written mark store) stream ≡ [] = ap (λ (p : Option StreamPlan). unmerged_at (tables_merged p written mark store) stream) at ∙ before in
      after ∙ sym (ap (drop most) before ∙ drop_none most)
  by_plan (Some plan) at =
      let here : mark ≡ (page_for (Some plan) store most).mark = ends ∙ ap (λ (p : Option StreamPlan). (page_for p store most).mark) at in
      ap (λ (p : Option StreamPlan). unmerged_at (tables_merged p written mark store) stream) at
      ∙ (ap (λ (p : Option StreamPlan). unmerged_for p (tables_merged (Some plan) written mark store)) at
      ∙ (left_some store stream written mark plan most rise here ∙ ap (λ (p : Option StreamPlan). drop most (unmerged_for p store)) (sym at)))
