-- What is known of every page of a store.
use Rattle.std.proofs.Common.{◌≡◌, ℕ, ◌<◌, ◌≤◌, ◌^◌, zero, suc, List, [], ◌∷◌, map, filter, take, length, Bool, true, false, cond, ◌&&◌, nat_lt, Option, Some, slice_get, slice_index, refl, sym, ap, subst, arith}
use Rattle.std.specs.List.{AllByRecursion}
use Rattle.std.proofs.lemmas.Bool.Decides.{nat_tests}
use Rattle.outside.specs.declared.event.StreamPlan.{StreamPlan}
use Rattle.outside.specs.declared.load.Marks.{Marks}
use Rattle.outside.specs.declared.table.PlacedRow.{PlacedRow}
use Rattle.outside.specs.declared.table.StreamTable.{StreamTable}
use Rattle.outside.specs.declared.table.Tables.{Tables}
use Rattle.outside.specs.Tables.{same_id, table_in, side_of, side_marks_of, plan_at, page_of, page_for, page_in, last_place, unmerged_in, is_unmerged, takes_part, row_of}
use Rattle.outside.specs.Dock.{IsPage, IsPlace}
use Rattle.outside.specs.Places.{IsUpTo}
use Rattle.outside.proofs.PlaceLaws.{all_filtered}
use Rattle.raw_tables.specs.Store.{TableFits, TablesFit}

abbrev IsAbove : ℕ → PlacedRow → Type 0
IsAbove mark placed = mark < placed.place

lt_true : (a b : ℕ) → nat_lt a b ≡ true → a < b
lt_true a b e = grind (arith, nat_tests)

first_true : (a b : Bool) → (a && b) ≡ true → a ≡ true
first_true true b e = refl
first_true false b e = e

all_above : (plan : StreamPlan) (marks : Marks) (mark : ℕ) (rows : List PlacedRow) → AllByRecursion (IsAbove mark) (filter (is_unmerged plan marks mark) rows)
all_above plan marks mark [] = tt
all_above plan marks mark (row ∷ rows) = by_test (is_unmerged plan marks mark row) refl (all_above plan marks mark rows) where
  by_test : (b : Bool) → is_unmerged plan marks mark row ≡ b → AllByRecursion (IsAbove mark) (filter (is_unmerged plan marks mark) rows) → AllByRecursion (IsAbove mark) (filter (is_unmerged plan marks mark) (row ∷ rows))
  by_test true e rest = rw e (lt_true mark row.place (first_true (nat_lt mark row.place) (takes_part plan marks row) e), rest)
  by_test false e rest = rw e rest

all_taken : (P : PlacedRow → Type 0) (n : ℕ) (rows : List PlacedRow) → AllByRecursion P rows → AllByRecursion P (take n rows)
all_taken P zero rows all = tt
all_taken P (suc n) [] all = tt
all_taken P (suc n) (row ∷ rows) all = (all.0, all_taken P n rows all.1)

last_above : (mark from : ℕ) (rows : List PlacedRow) → mark < from → AllByRecursion (IsAbove mark) rows → mark < last_place from rows
last_above mark from [] below all = below
last_above mark from (row ∷ rows) below all = last_above mark row.place rows all.0 all.1

last_of_some : (mark : ℕ) (rows : List PlacedRow) → 0 < length rows → AllByRecursion (IsAbove mark) rows → mark < last_place mark rows
last_of_some mark [] some all = absurd (omega arith)
last_of_some mark (row ∷ rows) some all = last_above mark row.place rows all.0 all.1

last_of_none : (mark : ℕ) (rows : List PlacedRow) → length rows ≡ 0 → last_place mark rows ≡ mark
last_of_none mark [] none = refl
last_of_none mark (row ∷ rows) none = absurd (omega arith)

last_within : (places from : ℕ) (rows : List PlacedRow) → from < 2 ^ 63 → places < 2 ^ 63 → AllByRecursion (IsUpTo places) rows → last_place from rows < 2 ^ 63
last_within places from [] below within all = below
last_within places from (row ∷ rows) below within all = last_within places row.place rows (omega (arith, all.0)) within all.1

length_rows : (rows : List PlacedRow) → length (map row_of rows) ≡ length rows
length_rows [] = refl
length_rows (row ∷ rows) = ap suc (length_rows rows)

length_taken : (n : ℕ) (rows : List PlacedRow) → length (take n rows) ≤ n
length_taken zero rows = omega arith
length_taken (suc n) [] = omega arith
length_taken (suc n) (row ∷ rows) = let rest = length_taken n rows in omega arith

some_taken : (n : ℕ) (rows : List PlacedRow) → 0 < n → 0 < length rows → 0 < length (take n rows)
some_taken zero rows some more = absurd (omega arith)
some_taken (suc n) [] some more = absurd (omega arith)
some_taken (suc n) (row ∷ rows) some more = omega arith

pub fits_in : (places : ℕ) (tables : List StreamTable) (plan : StreamPlan) → AllByRecursion (TableFits places) tables → TableFits places (table_in tables plan.id)
fits_in places [] plan fits = record { shown = omega arith; hidden = omega arith; rows = tt }
fits_in places (table ∷ tables) plan fits = elim (same_id table.id plan.id) as (λ b. TableFits places (cond b table (table_in tables plan.id))) [ true ↦ fits.0 | false ↦ fits_in places tables plan fits.1 ]

pub mark_fits : (places : ℕ) (plan : StreamPlan) (table : StreamTable) → TableFits places table → IsPlace (side_of plan table).mark
mark_fits places plan table fits = elim (plan.hidden) as (λ b. IsPlace (cond b table.hidden table.shown).mark) [ true ↦ fits.hidden | false ↦ fits.shown ]

page_is : (places : ℕ) (plan : StreamPlan) (table : StreamTable) (most : ℕ) → 0 < most → places < 2 ^ 63 → TableFits places table → IsPage (side_of plan table).mark most (page_in plan table most)
page_is places plan table most some within fits =
    let mark = (side_of plan table).mark in
    let left = unmerged_in plan table in
    let count = length_rows (take most left) in
    record {
      place = last_within places mark (take most left) (mark_fits places plan table fits) within (all_taken (IsUpTo places) most left (all_filtered (IsUpTo places) (is_unmerged plan table.marks mark) table.rows fits.rows));
      above = λ more. last_of_some mark (take most left) (omega (arith, count)) (all_taken (IsAbove mark) most left (all_above plan table.marks mark table.rows));
      none = λ empty. last_of_none mark (take most left) (omega (arith, count));
      more = λ t. let lt = lt_true most (length left) t in omega (arith, count, some_taken most left some (omega arith));
      capped = omega (arith, count, length_taken most left);
    }

index_is : (tables : List StreamTable) (plans : List StreamPlan) (stream : ℕ) (plan : StreamPlan) → slice_get plans stream ≡ Some plan → slice_index (map (λ p. (side_of p (table_in tables p.id)).mark) plans) stream ≡ (side_of plan (table_in tables plan.id)).mark
index_is tables [] stream plan at = cc
index_is tables (first ∷ plans) zero plan at = let e : first ≡ plan = cc in ap (λ (p : StreamPlan). (side_of p (table_in tables p.id)).mark) e
index_is tables (first ∷ plans) (suc stream) plan at = index_is tables plans stream plan at

-- the page that a store gives is one behind the mark of its side
pub store_page : (tables : Tables) (stream most : ℕ) (plan : StreamPlan) → TablesFit tables → 0 < most → plan_at tables stream ≡ Some plan → IsPage (slice_index (side_marks_of tables) stream) most (page_of tables stream most)
store_page tables stream most plan fits some at =
    let table = table_in tables.streams plan.id in
    let page = page_is tables.places plan table most some fits.places (fits_in tables.places tables.streams plan fits.streams) in
    let behind : IsPage (slice_index (side_marks_of tables) stream) most (page_in plan table most) = subst (λ (m : ℕ). IsPage m most (page_in plan table most)) (sym (index_is tables.streams tables.plan stream plan at)) page in
    subst (λ (p : Option StreamPlan). IsPage (slice_index (side_marks_of tables) stream) most (page_for p tables most)) (sym at) behind
