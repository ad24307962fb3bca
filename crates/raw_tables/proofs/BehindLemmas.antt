-- The rows behind a mark, where places rise.
use Rattle.std.proofs.Common.{◌≡◌, ℕ, ◌<◌, ◌≤◌, zero, suc, List, [], ◌∷◌, ◌++◌, filter, take, drop, length, get_or, Bool, true, false, nat_le, nat_lt, refl, sym, ◌∙◌, ap, arith}
use Rattle.std.specs.List.{AllByRecursion}
use Rattle.std.proofs.lemmas.Bool.Decides.{nat_tests}
use Rattle.std.proofs.lemmas.List.{take-append-drop}
use Rattle.outside.specs.declared.event.StreamPlan.{StreamPlan}
use Rattle.outside.specs.declared.load.Marks.{Marks}
use Rattle.outside.specs.declared.table.PlacedRow.{PlacedRow}
use Rattle.outside.specs.Places.{IsUpTo, IsBehind, PlacesRise}
use Rattle.outside.specs.Tables.{is_unmerged}
use Rattle.raw_tables.proofs.PageLemmas.{filter_both}

abbrev pub stands_up_to : ℕ → PlacedRow → Bool
stands_up_to mark placed = nat_le placed.place mark

le_is : (a b : ℕ) → nat_le a b ≡ true → a ≤ b
le_is a b e = grind (arith, nat_tests)

le_from : (a b : ℕ) → a ≤ b → nat_le a b ≡ true
le_from a b e = grind (arith, nat_tests)

lt_from : (a b : ℕ) → nat_le a b ≡ false → b < a
lt_from a b e = grind (arith, nat_tests)

not_lt : (a b : ℕ) → b ≤ a → nat_lt a b ≡ false
not_lt a b e = grind (arith, nat_tests)

behind_at : (place : ℕ) (rows : List PlacedRow) (j : ℕ) (d : PlacedRow) → AllByRecursion (IsBehind place) rows → j < length rows → place < (get_or rows j d).place
behind_at place [] j d all within = absurd (omega arith)
behind_at place (row ∷ rows) zero d all within = all.0
behind_at place (row ∷ rows) (suc j) d all within = behind_at place rows j d all.1 (omega arith)

rises_at : (rows : List PlacedRow) (i j : ℕ) (d : PlacedRow) → PlacesRise rows → i ≤ j → j < length rows → (get_or rows i d).place ≤ (get_or rows j d).place
rises_at [] i j d rise before within = absurd (omega arith)
rises_at (row ∷ rows) zero zero d rise before within = omega arith
rises_at (row ∷ rows) zero (suc j) d rise before within = let above = behind_at row.place rows j d rise.0 (omega arith) in omega arith
rises_at (row ∷ rows) (suc i) zero d rise before within = absurd (omega arith)
rises_at (row ∷ rows) (suc i) (suc j) d rise before within = rises_at rows i j d rise.1 (omega arith) (omega arith)

-- the rows up to the mark stand in front
pub parted : (mark : ℕ) (rows : List PlacedRow) → PlacesRise rows → (i j : ℕ) (d : PlacedRow) → i ≤ j → j < length rows → stands_up_to mark (get_or rows j d) ≡ true → stands_up_to mark (get_or rows i d) ≡ true
parted mark rows rise i j d before within stands =
    let rises = rises_at rows i j d rise before within in
    let most = le_is (get_or rows j d).place mark stands in
    le_from (get_or rows i d).place mark (omega arith)

pub front_up_to : (mark : ℕ) (rows : List PlacedRow) (i : ℕ) → i ≤ length rows → ((k : ℕ) (d : PlacedRow) → 0 ≤ k → k < i → stands_up_to mark (get_or rows k d) ≡ true) → AllByRecursion (IsUpTo mark) (take i rows)
front_up_to mark [] zero within each = tt
front_up_to mark [] (suc i) within each = tt
front_up_to mark (row ∷ rows) zero within each = tt
front_up_to mark (row ∷ rows) (suc i) within each = (le_is row.place mark (each 0 row (omega arith) (omega arith)), front_up_to mark rows i (omega arith) (λ k d low high. each (suc k) d (omega arith) (omega arith)))

pub rest_behind : (mark : ℕ) (rows : List PlacedRow) (i : ℕ) → ((k : ℕ) (d : PlacedRow) → i ≤ k → k < length rows → stands_up_to mark (get_or rows k d) ≡ false) → AllByRecursion (IsBehind mark) (drop i rows)
rest_behind mark [] zero each = tt
rest_behind mark [] (suc i) each = tt
rest_behind mark (row ∷ rows) zero each = (lt_from row.place mark (each 0 row (omega arith) (omega arith)), rest_behind mark rows zero (λ k d low high. each (suc k) d (omega arith) (omega arith)))
rest_behind mark (row ∷ rows) (suc i) each = rest_behind mark rows i (λ k d low high. each (suc k) d (omega arith) (omega arith))

none_up_to : (plan : StreamPlan) (marks : Marks) (mark : ℕ) (rows : List PlacedRow) → AllByRecursion (IsUpTo mark) rows → filter (is_unmerged plan marks mark) rows ≡ []
none_up_to plan marks mark [] all = refl
none_up_to plan marks mark (row ∷ rows) all =
    let fails : is_unmerged plan marks mark row ≡ false = rw (not_lt mark row.place all.0) refl in
    rw fails (none_up_to plan marks mark rows all.1)

-- no row up to the mark is unmerged
pub unmerged_behind : (plan : StreamPlan) (marks : Marks) (mark i : ℕ) (rows : List PlacedRow) → AllByRecursion (IsUpTo mark) (take i rows) → filter (is_unmerged plan marks mark) (drop i rows) ≡ filter (is_unmerged plan marks mark) rows
unmerged_behind plan marks mark i rows all =
    let test = is_unmerged plan marks mark in
    sym (ap (filter test) (sym (take-append-drop i rows)) ∙ (filter_both test (take i rows) (drop i rows) ∙ ap (λ (front : List PlacedRow). front ++ filter test (drop i rows)) (none_up_to plan marks mark (take i rows) all)))
