-- Pages of rows in order.
use Rattle.std.proofs.Common.{IsTrue, ◌↔◌, Option, IfSome, unwrap_or, append_assoc, append-nil, subst, length, ◌-◌, Some, None, slice_get, ◌≡◌, ◌∷◌, ◌++◌, ◌<◌, ◌≤◌, ◌^◌, ℕ, List, [], take, zero, suc, Bool, true, false, cond, nat_lt, refl, sym, ◌∙◌, ap, arith}
use Rattle.std.proofs.lemmas.List.{length-take}
use Rattle.std.proofs.lemmas.Bool.Decides.{nat_tests}
use Rattle.std.proofs.lemmas.Option.{none-some}
use Rattle.outside.specs.Rows.{IsPage, RowsByTable, AreRising, rows_after, is_after}
use Rattle.row_store.specs.Pages.{SoFar, last_id_of}
use Rattle.outside.specs.declared.line.NumberedRow.{NumberedRow}

lt_is : (a b : ℕ) → a < b → nat_lt a b ≡ true
lt_is a b h = grind (arith, nat_tests)

not_lt : (a b : ℕ) → b ≤ a → nat_lt a b ≡ false
not_lt a b h = grind (arith, nat_tests)

-- all of rising rows stand behind an id below theirs
all_after : (rows : List NumberedRow) (before after : ℕ) → AreRising rows before → after ≤ before → rows_after after rows ≡ rows
all_after [] before after rising h = refl
all_after (row ∷ rows) before after rising h =
    let passes : is_after after row ≡ true = lt_is after row.id (omega (arith, h, rising.above)) in
    let first : rows_after after (row ∷ rows) ≡ row ∷ rows_after after rows = rw passes in
    first ∙ ap (λ (found : List NumberedRow). row ∷ found) (all_after rows row.id after rising.others (omega (arith, h, rising.above)))

last_above : (rows : List NumberedRow) (before : ℕ) → AreRising rows before → before ≤ last_id_of rows before
last_above [] before rising = omega arith
last_above (row ∷ rows) before rising = omega (arith, rising.above, last_above rows row.id rising.others)

taken_rise : (count : ℕ) (rows : List NumberedRow) (before : ℕ) → AreRising rows before → AreRising (take count rows) before
taken_rise zero rows before rising = tt
taken_rise (suc count) [] before rising = tt
taken_rise (suc count) (row ∷ rows) before rising = record { above = rising.above; small = rising.small; others = taken_rise count rows row.id rising.others }

-- the first of rising rows, and those behind the last of them
split : (count : ℕ) (rows : List NumberedRow) (before : ℕ) → AreRising rows before → rows ≡ take count rows ++ rows_after (last_id_of (take count rows) before) rows
split zero rows before rising = sym (all_after rows before before rising (omega arith))
split (suc count) [] before rising = refl
split (suc count) (row ∷ rows) before rising =
    let last = last_id_of (take count rows) row.id in
    let fails : is_after last row ≡ false = not_lt last row.id (last_above (take count rows) row.id (taken_rise count rows row.id rising.others)) in
    let first : rows_after last (row ∷ rows) ≡ rows_after last rows = rw fails in
    ap (λ (found : List NumberedRow). row ∷ found) (split count rows row.id rising.others) ∙ ap (λ (found : List NumberedRow). row ∷ (take count rows ++ found)) (sym first)

-- an id that rows rise from takes them all behind what stood before it
behind : (rows more : List NumberedRow) (before : ℕ) → AreRising rows before → AreRising more (last_id_of rows before) → AreRising (rows ++ more) before
behind [] more before rising others = others
behind (row ∷ rows) more before rising others = record { above = rising.above; small = rising.small; others = behind rows more row.id rising.others others }

-- the last of rows gives their last id
pub last_is : (rows : List NumberedRow) (before : ℕ) (row : NumberedRow) → slice_get rows (length rows - 1) ≡ Some row → row.id ≡ last_id_of rows before
last_is [] before row found = absurd (none-some row found)
last_is (first ∷ []) before row found = ap (λ (r : Option NumberedRow). (unwrap_or r first).id) (sym found)
last_is (first ∷ second ∷ rows) before row found =
    let place : length (first ∷ second ∷ rows) - 1 ≡ suc (length (second ∷ rows) - 1) = omega arith in
    last_is (second ∷ rows) first.id row (ap (slice_get (first ∷ second ∷ rows)) (sym place) ∙ found)

kept_first : (first : ℕ) (row : NumberedRow) (rows : List NumberedRow) → is_after first row ≡ true → rows_after first (row ∷ rows) ≡ row ∷ rows_after first rows
kept_first first row rows passes = rw passes

dropped_first : (first : ℕ) (row : NumberedRow) (rows : List NumberedRow) → is_after first row ≡ false → rows_after first (row ∷ rows) ≡ rows_after first rows
dropped_first first row rows fails = rw fails

both : (first last : ℕ) (row : NumberedRow) (rows : List NumberedRow) → rows_after last (rows_after first rows) ≡ rows_after last rows → rows_after last (row ∷ rows_after first rows) ≡ rows_after last (row ∷ rows)
both first last row rows same = ap (λ (found : List NumberedRow). cond (is_after last row) (row ∷ found) found) same

below : (first last : ℕ) (row : NumberedRow) → is_after first row ≡ false → first ≤ last → row.id ≤ last
below first last row fails h = grind (arith, nat_tests)

-- the rows behind an id and then behind a later one
later : (rows : List NumberedRow) (first last : ℕ) → first ≤ last → rows_after last (rows_after first rows) ≡ rows_after last rows
later [] first last h = refl
later (row ∷ rows) first last h = elim (is_after first row) as (λ b. is_after first row ≡ b → rows_after last (rows_after first (row ∷ rows)) ≡ rows_after last (row ∷ rows)) [
  | true ↦ λ passes. ap (rows_after last) (kept_first first row rows passes) ∙ both first last row rows (later rows first last h)
  | false ↦ λ fails. ap (rows_after last) (dropped_first first row rows fails) ∙ (later rows first last h ∙ sym (dropped_first last row rows (not_lt last row.id (below first last row fails h))))
] refl

above : (after : ℕ) (row : NumberedRow) → is_after after row ≡ true → after < row.id
above after row passes = grind (arith, nat_tests)

le_of : (after : ℕ) (row : NumberedRow) → is_after after row ≡ true → after ≤ row.id
le_of after row passes = grind (arith, nat_tests)

-- rising rows behind an id rise from it
after_rise : (rows : List NumberedRow) (before after : ℕ) → AreRising rows before → AreRising (rows_after after rows) after
after_rise [] before after rising = tt
after_rise (row ∷ rows) before after rising = elim (is_after after row) as (λ b. is_after after row ≡ b → AreRising (rows_after after (row ∷ rows)) after) [
  | true ↦ λ passes. subst (λ (found : List NumberedRow). AreRising found after) (sym (kept_first after row rows passes)) (record { above = above after row passes; small = rising.small; others = subst (λ (found : List NumberedRow). AreRising found row.id) (sym (all_after rows row.id after rising.others (le_of after row passes))) rising.others })
  | false ↦ λ fails. subst (λ (found : List NumberedRow). AreRising found after) (sym (dropped_first after row rows fails)) (after_rise rows row.id after rising.others)
] refl

-- a page, and the rows behind it
pub next_page : (rows : List NumberedRow) (before after count : ℕ) → AreRising rows before → rows_after after rows ≡ take count (rows_after after rows) ++ rows_after (last_id_of (take count (rows_after after rows)) after) rows
next_page rows before after count rising =
    let behind_it = rows_after after rows in
    let rise = after_rise rows before after rising in
    let last = last_id_of (take count behind_it) after in
    split count behind_it after rise ∙ ap (λ (found : List NumberedRow). take count behind_it ++ found) (later rows after last (last_above (take count behind_it) after (taken_rise count behind_it after rise)))

-- ---- a table that is read page by page

all_behind_zero : (rows : List NumberedRow) → AreRising rows 0 → rows ≡ rows_after 0 rows
all_behind_zero rows rising = sym (all_after rows 0 0 rising (omega arith))

pub begins : (told : Option RowsByTable) (table : List ℕ) → SoFar told table 0 []
begins None table = record { small = omega arith; rising = λ more rise. rise; told_are = tt }
begins (Some by_table) table = record { small = omega arith; rising = λ more rise. rise; told_are = all_behind_zero (by_table table) }

last_small : (rows : List NumberedRow) (before : ℕ) → before < 2 ^ 63 → AreRising rows before → last_id_of rows before < 2 ^ 63
last_small [] before small rising = small
last_small (row ∷ rows) before small rising = last_small rows row.id rising.small rising.others

told_on : (told : Option RowsByTable) (table : List ℕ) (after most : ℕ) (rows page : List NumberedRow) → IfSome told (λ by_table. AreRising (by_table table) 0 → by_table table ≡ rows ++ rows_after after (by_table table)) → IfSome told (λ by_table. page ≡ take most (rows_after after (by_table table))) → IfSome told (λ by_table. AreRising (by_table table) 0 → by_table table ≡ (rows ++ page) ++ rows_after (last_id_of page after) (by_table table))
told_on None table after most rows page before first = tt
told_on (Some by_table) table after most rows page before first = λ order.
    let next : rows_after after (by_table table) ≡ page ++ rows_after (last_id_of page after) (by_table table) = subst (λ (found : List NumberedRow). rows_after after (by_table table) ≡ found ++ rows_after (last_id_of found after) (by_table table)) (sym first) (next_page (by_table table) 0 after most order) in
    before order ∙ (ap (λ (found : List NumberedRow). rows ++ found) next ∙ sym (append_assoc rows page (rows_after (last_id_of page after) (by_table table))))

pub goes_on : (told : Option RowsByTable) (table : List ℕ) (after most : ℕ) (rows page : List NumberedRow) → SoFar told table after rows → AreRising page after → IfSome told (λ by_table. page ≡ take most (rows_after after (by_table table))) → SoFar told table (last_id_of page after) (rows ++ page)
goes_on told table after most rows page so_far rises first = record {
  small = last_small page after so_far.small rises;
  rising = λ more others. subst (λ (found : List NumberedRow). AreRising found 0) (sym (append_assoc rows page more)) (so_far.rising (page ++ more) (behind page more after rises others));
  told_are = told_on told table after most rows page so_far.told_are first;
}

none_left : (most : ℕ) (rows : List NumberedRow) → 0 < most → [] ≡ take most rows → rows ≡ []
none_left most [] some none = refl
none_left zero (row ∷ rows) some none = absurd (omega (arith, some))
none_left (suc most) (row ∷ rows) some none = absurd (omega (arith, ap length none))

pub ends_rising : (told : Option RowsByTable) (table : List ℕ) (after : ℕ) (rows : List NumberedRow) → SoFar told table after rows → AreRising rows 0
ends_rising told table after rows so_far = subst (λ (found : List NumberedRow). AreRising found 0) (append-nil rows) (so_far.rising [] tt)

pub ends_told : (told : Option RowsByTable) (table : List ℕ) (after most : ℕ) (rows page : List NumberedRow) → IfSome told (λ by_table. (name : List ℕ) → AreRising (by_table name) 0) → SoFar told table after rows → 0 < most → page ≡ [] → IfSome told (λ by_table. page ≡ take most (rows_after after (by_table table))) → IfSome told (λ by_table. rows ≡ by_table table)
ends_told None table after most rows page order so_far some none first = tt
ends_told (Some by_table) table after most rows page order so_far some none first = sym (so_far.told_are (order table) ∙ (ap (λ (found : List NumberedRow). rows ++ found) (none_left most (rows_after after (by_table table)) some (sym none ∙ first)) ∙ append-nil rows))

-- a measure: each page that is not empty has a later last id
pub goes_up : (page : List NumberedRow) (after : ℕ) → ¬ (page ≡ []) → AreRising page after → after < last_id_of page after
goes_up [] after some rises = absurd (some refl)
goes_up (row ∷ page) after some rises = omega (arith, rises.above, last_above page row.id rises.others)

-- a page that is not empty goes behind the rows so far
pub adds : (told : Option RowsByTable) (table : List ℕ) (after most last : ℕ) (before page now : List NumberedRow) → SoFar told table after before → ¬ (page ≡ []) → AreRising page after → IfSome told (λ by_table. page ≡ take most (rows_after after (by_table table))) → last ≡ last_id_of page after → now ≡ before ++ page → after < last × SoFar told table last now
adds told table after most last before page now so_far some rises first last_is now_is =
    let up : after < last = omega (arith, last_is, goes_up page after some rises) in
    let all = goes_on told table after most before page so_far rises first in
    let whole : SoFar told table last (before ++ page) = subst (λ (id : ℕ). SoFar told table id (before ++ page)) (sym last_is) all in
    (up, subst (λ (rows : List NumberedRow). SoFar told table last rows) (sym now_is) whole)

pub is_some : (page : List NumberedRow) (none : Bool) → none ≡ false → IsTrue none ↔ (page ≡ []) → ¬ (page ≡ [])
is_some page none fails told = grind arith

-- the first of rising rows behind an id are a page
pub is_page : (rows page : List NumberedRow) (after most : ℕ) → AreRising rows 0 → page ≡ take most (rows_after after rows) → IsPage after most page
is_page rows page after most rising first = subst (λ (found : List NumberedRow). IsPage after most found) (sym first) (record {
  few = omega (arith, length-take most (rows_after after rows));
  rising = taken_rise most (rows_after after rows) after (after_rise rows 0 after rising);
})
