-- A page that is full.
use Rattle.std.proofs.Common.{◌≡◌, ◌∷◌, ◌++◌, ◌<◌, ◌≤◌, ℕ, List, [], map, filter, take, drop, length, get_or, zero, suc, Bool, true, false, cond, nat_lt, refl, sym, ◌∙◌, ap, subst, arith}
use Rattle.std.proofs.Math.Seq.{drop-cons}
use Rattle.std.proofs.lemmas.List.{take-append-drop, length-append}
use Rattle.std.proofs.lemmas.Bool.Decides.{nat_tests}
use Rattle.outside.specs.declared.event.StreamPlan.{StreamPlan}
use Rattle.outside.specs.declared.event.RawRow.{RawRow}
use Rattle.outside.specs.declared.load.Unmerged.{Unmerged}
use Rattle.outside.specs.declared.table.PlacedRow.{PlacedRow}
use Rattle.outside.specs.declared.table.StreamTable.{StreamTable}
use Rattle.outside.specs.Tables.{is_unmerged, side_of, page_in, last_place, row_of}

pub filter_both : (test : PlacedRow → Bool) (xs ys : List PlacedRow) → filter test (xs ++ ys) ≡ filter test xs ++ filter test ys
filter_both test [] ys = refl
filter_both test (x ∷ xs) ys = elim (test x) as (λ b. cond b (x ∷ filter test (xs ++ ys)) (filter test (xs ++ ys)) ≡ cond b (x ∷ filter test xs) (filter test xs) ++ filter test ys) [ true ↦ ap (λ (zs : List PlacedRow). x ∷ zs) (filter_both test xs ys) | false ↦ filter_both test xs ys ]

take_front : (n : ℕ) (xs ys : List PlacedRow) → length xs ≡ n → take n (xs ++ ys) ≡ xs
take_front zero [] ys e = refl
take_front (suc n) [] ys e = absurd (omega arith)
take_front zero (x ∷ xs) ys e = absurd (omega arith)
take_front (suc n) (x ∷ xs) ys e = ap (λ (zs : List PlacedRow). x ∷ zs) (take_front n xs ys (omega arith))

length_rows : (rows : List PlacedRow) → length (map row_of rows) ≡ length rows
length_rows [] = refl
length_rows (row ∷ rows) = ap suc (length_rows rows)

lt_is : (a b : ℕ) → a < b → nat_lt a b ≡ true
lt_is a b h = grind (arith, nat_tests)

abbrev page_by : (PlacedRow → Bool) → ℕ → List PlacedRow → ℕ → Unmerged
page_by test from rows most = record { rows = map row_of (take most (filter test rows)); mark = last_place from (take most (filter test rows)); more = nat_lt most (length (filter test rows)) }

-- the page is full, and here is one more row that is unmerged
full : (test : PlacedRow → Bool) (items : List PlacedRow) (most from i mark : ℕ) (placed : PlacedRow) (rows : List RawRow) → i < length items → placed ≡ get_or items i placed → test placed ≡ true → rows ≡ map row_of (filter test (take i items)) → mark ≡ last_place from (filter test (take i items)) → length rows ≤ most → most ≤ length rows → record { rows = rows; mark = mark; more = true } ≡ page_by test from items most
full test items most from i mark placed rows within is passes rows_are mark_is few many =
    let so_far = filter test (take i items) in
    let rest = placed ∷ filter test (drop (suc i) items) in
    let count : length so_far ≡ most = omega (arith, ap length rows_are, length_rows so_far) in
    let begins : drop i items ≡ placed ∷ drop (suc i) items = drop-cons items i placed within ∙ ap (λ (p : PlacedRow). p ∷ drop (suc i) items) (sym is) in
    let next : filter test (placed ∷ drop (suc i) items) ≡ rest = rw passes in
    let whole : filter test items ≡ so_far ++ rest = ap (filter test) (sym (take-append-drop i items)) ∙ (filter_both test (take i items) (drop i items) ∙ ap (λ (ps : List PlacedRow). so_far ++ ps) (ap (filter test) begins ∙ next)) in
    let front : take most (filter test items) ≡ so_far = ap (take most) whole ∙ take_front most so_far rest count in
    let more : nat_lt most (length (filter test items)) ≡ true = lt_is most (length (filter test items)) (omega (arith, ap length whole, length-append so_far rest, count)) in
    ap (λ (rs : List RawRow). let u : Unmerged = record { rows = rs; mark = mark; more = true } in u) (rows_are ∙ ap (map row_of) (sym front))
    ∙ (ap (λ (m : ℕ). let u : Unmerged = record { rows = map row_of (take most (filter test items)); mark = m; more = true } in u) (mark_is ∙ ap (last_place from) (sym front))
    ∙ ap (λ (b : Bool). let u : Unmerged = record { rows = map row_of (take most (filter test items)); mark = last_place from (take most (filter test items)); more = b } in u) (sym more))

pub page_full : (plan : StreamPlan) (table : StreamTable) (most from i mark : ℕ) (placed : PlacedRow) (rows : List RawRow) → from ≡ (side_of plan table).mark → i < length table.rows → placed ≡ get_or table.rows i placed → is_unmerged plan table.marks from placed ≡ true → rows ≡ map row_of (filter (is_unmerged plan table.marks from) (take i table.rows)) → mark ≡ last_place from (filter (is_unmerged plan table.marks from) (take i table.rows)) → length rows ≤ most → most ≤ length rows → record { rows = rows; mark = mark; more = true } ≡ page_in plan table most
page_full plan table most from i mark placed rows begins within is passes rows_are mark_is few many =
    full (is_unmerged plan table.marks from) table.rows most from i mark placed rows within is passes rows_are mark_is few many
    ∙ ap (λ (f : ℕ). page_by (is_unmerged plan table.marks f) f table.rows most) begins

abbrev page_from : ℕ → List PlacedRow → ℕ → Unmerged
page_from from unmerged most = record { rows = map row_of (take most unmerged); mark = last_place from (take most unmerged); more = nat_lt most (length unmerged) }

-- a page of rows of which the same are unmerged
pub page_behind : (plan : StreamPlan) (table : StreamTable) (items : List PlacedRow) (most from : ℕ) → from ≡ (side_of plan table).mark → filter (is_unmerged plan table.marks from) items ≡ filter (is_unmerged plan table.marks from) table.rows → page_in plan (record table { rows = items }) most ≡ page_in plan table most
page_behind plan table items most from begins same =
    let here : filter (is_unmerged plan table.marks (side_of plan table).mark) items ≡ filter (is_unmerged plan table.marks (side_of plan table).mark) table.rows = subst (λ (m : ℕ). filter (is_unmerged plan table.marks m) items ≡ filter (is_unmerged plan table.marks m) table.rows) begins same in
    ap (λ (us : List PlacedRow). page_from (side_of plan table).mark us most) here
