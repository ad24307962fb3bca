-- Tables in memory.
use Rattle.std.proofs.Common.{◌≡◌, ◌∷◌, ◌++◌, ◌<◌, ◌≤◌, ◌-◌, ◌+◌, ◌⊎◌, inl, inr, get_or, append_assoc, append-nil, length-append, ℕ, List, [], Option, Some, take, drop, length, slice_get, unwrap_or, zero, suc, true, false, nat_lt, refl, sym, ◌∙◌, ap, subst, arith}
use Rattle.std.proofs.Math.Seq.{drop-cons}
use Rattle.std.proofs.lemmas.List.{drop_all}
use Rattle.std.proofs.lemmas.Bool.Decides.{nat_tests}
use Rattle.std.proofs.lemmas.Option.{none-some}
use Rattle.outside.specs.Rows.{AreRising, rows_after, is_after}
use Rattle.outside.specs.declared.line.NumberedRow.{NumberedRow}
use Rattle.row_store.specs.MemRows.{rows_of, is_of, page_of}
use Rattle.row_store.specs.declared.mem_rows.TableRow.{TableRow}

not_after : (after : ℕ) (row : NumberedRow) → row.id ≤ after → is_after after row ≡ false
not_after after row h = grind (arith, nat_tests)

with_first : (table : List ℕ) (entry : TableRow) (entries : List TableRow) → is_of table entry ≡ true → rows_of (entry ∷ entries) table ≡ entry.row ∷ rows_of entries table
with_first table entry entries is = rw is

without_first : (table : List ℕ) (entry : TableRow) (entries : List TableRow) → is_of table entry ≡ false → rows_of (entry ∷ entries) table ≡ rows_of entries table
without_first table entry entries is = rw is

passed_first : (after : ℕ) (row : NumberedRow) (rows : List NumberedRow) → row.id ≤ after → rows_after after (row ∷ rows) ≡ rows_after after rows
passed_first after row rows h = let fails = not_after after row h in rw fails

-- an entry of the table has an id above the one that its rows rise from
above : (table : List ℕ) (entries : List TableRow) (before place : ℕ) (entry : TableRow) → AreRising (rows_of entries table) before → slice_get entries place ≡ Some entry → is_of table entry ≡ true → before < entry.row.id
above table [] before place entry rising found is = absurd (none-some entry found)
above table (first ∷ entries) before zero entry rising found is =
    let same : first ≡ entry = ap (λ (e : Option TableRow). unwrap_or e first) found in
    let its : is_of table first ≡ true = subst (λ (e : TableRow). is_of table e ≡ true) (sym same) is in
    let rises : AreRising (first.row ∷ rows_of entries table) before = subst (λ (rows : List NumberedRow). AreRising rows before) (with_first table first entries its) rising in
    subst (λ (e : TableRow). before < e.row.id) same rises.above
above table (first ∷ entries) before (suc place) entry rising found is = elim (is_of table first) as (λ b. is_of table first ≡ b → before < entry.row.id) [
  | true ↦ λ its. let rises : AreRising (first.row ∷ rows_of entries table) before = subst (λ (rows : List NumberedRow). AreRising rows before) (with_first table first entries its) rising in
      omega (arith, rises.above, above table entries first.row.id place entry rises.others found is)
  | false ↦ λ its. above table entries before place entry (subst (λ (rows : List NumberedRow). AreRising rows before) (without_first table first entries its) rising) found is
] refl

-- the rows behind an id stand behind an entry of the table that is not above it
pub passed : (table : List ℕ) (entries : List TableRow) (before after place : ℕ) (entry : TableRow) → AreRising (rows_of entries table) before → slice_get entries place ≡ Some entry → is_of table entry ≡ true → entry.row.id ≤ after → rows_after after (rows_of (drop (suc place) entries) table) ≡ rows_after after (rows_of entries table)
passed table [] before after place entry rising found is low = absurd (none-some entry found)
passed table (first ∷ entries) before after zero entry rising found is low =
    let same : first ≡ entry = ap (λ (e : Option TableRow). unwrap_or e first) found in
    let its : is_of table first ≡ true = subst (λ (e : TableRow). is_of table e ≡ true) (sym same) is in
    let small : first.row.id ≤ after = subst (λ (e : TableRow). e.row.id ≤ after) (sym same) low in
    sym (ap (rows_after after) (with_first table first entries its) ∙ passed_first after first.row (rows_of entries table) small)
passed table (first ∷ entries) before after (suc place) entry rising found is low = elim (is_of table first) as (λ b. is_of table first ≡ b → rows_after after (rows_of (drop (suc place) entries) table) ≡ rows_after after (rows_of (first ∷ entries) table)) [
  | true ↦ λ its. let rises : AreRising (first.row ∷ rows_of entries table) before = subst (λ (rows : List NumberedRow). AreRising rows before) (with_first table first entries its) rising in
      passed table entries first.row.id after place entry rises.others found is low
      ∙ sym (ap (rows_after after) (with_first table first entries its) ∙ passed_first after first.row (rows_of entries table) (omega (arith, above table entries first.row.id place entry rises.others found is, low)))
  | false ↦ λ its. passed table entries before after place entry (subst (λ (rows : List NumberedRow). AreRising rows before) (without_first table first entries its) rising) found is low
      ∙ sym (ap (rows_after after) (without_first table first entries its))
] refl

-- the same with the number of entries up to that one
pub behind : (table : List ℕ) (entries : List TableRow) (after given : ℕ) (entry : TableRow) → AreRising (rows_of entries table) 0 → 0 < given → slice_get entries (given - 1) ≡ Some entry → is_of table entry ≡ true → entry.row.id ≤ after → (most : ℕ) → page_of (drop given entries) table after most ≡ page_of entries table after most
behind table entries after zero entry rising some found is low = absurd (omega (arith, some))
behind table entries after (suc place) entry rising some found is low =
    let at : suc place - 1 ≡ place = omega arith in
    λ most. ap (take most) (passed table entries 0 after place entry rising (ap (slice_get entries) (sym at) ∙ found) is low)

-- ---- a page that is copied

-- the page so far, and what is still to come of it
pub record Copied (entries : List TableRow) (table : List ℕ) (after most from at : ℕ) (page : List NumberedRow) : Type 0 where
  pub within : at ≤ length entries
  pub few : length page ≤ most
  pub whole : page_of (drop from entries) table after most ≡ page ++ take (most - length page) (rows_after after (rows_of (drop at entries) table))

pub starts : (entries : List TableRow) (table : List ℕ) (after most from : ℕ) (page : List NumberedRow) → from ≤ length entries → page ≡ [] → Copied entries table after most from from page
starts entries table after most from page within none =
    let all : most ≡ most - length page = omega (arith, ap length none) in
    record {
      within = within;
      few = omega (arith, ap length none);
      whole = ap (λ (n : ℕ). take n (rows_after after (rows_of (drop from entries) table))) all ∙ ap (λ (p : List NumberedRow). p ++ take (most - length page) (rows_after after (rows_of (drop from entries) table))) (sym none);
    }

next_entry : (entries : List TableRow) (at : ℕ) (entry : TableRow) → at < length entries → entry ≡ get_or entries at entry → drop at entries ≡ entry ∷ drop (suc at) entries
next_entry entries at entry within is = drop-cons entries at entry within ∙ ap (λ (e : TableRow). e ∷ drop (suc at) entries) (sym is)

skipped : (entries : List TableRow) (table : List ℕ) (after at : ℕ) (entry : TableRow) → at < length entries → entry ≡ get_or entries at entry → is_of table entry ≡ false ⊎ entry.row.id ≤ after → rows_after after (rows_of (drop at entries) table) ≡ rows_after after (rows_of (drop (suc at) entries) table)
skipped entries table after at entry within is (inl other) = ap (λ (es : List TableRow). rows_after after (rows_of es table)) (next_entry entries at entry within is) ∙ ap (rows_after after) (without_first table entry (drop (suc at) entries) other)
skipped entries table after at entry within is (inr low) = ap (λ (es : List TableRow). rows_after after (rows_of es table)) (next_entry entries at entry within is) ∙ (elim (is_of table entry) as (λ b. is_of table entry ≡ b → rows_after after (rows_of (entry ∷ drop (suc at) entries) table) ≡ rows_after after (rows_of (drop (suc at) entries) table)) [
  | true ↦ λ its. ap (rows_after after) (with_first table entry (drop (suc at) entries) its) ∙ passed_first after entry.row (rows_of (drop (suc at) entries) table) low
  | false ↦ λ other. ap (rows_after after) (without_first table entry (drop (suc at) entries) other)
] refl)

pub skips : (entries : List TableRow) (table : List ℕ) (after most from at : ℕ) (page : List NumberedRow) (entry : TableRow) → Copied entries table after most from at page → at < length entries → entry ≡ get_or entries at entry → is_of table entry ≡ false ⊎ entry.row.id ≤ after → Copied entries table after most from (at + 1) page
skips entries table after most from at page entry copied within is out =
    let next : at + 1 ≡ suc at = omega arith in
    record {
      within = omega (arith, within);
      few = copied.few;
      whole = copied.whole ∙ ap (λ (rows : List NumberedRow). page ++ take (most - length page) rows) (skipped entries table after at entry within is out ∙ ap (λ (n : ℕ). rows_after after (rows_of (drop n entries) table)) (sym next));
    }

lt_is : (a b : ℕ) → a < b → nat_lt a b ≡ true
lt_is a b h = grind (arith, nat_tests)

kept_row : (after : ℕ) (row : NumberedRow) (rows : List NumberedRow) → after < row.id → rows_after after (row ∷ rows) ≡ row ∷ rows_after after rows
kept_row after row rows high = let passes : is_after after row ≡ true = lt_is after row.id high in rw passes

kept : (entries : List TableRow) (table : List ℕ) (after at : ℕ) (entry : TableRow) → at < length entries → entry ≡ get_or entries at entry → is_of table entry ≡ true → after < entry.row.id → rows_after after (rows_of (drop at entries) table) ≡ entry.row ∷ rows_after after (rows_of (drop (suc at) entries) table)
kept entries table after at entry within is its high = ap (λ (es : List TableRow). rows_after after (rows_of es table)) (next_entry entries at entry within is) ∙ (ap (rows_after after) (with_first table entry (drop (suc at) entries) its) ∙ kept_row after entry.row (rows_of (drop (suc at) entries) table) high)

take_next : (count less : ℕ) (row : NumberedRow) (rows : List NumberedRow) → count ≡ suc less → take count (row ∷ rows) ≡ row ∷ take less rows
take_next count less row rows is = ap (λ (n : ℕ). take n (row ∷ rows)) is

pub keeps : (entries : List TableRow) (table : List ℕ) (after most from at : ℕ) (page now : List NumberedRow) (entry : TableRow) → Copied entries table after most from at page → at < length entries → entry ≡ get_or entries at entry → is_of table entry ≡ true → after < entry.row.id → length page < most → now ≡ page ++ entry.row ∷ [] → Copied entries table after most from (at + 1) now
keeps entries table after most from at page now entry copied within is its high room now_is =
    let next : at + 1 ≡ suc at = omega arith in
    let longer : length now ≡ suc (length page) = ap length now_is ∙ (length-append page (entry.row ∷ []) ∙ omega arith) in
    let less : most - length page ≡ suc (most - length now) = omega (arith, longer, room) in
    let behind_it = rows_after after (rows_of (drop (suc at) entries) table) in
    let taken : take (most - length page) (rows_after after (rows_of (drop at entries) table)) ≡ entry.row ∷ take (most - length now) behind_it = ap (take (most - length page)) (kept entries table after at entry within is its high) ∙ take_next (most - length page) (most - length now) entry.row behind_it less in
    record {
      within = omega (arith, within);
      few = omega (arith, longer, room);
      whole = copied.whole ∙ (ap (λ (rows : List NumberedRow). page ++ rows) taken ∙ (sym (append_assoc page (entry.row ∷ []) (take (most - length now) behind_it)) ∙ (ap (λ (rows : List NumberedRow). rows ++ take (most - length now) behind_it) (sym now_is) ∙ ap (λ (n : ℕ). now ++ take (most - length now) (rows_after after (rows_of (drop n entries) table))) (sym next))));
    }

take_none : (count : ℕ) → take count [] ≡ let none : List NumberedRow = [] in none
take_none zero = refl
take_none (suc count) = refl

pub is_copied : (entries : List TableRow) (table : List ℕ) (after most from at : ℕ) (page : List NumberedRow) → Copied entries table after most from at page → length entries ≤ at ⊎ most ≤ length page → page ≡ page_of (drop from entries) table after most
is_copied entries table after most from at page copied (inl over) =
    let none : drop at entries ≡ [] = drop_all at entries over in
    sym (copied.whole ∙ (ap (λ (es : List TableRow). page ++ take (most - length page) (rows_after after (rows_of es table))) none ∙ (ap (λ (rows : List NumberedRow). page ++ rows) (take_none (most - length page)) ∙ append-nil page)))
is_copied entries table after most from at page copied (inr full) =
    let none : most - length page ≡ 0 = omega (arith, full) in
    sym (copied.whole ∙ (ap (λ (n : ℕ). page ++ take n (rows_after after (rows_of (drop at entries) table))) none ∙ append-nil page))
