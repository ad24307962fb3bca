-- What the sides of one table stand for, and that each change of the table keeps it.
use Rattle.std.proofs.Common.{arith, ◌≡◌, ◌⊎◌, inl, inr, ℕ, ◌+◌, ◌<◌, ◌≤◌, max, nat_lt, nat_le, nat_eq, ◌&&◌, not, List, [], ◌∷◌, ◌++◌, map, filter, Option, None, Some, Bool, true, false, cond, refl, sym, ◌∙◌, ap, subst}
use Rattle.std.proofs.lemmas.Bool.Decides.{nat_tests}
use Rattle.std.proofs.lemmas.Bool.{cases_Bool, false≢true}
use Rattle.std.proofs.lemmas.List.Elements.{filter-append}
use Rattle.std.specs.Str.{bytes_eq}
use Rattle.basics.specs.declared.stream.StreamId.{StreamId}
use Rattle.outside.specs.declared.event.RawRow.{RawRow}
use Rattle.outside.specs.declared.load.Marks.{Marks}
use Rattle.outside.specs.declared.table.Generations.{Generations}
use Rattle.outside.specs.declared.table.PlacedRow.{PlacedRow}
use Rattle.outside.specs.declared.table.StreamTable.{StreamTable}
use Rattle.outside.specs.Tables.{is_in_shown, is_from_to, is_from, empty_side, is_kept_for, opened_table, rises_above, raised_to, started_again, committed_table, placed_after, merged_table, shown_table, row_of}
use Rattle.dedup_merge.specs.Merges.{MergedRows, rows_opened, rows_merged, rows_shown}
use Rattle.dedup_merge.proofs.SameRowLemmas.{Has, has_kept, has_passed, has_right}
use Rattle.dedup_merge.proofs.LeftLemmas.{lt_is, le_from, both_parts}

-- Elements

pub has_left : {A : Type 0} (x : A) (xs ys : List A) → Has x xs → Has x (xs ++ ys)
has_left x [] ys there = absurd there
has_left x (z ∷ xs) ys (inl e) = inl e
has_left x (z ∷ xs) ys (inr there) = inr (has_left x xs ys there)

pub has_cases : {A : Type 0} (x : A) (xs ys : List A) → Has x (xs ++ ys) → Has x xs ⊎ Has x ys
has_cases x [] ys there = inr there
has_cases x (z ∷ xs) ys (inl e) = inl (inl e)
has_cases x (z ∷ xs) ys (inr there) = at (has_cases x xs ys there)
  where
    at : Has x xs ⊎ Has x ys → Has x (z ∷ xs) ⊎ Has x ys
    at (inl first) = inl (inr first)
    at (inr second) = inr second

pub has_row : (placed : PlacedRow) (rows : List PlacedRow) → Has placed rows → Has placed.row (map row_of rows)
has_row placed [] there = absurd there
has_row placed (p ∷ rows) (inl e) = inl (ap row_of e)
has_row placed (p ∷ rows) (inr there) = inr (has_row placed rows there)

pub record FromRow (test : PlacedRow → Bool) (rows : List PlacedRow) (row : RawRow) : Type 0 where
  pub placed : PlacedRow
  pub there : Has placed rows
  pub takes : test placed ≡ true
  pub is : placed.row ≡ row

pub from_row : (test : PlacedRow → Bool) (rows : List PlacedRow) (row : RawRow) → Has row (map row_of (filter test rows)) → FromRow test rows row
from_row test [] row there = absurd there
from_row test (p ∷ rows) row there = at (cases_Bool (test p)) there (from_row test rows row)
  where
    on : FromRow test rows row → FromRow test (p ∷ rows) row
    on f = record { placed = f.placed; there = inr f.there; takes = f.takes; is = f.is }

    first : test p ≡ true → Has row (p.row ∷ map row_of (filter test rows)) → (Has row (map row_of (filter test rows)) → FromRow test rows row) → FromRow test (p ∷ rows) row
    first passes (inl e) deeper = record { placed = p; there = inl refl; takes = passes; is = e }
    first passes (inr more) deeper = on (deeper more)

    at : (test p ≡ true) ⊎ (test p ≡ false) → Has row (map row_of (filter test (p ∷ rows))) → (Has row (map row_of (filter test rows)) → FromRow test rows row) → FromRow test (p ∷ rows) row
    at (inl passes) there deeper = first passes (rw passes at there) deeper
    at (inr fails) there deeper = on (deeper (rw fails at there))

-- Sides

-- Of the rows that take part in a side all up to its mark were merged into it, and no others.
pub record Holds (takes : PlacedRow → Bool) (rows : List PlacedRow) (mark : ℕ) (merged : List RawRow) : Type 0 where
  pub all : (placed : PlacedRow) → Has placed rows → takes placed ≡ true → placed.place ≤ mark → Has placed.row merged
  pub none : (row : RawRow) → Has row merged → FromRow takes rows row

abbrev pub shown_part : Marks → PlacedRow → Bool
shown_part marks placed = is_in_shown marks.floor marks.top placed.row.generation && not (bytes_eq placed.row.key [])

abbrev pub kept_part : Option Generations → PlacedRow → Bool
kept_part None placed = false
kept_part (Some kept) placed = is_from_to kept.low kept.high placed.row.generation && not (bytes_eq placed.row.key [])

-- a hidden side is kept for generations above the floor
abbrev pub IsAbove : ℕ → Option Generations → Type 0
IsAbove floor None = Unit {0}
IsAbove floor (Some kept) = floor < kept.low

pub record TableHolds (table : StreamTable) (merged : MergedRows) (ever : List PlacedRow) : Type 0 where
  pub shown : Holds (shown_part table.marks) table.rows table.shown.mark merged.shown
  pub hidden : Holds (kept_part table.hidden_for) table.rows table.hidden.mark merged.hidden
  pub above : IsAbove table.marks.floor table.hidden_for
  pub placed : (row : PlacedRow) → Has row table.rows → 0 < row.place
  pub same : filter (is_from table.marks.floor) table.rows ≡ filter (is_from table.marks.floor) ever

none_holds : (takes : PlacedRow → Bool) (rows : List PlacedRow) → ((row : PlacedRow) → Has row rows → 0 < row.place) → Holds takes rows 0 []
none_holds takes rows placed = record { all = λ row there takes low. absurd (let above = placed row there in omega (arith, above, low)); none = λ row there. absurd there }

-- Opening

gens_eq : (kept : Generations) (m g : ℕ) → kept.low ≡ m → kept.high ≡ g → Some kept ≡ Some (record { low = m; high = g })
gens_eq kept m g low high = rw (← low, ← high) refl

kept_is : (kept : Option Generations) (i : StreamId) (d : Bool) (g m : ℕ) → is_kept_for kept (record { id = i; dedup = d; generation = g; minimum = m; hidden = true }) ≡ true → kept ≡ Some (record { low = m; high = g })
kept_is None i d g m e = absurd (false≢true e)
kept_is (Some kept) i d g m e = let parts = both_parts (nat_eq kept.low m) (nat_eq kept.high g) e in gens_eq kept m g (grind (arith, nat_tests, parts.0)) (grind (arith, nat_tests, parts.1))

and_more : (a b c : Bool) → (a ≡ true → b ≡ true) → (a && c) ≡ true → (b && c) ≡ true
and_more a b c grows e = let parts = both_parts a c e in rw (grows parts.0, parts.1) refl

le_is : (a b : ℕ) → nat_le a b ≡ true → a ≤ b
le_is a b e = grind (arith, nat_tests)

range_grows : (floor : ℕ) (top : Option ℕ) (g x : ℕ) → is_in_shown floor top x ≡ true → is_in_shown floor (raised_to top g) x ≡ true
range_grows floor None g x e = absurd (false≢true e)
range_grows floor (Some top) g x e =
    let parts = both_parts (nat_le floor x) (nat_le x top) e in
    let low = le_is x top parts.1 in
    rw (parts.0, le_from x (max top g) (omega (arith, low))) refl

top_stays : (top : Option ℕ) (g : ℕ) → rises_above top g ≡ false → top ≡ raised_to top g
top_stays None g e = absurd (false≢true (sym e))
top_stays (Some top) g e = let not_less : g ≤ top = grind (arith, nat_tests, e) in let s : top ≡ max top g = omega (arith, not_less) in ap (λ (n : ℕ). Some n) s

grown : (takes more : PlacedRow → Bool) (rows : List PlacedRow) (row : RawRow) → ((p : PlacedRow) → takes p ≡ true → more p ≡ true) → FromRow takes rows row → FromRow more rows row
grown takes more rows row grows f = record { placed = f.placed; there = f.there; takes = grows f.placed f.takes; is = f.is }

pub opened_holds : (table : StreamTable) (merged : MergedRows) (ever : List PlacedRow) (i : StreamId) (d : Bool) (g m : ℕ) (h : Bool) → h ≡ nat_lt table.marks.floor m → TableHolds table merged ever
    → TableHolds (opened_table (record { id = i; dedup = d; generation = g; minimum = m; hidden = h }) table) (rows_opened (Some (record { id = i; dedup = d; generation = g; minimum = m; hidden = h })) table merged) ever
opened_holds table merged ever i d g m true hides holds = record {
  shown = holds.shown;
  hidden = side (is_kept_for table.hidden_for (record { id = i; dedup = d; generation = g; minimum = m; hidden = true })) refl;
  above = lt_is table.marks.floor m (sym hides);
  placed = holds.placed;
  same = holds.same;
}
  where
    side : (b : Bool) → is_kept_for table.hidden_for (record { id = i; dedup = d; generation = g; minimum = m; hidden = true }) ≡ b → Holds (kept_part (Some (record { low = m; high = g }))) table.rows (cond b table.hidden empty_side).mark (cond b merged.hidden [])
    side true is = subst (λ kept. Holds (kept_part kept) table.rows table.hidden.mark merged.hidden) (kept_is table.hidden_for i d g m is) holds.hidden
    side false is = none_holds (kept_part (Some (record { low = m; high = g }))) table.rows holds.placed
opened_holds table merged ever i d g m false hides holds = record {
  shown = side (rises_above table.marks.top g) refl;
  hidden = holds.hidden;
  above = holds.above;
  placed = holds.placed;
  same = holds.same;
}
  where
    raised : Marks
    raised = record { floor = table.marks.floor; top = raised_to table.marks.top g; greatest = raised_to table.marks.greatest g }

    side : (b : Bool) → rises_above table.marks.top g ≡ b → Holds (shown_part raised) table.rows (cond b (started_again table.shown) table.shown).mark merged.shown
    side true rises = record {
      all = λ row there takes low. absurd (let above = holds.placed row there in omega (arith, above, low));
      none = λ row there. grown (shown_part table.marks) (shown_part raised) table.rows row (λ p. and_more (is_in_shown table.marks.floor table.marks.top p.row.generation) (is_in_shown table.marks.floor (raised_to table.marks.top g) p.row.generation) (not (bytes_eq p.row.key [])) (range_grows table.marks.floor table.marks.top g p.row.generation)) (holds.shown.none row there);
    }
    side false stays = subst (λ (top : Option ℕ). Holds (shown_part (record { floor = table.marks.floor; top = top; greatest = raised_to table.marks.greatest g })) table.rows table.shown.mark merged.shown) (top_stays table.marks.top g stays) holds.shown

-- Committing

pub placed_behind : (before : ℕ) (rows : List RawRow) (p : PlacedRow) → Has p (placed_after before rows) → before < p.place
placed_behind before [] p there = absurd there
placed_behind before (row ∷ rows) p (inl e) = let is : before + 1 ≡ p.place = ap (λ (it : PlacedRow). it.place) e in omega (arith, is)
placed_behind before (row ∷ rows) p (inr there) = let deeper = placed_behind (before + 1) rows p there in omega (arith, deeper)

more_holds : (takes : PlacedRow → Bool) (rows more : List PlacedRow) (mark : ℕ) (merged : List RawRow) → ((p : PlacedRow) → Has p more → mark < p.place) → Holds takes rows mark merged → Holds takes (rows ++ more) mark merged
more_holds takes rows more mark merged behind holds = record {
  all = λ p there takes low. at p (has_cases p rows more there) takes low;
  none = λ row there. (let f = holds.none row there in record { placed = f.placed; there = has_left f.placed rows more f.there; takes = f.takes; is = f.is });
}
  where
    at : (p : PlacedRow) → Has p rows ⊎ Has p more → takes p ≡ true → p.place ≤ mark → Has p.row merged
    at p (inl old) takes low = holds.all p old takes low
    at p (inr new) takes low = absurd (let above = behind p new in omega (arith, above, low))

pub committed_holds : (table : StreamTable) (merged : MergedRows) (ever : List PlacedRow) (places : ℕ) (rows : List RawRow) → table.shown.mark ≤ places → table.hidden.mark ≤ places → TableHolds table merged ever → TableHolds (committed_table (placed_after places rows) table) merged (ever ++ placed_after places rows)
committed_holds table merged ever places rows shown_in hidden_in holds =
    let more = placed_after places rows in
    let floor = table.marks.floor in
    record {
      shown = more_holds (shown_part table.marks) table.rows more table.shown.mark merged.shown (λ p there. (let behind = placed_behind places rows p there in omega (arith, behind, shown_in))) holds.shown;
      hidden = more_holds (kept_part table.hidden_for) table.rows more table.hidden.mark merged.hidden (λ p there. (let behind = placed_behind places rows p there in omega (arith, behind, hidden_in))) holds.hidden;
      above = holds.above;
      placed = λ p there. at p (has_cases p table.rows more there);
      same = filter-append (is_from floor) table.rows more ∙ (ap (λ ps. ps ++ filter (is_from floor) more) holds.same ∙ sym (filter-append (is_from floor) ever more));
    }
  where
    at : (p : PlacedRow) → Has p table.rows ⊎ Has p (placed_after places rows) → 0 < p.place
    at p (inl old) = holds.placed p old
    at p (inr new) = let behind = placed_behind places rows p new in omega (arith, behind)

-- Merging

low_or_high : (a b : ℕ) → (nat_lt b a ≡ true) ⊎ (a ≤ b)
low_or_high a b = at (nat_lt b a) refl
  where
    at : (t : Bool) → nat_lt b a ≡ t → (nat_lt b a ≡ true) ⊎ (a ≤ b)
    at true e = inl e
    at false e = inr (grind (arith, nat_tests))

page_holds : (takes : PlacedRow → Bool) (rows : List PlacedRow) (old new : ℕ) (merged : List RawRow) → Holds takes rows old merged → Holds takes rows new (merged ++ map row_of (filter (λ p. nat_le p.place new && (nat_lt old p.place && takes p)) rows))
page_holds takes rows old new merged holds = record {
  all = λ p there takes_it low. at p there takes_it low (low_or_high p.place old);
  none = λ row there. from row (has_cases row merged page there);
}
  where
    test : PlacedRow → Bool
    test = λ p. nat_le p.place new && (nat_lt old p.place && takes p)

    page : List RawRow
    page = map row_of (filter test rows)

    at : (p : PlacedRow) → Has p rows → takes p ≡ true → p.place ≤ new → (nat_lt old p.place ≡ true) ⊎ (p.place ≤ old) → Has p.row (merged ++ map row_of (filter (λ p. nat_le p.place new && (nat_lt old p.place && takes p)) rows))
    at p there takes_it low (inl high) = has_right p.row merged page (has_row p (filter test rows) (has_kept test p rows there (rw (le_from p.place new low, high, takes_it) refl)))
    at p there takes_it low (inr below) = has_left p.row merged page (holds.all p there takes_it below)

    from : (row : RawRow) → Has row merged ⊎ Has row page → FromRow takes rows row
    from row (inl before) = holds.none row before
    from row (inr now) =
        let f = from_row test rows row now in
        let parts = both_parts (nat_le f.placed.place new) (nat_lt old f.placed.place && takes f.placed) f.takes in
        record { placed = f.placed; there = f.there; takes = (both_parts (nat_lt old f.placed.place) (takes f.placed) parts.1).1; is = f.is }

pub merged_holds : (table : StreamTable) (merged : MergedRows) (ever : List PlacedRow) (winners : List RawRow) (mark : ℕ) (i : StreamId) (d : Bool) (g m : ℕ) (h : Bool) → (h ≡ true → table.hidden_for ≡ Some (record { low = m; high = g })) → TableHolds table merged ever
    → TableHolds (merged_table (record { id = i; dedup = d; generation = g; minimum = m; hidden = h }) winners mark table) (rows_merged (Some (record { id = i; dedup = d; generation = g; minimum = m; hidden = h })) mark table merged) ever
merged_holds table merged ever winners mark i d g m true kept holds = record {
  shown = holds.shown;
  hidden = subst (λ kept. Holds (kept_part kept) table.rows mark (merged.hidden ++ map row_of (filter (λ p. nat_le p.place mark && (nat_lt table.hidden.mark p.place && kept_part (Some (record { low = m; high = g })) p)) table.rows))) (sym (kept refl)) (page_holds (kept_part (Some (record { low = m; high = g }))) table.rows table.hidden.mark mark merged.hidden (subst (λ kept. Holds (kept_part kept) table.rows table.hidden.mark merged.hidden) (kept refl) holds.hidden));
  above = holds.above;
  placed = holds.placed;
  same = holds.same;
}
merged_holds table merged ever winners mark i d g m false kept holds = record {
  shown = page_holds (shown_part table.marks) table.rows table.shown.mark mark merged.shown holds.shown;
  hidden = holds.hidden;
  above = holds.above;
  placed = holds.placed;
  same = holds.same;
}

-- Showing

filter_less : (low high : ℕ) (rows : List PlacedRow) → low ≤ high → filter (is_from high) (filter (is_from low) rows) ≡ filter (is_from high) rows
filter_less low high [] le = refl
filter_less low high (p ∷ rows) le = at (cases_Bool (is_from low p)) (cases_Bool (is_from high p)) (filter_less low high rows le)
  where
    at : (is_from low p ≡ true) ⊎ (is_from low p ≡ false) → (is_from high p ≡ true) ⊎ (is_from high p ≡ false) → filter (is_from high) (filter (is_from low) rows) ≡ filter (is_from high) rows → filter (is_from high) (filter (is_from low) (p ∷ rows)) ≡ filter (is_from high) (p ∷ rows)
    at (inl a) (inl b) rest = rw (a, b) (ap (λ (ps : List PlacedRow). p ∷ ps) rest)
    at (inl a) (inr b) rest = rw (a, b) rest
    at (inr a) (inl b) rest = absurd (false≢true (sym a ∙ le_from low p.row.generation (let above = le_is high p.row.generation b in omega (arith, above, le))))
    at (inr a) (inr b) rest = rw (a, b) rest

shown_from : (table : StreamTable) (merged : MergedRows) (ever : List PlacedRow) (m g : ℕ) → table.hidden_for ≡ Some (record { low = m; high = g }) → TableHolds table merged ever → max table.marks.floor m ≡ m
shown_from table merged ever m g kept holds = let above : table.marks.floor < m = subst (IsAbove table.marks.floor) kept holds.above in omega (arith, above)

pub shown_holds : (table : StreamTable) (merged : MergedRows) (ever : List PlacedRow) (i : StreamId) (d : Bool) (g m : ℕ) (h : Bool) → h ≡ true → table.hidden_for ≡ Some (record { low = m; high = g }) → TableHolds table merged ever
    → TableHolds (shown_table (record { id = i; dedup = d; generation = g; minimum = m; hidden = h }) table) (rows_shown (Some (record { id = i; dedup = d; generation = g; minimum = m; hidden = h })) merged) ever
shown_holds table merged ever i d g m false is kept holds = absurd (false≢true is)
shown_holds table merged ever i d g m true is kept holds = record {
  shown = subst (λ (low : ℕ). Holds (shown_part (record { floor = low; top = Some g; greatest = table.marks.greatest })) (filter (is_from low) table.rows) table.hidden.mark merged.hidden) (sym floor_is) (record {
    all = λ p there takes low. own.all p (has_passed (is_from m) p table.rows there).0 takes low;
    none = λ row there. stays row (own.none row there);
  });
  hidden = none_holds (kept_part None) (filter (is_from (max table.marks.floor m)) table.rows) left;
  above = tt;
  placed = left;
  same = filter_less (max table.marks.floor m) (max table.marks.floor m) table.rows (omega arith)
      ∙ (sym (filter_less table.marks.floor (max table.marks.floor m) table.rows (omega arith))
      ∙ (ap (filter (is_from (max table.marks.floor m))) holds.same
      ∙ filter_less table.marks.floor (max table.marks.floor m) ever (omega arith)));
}
  where
    floor_is : max table.marks.floor m ≡ m
    floor_is = shown_from table merged ever m g kept holds

    own : Holds (kept_part (Some (record { low = m; high = g }))) table.rows table.hidden.mark merged.hidden
    own = subst (λ kept. Holds (kept_part kept) table.rows table.hidden.mark merged.hidden) kept holds.hidden

    stays : (row : RawRow) → FromRow (kept_part (Some (record { low = m; high = g }))) table.rows row → FromRow (shown_part (record { floor = m; top = Some g; greatest = table.marks.greatest })) (filter (is_from m) table.rows) row
    stays row f =
        let range = (both_parts (is_from_to m g f.placed.row.generation) (not (bytes_eq f.placed.row.key [])) f.takes).0 in
        record { placed = f.placed; there = has_kept (is_from m) f.placed table.rows f.there (both_parts (nat_le m f.placed.row.generation) (nat_le f.placed.row.generation g) range).0; takes = f.takes; is = f.is }

    left : (p : PlacedRow) → Has p (filter (is_from (max table.marks.floor m)) table.rows) → 0 < p.place
    left p there = holds.placed p (has_passed (is_from (max table.marks.floor m)) p table.rows there).0
