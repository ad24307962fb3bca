-- What is visible of a table that is done is what is to be seen of all rows that were ever committed.
use Rattle.std.proofs.Common.{◌≡◌, ◌⊎◌, inl, inr, ℕ, ◌&&◌, nat_le, List, [], ◌∷◌, map, filter, Option, None, Some, Bool, true, false, refl, sym, ◌∙◌, ap, subst}
use Rattle.std.specs.Prelude.{Contains}
use Rattle.std.specs.List.Sorted.{IsPermutation, IsStableByKey}
use Rattle.std.proofs.lemmas.Bool.{cases_Bool, false≢true, and_left}
use Rattle.basics.specs.declared.stream.StreamId.{StreamId}
use Rattle.outside.specs.declared.event.Event.{Event}
use Rattle.outside.specs.declared.event.RawRow.{RawRow}
use Rattle.outside.specs.declared.event.StreamPlan.{StreamPlan}
use Rattle.outside.specs.declared.load.Marks.{Marks}
use Rattle.outside.specs.declared.table.PlacedRow.{PlacedRow}
use Rattle.outside.specs.declared.table.StreamTable.{StreamTable}
use Rattle.outside.specs.Winners.{winner_in}
use Rattle.outside.specs.Tables.{tables_of, table_in, plan_at, is_from, is_in_shown, row_of, winners_for, winners_at}
use Rattle.raw_tables.specs.Visible.{is_seen, seen_rows, AreSeen, IsVisible, stamp_of, stamp_cmp}
use Rattle.dedup_merge.specs.Winners.{has_key, rows_of_key, WinsAmong, AreWinnersOf}
use Rattle.dedup_merge.specs.Merges.{HasOneOfAStamp, merged_at, parts_for, parts_at, unmerged_at}
use Rattle.dedup_merge.proofs.SameRowLemmas.{Has, has_from, has_kept, has_passed, HasOneOf}
use Rattle.dedup_merge.proofs.StandLemmas.{all_merged}
use Rattle.dedup_merge.proofs.LeftLemmas.{both_parts}
use Rattle.load_rules.specs.Marks.{marks_of, ever_committed, whole_table, IsSeenOf}
use Rattle.load_rules.specs.Stores.{IsStoreRun}
use Rattle.load_rules.specs.Finished.{is_dedup}
use Rattle.load_rules.specs.Laws.{VisibleIsSeen}
use Rattle.load_rules.proofs.SideHolds.{from_row, has_row}
use Rattle.load_rules.proofs.Sides.{run_holds, sides_stand}
use Rattle.load_rules.proofs.Stamps.{stamps_hold}

-- what is seen is from the floor on
seen_from : (marks : Marks) (p : PlacedRow) → is_from marks.floor p ≡ false → is_seen marks p.row ≡ false
seen_from marks p below = at marks.top
  where
    at : (top : Option ℕ) → is_in_shown marks.floor top p.row.generation ≡ false
    at None = refl
    at (Some top) = and_left (nat_le marks.floor p.row.generation) (nat_le p.row.generation top) below

seen_filtered : (marks : Marks) (rows : List PlacedRow) → filter (is_seen marks) (map row_of (filter (is_from marks.floor) rows)) ≡ filter (is_seen marks) (map row_of rows)
seen_filtered marks [] = refl
seen_filtered marks (p ∷ rows) = at (cases_Bool (is_from marks.floor p)) (cases_Bool (is_seen marks p.row)) (seen_filtered marks rows)
  where
    at : (is_from marks.floor p ≡ true) ⊎ (is_from marks.floor p ≡ false) → (is_seen marks p.row ≡ true) ⊎ (is_seen marks p.row ≡ false) → filter (is_seen marks) (map row_of (filter (is_from marks.floor) rows)) ≡ filter (is_seen marks) (map row_of rows) → filter (is_seen marks) (map row_of (filter (is_from marks.floor) (p ∷ rows))) ≡ filter (is_seen marks) (map row_of (p ∷ rows))
    at (inl from) (inl seen) rest = rw (from, seen) (ap (λ (rs : List RawRow). p.row ∷ rs) rest)
    at (inl from) (inr not_seen) rest = rw (from, not_seen) rest
    at (inr below) (inl seen) rest = absurd (false≢true (sym (seen_from marks p below) ∙ seen))
    at (inr below) (inr not_seen) rest = rw (below, not_seen) rest

seen_same : (marks : Marks) (rows ever : List PlacedRow) → filter (is_from marks.floor) rows ≡ filter (is_from marks.floor) ever → filter (is_seen marks) (map row_of rows) ≡ filter (is_seen marks) (map row_of ever)
seen_same marks rows ever same = sym (seen_filtered marks rows) ∙ (ap (λ ps. filter (is_seen marks) (map row_of ps)) same ∙ seen_filtered marks ever)

keyed_parts : (seen keyed : RawRow → Bool) (rows : List PlacedRow) → filter keyed (map row_of (filter (λ p. seen p.row && keyed p.row) rows)) ≡ filter keyed (filter seen (map row_of rows))
keyed_parts seen keyed [] = refl
keyed_parts seen keyed (p ∷ rows) = at (seen p.row) (keyed p.row) refl refl (keyed_parts seen keyed rows)
  where
    at : (a b : Bool) → seen p.row ≡ a → keyed p.row ≡ b → filter keyed (map row_of (filter (λ it. seen it.row && keyed it.row) rows)) ≡ filter keyed (filter seen (map row_of rows)) → filter keyed (map row_of (filter (λ it. seen it.row && keyed it.row) (p ∷ rows))) ≡ filter keyed (filter seen (map row_of (p ∷ rows)))
    at true true is key rest = rw (is, key, key) (ap (λ (rs : List RawRow). p.row ∷ rs) rest)
    at true false is key rest = rw (is, key) rest
    at false b is key rest = rw is rest

-- Of the shown side

module _ (table : StreamTable) (ever : List PlacedRow) (same : filter (is_from table.marks.floor) table.rows ≡ filter (is_from table.marks.floor) ever) where
  pub shown_rows : List RawRow
  shown_rows = map row_of (filter (λ p. is_seen table.marks p.row && has_key p.row) table.rows)

  in_ever : (p : PlacedRow) → Has p table.rows → (is_seen table.marks p.row && has_key p.row) ≡ true → Has p ever
  in_ever p there takes = at (cases_Bool (is_from table.marks.floor p))
    where
      at : (is_from table.marks.floor p ≡ true) ⊎ (is_from table.marks.floor p ≡ false) → Has p ever
      at (inl from) = (has_passed (is_from table.marks.floor) p ever (subst (λ ps. Has p ps) same (has_kept (is_from table.marks.floor) p table.rows there from))).0
      at (inr below) = absurd (false≢true (sym (seen_from table.marks p below) ∙ (both_parts (is_seen table.marks p.row) (has_key p.row) takes).0))

  part_row : (row : RawRow) → Contains (map row_of (filter (λ p. is_seen table.marks p.row && has_key p.row) table.rows)) row → Has row (map row_of ever)
  part_row row there =
      let f = from_row (λ p. is_seen table.marks p.row && has_key p.row) table.rows row (has_from (map row_of (filter (λ p. is_seen table.marks p.row && has_key p.row) table.rows)) row there) in
      subst (λ (r : RawRow). Has r (map row_of ever)) f.is (has_row f.placed ever (in_ever f.placed f.there f.takes))

  pub parts_one : HasOneOf (map row_of ever) → HasOneOfAStamp (map row_of (filter (λ p. is_seen table.marks p.row && has_key p.row) table.rows))
  parts_one one a b in_a in_b loads_same seqs = one a b (part_row a in_a) (part_row b in_b) loads_same seqs

  pub winners_seen : (winners : List RawRow) → AreWinnersOf (map row_of (filter (λ p. is_seen table.marks p.row && has_key p.row) table.rows)) winners → AreWinnersOf (filter (is_seen table.marks) (map row_of ever)) winners
  winners_seen winners are = record {
    rise = are.rise;
    each = λ key. subst (λ rows. WinsAmong (rows_of_key key rows) (winner_in winners key)) (keyed_parts (is_seen table.marks) has_key table.rows ∙ ap (filter has_key) (seen_same table.marks table.rows ever same)) (are.each key);
  }

-- The law

seen_winners : (trace : List Event) (number : ℕ) (i : StreamId) (d : Bool) (g m : ℕ) (h : Bool) → h ≡ false → plan_at (tables_of trace) number ≡ Some (record { id = i; dedup = d; generation = g; minimum = m; hidden = h }) → IsStoreRun trace → unmerged_at (tables_of trace) number ≡ [] → AreWinnersOf (filter (is_seen (marks_of trace i)) (map row_of (ever_committed i trace))) (table_in (tables_of trace).streams i).shown.winners
seen_winners trace number i d g m true hidden planned run none = absurd (false≢true (sym hidden))
seen_winners trace number i d g m false hidden planned run none =
    let table = table_in (tables_of trace).streams i in
    let ever = ever_committed i trace in
    let same = (run_holds i trace run).table.same in
    let plan : StreamPlan = record { id = i; dedup = d; generation = g; minimum = m; hidden = false } in
    let parts : parts_at (tables_of trace) number ≡ parts_for (Some plan) (tables_of trace) = ap (λ (p : Option StreamPlan). parts_for p (tables_of trace)) planned in
    let winners : winners_at (tables_of trace) number ≡ winners_for (Some plan) (tables_of trace) = ap (λ (p : Option StreamPlan). winners_for p (tables_of trace)) planned in
    let one = parts_one table ever same (stamps_hold i trace run).one in
    let all : AreWinnersOf (map row_of (parts_at (tables_of trace) number)) (winners_at (tables_of trace) number) = all_merged (tables_of trace) number (merged_at trace number) (sides_stand trace number run) none (subst (λ (ps : List PlacedRow). HasOneOfAStamp (map row_of ps)) (sym parts) one) in
    winners_seen table ever same table.shown.winners (subst (λ (ps : List PlacedRow). AreWinnersOf (map row_of ps) table.shown.winners) parts (subst (λ (ws : List RawRow). AreWinnersOf (map row_of (parts_at (tables_of trace) number)) ws) winners all))

seen_plain : (trace : List Event) (id : StreamId) (rows : List RawRow) → IsStoreRun trace → AreSeen (table_in (tables_of trace).streams id) rows → AreSeen (whole_table trace id) rows
seen_plain trace id rows run seen =
    let table = table_in (tables_of trace).streams id in
    let same : seen_rows (table_in (tables_of trace).streams id) ≡ seen_rows (whole_table trace id) = seen_same table.marks table.rows (ever_committed id trace) (run_holds id trace run).table.same in
    record {
      are = subst (λ list. IsPermutation list rows) same seen.are;
      ordered = seen.ordered;
      stable = subst (λ list. IsStableByKey stamp_of stamp_cmp list rows) same seen.stable;
    }

pub visible_is_seen : VisibleIsSeen
visible_is_seen trace number stream rows run done visible = at (is_dedup stream.dest) refl visible
  where
    at : (dedup : Bool) → is_dedup stream.dest ≡ dedup → IsVisible dedup (table_in (tables_of trace).streams stream.id) rows → IsSeenOf dedup trace stream.id rows
    at true is visible =
        let plan = done.plan in
        let own = seen_winners trace number plan.id plan.dedup plan.generation plan.minimum plan.hidden done.shown done.planned run (done.merged is) in
        subst (AreWinnersOf (filter (is_seen (marks_of trace stream.id)) (map row_of (ever_committed stream.id trace)))) (sym visible) (subst (λ id. AreWinnersOf (filter (is_seen (marks_of trace id)) (map row_of (ever_committed id trace))) (table_in (tables_of trace).streams id).shown.winners) done.same own)
    at false is visible = seen_plain trace stream.id rows run visible
