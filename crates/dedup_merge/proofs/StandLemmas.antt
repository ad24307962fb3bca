-- A side stands with the rows that were merged into it, page by page.
use Rattle.std.proofs.Common.{◌≡◌, ◌⊎◌, inl, inr, ℕ, ◌<◌, ◌≤◌, zero, suc, List, [], ◌∷◌, ◌++◌, map, filter, take, Bool, true, false, nat_lt, Option, None, Some, refl, sym, ◌∙◌, ap, subst, arith}
use Rattle.std.specs.Prelude.{Contains}
use Rattle.std.proofs.lemmas.Bool.Decides.{nat_tests}
use Rattle.std.proofs.lemmas.List.{append-nil}
use Rattle.std.proofs.lemmas.List.Elements.{Contains-append_left, Contains-append_right, Contains-append_cases}
use Rattle.outside.specs.declared.event.RawRow.{RawRow}
use Rattle.outside.specs.declared.event.StreamPlan.{StreamPlan}
use Rattle.outside.specs.declared.load.Marks.{Marks}
use Rattle.outside.specs.declared.table.PlacedRow.{PlacedRow}
use Rattle.outside.specs.declared.table.Tables.{Tables}
use Rattle.outside.specs.Places.{TablesRise}
use Rattle.outside.specs.Tables.{table_in, side_of, tables_merged, plan_at, is_unmerged, takes_part, last_place, page_for, page_of, winners_for, winners_at, row_of}
use Rattle.outside.specs.Winners.{put_winners, winner_in}
use Rattle.outside.proofs.PlaceLaws.{rise_in}
use Rattle.dedup_merge.specs.Winners.{AreWinnersOf, has_key, rows_of_key, is_of_key}
use Rattle.dedup_merge.specs.Merges.{SideStands, HasOneOfAStamp, unmerged_for, unmerged_at, parts_for, parts_at, mark_for, mark_at, is_between}
use Rattle.dedup_merge.specs.Pages.{TakesIn}
use Rattle.dedup_merge.proofs.JoinLemmas.{winners_on}
use Rattle.dedup_merge.proofs.SameRowLemmas.{Has, has_from, has_to, has_kept, has_passed, same_wins}
use Rattle.dedup_merge.proofs.LeftLemmas.{lt_from, le_from, both_parts, page_between, winners_some, mark_some, parts_some}

-- Elements

has_row : (placed : PlacedRow) (rows : List PlacedRow) → Has placed rows → Has placed.row (map row_of rows)
has_row placed [] there = absurd there
has_row placed (p ∷ rows) (inl e) = inl (ap row_of e)
has_row placed (p ∷ rows) (inr there) = inr (has_row placed rows there)

record FromPlaced (row : RawRow) (rows : List PlacedRow) : Type 0 where
  placed : PlacedRow
  there : Has placed rows
  is : placed.row ≡ row

from_row : (row : RawRow) (rows : List PlacedRow) → Has row (map row_of rows) → FromPlaced row rows
from_row row [] there = absurd there
from_row row (p ∷ rows) (inl e) = record { placed = p; there = inl refl; is = e }
from_row row (p ∷ rows) (inr there) = let found = from_row row rows there in record { placed = found.placed; there = inr found.there; is = found.is }

has_front : (n : ℕ) (placed : PlacedRow) (rows : List PlacedRow) → Has placed (take n rows) → Has placed rows
has_front zero placed rows there = absurd there
has_front (suc n) placed [] there = absurd there
has_front (suc n) placed (p ∷ rows) (inl e) = inl e
has_front (suc n) placed (p ∷ rows) (inr there) = inr (has_front n placed rows there)

-- rows that take part have keys
keyed_rows : (plan : StreamPlan) (marks : Marks) (rows : List PlacedRow) → ((placed : PlacedRow) → Has placed rows → takes_part plan marks placed ≡ true) → filter has_key (map row_of rows) ≡ map row_of rows
keyed_rows plan marks [] each = refl
keyed_rows plan marks (p ∷ rows) each =
    let keyed : has_key p.row ≡ true = (both_parts _ (has_key p.row) (each p (inl refl))).1 in
    rw keyed (ap (λ (rs : List RawRow). p.row ∷ rs) (keyed_rows plan marks rows (λ q there. each q (inr there))))

module _ (store : Tables) (plan : StreamPlan) where
  -- a row that is unmerged takes part
  unmerged_part : (placed : PlacedRow) → Has placed (unmerged_for (Some plan) store) → Has placed (parts_for (Some plan) store) × (takes_part plan (table_in store.streams plan.id).marks placed ≡ true)
  unmerged_part placed there =
      let marks = (table_in store.streams plan.id).marks in
      let mine = (side_of plan (table_in store.streams plan.id)).mark in
      let passed = has_passed (is_unmerged plan marks mine) placed (table_in store.streams plan.id).rows there in
      let part = (both_parts (nat_lt mine placed.place) (takes_part plan marks placed) passed.1).1 in
      (has_kept (takes_part plan marks) placed (table_in store.streams plan.id).rows passed.0 part, part)

  -- one that takes part and stands behind the mark is unmerged
  part_unmerged : (placed : PlacedRow) → Has placed (parts_for (Some plan) store) → mark_for (Some plan) store < placed.place → Has placed (unmerged_for (Some plan) store)
  part_unmerged placed there behind =
      let marks = (table_in store.streams plan.id).marks in
      let mine = (side_of plan (table_in store.streams plan.id)).mark in
      let passed = has_passed (takes_part plan marks) placed (table_in store.streams plan.id).rows there in
      let test : is_unmerged plan marks mine placed ≡ true = rw (lt_from mine placed.place behind, passed.1) refl in
      has_kept (is_unmerged plan marks mine) placed (table_in store.streams plan.id).rows passed.0 test

module _ (store : Tables) (most : ℕ) (rise : TablesRise store) (plan : StreamPlan) where
  -- the page's rows
  pub page_part : (row : RawRow) → Has row (page_for (Some plan) store most).rows → Has row (map row_of (parts_for (Some plan) store))
  page_part row there =
      let found = from_row row (take most (unmerged_for (Some plan) store)) there in
      subst (λ (r : RawRow). Has r (map row_of (parts_for (Some plan) store))) found.is (has_row found.placed (parts_for (Some plan) store) (unmerged_part store plan found.placed (has_front most found.placed (unmerged_for (Some plan) store) found.there)).0)

  pub page_keyed : filter has_key (page_for (Some plan) store most).rows ≡ (page_for (Some plan) store most).rows
  page_keyed = keyed_rows plan (table_in store.streams plan.id).marks (take most (unmerged_for (Some plan) store)) (λ placed there. (unmerged_part store plan placed (has_front most placed (unmerged_for (Some plan) store) there)).1)

  -- a row that takes part, behind the mark and up to the page's, is one of the page
  pub in_page : (placed : PlacedRow) → Has placed (parts_for (Some plan) store) → mark_for (Some plan) store < placed.place → placed.place ≤ (page_for (Some plan) store most).mark → Has placed.row (page_for (Some plan) store most).rows
  in_page placed there behind up_to =
      let marks = (table_in store.streams plan.id).marks in
      let mine = (side_of plan (table_in store.streams plan.id)).mark in
      let rows = (table_in store.streams plan.id).rows in
      let last = last_place mine (take most (unmerged_for (Some plan) store)) in
      let passed = has_passed (takes_part plan marks) placed rows there in
      let test : is_between plan marks mine last placed ≡ true = rw (le_from placed.place last up_to, lt_from mine placed.place behind, passed.1) refl in
      let between = has_kept (is_between plan marks mine last) placed rows passed.0 test in
      has_row placed (take most (unmerged_for (Some plan) store)) (subst (λ (ps : List PlacedRow). Has placed ps) (page_between plan marks mine most rows (rise_in store.places store.streams plan.id rise).rise) between)

low_or_high : (a b : ℕ) → (a ≤ b) ⊎ (b < a)
low_or_high a b = by_test (nat_lt b a) refl where
  by_test : (t : Bool) → nat_lt b a ≡ t → (a ≤ b) ⊎ (b < a)
  by_test true e = inr (grind (arith, nat_tests))
  by_test false e = inl (grind (arith, nat_tests))

-- a side that stands goes on to stand behind a page
pub stands_on : (store : Tables) (stream most : ℕ) (written : List RawRow) (mark : ℕ) → TablesRise store → mark ≡ (page_of store stream most).mark → TakesIn (page_of store stream most).rows (winners_at store stream) (put_winners (winners_at store stream) written)
    → (merged : List RawRow) → SideStands store stream merged → SideStands (tables_merged (plan_at store stream) written mark store) stream (merged ++ (page_of store stream most).rows)
stands_on store stream most written mark rise ends takes merged stands = by_plan (plan_at store stream) refl where
  by_plan : (plan : Option StreamPlan) → plan_at store stream ≡ plan → SideStands (tables_merged (plan_at store stream) written mark store) stream (merged ++ (page_of store stream most).rows)
  by_plan None at =
      let rows : merged ++ (page_of store stream most).rows ≡ merged = ap (λ (p : Option StreamPlan). merged ++ (page_for p store most).rows) at ∙ append-nil merged in
      subst (λ (rs : List RawRow). SideStands (tables_merged (plan_at store stream) written mark store) stream rs) (sym rows) (subst (λ (p : Option StreamPlan). SideStands (tables_merged p written mark store) stream merged) (sym at) stands)
  by_plan (Some plan) at =
      let new = tables_merged (Some plan) written mark store in
      let page : (page_of store stream most).rows ≡ (page_for (Some plan) store most).rows = ap (λ (p : Option StreamPlan). (page_for p store most).rows) at in
      let winners : winners_at new stream ≡ put_winners (winners_at store stream) written = ap (λ (p : Option StreamPlan). winners_for p new) at ∙ (winners_some store stream written mark plan ∙ ap (λ (p : Option StreamPlan). put_winners (winners_for p store) written) (sym at)) in
      let parts : parts_at new stream ≡ parts_at store stream = ap (λ (p : Option StreamPlan). parts_for p new) at ∙ (parts_some store stream written mark plan ∙ ap (λ (p : Option StreamPlan). parts_for p store) (sym at)) in
      let old_parts : parts_at store stream ≡ parts_for (Some plan) store = ap (λ (p : Option StreamPlan). parts_for p store) at in
      let old_mark : mark_at store stream ≡ mark_for (Some plan) store = ap (λ (p : Option StreamPlan). mark_for p store) at in
      let new_mark : mark_at new stream ≡ (page_for (Some plan) store most).mark = ap (λ (p : Option StreamPlan). mark_for p new) at ∙ (mark_some store stream written mark plan ∙ (ends ∙ ap (λ (p : Option StreamPlan). (page_for p store most).mark) at)) in
      let keyed : filter has_key (page_of store stream most).rows ≡ (page_of store stream most).rows = ap (filter has_key) page ∙ (page_keyed store most rise plan ∙ sym page) in
      subst (λ (p : Option StreamPlan). SideStands (tables_merged p written mark store) stream (merged ++ (page_of store stream most).rows)) (sym at) (record {
        winners_are = subst (λ (ws : List RawRow). AreWinnersOf (merged ++ (page_of store stream most).rows) ws) (sym winners) (winners_on merged (page_of store stream most).rows (winners_at store stream) written keyed stands.winners_are takes);
        all_up_to = λ placed there up_to.
            (let here : Contains (parts_at store stream) placed = subst (λ (ps : List PlacedRow). Contains ps placed) parts there in
            elim (low_or_high placed.place (mark_at store stream)) [
              | inl low ↦ Contains-append_left merged (page_of store stream most).rows placed.row (stands.all_up_to placed here low)
              | inr high ↦ Contains-append_right merged (page_of store stream most).rows placed.row (subst (λ (rs : List RawRow). Contains rs placed.row) (sym page) (has_to (page_for (Some plan) store most).rows placed.row
                  (in_page store most rise plan placed (has_from (parts_for (Some plan) store) placed (subst (λ (ps : List PlacedRow). Contains ps placed) old_parts here)) (subst (λ (m : ℕ). m < placed.place) old_mark high) (subst (λ (m : ℕ). placed.place ≤ m) new_mark up_to))))
            ]);
        no_other = λ row there.
            subst (λ (ps : List PlacedRow). Contains (map row_of ps) row) (sym parts)
            (elim (Contains-append_cases merged (page_of store stream most).rows row there) [
              | inl before ↦ stands.no_other row before
              | inr new_row ↦ subst (λ (ps : List PlacedRow). Contains (map row_of ps) row) (sym old_parts) (has_to (map row_of (parts_for (Some plan) store)) row (page_part store most rise plan row (has_from (page_for (Some plan) store most).rows row (subst (λ (rs : List RawRow). Contains rs row) page new_row))))
            ]);
      })

-- Where nothing is left to merge

none_in : (placed : PlacedRow) (rows : List PlacedRow) → rows ≡ [] → Has placed rows → ⊥
none_in placed [] e there = there
none_in placed (p ∷ rows) e there = cc

keyed_row : (key : List ℕ) (row : RawRow) (rows : List RawRow) → Has row (rows_of_key key (filter has_key rows)) → Has row rows × (is_of_key key row ≡ true) × (has_key row ≡ true)
keyed_row key row rows there =
    let first = has_passed (is_of_key key) row (filter has_key rows) there in
    let second = has_passed has_key row rows first.0 in
    (second.0, first.1, second.1)

row_keyed : (key : List ℕ) (row : RawRow) (rows : List RawRow) → Has row rows → is_of_key key row ≡ true → has_key row ≡ true → Has row (rows_of_key key (filter has_key rows))
row_keyed key row rows there own keyed = has_kept (is_of_key key) row (filter has_key rows) (has_kept has_key row rows there keyed) own

pub all_merged : (store : Tables) (stream : ℕ) (merged : List RawRow) → SideStands store stream merged → unmerged_at store stream ≡ [] → HasOneOfAStamp (map row_of (parts_at store stream)) → AreWinnersOf (map row_of (parts_at store stream)) (winners_at store stream)
all_merged store stream merged stands none stamps = record {
  rise = stands.winners_are.rise;
  each = λ key. same_wins (rows_of_key key (filter has_key merged)) (rows_of_key key (filter has_key parts)) (winner_in (winners_at store stream) key)
      (λ row there. (let own = keyed_row key row parts there in row_keyed key row merged (has_from merged row (in_merged row own.0)) own.1 own.2))
      (λ row there. (let own = keyed_row key row merged there in row_keyed key row parts (has_from parts row (stands.no_other row (has_to merged row own.0))) own.1 own.2))
      (λ a b in_a in_b load seq. stamps a b (stands.no_other a (has_to merged a (keyed_row key a merged in_a).0)) (stands.no_other b (has_to merged b (keyed_row key b merged in_b).0)) load seq)
      (stands.winners_are.each key);
} where
  parts : List RawRow
  parts = map row_of (parts_at store stream)

  behind : (placed : PlacedRow) → Has placed (parts_at store stream) → mark_at store stream < placed.place → ⊥
  behind placed there high = by_plan (plan_at store stream) refl where
    by_plan : (plan : Option StreamPlan) → plan_at store stream ≡ plan → ⊥
    by_plan None at = subst (λ (p : Option StreamPlan). Has placed (parts_for p store)) at there
    by_plan (Some plan) at = none_in placed (unmerged_for (Some plan) store) (sym (ap (λ (p : Option StreamPlan). unmerged_for p store) at) ∙ none)
        (part_unmerged store plan placed (subst (λ (p : Option StreamPlan). Has placed (parts_for p store)) at there) (subst (λ (m : ℕ). m < placed.place) (ap (λ (p : Option StreamPlan). mark_for p store) at) high))

  in_merged : (row : RawRow) → Has row (map row_of (parts_at store stream)) → Contains merged row
  in_merged row there =
      let found = from_row row (parts_at store stream) there in
      subst (λ (r : RawRow). Contains merged r) found.is (elim (low_or_high found.placed.place (mark_at store stream)) [
        | inl low ↦ stands.all_up_to found.placed (has_to (parts_at store stream) found.placed found.there) low
        | inr high ↦ absurd (behind found.placed found.there high)
      ])
