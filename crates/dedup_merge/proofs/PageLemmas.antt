-- Reads of a dock one after another, and a page that is merged.
use Rattle.std.proofs.Common.{◌≡◌, inl, inr, ℕ, ◌+◌, ◌*◌, ◌<◌, ◌≤◌, zero, suc, List, [], ◌∷◌, ◌++◌, take, drop, length, get_or, nat_lt, true, false, length-drop, Option, None, Some, Err, refl, sym, ◌∙◌, ap, subst, arith}
use Rattle.std.specs.Prelude.{IfSome, option_map, ◌≢◌}
use Rattle.std.proofs.lemmas.List.{take_more}
use Rattle.basics.specs.Told.{RoseIf, told_more}
use Rattle.outside.specs.declared.dock.DockTally.{DockTally}
use Rattle.outside.specs.declared.event.Event.{Event}
use Rattle.outside.specs.declared.event.RawRow.{RawRow}
use Rattle.outside.specs.Dock.{DockSeen, dock_events, tables, ReadAtMost}
use Rattle.outside.specs.declared.event.Event.TheVariants.{Merged}
use Rattle.outside.specs.declared.event.StreamPlan.{StreamPlan}
use Rattle.outside.specs.declared.fault.Fault.{Fault}
use Rattle.outside.specs.declared.fault.Fault.TheVariants as fault
use Rattle.outside.specs.declared.table.PlacedRow.{PlacedRow}
use Rattle.outside.specs.Link.{AddsOn}
use Rattle.outside.specs.Tables.{no_tables, tables_of, tables_after, plan_at, winners_at, page_for, page_of}
use Rattle.outside.proofs.PlaceLaws.{tables_rise}
use Rattle.std.proofs.lemmas.Bool.Decides.{nat_tests}
use Rattle.std.proofs.lemmas.List.Sums.{fold-append}
use Rattle.dedup_merge.specs.Faults.{fault_of}
use Rattle.dedup_merge.specs.Merges.{unmerged_for, unmerged_at}
use Rattle.dedup_merge.proofs.LeftLemmas.{left_at, lt_is, lt_from}
use Rattle.dedup_merge.proofs.StandLemmas.{stands_on, all_merged}
use Rattle.dedup_merge.proofs.FitLemmas.{page_fits}
use Rattle.dedup_merge.proofs.SideLemmas.{side_fits}
use Rattle.outside.specs.declared.load.Unmerged.{Unmerged}
use Rattle.outside.specs.declared.table.Tables.{Tables}
use Rattle.outside.specs.Winners.{put_winners}
use Rattle.outside.specs.Dock.{IsPage, RoseExactlyBy}
use Rattle.std.proofs.lemmas.List.{take-append-drop}
use Rattle.dedup_merge.specs.Pages.{TakesIn, IsPageMerge, IsMergedWhole, FitsBehind, PageAdds}
use Rattle.dedup_merge.proofs.KeyLemmas.{count_capped, count_of_front}
use Rattle.dedup_merge.proofs.StepLemmas.{takes_in}
use Rattle.outside.proofs.DockLaws.{read_wider}
use Rattle.outside.specs.Winners.{winner_in}
use Rattle.outside.proofs.ToldLaws.{rose_later}
use Rattle.outside.proofs.DockLaws.{dock_grew_refl, dock_grew_trans, read_more}
use Rattle.dedup_merge.specs.Winners.{KeysRise, key_count}
use Rattle.dedup_merge.specs.Steps.{TakesFrom, ReadsOnly, BestSoFar, KnowsKeys, side_of_store, reads_for, or_else}
use Rattle.dedup_merge.proofs.StepLemmas.{still_best, reads_counted}

pub only_refl : (a : DockSeen) → ReadsOnly a a
only_refl a = record { grew = dock_grew_refl a; events = refl; face = refl; counts = refl }

pub only_trans : (a b c : DockSeen) → ReadsOnly a b → ReadsOnly b c → ReadsOnly a c
only_trans a b c p q = record {
  grew = dock_grew_trans a b c p.grew q.grew;
  events = q.events ∙ p.events;
  face = q.face ∙ p.face;
  counts = q.counts ∙ ap (λ (t : DockTally). record t { store_faults = c.counts.store_faults }) p.counts;
}

pub side_kept : (stream : ℕ) (a b : DockSeen) → ReadsOnly a b → side_of_store stream (tables b) ≡ side_of_store stream (tables a)
side_kept stream a b p = ap (λ (events : Option (List Event)). side_of_store stream (option_map tables_of events)) p.events

-- a fault in a later part is one of the whole
pub fault_later : (happened : Type 0) (a b c : DockSeen) → ReadsOnly a b → RoseIf happened b.counts.store_faults c.counts.store_faults → RoseIf happened a.counts.store_faults c.counts.store_faults
fault_later happened a b c p faults =
    let before = p.grew.counts.store_faults in
    let after = faults.kept in
    record { kept = omega arith; rose = λ h. rose_later a.counts.store_faults b.counts.store_faults c.counts.store_faults before (faults.rose h) }

-- The loop over the rows of a page

pub rows_taken : (rows : List RawRow) (i : ℕ) (row : RawRow) → i < length rows → row ≡ get_or rows i row → take (i + 1) rows ≡ take i rows ++ row ∷ []
rows_taken rows i row within is = take_more rows i row within ∙ ap (λ (r : RawRow). take i rows ++ r ∷ []) (sym is)

pub best_next : (side later : Option (List RawRow)) (rows : List RawRow) (row : RawRow) (old new : List RawRow) → later ≡ side → (takes : TakesFrom later row old new) → IfSome side (λ before. BestSoFar before rows old) → IfSome side (λ before. BestSoFar before (rows ++ row ∷ []) new)
best_next None later rows row old new same takes so_far = so_far
best_next (Some before) later rows row old new same takes so_far =
    let prior : takes.prior ≡ or_else (winner_in old row.key) (winner_in before row.key) = subst (λ (side : Option (List RawRow)). IfSome side (λ b. takes.prior ≡ or_else (winner_in old row.key) (winner_in b row.key))) same takes.prior_is in
    still_best takes.prior row old new takes.takes before rows prior so_far

pub counted_next : (rows : List RawRow) (row : RawRow) (best : List RawRow) (a b c : ℕ) → KnowsKeys rows best → ReadAtMost (key_count rows) a b → ReadAtMost (reads_for (winner_in best row.key)) b c → ReadAtMost (key_count (rows ++ row ∷ [])) a c
counted_next rows row best a b c knows first second = subst (λ (n : ℕ). ReadAtMost n a c) (reads_counted rows row best knows) (read_more (key_count rows) (reads_for (winner_in best row.key)) a b c first second)

-- a row that could not be taken in
pub counted_whole : (rows : List RawRow) (i : ℕ) (row : RawRow) (best : List RawRow) (a b c : ℕ) → i < length rows → row ≡ get_or rows i row → KnowsKeys (take i rows) best → ReadAtMost (key_count (take i rows)) a b → ReadAtMost (reads_for (winner_in best row.key)) b c → ReadAtMost (key_count rows) a c
counted_whole rows i row best a b c within is knows first second =
    let front : ReadAtMost (key_count (take (i + 1) rows)) a c = subst (λ (rs : List RawRow). ReadAtMost (key_count rs) a c) (sym (rows_taken rows i row within is)) (counted_next (take i rows) row best a b c knows first second) in
    let whole : key_count (take (i + 1) rows) ≤ key_count rows = subst (λ (rs : List RawRow). key_count (take (i + 1) rows) ≤ key_count rs) (take-append-drop (i + 1) rows) (count_of_front (take (i + 1) rows) (drop (i + 1) rows)) in
    read_wider (key_count (take (i + 1) rows)) (key_count rows) a c whole front

pub all_taken : (rows : List RawRow) (i : ℕ) → length rows ≤ i → take i rows ≡ rows
all_taken [] zero within = refl
all_taken [] (suc i) within = refl
all_taken (row ∷ rows) zero within = absurd (omega arith)
all_taken (row ∷ rows) (suc i) within = ap (λ (rs : List RawRow). row ∷ rs) (all_taken rows i (omega arith))

pub page_taken : (side : Option (List RawRow)) (rows best made : List RawRow) → KeysRise best → made ≡ best → IfSome side (λ before. BestSoFar before rows best) → IfSome side (λ before. TakesIn rows before (put_winners before made))
page_taken None rows best made rise same so_far = so_far
page_taken (Some before) rows best made rise same so_far = subst (λ (ws : List RawRow). TakesIn rows before (put_winners before ws)) (sym same) (takes_in before rows best rise so_far)

-- The page

pub page_reads : (next : Unmerged) (rows : List RawRow) (mark page a b c : ℕ) → IsPage mark page next → RoseExactlyBy (length next.rows) a b → rows ≡ next.rows → ReadAtMost (key_count rows) b c → ReadAtMost (2 * page) a c
page_reads next rows mark page a b c is_page rose same read =
    let capped : length rows ≤ page = subst (λ (rs : List RawRow). length rs ≤ page) (sym same) is_page.capped in
    let here : length next.rows ≤ page = is_page.capped in
    let keys : key_count rows ≤ length rows = count_capped rows in
    let kept = read.kept in
    let most = read.most in
    record { kept = omega arith; most = omega arith }

pub page_merge : (told : Option (List Event)) (stream page : ℕ) (next : Unmerged) (rows written : List RawRow) → IfSome (option_map tables_of told) (λ store. next ≡ page_of store stream page) → rows ≡ next.rows → IfSome (side_of_store stream (option_map tables_of told)) (λ before. TakesIn rows before (put_winners before written)) → IfSome (option_map tables_of told) (λ store. IsPageMerge store stream page written next.mark)
page_merge None stream page next rows written is same takes = is
page_merge (Some events) stream page next rows written is same takes =
    let store = tables_of events in
    let ends : next.mark ≡ (page_of (tables_of events) stream page).mark = ap (λ (u : Unmerged). u.mark) is in
    let winners : TakesIn (page_of (tables_of events) stream page).rows (winners_at (tables_of events) stream) (put_winners (winners_at (tables_of events) stream) written) = subst (λ (rs : List RawRow). TakesIn rs (winners_at (tables_of events) stream) (put_winners (winners_at (tables_of events) stream) written)) (same ∙ ap (λ (u : Unmerged). u.rows) is) takes in
    record {
      mark_is = ends;
      winners = winners;
      left = left_at store stream page written next.mark (tables_rise events) ends;
      stands = stands_on store stream page written next.mark (tables_rise events) ends winners;
    }

pub page_behind : (told : Option (List Event)) (stream page : ℕ) (next : Unmerged) (written : List RawRow) → IfSome (option_map tables_of told) (λ store. next ≡ page_of store stream page) → IfSome (option_map tables_of told) (λ store. IsPageMerge store stream page written next.mark) → IfSome told (FitsBehind stream written next.mark)
page_behind None stream page next written is merge = is
page_behind (Some events) stream page next written is merge = λ known fit. (let side = side_fits events stream fit in page_fits events stream page written next.mark merge.mark_is merge.winners known side.0 side.1)

-- What is left

none_more : (most : ℕ) → false ≡ nat_lt most 0
none_more most = grind (arith, nat_tests)

page_more : (store : Tables) (stream most : ℕ) → (page_of store stream most).more ≡ nat_lt most (length (unmerged_at store stream))
page_more store stream most = by_plan (plan_at store stream) where
  by_plan : (plan : Option StreamPlan) → (page_for plan store most).more ≡ nat_lt most (length (unmerged_for plan store))
  by_plan None = none_more most
  by_plan (Some plan) = refl

drop_some : (n : ℕ) (rows : List PlacedRow) → nat_lt n (length rows) ≡ true → drop n rows ≢ []
drop_some n rows more none =
    let left : length (drop n rows) ≡ 0 = ap length none in
    let count = length-drop n rows in
    let less = lt_is n (length rows) more in
    omega arith

drop_all : (n : ℕ) (rows : List PlacedRow) → nat_lt n (length rows) ≡ false → drop n rows ≡ []
drop_all zero [] none = refl
drop_all zero (row ∷ rows) none = absurd (let less : 0 < length (row ∷ rows) = omega arith in let t = lt_from 0 (length (row ∷ rows)) less in cc)
drop_all (suc n) [] none = refl
drop_all (suc n) (row ∷ rows) none = drop_all n rows (fewer n (length rows) none) where
  fewer : (a b : ℕ) → nat_lt (suc a) (suc b) ≡ false → nat_lt a b ≡ false
  fewer a b e = grind (arith, nat_tests)

module _ (events : List Event) (stream page : ℕ) (next : Unmerged) (written : List RawRow) (is : next ≡ page_of (tables_of events) stream page) where
  left_behind : unmerged_at (tables_of (events ++ Merged stream written next.mark ∷ [])) stream ≡ drop page (unmerged_at (tables_of events) stream)
  left_behind = ap (λ (store : Tables). unmerged_at store stream) (fold-append tables_after no_tables events (Merged stream written next.mark ∷ [])) ∙ left_at (tables_of events) stream page written next.mark (tables_rise events) (ap (λ (u : Unmerged). u.mark) is)

  more_left : next.more ≡ true → unmerged_at (tables_of (events ++ Merged stream written next.mark ∷ [])) stream ≢ []
  more_left more none = drop_some page (unmerged_at (tables_of events) stream) (sym (ap (λ (u : Unmerged). u.more) is ∙ page_more (tables_of events) stream page) ∙ more) (sym left_behind ∙ none)

  none_left : next.more ≡ false → unmerged_at (tables_of (events ++ Merged stream written next.mark ∷ [])) stream ≡ []
  none_left done = left_behind ∙ drop_all page (unmerged_at (tables_of events) stream) (sym (ap (λ (u : Unmerged). u.more) is ∙ page_more (tables_of events) stream page) ∙ done)

pub answer_more : (told now : Option (List Event)) (stream page : ℕ) (next : Unmerged) (written : List RawRow) → now ≡ told_more (Merged stream written next.mark ∷ []) told → IfSome (option_map tables_of told) (λ store. next ≡ page_of store stream page) → next.more ≡ true → IfSome (option_map tables_of now) (λ store. unmerged_at store stream ≢ [])
answer_more None now stream page next written added is more = subst (λ (o : Option (List Event)). IfSome (option_map tables_of o) (λ store. unmerged_at store stream ≢ [])) (sym added) is
answer_more (Some events) now stream page next written added is more = subst (λ (o : Option (List Event)). IfSome (option_map tables_of o) (λ store. unmerged_at store stream ≢ [])) (sym added) (more_left events stream page next written is more)

pub answer_done : (told now : Option (List Event)) (stream page : ℕ) (next : Unmerged) (written : List RawRow) → now ≡ told_more (Merged stream written next.mark ∷ []) told → IfSome (option_map tables_of told) (λ store. next ≡ page_of store stream page) → next.more ≡ false → IfSome (option_map tables_of now) (λ store. IsMergedWhole store stream)
answer_done None now stream page next written added is done = subst (λ (o : Option (List Event)). IfSome (option_map tables_of o) (λ store. IsMergedWhole store stream)) (sym added) is
answer_done (Some events) now stream page next written added is done =
    let store = tables_of (events ++ Merged stream written next.mark ∷ []) in
    let none = none_left events stream page next written is done in
    subst (λ (o : Option (List Event)). IfSome (option_map tables_of o) (λ store. IsMergedWhole store stream)) (sym added) (record { none_left = none; winners_are = λ merged stands stamps. all_merged store stream merged stands none stamps })

-- a page that could not be merged
pub page_failed : (why : Fault) (stream page mark : ℕ) (written : List RawRow) (old new : DockSeen) → AddsOn {T = Unit {0}} (Err why) (Merged stream written mark) (dock_events old) (dock_events new) → new.face ≡ old.face → IfSome (tables old) (λ store. IsPageMerge store stream page written mark) → IfSome (dock_events old) (FitsBehind stream written mark) → PageAdds (Err (fault_of why)) stream page old new
page_failed fault.Failed stream page mark written old new (inl same) face merge fits = record { merges = inl same; face = face }
page_failed fault.Failed stream page mark written old new (inr added) face merge fits = record { merges = inr (record { written = written; mark = mark; added = added; merge = merge; fits = fits }); face = face }
page_failed fault.NoMemory stream page mark written old new adds face merge fits = record { events = adds; face = face }
