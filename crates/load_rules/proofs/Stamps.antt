-- Along a run of a store no two rows of a stream that differ have one load and sequence.
use Rattle.std.proofs.Common.{arith, ◌≡◌, ◌⊎◌, inl, inr, ℕ, ◌+◌, ◌<◌, eqb, List, [], ◌∷◌, ◌++◌, map, Option, None, Some, true, false, refl, sym, ◌∙◌, ap, subst}
use Rattle.std.specs.Prelude.{flat_map, slice_get}
use Rattle.std.specs.List.{AllByRecursion}
use Rattle.std.proofs.lemmas.List.{append-nil, map-append}
use Rattle.std.proofs.lemmas.Grind.{flat_map-append}
use Rattle.std.proofs.lemmas.Bool.{cases_Bool, false≢true, eq-eqb, or_left, or_right}
use Rattle.basics.specs.declared.stream.StreamId.{StreamId}
use Rattle.outside.specs.Event.{is_links}
use Rattle.outside.specs.declared.event.Event.{Event}
use Rattle.outside.specs.declared.event.Event.TheVariants.{Opened, Took, TookEnd, Committed, Emitted, Merged, Shown, Started, ReadLine, ReadEnd, Given, Closed, Got, GotEnd, Saved, Ended}
use Rattle.outside.specs.declared.event.RawRow.{RawRow}
use Rattle.outside.specs.declared.event.StreamPlan.{StreamPlan}
use Rattle.outside.specs.declared.table.PlacedRow.{PlacedRow}
use Rattle.outside.specs.declared.table.Tables.{Tables}
use Rattle.outside.specs.Dock.{is_opening}
use Rattle.outside.specs.Tables.{tables_of, tables_after, tables_committed, tables_merged, tables_shown, plan_at, placed_after, same_id, row_of}
use Rattle.dedup_merge.proofs.SameRowLemmas.{Has, HasOneOf}
use Rattle.dedup_merge.proofs.FitLemmas.{tables_next}
use Rattle.load_rules.specs.Prefixes.{with_first}
use Rattle.load_rules.specs.Taken.{is_in}
use Rattle.load_rules.specs.Loads.{Load, loads, loads_after, with_event, committed_rows, committed_in}
use Rattle.load_rules.specs.Marks.{own_rows, rows_in, ever_committed}
use Rattle.load_rules.specs.Stores.{AreNew, last_committed, CommittedFits, StoreFits, IsStoreRun}
use Rattle.load_rules.proofs.Machines.{is_in-append}
use Rattle.load_rules.proofs.LoadFronts.{goes_on}
use Rattle.load_rules.proofs.SafeAttempts.{loads_link, loads_own}
use Rattle.load_rules.proofs.SideHolds.{has_cases}
use Rattle.load_rules.proofs.Sides.{ever_next, along_run}

-- What the last load has committed

committed_in-more : (events : List Event) (event : Event) → committed_in (events ++ event ∷ []) ≡ committed_in events ++ map (λ row. row.seq) (committed_rows event)
committed_in-more events event =
    ap (map (λ (row : RawRow). row.seq)) (flat_map-append committed_rows events (event ∷ []))
    ∙ (map-append (λ (row : RawRow). row.seq) (flat_map committed_rows events) (flat_map committed_rows (event ∷ []))
    ∙ ap (λ rows. committed_in events ++ map (λ (row : RawRow). row.seq) rows) (append-nil (committed_rows event)))

-- of events that are no opening: the sequences of what they commit follow, where a load is open
abbrev last_more : List Load → List ℕ → List ℕ
last_more [] seqs = []
last_more (load ∷ older) seqs = committed_in load.events ++ seqs

last_first : (event : Event) (list : List Load) → last_committed (with_first (with_event event) list) ≡ last_more list (map (λ row. row.seq) (committed_rows event))
last_first event [] = refl
last_first event (load ∷ older) = committed_in-more load.events event

last_none : (list : List Load) → last_more list [] ≡ last_committed list
last_none [] = refl
last_none (load ∷ older) = append-nil (committed_in load.events)

last_store : (events : List Event) (event : Event) → is_links event ≡ false → is_opening event ≡ false → last_committed (loads (events ++ event ∷ [])) ≡ last_more (loads events) (map (λ row. row.seq) (committed_rows event))
last_store events event own opens = ap last_committed (loads_own events event own ∙ goes_on (loads events) event opens) ∙ last_first event (loads events)

-- where no load is open there is no plan
abbrev IsOpen : List Load → Tables → Type 0
IsOpen [] store = store.plan ≡ []
IsOpen (load ∷ older) store = Unit {0}

open_first : (event : Event) (list : List Load) (store now : Tables) → (store.plan ≡ [] → now.plan ≡ []) → IsOpen list store → IsOpen (with_first (with_event event) list) now
open_first event [] store now keeps open_now = keeps open_now
open_first event (load ∷ older) store now keeps open_now = tt

-- The rows of a stream

-- a committed row is of an earlier load, or one that the last load has committed
abbrev IsKnown : ℕ → List ℕ → RawRow → Type 0
IsKnown load last row = (row.load < load) ⊎ ((row.load ≡ load) × (is_in row.seq last ≡ true))

pub record StampsHold (id : StreamId) (events : List Event) : Type 0 where
  pub known : (row : RawRow) → Has row (map row_of (ever_committed id events)) → IsKnown (tables_of events).load (last_committed (loads events)) row
  pub one : HasOneOf (map row_of (ever_committed id events))
  pub opened : IsOpen (loads events) (tables_of events)

-- Rows of one commit

rows_placed : (place : ℕ) (rows : List RawRow) → map row_of (placed_after place rows) ≡ rows
rows_placed place [] = refl
rows_placed place (row ∷ rows) = ap (λ rest. row ∷ rest) (rows_placed (place + 1) rows)

own_load : (load : ℕ) (rows : List RawRow) (row : RawRow) → AllByRecursion (λ it. it.load ≡ load) rows → Has row rows → row.load ≡ load
own_load load [] row all there = absurd there
own_load load (first ∷ rows) row all (inl e) = subst (λ (it : RawRow). it.load ≡ load) e all.0
own_load load (first ∷ rows) row all (inr there) = own_load load rows row all.1 there

seq_there : (rows : List RawRow) (row : RawRow) → Has row rows → is_in row.seq (map (λ it. it.seq) rows) ≡ true
seq_there [] row there = absurd there
seq_there (first ∷ rows) row (inl e) = or_left (eqb first.seq row.seq) (is_in row.seq (map (λ it. it.seq) rows)) (eq-eqb first.seq row.seq (ap (λ (it : RawRow). it.seq) e))
seq_there (first ∷ rows) row (inr there) = or_right (eqb first.seq row.seq) (is_in row.seq (map (λ it. it.seq) rows)) (seq_there rows row there)

in_more : (seq other : ℕ) (old : List ℕ) → is_in seq old ≡ true → is_in seq (other ∷ old) ≡ true
in_more seq other old e = or_right (eqb other seq) (is_in seq old) e

new_apart : (old : List ℕ) (rows : List RawRow) (row : RawRow) → AreNew old (map (λ it. it.seq) rows) → Has row rows → is_in row.seq old ≡ true → ⊥
new_apart old [] row new there e = there
new_apart old (first ∷ rows) row new (inl same) e = false≢true (sym new.0 ∙ (ap (λ (it : RawRow). is_in it.seq old) same ∙ e))
new_apart old (first ∷ rows) row new (inr there) e = new_apart (first.seq ∷ old) rows row new.1 there (in_more row.seq first.seq old e)

new_one : (old : List ℕ) (rows : List RawRow) (a b : RawRow) → AreNew old (map (λ it. it.seq) rows) → Has a rows → Has b rows → a.seq ≡ b.seq → a ≡ b
new_one old [] a b new in_a in_b same = absurd in_a
new_one old (first ∷ rows) a b new (inl x) (inl y) same = sym x ∙ y
new_one old (first ∷ rows) a b new (inl x) (inr y) same = absurd (new_apart (first.seq ∷ old) rows b new.1 y (or_left (eqb first.seq b.seq) (is_in b.seq old) (eq-eqb first.seq b.seq (ap (λ (it : RawRow). it.seq) x ∙ same))))
new_one old (first ∷ rows) a b new (inr x) (inl y) same = absurd (new_apart (first.seq ∷ old) rows a new.1 x (or_left (eqb first.seq a.seq) (is_in a.seq old) (eq-eqb first.seq a.seq (ap (λ (it : RawRow). it.seq) y ∙ sym same))))
new_one old (first ∷ rows) a b new (inr x) (inr y) same = new_one (first.seq ∷ old) rows a b new.1 x y same

-- a new row has no known one's load and sequence
known_apart : (load : ℕ) (last : List ℕ) (rows : List RawRow) (a b : RawRow) → IsKnown load last a → AllByRecursion (λ it. it.load ≡ load) rows → AreNew last (map (λ it. it.seq) rows) → Has b rows → a.load ≡ b.load → a.seq ≡ b.seq → ⊥
known_apart load last rows a b (inl less) own new there loads_same seqs = let is = own_load load rows b own there in omega (arith, less, is, loads_same)
known_apart load last rows a b (inr both) own new there loads_same seqs = new_apart last rows b new there (subst (λ seq. is_in seq last ≡ true) seqs both.1)

one_more : (load : ℕ) (last : List ℕ) (old rows : List RawRow) → ((row : RawRow) → Has row old → IsKnown load last row) → HasOneOf old → AllByRecursion (λ it. it.load ≡ load) rows → AreNew last (map (λ it. it.seq) rows) → HasOneOf (old ++ rows)
one_more load last old rows known one own new a b in_a in_b loads_same seqs = at (has_cases a old rows in_a) (has_cases b old rows in_b)
  where
    at : Has a old ⊎ Has a rows → Has b old ⊎ Has b rows → a ≡ b
    at (inl x) (inl y) = one a b x y loads_same seqs
    at (inl x) (inr y) = absurd (known_apart load last rows a b (known a x) own new y loads_same seqs)
    at (inr x) (inl y) = absurd (known_apart load last rows b a (known b y) own new x (sym loads_same) (sym seqs))
    at (inr x) (inr y) = new_one last rows a b new x y seqs

known_more : (load : ℕ) (last : List ℕ) (old rows : List RawRow) → ((row : RawRow) → Has row old → IsKnown load last row) → AllByRecursion (λ it. it.load ≡ load) rows → (row : RawRow) → Has row (old ++ rows) → IsKnown load (last ++ map (λ it. it.seq) rows) row
known_more load last old rows known own row there = at (has_cases row old rows there)
  where
    before : IsKnown load last row → IsKnown load (last ++ map (λ it. it.seq) rows) row
    before (inl less) = inl less
    before (inr both) = inr (both.0, is_in-append row.seq last (map (λ it. it.seq) rows) ∙ or_left (is_in row.seq last) (is_in row.seq (map (λ it. it.seq) rows)) both.1)

    at : Has row old ⊎ Has row rows → IsKnown load (last ++ map (λ it. it.seq) rows) row
    at (inl x) = before (known row x)
    at (inr y) = inr (own_load load rows row own y, is_in-append row.seq last (map (λ it. it.seq) rows) ∙ or_right (is_in row.seq last) (is_in row.seq (map (λ it. it.seq) rows)) (seq_there rows row y))

-- Events

-- an event that commits nothing of this stream, and whose load has committed as much or more
stamps_kept : (id : StreamId) (events : List Event) (event : Event) → ever_committed id (events ++ event ∷ []) ≡ ever_committed id events → IsOpen (loads (events ++ event ∷ [])) (tables_of (events ++ event ∷ [])) → ((row : RawRow) → IsKnown (tables_of events).load (last_committed (loads events)) row → IsKnown (tables_of (events ++ event ∷ [])).load (last_committed (loads (events ++ event ∷ []))) row) → StampsHold id events → StampsHold id (events ++ event ∷ [])
stamps_kept id events event same opened known holds = record {
  known = λ row there. known row (holds.known row (subst (λ (ever : List PlacedRow). Has row (map row_of ever)) same there));
  one = subst (λ (ever : List PlacedRow). HasOneOf (map row_of ever)) (sym same) holds.one;
  opened = opened;
}

none_more : (id : StreamId) (events : List Event) (event : Event) → rows_in id (tables_of events) event ≡ [] → ever_committed id (events ++ event ∷ []) ≡ ever_committed id events
none_more id events event none = ever_next id events event ∙ (ap (λ more. ever_committed id events ++ more) none ∙ append-nil (ever_committed id events))

stamps_link : (id : StreamId) (events : List Event) (event : Event) → is_links event ≡ true → tables_after (tables_of events) event ≡ tables_of events → rows_in id (tables_of events) event ≡ [] → StampsHold id events → StampsHold id (events ++ event ∷ [])
stamps_link id events event link same none holds =
    let store : tables_of (events ++ event ∷ []) ≡ tables_of events = tables_next events event ∙ same in
    let list : loads (events ++ event ∷ []) ≡ loads events = loads_link events event link in
    stamps_kept id events event (none_more id events event none) (subst (IsOpen (loads (events ++ event ∷ []))) (sym store) (subst (λ l. IsOpen l (tables_of events)) (sym list) holds.opened)) (λ row known. subst (λ (s : Tables). IsKnown s.load (last_committed (loads (events ++ event ∷ []))) row) (sym store) (subst (λ l. IsKnown (tables_of events).load (last_committed l) row) (sym list) known)) holds

-- an event of the store that neither opens nor commits
stamps_quiet : (id : StreamId) (events : List Event) (event : Event) → is_links event ≡ false → is_opening event ≡ false → committed_rows event ≡ [] → (tables_after (tables_of events) event).load ≡ (tables_of events).load → ((tables_of events).plan ≡ [] → (tables_after (tables_of events) event).plan ≡ []) → rows_in id (tables_of events) event ≡ [] → StampsHold id events → StampsHold id (events ++ event ∷ [])
stamps_quiet id events event own opens quiet load plans none holds =
    let list : loads (events ++ event ∷ []) ≡ with_first (with_event event) (loads events) = loads_own events event own ∙ goes_on (loads events) event opens in
    let last : last_committed (loads (events ++ event ∷ [])) ≡ last_committed (loads events) = last_store events event own opens ∙ (ap (λ rows. last_more (loads events) (map (λ (it : RawRow). it.seq) rows)) quiet ∙ last_none (loads events)) in
    let store = tables_next events event in
    stamps_kept id events event (none_more id events event none) (subst (λ l. IsOpen l (tables_of (events ++ event ∷ []))) (sym list) (open_first event (loads events) (tables_of events) (tables_of (events ++ event ∷ [])) (λ e. ap (λ (s : Tables). s.plan) store ∙ plans e) holds.opened))
    (λ row known. subst (λ (n : ℕ). IsKnown n (last_committed (loads (events ++ event ∷ []))) row) (sym (ap (λ (s : Tables). s.load) store ∙ load)) (subst (λ seqs. IsKnown (tables_of events).load seqs row) (sym last) known)) holds

later_known : (low high : ℕ) (last : List ℕ) (row : RawRow) → low < high → IsKnown low last row → IsKnown high [] row
later_known low high last row rises (inl less) = inl (omega (arith, less, rises))
later_known low high last row rises (inr both) = inl (let is = both.0 in omega (arith, is, rises))

no_plan : (plans : List StreamPlan) (n : ℕ) → plans ≡ [] → slice_get plans n ≡ None
no_plan [] n e = refl
no_plan (plan ∷ plans) n e = absurd (grind (arith, e))

merged_load : (found : Option StreamPlan) (winners : List RawRow) (mark : ℕ) (store : Tables) → (tables_merged found winners mark store).load ≡ store.load
merged_load None winners mark store = refl
merged_load (Some plan) winners mark store = refl

merged_plan : (found : Option StreamPlan) (winners : List RawRow) (mark : ℕ) (store : Tables) → (tables_merged found winners mark store).plan ≡ store.plan
merged_plan None winners mark store = refl
merged_plan (Some plan) winners mark store = refl

shown_load : (found : Option StreamPlan) (n : ℕ) (store : Tables) → (tables_shown found n store).load ≡ store.load
shown_load None n store = refl
shown_load (Some plan) n store = refl

shown_plan_none : (found : Option StreamPlan) (n : ℕ) (store : Tables) → found ≡ None → store.plan ≡ [] → (tables_shown found n store).plan ≡ []
shown_plan_none None n store is e = e
shown_plan_none (Some plan) n store is e = absurd (grind (arith, is))

committed_load : (found : Option StreamPlan) (rows : List RawRow) (store : Tables) → (tables_committed found rows store).load ≡ store.load
committed_load None rows store = refl
committed_load (Some plan) rows store = refl

committed_plan : (found : Option StreamPlan) (rows : List RawRow) (store : Tables) → (tables_committed found rows store).plan ≡ store.plan
committed_plan None rows store = refl
committed_plan (Some plan) rows store = refl

-- Committing

last_grows : (load : ℕ) (list : List Load) (seqs : List ℕ) (row : RawRow) → IsKnown load (last_committed list) row → IsKnown load (last_more list seqs) row
last_grows load [] seqs row known = known
last_grows load (first ∷ older) seqs row (inl less) = inl less
last_grows load (first ∷ older) seqs row (inr both) = inr (both.0, is_in-append row.seq (committed_in first.events) seqs ∙ or_left (is_in row.seq (committed_in first.events)) (is_in row.seq seqs) both.1)

-- the same, of the lists alone
record Held (load : ℕ) (list : List Load) (rows : List RawRow) : Type 0 where
  known : (row : RawRow) → Has row rows → IsKnown load (last_committed list) row
  one : HasOneOf rows

record HeldNow (load : ℕ) (last : List ℕ) (rows : List RawRow) : Type 0 where
  known : (row : RawRow) → Has row rows → IsKnown load last row
  one : HasOneOf rows

held_other : (load : ℕ) (list : List Load) (old : List RawRow) (seqs : List ℕ) → Held load list old → HeldNow load (last_more list seqs) old
held_other load list old seqs held = record { known = λ row there. last_grows load list seqs row (held.known row there); one = held.one }

held_own : (load : ℕ) (first : Load) (older : List Load) (old rows : List RawRow) → AllByRecursion (λ it. it.load ≡ load) rows → AreNew (committed_in first.events) (map (λ it. it.seq) rows) → Held load (first ∷ older) old → HeldNow load (committed_in first.events ++ map (λ it. it.seq) rows) (old ++ rows)
held_own load first older old rows own new held = record {
  known = known_more load (committed_in first.events) old rows held.known own;
  one = one_more load (committed_in first.events) old rows held.known held.one own new;
}

held_commit : (id : StreamId) (store : Tables) (list : List Load) (ever : List PlacedRow) (rows : List RawRow) (found : Option StreamPlan) → (store.plan ≡ [] → found ≡ None) → IsOpen list store → AllByRecursion (λ it. it.load ≡ store.load) rows → AreNew (last_committed list) (map (λ it. it.seq) rows) → Held store.load list (map row_of ever) → HeldNow store.load (last_more list (map (λ it. it.seq) rows)) (map row_of (ever ++ own_rows id store.places rows found))
held_commit id store list ever rows None none opened own new held = rw (append-nil ever) (held_other store.load list (map row_of ever) (map (λ it. it.seq) rows) held)
held_commit id store [] ever rows (Some plan) none opened own new held = absurd (let is = none opened in grind (arith, is))
held_commit id store (first ∷ older) ever rows (Some plan) none opened own new held = at (cases_Bool (same_id plan.id id))
  where
    at : (same_id plan.id id ≡ true) ⊎ (same_id plan.id id ≡ false) → HeldNow store.load (committed_in first.events ++ map (λ it. it.seq) rows) (map row_of (ever ++ own_rows id store.places rows (Some plan)))
    at (inl is) = rw is (subst (HeldNow store.load (committed_in first.events ++ map (λ it. it.seq) rows)) (sym (map-append row_of ever (placed_after store.places rows) ∙ ap (λ more. map row_of ever ++ more) (rows_placed store.places rows))) (held_own store.load first older (map row_of ever) rows own new held))
    at (inr other) = rw (other, append-nil ever) (held_other store.load (first ∷ older) (map row_of ever) (map (λ it. it.seq) rows) held)

stamps_committed : (id : StreamId) (events : List Event) (n : ℕ) (rows : List RawRow) → CommittedFits events rows → StampsHold id events → StampsHold id (events ++ Committed n rows ∷ [])
stamps_committed id events n rows fits holds =
    let event : Event = Committed n rows in
    let store = tables_of events in
    let found = plan_at store n in
    let next = tables_next events event in
    let list : loads (events ++ Committed n rows ∷ []) ≡ with_first (with_event (Committed n rows)) (loads events) = loads_own events event refl ∙ goes_on (loads events) event refl in
    let last : last_committed (loads (events ++ Committed n rows ∷ [])) ≡ last_more (loads events) (map (λ (it : RawRow). it.seq) rows) = last_store events event refl refl in
    let load : (tables_of (events ++ Committed n rows ∷ [])).load ≡ (tables_of events).load = ap (λ (s : Tables). s.load) next ∙ committed_load found rows store in
    let ever : ever_committed id (events ++ Committed n rows ∷ []) ≡ ever_committed id events ++ own_rows id (tables_of events).places rows (plan_at (tables_of events) n) = ever_next id events event in
    let held = held_commit id store (loads events) (ever_committed id events) rows found (λ e. no_plan store.plan n e) holds.opened fits.own fits.new (record { known = holds.known; one = holds.one }) in
    let now : HeldNow (tables_of (events ++ Committed n rows ∷ [])).load (last_committed (loads (events ++ Committed n rows ∷ []))) (map row_of (ever_committed id (events ++ Committed n rows ∷ []))) =
    subst (λ (k : ℕ). HeldNow k (last_committed (loads (events ++ Committed n rows ∷ []))) (map row_of (ever_committed id (events ++ Committed n rows ∷ [])))) (sym load)
    (subst (λ seqs. HeldNow (tables_of events).load seqs (map row_of (ever_committed id (events ++ Committed n rows ∷ [])))) (sym last)
    (subst (λ (list : List PlacedRow). HeldNow (tables_of events).load (last_more (loads events) (map (λ (it : RawRow). it.seq) rows)) (map row_of list)) (sym ever) held)) in
    record {
      known = now.known;
      one = now.one;
      opened = subst (λ l. IsOpen l (tables_of (events ++ Committed n rows ∷ []))) (sym list) (open_first event (loads events) store (tables_of (events ++ Committed n rows ∷ [])) (λ e. ap (λ (s : Tables). s.plan) next ∙ (committed_plan found rows store ∙ e)) holds.opened);
    }

stamps_step : (id : StreamId) (events : List Event) (event : Event) → IsStoreRun events → StoreFits events event → StampsHold id events → StampsHold id (events ++ event ∷ [])
stamps_step id events (Opened load moment plans) run fits holds =
    let event : Event = Opened load moment plans in
    let list : loads (events ++ Opened load moment plans ∷ []) ≡ loads_after (loads events) (Opened load moment plans) = loads_own events event refl in
    stamps_kept id events event (none_more id events event refl) (subst (λ l. IsOpen l (tables_of (events ++ Opened load moment plans ∷ []))) (sym list) tt)
    (λ row known. subst (λ (s : Tables). IsKnown s.load (last_committed (loads (events ++ Opened load moment plans ∷ []))) row) (sym (tables_next events event)) (subst (λ l. IsKnown load (last_committed l) row) (sym list) (later_known (tables_of events).load load (last_committed (loads events)) row fits.later known))) holds
stamps_step id events (Committed n rows) run fits holds = stamps_committed id events n rows fits holds
stamps_step id events (Took x) run fits holds = stamps_quiet id events (Took x) refl refl refl refl (λ e. e) refl holds
stamps_step id events TookEnd run fits holds = stamps_quiet id events TookEnd refl refl refl refl (λ e. e) refl holds
stamps_step id events (Emitted x) run fits holds = stamps_quiet id events (Emitted x) refl refl refl refl (λ e. e) refl holds
stamps_step id events (Merged n winners mark) run fits holds = stamps_quiet id events (Merged n winners mark) refl refl refl (merged_load (plan_at (tables_of events) n) winners mark (tables_of events)) (λ e. merged_plan (plan_at (tables_of events) n) winners mark (tables_of events) ∙ e) refl holds
stamps_step id events (Shown n floor top) run fits holds = stamps_quiet id events (Shown n floor top) refl refl refl (shown_load (plan_at (tables_of events) n) n (tables_of events)) (λ e. shown_plan_none (plan_at (tables_of events) n) n (tables_of events) (no_plan (tables_of events).plan n e) e) refl holds
stamps_step id events (Started x) run fits holds = stamps_link id events (Started x) refl refl refl holds
stamps_step id events (ReadLine x) run fits holds = stamps_link id events (ReadLine x) refl refl refl holds
stamps_step id events ReadEnd run fits holds = stamps_link id events ReadEnd refl refl refl holds
stamps_step id events (Given x) run fits holds = stamps_link id events (Given x) refl refl refl holds
stamps_step id events Closed run fits holds = stamps_link id events Closed refl refl refl holds
stamps_step id events (Got x) run fits holds = stamps_link id events (Got x) refl refl refl holds
stamps_step id events GotEnd run fits holds = stamps_link id events GotEnd refl refl refl holds
stamps_step id events (Saved x) run fits holds = stamps_link id events (Saved x) refl refl refl holds
stamps_step id events (Ended x) run fits holds = stamps_link id events (Ended x) refl refl refl holds

pub stamps_hold : (id : StreamId) (trace : List Event) → IsStoreRun trace → StampsHold id trace
stamps_hold id trace run = along_run (StampsHold id) (stamps_step id) [] trace tt run (record { known = λ row there. absurd there; one = λ a b in_a in_b loads_same seqs. absurd in_a; opened = refl })
