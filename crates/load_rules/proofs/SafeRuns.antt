-- Every run of the machine leaves a safe load.
use Rattle.std.proofs.Common.{arith, ◌≡◌, ◌⊎◌, inl, inr, ℕ, eqb, List, [], ◌∷◌, ◌++◌, map, length, Option, None, Some, Bool, true, false, cond, refl, sym, ◌∙◌, ap, subst, length-append}
use Rattle.std.specs.Prelude.{filter, not, ◌&&◌, find, slice_get, Contains}
use Rattle.std.specs.List.{AllByRecursion, list_all}
use Rattle.std.proofs.lemmas.List.Elements.{Contains-append_left, Contains-append_right, Contains-append_cases, Contains-push, Contains-push_cases}
use Rattle.std.proofs.lemmas.Option.{slice_get-get_or}
use Rattle.std.proofs.Math.Seq.{get_or-append_seam}
use Rattle.std.proofs.lemmas.Bool.{and_parts, cases_Bool, eq-eqb, eqb-true, false≢true, or_right}
use Rattle.basics.specs.declared.stream.StreamId.{StreamId}
use Rattle.outside.specs.Tables.{same_id}
use Rattle.outside.specs.declared.event.RawRow.{RawRow}
use Rattle.catalog.specs.declared.stream.ConfStream.{ConfStream}
use Rattle.load_rules.specs.Prefixes.{EachFits}
use Rattle.load_rules.specs.Taken.{Entry, entries, LaneState, of_lane, covered, is_in}
use Rattle.load_rules.specs.Loads.{Opening}
use Rattle.load_rules.specs.Rows.{IsRowOf}
use Rattle.load_rules.specs.Acts.{Act, Takes, Ends, Commits, Echoes, Turns, taken, committed, echoed}
use Rattle.load_rules.specs.SafeDest.{uncommitted, AreRowsOf, CommitFits, EchoFits, Fits}
use Rattle.load_rules.specs.Machine.{Placed, Machine, Step, Accept, End, Seal, HandOut, Commit, TakeBack, Release, Turn, start, is_out, is_done, is_of, is_in_batch, entry_of, in_batch, is_releasable, without_first, have_sequences, hands_out, happens, run, RowsFit, CommitsOwnRows, BringsOwnRows}
use Rattle.outside.proofs.TableLaws.{id_is}
use Rattle.load_rules.specs.Laws.{CommitsHeld, FitsInOrder, RunsAreOrdered, RunsAreSafe, RunsGrow, RunsStaySafe}
use Rattle.load_rules.proofs.TakenLists.{each_more, all_both, filter_twice}
use Rattle.load_rules.proofs.Machines.{IsMarked, IsGood, seqs, sequences_are, picked_is, numbered_placed, good_step, good_run, good_start, found_passes, out_is_not_done, first_of_lane}
use Rattle.load_rules.proofs.Fronts.{each_front, each_at}

-- Elements

pub contains_first : {A : Type 0} (x : A) (xs : List A) → Contains (x ∷ xs) x
contains_first x xs = Contains-append_left (x ∷ []) xs x (Contains-push [] x)

pub contains_none : {A : Type 0} (x : A) → Contains [] x → ⊥
contains_none x c = let lt = c.1 in omega (arith, lt)

pub contains_cases : {A : Type 0} (x : A) (xs : List A) (y : A) → Contains (x ∷ xs) y → (x ≡ y) ⊎ Contains xs y
contains_cases x xs y c = on (Contains-append_cases (x ∷ []) xs y c)
  where
    one_is : Contains [] y ⊎ (x ≡ y) → (x ≡ y) ⊎ Contains xs y
    one_is (inl none) = absurd (contains_none y none)
    one_is (inr same) = inl same

    on : Contains (x ∷ []) y ⊎ Contains xs y → (x ≡ y) ⊎ Contains xs y
    on (inl first) = one_is (Contains-push_cases [] x y first)
    on (inr more) = inr more

picked_contains : (test : Placed → Bool) (list : List Placed) (entry : Entry) → Contains (map entry_of (filter test list)) entry → Contains (map entry_of list) entry
picked_contains test [] entry c = c
picked_contains test (first ∷ more) entry c = at (test first) c (picked_contains test more entry)
  where
    on : (first.entry ≡ entry) ⊎ Contains (map entry_of (filter test more)) entry → (Contains (map entry_of (filter test more)) entry → Contains (map entry_of more) entry) → Contains (map entry_of (first ∷ more)) entry
    on (inl same) deeper = subst (Contains (first.entry ∷ map entry_of more)) same (contains_first first.entry (map entry_of more))
    on (inr rest) deeper = Contains-append_right (first.entry ∷ []) (map entry_of more) entry (deeper rest)

    at : (b : Bool) → Contains (map entry_of (cond b (first ∷ filter test more) (filter test more))) entry → (Contains (map entry_of (filter test more)) entry → Contains (map entry_of more) entry) → Contains (map entry_of (first ∷ more)) entry
    at true c deeper = on (contains_cases first.entry (map entry_of (filter test more)) entry c) deeper
    at false c deeper = Contains-append_right (first.entry ∷ []) (map entry_of more) entry (deeper c)

contains_in : (list : List Entry) (entry : Entry) → Contains list entry → is_in entry.seq (seqs list) ≡ true
contains_in [] entry c = absurd (contains_none entry c)
contains_in (first ∷ more) entry c = at (contains_cases first more entry c) (contains_in more entry)
  where
    at : (first ≡ entry) ⊎ Contains more entry → (Contains more entry → is_in entry.seq (seqs more) ≡ true) → is_in entry.seq (seqs (first ∷ more)) ≡ true
    at (inl same) deeper = rw (eq-eqb first.seq entry.seq (ap (λ (it : Entry). it.seq) same)) refl
    at (inr rest) deeper = or_right (eqb first.seq entry.seq) (is_in entry.seq (seqs more)) (deeper rest)

-- Commits

-- rows with the sequences of records are the rows of those records, where each is that of a record with its sequence
rows_of_list : (streams : List ConfStream) (opening : Opening) (number : ℕ) (list : List Entry) (rows : List RawRow) → have_sequences rows list ≡ true → ((entry : Entry) (row : RawRow) → Contains list entry → Contains rows row → row.seq ≡ entry.seq → IsRowOf streams opening number entry row) → AreRowsOf streams opening number list rows
rows_of_list streams opening number [] [] e each = tt
rows_of_list streams opening number [] (row ∷ rows) e each = absurd (false≢true e)
rows_of_list streams opening number (entry ∷ more) [] e each = absurd (false≢true e)
rows_of_list streams opening number (entry ∷ more) (row ∷ rows) e each =
    let parts = and_parts (eqb row.seq entry.seq) (have_sequences rows more) e
    in (each entry row (contains_first entry more) (contains_first row rows) (eqb-true row.seq entry.seq parts.0), rows_of_list streams opening number more rows parts.1 (λ other its c d. each other its (Contains-append_right (entry ∷ []) more other c) (Contains-append_right (row ∷ []) rows its d)))

filter_entries : (test : Entry → Bool) (own : Placed → Bool) (list : List Placed) → AllByRecursion (λ placed. test placed.entry ≡ own placed) list → filter test (map entry_of list) ≡ map entry_of (filter own list)
filter_entries test own [] each = refl
filter_entries test own (first ∷ more) each = grind (arith, each.0, filter_entries test own more each.1)

two_tests : (done out own : Bool) → (out ≡ true → done ≡ false) → (not done && (out && own)) ≡ (out && own)
two_tests false out own apart = refl
two_tests true true own apart = absurd (false≢true (sym (apart refl)))
two_tests true false own apart = refl

batch_passes : (id : StreamId) (batch : ℕ) (placed : Placed) (done chosen : Bool) → done ≡ is_done placed.place → chosen ≡ is_in_batch id batch placed → (not done && chosen) ≡ is_in_batch id batch placed
batch_passes id batch placed done chosen is within = rw (is, within) (two_tests (is_done placed.place) (is_out batch placed.place) (is_of id placed) (out_is_not_done batch placed.place))

chosen_are : (m : Machine) (id : StreamId) (batch : ℕ) → IsGood m → filter (λ entry. is_in entry.seq (seqs (in_batch id batch m.placed))) (uncommitted m.acts) ≡ in_batch id batch m.placed
chosen_are m id batch g =
    let chosen : Entry → Bool = λ entry. is_in entry.seq (seqs (in_batch id batch m.placed))
    in let open_ones : Entry → Bool = λ entry. not (is_in entry.seq (committed m.acts))
    in filter_twice chosen open_ones (entries (taken m.acts))
    ∙ (ap (filter (λ entry. open_ones entry && chosen entry)) (sym g.entries_are)
    ∙ filter_entries (λ entry. open_ones entry && chosen entry) (is_in_batch id batch) m.placed (all_both (IsMarked (committed m.acts)) (λ placed. is_in placed.entry.seq (seqs (in_batch id batch m.placed)) ≡ is_in_batch id batch placed) (λ placed. (open_ones placed.entry && chosen placed.entry) ≡ is_in_batch id batch placed) m.placed (λ placed is within. batch_passes id batch placed (is_in placed.entry.seq (committed m.acts)) (is_in placed.entry.seq (seqs (in_batch id batch m.placed))) is within) g.marked (picked_is 0 (is_in_batch id batch) m.placed (numbered_placed m g))))

-- a commit of the machine fits where its rows are those of its batch
own_commit_fits : (streams : List ConfStream) (opening : Opening) (m : Machine) (number : ℕ) (id : StreamId) (batch : ℕ) (rows : List RawRow) → IsGood m → AreRowsOf streams opening number (in_batch id batch m.placed) rows → CommitFits streams opening m.acts number rows
own_commit_fits streams opening m number id batch rows g own = record {
  chosen = λ entry. is_in entry.seq (seqs (in_batch id batch m.placed));
  are = subst (λ these. AreRowsOf streams opening number these rows) (sym (chosen_are m id batch g)) own;
}

-- rows that fit are those of the batch, where they have its sequences
fitting_are_own : (streams : List ConfStream) (opening : Opening) (m : Machine) (number : ℕ) (id : StreamId) (batch : ℕ) (rows : List RawRow) → IsGood m → have_sequences rows (in_batch id batch m.placed) ≡ true → RowsFit streams opening m.acts (Commits number rows) → AreRowsOf streams opening number (in_batch id batch m.placed) rows
fitting_are_own streams opening m number id batch rows g have fit =
    rows_of_list streams opening number (in_batch id batch m.placed) rows have (λ entry row c d same. fit entry row (subst (λ all. Contains all entry) g.entries_are (picked_contains (is_in_batch id batch) m.placed entry c)) d same)

-- Echoes

pub slice_get-behind : {A : Type 0} (xs : List A) (y : A) (ys : List A) → slice_get (xs ++ y ∷ ys) (length xs) ≡ Some y
slice_get-behind xs y ys = slice_get-get_or (xs ++ y ∷ ys) (length xs) y (grind (arith, length-append)) ∙ ap (λ x. Some x) (get_or-append_seam xs y ys y)

all_released : (done seqs : List ℕ) → list_all (λ seq. is_in seq done) seqs ≡ true → AllByRecursion (λ seq. is_in seq done ≡ true) seqs
all_released done [] e = tt
all_released done (x ∷ xs) e = let parts = and_parts (is_in x done) _ e in (parts.0, all_released done xs parts.1)

echo_fits : (m : Machine) (state : LaneState) → IsGood m → find (is_releasable m.acts) m.waiting ≡ Some state → EchoFits m.acts state
echo_fits m state g e =
    let left = of_lane state.lane (without_first (is_releasable m.acts) m.waiting)
    in record {
      next = ap (λ list. slice_get list (length (echoed state.lane m.acts))) ((g.lanes state.lane).splits ∙ ap (λ list. echoed state.lane m.acts ++ list) (first_of_lane m.acts [] (taken m.acts) m.waiting state g.rising e)) ∙ slice_get-behind (echoed state.lane m.acts) state left;
      committed_are = all_released (committed m.acts) (covered state) (found_passes (is_releasable m.acts) m.waiting state e);
    }

-- Steps

-- a batch that is handed out is committed by rows that have its sequences
record CommitsNow (streams : List ConfStream) (m : Machine) (number : ℕ) (id : StreamId) (batch : ℕ) (rows : List RawRow) : Type 0 where
  stream : ConfStream
  configured : slice_get streams number ≡ Some stream
  own : same_id stream.id id ≡ true
  have : have_sequences rows (in_batch id batch m.placed) ≡ true

-- the state that is released
record ReleasesNow (m : Machine) (act : Act) : Type 0 where
  state : LaneState
  echo : act ≡ Echoes state
  first : find (is_releasable m.acts) m.waiting ≡ Some state

-- what a step adds to the acts, where it adds something
abbrev AddedBy : List ConfStream → Machine → Step → Act → Type 0
AddedBy streams m (Accept line) act = act ≡ Takes line
AddedBy streams m End act = act ≡ Ends
AddedBy streams m (Seal id count) act = ⊥
AddedBy streams m (HandOut id count batch) act = ⊥
AddedBy streams m (Commit number id batch rows) act = (act ≡ Commits number rows) × CommitsNow streams m number id batch rows
AddedBy streams m (TakeBack id batch) act = ⊥
AddedBy streams m Release act = ReleasesNow m act
AddedBy streams m Turn act = act ≡ Turns

record Added (streams : List ConfStream) (m : Machine) (step : Step) : Type 0 where
  act : Act
  is : (happens streams m step).acts ≡ m.acts ++ act ∷ []
  by : AddedBy streams m step act

added : (streams : List ConfStream) (m : Machine) (step : Step) → ((happens streams m step).acts ≡ m.acts) ⊎ Added streams m step
added streams m (Accept line) = inr (record { act = Takes line; is = refl; by = refl })
added streams m End = inr (record { act = Ends; is = refl; by = refl })
added streams m (Seal id count) = inl refl
added streams m (HandOut id count batch) = at (filter (λ placed. is_out batch placed.place) m.placed)
  where
    at : (others : List Placed) → ((hands_out m id count batch others).acts ≡ m.acts) ⊎ Added streams m (HandOut id count batch)
    at [] = inl refl
    at (other ∷ others) = inl refl
added streams m (Commit number id batch rows) = at (slice_get streams number) refl
  where
    kept : (stream : ConfStream) (entry : Entry) (more : List Entry) (b : Bool) → slice_get streams number ≡ Some stream → same_id stream.id id ≡ true → in_batch id batch m.placed ≡ entry ∷ more → have_sequences rows (entry ∷ more) ≡ b → ((happens streams m (Commit number id batch rows)).acts ≡ m.acts) ⊎ Added streams m (Commit number id batch rows)
    kept stream entry more true found same list have = inr (record { act = Commits number rows; is = rw (found, same, list, have) refl; by = (refl, record { stream = stream; configured = found; own = same; have = rw list have }) })
    kept stream entry more false found same list have = inl (rw (found, same, list, have) refl)

    these : (stream : ConfStream) (list : List Entry) → slice_get streams number ≡ Some stream → same_id stream.id id ≡ true → in_batch id batch m.placed ≡ list → ((happens streams m (Commit number id batch rows)).acts ≡ m.acts) ⊎ Added streams m (Commit number id batch rows)
    these stream [] found same list = inl (rw (found, same, list) refl)
    these stream (entry ∷ more) found same list = kept stream entry more (have_sequences rows (entry ∷ more)) found same list refl

    of_stream : (stream : ConfStream) (b : Bool) → slice_get streams number ≡ Some stream → same_id stream.id id ≡ b → ((happens streams m (Commit number id batch rows)).acts ≡ m.acts) ⊎ Added streams m (Commit number id batch rows)
    of_stream stream true found same = these stream (in_batch id batch m.placed) found same refl
    of_stream stream false found same = inl (rw (found, same) refl)

    at : (found : Option ConfStream) → slice_get streams number ≡ found → ((happens streams m (Commit number id batch rows)).acts ≡ m.acts) ⊎ Added streams m (Commit number id batch rows)
    at None found = inl (rw found refl)
    at (Some stream) found = of_stream stream (same_id stream.id id) found refl
added streams m (TakeBack id batch) = inl refl
added streams m Release = at (find (is_releasable m.acts) m.waiting) refl
  where
    at : (found : Option LaneState) → find (is_releasable m.acts) m.waiting ≡ found → ((happens streams m Release).acts ≡ m.acts) ⊎ Added streams m Release
    at None found = inl (rw found refl)
    at (Some state) found = inr (record { act = Echoes state; is = rw found refl; by = record { state = state; echo = refl; first = found } })
added streams m Turn = inr (record { act = Turns; is = refl; by = refl })

-- what a step adds fits, where its rows do
added_fits : (streams : List ConfStream) (opening : Opening) (m : Machine) (step : Step) (act : Act) → IsGood m → AddedBy streams m step act → RowsFit streams opening m.acts act → Fits streams opening m.acts act
added_fits streams opening m (Accept line) act g by rows = subst (Fits streams opening m.acts) (sym by) tt
added_fits streams opening m End act g by rows = subst (Fits streams opening m.acts) (sym by) tt
added_fits streams opening m (Seal id count) act g by rows = absurd by
added_fits streams opening m (HandOut id count batch) act g by rows = absurd by
added_fits streams opening m (Commit number id batch made) act g by rows =
    subst (Fits streams opening m.acts) (sym by.0) (own_commit_fits streams opening m number id batch made g (fitting_are_own streams opening m number id batch made g by.1.have (subst (RowsFit streams opening m.acts) by.0 rows)))
added_fits streams opening m (TakeBack id batch) act g by rows = absurd by
added_fits streams opening m Release act g by rows = subst (Fits streams opening m.acts) (sym by.echo) (echo_fits m by.state g by.first)
added_fits streams opening m Turn act g by rows = subst (Fits streams opening m.acts) (sym by) tt

-- or where it brings the rows of its batch
brought_fits : (streams : List ConfStream) (opening : Opening) (m : Machine) (step : Step) (act : Act) → IsGood m → AddedBy streams m step act → BringsOwnRows streams opening m step → Fits streams opening m.acts act
brought_fits streams opening m (Accept line) act g by own = subst (Fits streams opening m.acts) (sym by) tt
brought_fits streams opening m End act g by own = subst (Fits streams opening m.acts) (sym by) tt
brought_fits streams opening m (Seal id count) act g by own = absurd by
brought_fits streams opening m (HandOut id count batch) act g by own = absurd by
brought_fits streams opening m (Commit number id batch made) act g by own = subst (Fits streams opening m.acts) (sym by.0) (own_commit_fits streams opening m number id batch made g own)
brought_fits streams opening m (TakeBack id batch) act g by own = absurd by
brought_fits streams opening m Release act g by own = subst (Fits streams opening m.acts) (sym by.echo) (echo_fits m by.state g by.first)
brought_fits streams opening m Turn act g by own = subst (Fits streams opening m.acts) (sym by) tt

-- Runs

abbrev pub IsSafeRun : List ConfStream → Opening → List Act → Type 0
IsSafeRun streams opening acts = CommitsOwnRows streams opening acts → EachFits (Fits streams opening) [] acts

safe_step : (streams : List ConfStream) (opening : Opening) (m : Machine) (step : Step) → IsGood m → IsSafeRun streams opening m.acts → IsSafeRun streams opening (happens streams m step).acts
safe_step streams opening m step g safe = at (added streams m step)
  where
    at : ((happens streams m step).acts ≡ m.acts) ⊎ Added streams m step → IsSafeRun streams opening (happens streams m step).acts
    at (inl same) = subst (IsSafeRun streams opening) (sym same) safe
    at (inr more) = subst (IsSafeRun streams opening) (sym more.is) (λ own. each_more (Fits streams opening) [] m.acts more.act (safe (each_front (RowsFit streams opening) [] m.acts (more.act ∷ []) own)) (added_fits streams opening m step more.act g more.by (each_at (RowsFit streams opening) [] m.acts [] more.act own)))

safe_run : (streams : List ConfStream) (opening : Opening) (steps : List Step) (m : Machine) → IsGood m → IsSafeRun streams opening m.acts → IsSafeRun streams opening (run streams steps m).acts
safe_run streams opening [] m g safe = safe
safe_run streams opening (step ∷ steps) m g safe = safe_run streams opening steps (happens streams m step) (good_step streams m step g) (safe_step streams opening m step g safe)

-- By sequences alone

batch_own : (id : StreamId) (batch : ℕ) (own : StreamId) (list : List Placed) → own ≡ id → AllByRecursion (λ entry. entry.content.id ≡ own) (in_batch id batch list)
batch_own id batch own [] same = tt
batch_own id batch own (first ∷ more) same = at (cases_Bool (is_in_batch id batch first)) (batch_own id batch own more same)
  where
    at : (is_in_batch id batch first ≡ true) ⊎ (is_in_batch id batch first ≡ false) → AllByRecursion (λ entry. entry.content.id ≡ own) (in_batch id batch more) → AllByRecursion (λ entry. entry.content.id ≡ own) (in_batch id batch (first ∷ more))
    at (inl within) rest = rw within (sym (id_is id first.entry.content.id (and_parts (is_out batch first.place) (is_of id first) within).1) ∙ sym same, rest)
    at (inr other) rest = rw other rest

commits_held : (streams : List ConfStream) (m : Machine) (number : ℕ) (id : StreamId) (batch : ℕ) (rows : List RawRow) → IsGood m → CommitsNow streams m number id batch rows → CommitsHeld streams m.acts number rows
commits_held streams m number id batch rows g now = record {
  stream = now.stream;
  configured = now.configured;
  chosen = λ entry. is_in entry.seq (seqs (in_batch id batch m.placed));
  own = subst (AllByRecursion (λ entry. entry.content.id ≡ now.stream.id)) (sym (chosen_are m id batch g)) (batch_own id batch now.stream.id m.placed (id_is now.stream.id id now.own));
  are = sequences_are rows (in_batch id batch m.placed) now.have ∙ ap seqs (sym (chosen_are m id batch g));
}

added_in_order : (streams : List ConfStream) (m : Machine) (step : Step) (act : Act) → IsGood m → AddedBy streams m step act → FitsInOrder streams m.acts act
added_in_order streams m (Accept line) act g by = subst (FitsInOrder streams m.acts) (sym by) tt
added_in_order streams m End act g by = subst (FitsInOrder streams m.acts) (sym by) tt
added_in_order streams m (Seal id count) act g by = absurd by
added_in_order streams m (HandOut id count batch) act g by = absurd by
added_in_order streams m (Commit number id batch rows) act g by = subst (FitsInOrder streams m.acts) (sym by.0) (commits_held streams m number id batch rows g by.1)
added_in_order streams m (TakeBack id batch) act g by = absurd by
added_in_order streams m Release act g by = subst (FitsInOrder streams m.acts) (sym by.echo) (echo_fits m by.state g by.first)
added_in_order streams m Turn act g by = subst (FitsInOrder streams m.acts) (sym by) tt

ordered_run : (streams : List ConfStream) (steps : List Step) (m : Machine) → IsGood m → EachFits (FitsInOrder streams) [] m.acts → EachFits (FitsInOrder streams) [] (run streams steps m).acts
ordered_run streams [] m g fits = fits
ordered_run streams (step ∷ steps) m g fits = ordered_run streams steps (happens streams m step) (good_step streams m step g) (at (added streams m step))
  where
    at : ((happens streams m step).acts ≡ m.acts) ⊎ Added streams m step → EachFits (FitsInOrder streams) [] (happens streams m step).acts
    at (inl same) = subst (EachFits (FitsInOrder streams) []) (sym same) fits
    at (inr more) = subst (EachFits (FitsInOrder streams) []) (sym more.is) (each_more (FitsInOrder streams) [] m.acts more.act fits (added_in_order streams m step more.act g more.by))

pub runs_are_ordered : RunsAreOrdered
runs_are_ordered streams steps = ordered_run streams steps start good_start tt

pub runs_are_safe : RunsAreSafe
runs_are_safe streams opening steps own = safe_run streams opening steps start good_start (λ none. tt) own

pub runs_grow : RunsGrow
runs_grow streams [] more m = refl
runs_grow streams (step ∷ steps) more m = runs_grow streams steps more (happens streams m step)

pub runs_stay_safe : RunsStaySafe
runs_stay_safe streams opening steps step safe own = subst (λ (m : Machine). EachFits (Fits streams opening) [] m.acts) (sym (runs_grow streams steps (step ∷ []) start)) (at (added streams now step))
  where
    now : Machine
    now = run streams steps start

    at : ((happens streams now step).acts ≡ now.acts) ⊎ Added streams now step → EachFits (Fits streams opening) [] (happens streams now step).acts
    at (inl same) = subst (EachFits (Fits streams opening) []) (sym same) safe
    at (inr more) = subst (EachFits (Fits streams opening) []) (sym more.is) (each_more (Fits streams opening) [] now.acts more.act safe (brought_fits streams opening now step more.act (good_run streams steps start good_start) more.by own))
