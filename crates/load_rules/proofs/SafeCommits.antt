-- A commit that keeps a trace safe has the number of its load, and new sequences.
use Rattle.std.proofs.Common.{arith, ◌≡◌, ℕ, ◌+◌, ◌<◌, List, [], ◌∷◌, ◌++◌, map, Option, None, Some, Bool, true, false, cond, refl, sym, ◌∙◌, ap, subst}
use Rattle.std.specs.Prelude.{filter, fold, not, flat_map}
use Rattle.std.specs.List.{AllByRecursion}
use Rattle.std.proofs.lemmas.Bool.{false≢true, ne_eqb}
use Rattle.outside.specs.Tables.{tables_of, tables_after, tables_committed, tables_merged, tables_shown, plan_at, no_tables}
use Rattle.outside.specs.declared.event.Event.{Event}
use Rattle.outside.specs.declared.event.Event.TheVariants.{Opened, Took, TookEnd, Committed, Emitted, Merged, Shown, Started, ReadLine, ReadEnd, Given, Closed, Got, GotEnd, Saved, Ended}
use Rattle.outside.specs.declared.event.RawRow.{RawRow}
use Rattle.outside.specs.declared.event.StreamPlan.{StreamPlan}
use Rattle.outside.specs.declared.table.Tables.{Tables}
use Rattle.catalog.specs.declared.stream.ConfStream.{ConfStream}
use Rattle.load_rules.specs.Prefixes.{EachFits, with_first}
use Rattle.load_rules.specs.Lines.{Reading}
use Rattle.load_rules.specs.Taken.{Entry, entries, is_in}
use Rattle.load_rules.specs.Loads.{Opening, Load, loads, loads_after, with_event, store_events, committed_rows, committed_in}
use Rattle.load_rules.specs.Acts.{Act, Takes, Ends, Commits, Echoes, Turns, IsAct, AreActs, taken, rows_of, committed}
use Rattle.load_rules.specs.SafeDest.{uncommitted, AreRowsOf, CommitFits, Fits, IsSafeLoad}
use Rattle.load_rules.specs.Stores.{AreNew, last_committed, CommittedFits}
use Rattle.load_rules.specs.Laws.{SafeCommitsFit, IsSafeLast}
use Rattle.load_rules.proofs.Fronts.{each_at}
use Rattle.load_rules.proofs.TakenLists.{Numbered, numbered}
use Rattle.load_rules.proofs.SafeAttempts.{loads_own}

-- The number of the last load

abbrev pub number : List Load → ℕ
number [] = 0
number (load ∷ older) = load.opening.load

number_first : (event : Event) (list : List Load) → number (with_first (with_event event) list) ≡ number list
number_first event [] = refl
number_first event (load ∷ older) = refl

committed_keeps : (found : Option StreamPlan) (rows : List RawRow) (tables : Tables) → (tables_committed found rows tables).load ≡ tables.load
committed_keeps None rows tables = refl
committed_keeps (Some plan) rows tables = refl

merged_keeps : (found : Option StreamPlan) (winners : List RawRow) (mark : ℕ) (tables : Tables) → (tables_merged found winners mark tables).load ≡ tables.load
merged_keeps None winners mark tables = refl
merged_keeps (Some plan) winners mark tables = refl

shown_keeps : (found : Option StreamPlan) (stream : ℕ) (tables : Tables) → (tables_shown found stream tables).load ≡ tables.load
shown_keeps None stream tables = refl
shown_keeps (Some plan) stream tables = refl

number_is : (tables : Tables) (list : List Load) (events : List Event) → tables.load ≡ number list → (fold tables_after tables events).load ≡ number (fold loads_after list (store_events events))
number_is tables list [] same = same
number_is tables list ((Opened x y z) ∷ events) same = number_is (tables_after tables (Opened x y z)) (loads_after list (Opened x y z)) events refl
number_is tables list ((Took x) ∷ events) same = number_is tables (with_first (with_event (Took x)) list) events (same ∙ sym (number_first (Took x) list))
number_is tables list (TookEnd ∷ events) same = number_is tables (with_first (with_event TookEnd) list) events (same ∙ sym (number_first TookEnd list))
number_is tables list ((Committed x y) ∷ events) same = number_is (tables_after tables (Committed x y)) (with_first (with_event (Committed x y)) list) events (committed_keeps (plan_at tables x) y tables ∙ (same ∙ sym (number_first (Committed x y) list)))
number_is tables list ((Emitted x) ∷ events) same = number_is tables (with_first (with_event (Emitted x)) list) events (same ∙ sym (number_first (Emitted x) list))
number_is tables list ((Merged x y z) ∷ events) same = number_is (tables_after tables (Merged x y z)) (with_first (with_event (Merged x y z)) list) events (merged_keeps (plan_at tables x) y z tables ∙ (same ∙ sym (number_first (Merged x y z) list)))
number_is tables list ((Shown x y z) ∷ events) same = number_is (tables_after tables (Shown x y z)) (with_first (with_event (Shown x y z)) list) events (shown_keeps (plan_at tables x) x tables ∙ (same ∙ sym (number_first (Shown x y z) list)))
number_is tables list ((Started x) ∷ events) same = number_is tables list events same
number_is tables list ((ReadLine x) ∷ events) same = number_is tables list events same
number_is tables list (ReadEnd ∷ events) same = number_is tables list events same
number_is tables list ((Given x) ∷ events) same = number_is tables list events same
number_is tables list (Closed ∷ events) same = number_is tables list events same
number_is tables list ((Got x) ∷ events) same = number_is tables list events same
number_is tables list (GotEnd ∷ events) same = number_is tables list events same
number_is tables list ((Saved x) ∷ events) same = number_is tables list events same
number_is tables list ((Ended x) ∷ events) same = number_is tables list events same

-- The act of the commit

record SplitActs (read : Reading) (acts : List Act) (events : List Event) (last : Event) : Type 0 where
  front : List Act
  act : Act
  is : acts ≡ front ++ act ∷ []
  are : AreActs read front events
  last_is : IsAct read act last

split_acts : (read : Reading) (acts : List Act) (events : List Event) (last : Event) → AreActs read acts (events ++ last ∷ []) → SplitActs read acts events last
split_acts read [] [] last are = absurd are
split_acts read [] (event ∷ events) last are = absurd are
split_acts read (act ∷ []) [] last are = record { front = []; act = act; is = refl; are = tt; last_is = are.0 }
split_acts read (act ∷ (other ∷ more)) [] last are = absurd are.1
split_acts read (act ∷ acts) (event ∷ events) last are =
    let deeper = split_acts read acts events last are.1
    in record { front = act ∷ deeper.front; act = deeper.act; is = ap (λ list. act ∷ list) deeper.is; are = (are.0, deeper.are); last_is = deeper.last_is }

rows_same : (read : Reading) (act : Act) (event : Event) → IsAct read act event → rows_of act ≡ committed_rows event
rows_same read (Takes line) (Opened x y z) is = absurd is
rows_same read (Takes line) (Took x) is = refl
rows_same read (Takes line) TookEnd is = absurd is
rows_same read (Takes line) (Committed x y) is = absurd is
rows_same read (Takes line) (Emitted x) is = absurd is
rows_same read (Takes line) (Merged x y z) is = absurd is
rows_same read (Takes line) (Shown x y z) is = absurd is
rows_same read (Takes line) (Started x) is = absurd is
rows_same read (Takes line) (ReadLine x) is = absurd is
rows_same read (Takes line) ReadEnd is = absurd is
rows_same read (Takes line) (Given x) is = absurd is
rows_same read (Takes line) Closed is = absurd is
rows_same read (Takes line) (Got x) is = absurd is
rows_same read (Takes line) GotEnd is = absurd is
rows_same read (Takes line) (Saved x) is = absurd is
rows_same read (Takes line) (Ended x) is = absurd is
rows_same read Ends (Opened x y z) is = absurd is
rows_same read Ends (Took x) is = absurd is
rows_same read Ends TookEnd is = refl
rows_same read Ends (Committed x y) is = absurd is
rows_same read Ends (Emitted x) is = absurd is
rows_same read Ends (Merged x y z) is = absurd is
rows_same read Ends (Shown x y z) is = absurd is
rows_same read Ends (Started x) is = absurd is
rows_same read Ends (ReadLine x) is = absurd is
rows_same read Ends ReadEnd is = absurd is
rows_same read Ends (Given x) is = absurd is
rows_same read Ends Closed is = absurd is
rows_same read Ends (Got x) is = absurd is
rows_same read Ends GotEnd is = absurd is
rows_same read Ends (Saved x) is = absurd is
rows_same read Ends (Ended x) is = absurd is
rows_same read (Commits number rows) (Opened x y z) is = absurd is
rows_same read (Commits number rows) (Took x) is = absurd is
rows_same read (Commits number rows) TookEnd is = absurd is
rows_same read (Commits number rows) (Committed x y) is = sym is.1
rows_same read (Commits number rows) (Emitted x) is = absurd is
rows_same read (Commits number rows) (Merged x y z) is = absurd is
rows_same read (Commits number rows) (Shown x y z) is = absurd is
rows_same read (Commits number rows) (Started x) is = absurd is
rows_same read (Commits number rows) (ReadLine x) is = absurd is
rows_same read (Commits number rows) ReadEnd is = absurd is
rows_same read (Commits number rows) (Given x) is = absurd is
rows_same read (Commits number rows) Closed is = absurd is
rows_same read (Commits number rows) (Got x) is = absurd is
rows_same read (Commits number rows) GotEnd is = absurd is
rows_same read (Commits number rows) (Saved x) is = absurd is
rows_same read (Commits number rows) (Ended x) is = absurd is
rows_same read (Echoes state) (Opened x y z) is = absurd is
rows_same read (Echoes state) (Took x) is = absurd is
rows_same read (Echoes state) TookEnd is = absurd is
rows_same read (Echoes state) (Committed x y) is = absurd is
rows_same read (Echoes state) (Emitted x) is = refl
rows_same read (Echoes state) (Merged x y z) is = absurd is
rows_same read (Echoes state) (Shown x y z) is = absurd is
rows_same read (Echoes state) (Started x) is = absurd is
rows_same read (Echoes state) (ReadLine x) is = absurd is
rows_same read (Echoes state) ReadEnd is = absurd is
rows_same read (Echoes state) (Given x) is = absurd is
rows_same read (Echoes state) Closed is = absurd is
rows_same read (Echoes state) (Got x) is = absurd is
rows_same read (Echoes state) GotEnd is = absurd is
rows_same read (Echoes state) (Saved x) is = absurd is
rows_same read (Echoes state) (Ended x) is = absurd is
rows_same read Turns (Opened x y z) is = absurd is
rows_same read Turns (Took x) is = absurd is
rows_same read Turns TookEnd is = absurd is
rows_same read Turns (Committed x y) is = absurd is
rows_same read Turns (Emitted x) is = absurd is
rows_same read Turns (Merged x y z) is = refl
rows_same read Turns (Shown x y z) is = refl
rows_same read Turns (Started x) is = absurd is
rows_same read Turns (ReadLine x) is = absurd is
rows_same read Turns ReadEnd is = absurd is
rows_same read Turns (Given x) is = absurd is
rows_same read Turns Closed is = absurd is
rows_same read Turns (Got x) is = absurd is
rows_same read Turns GotEnd is = absurd is
rows_same read Turns (Saved x) is = absurd is
rows_same read Turns (Ended x) is = absurd is

rows_are : (read : Reading) (acts : List Act) (events : List Event) → AreActs read acts events → flat_map rows_of acts ≡ flat_map committed_rows events
rows_are read [] [] are = refl
rows_are read [] (event ∷ events) are = absurd are
rows_are read (act ∷ acts) [] are = absurd are
rows_are read (act ∷ acts) (event ∷ events) are = rw (rows_same read act event are.0, rows_are read acts events are.1) refl

pub committed_are : (read : Reading) (acts : List Act) (events : List Event) → AreActs read acts events → committed acts ≡ committed_in events
committed_are read acts events are = ap (map (λ (row : RawRow). row.seq)) (rows_are read acts events are)

-- New sequences

abbrev pub Rises : List Entry → Type 0
Rises [] = Unit {0}
Rises (entry ∷ more) = AllByRecursion (λ it. entry.seq < it.seq) more × Rises more

above_numbered : (n m : ℕ) (list : List Entry) → n < m → Numbered m list → AllByRecursion (λ it. n < it.seq) list
above_numbered n m [] lt counts = tt
above_numbered n m (entry ∷ more) lt counts = (omega (arith, lt, counts.0), above_numbered n (m + 1) more (omega (arith, lt)) counts.1)

rises_numbered : (n : ℕ) (list : List Entry) → Numbered n list → Rises list
rises_numbered n [] counts = tt
rises_numbered n (entry ∷ more) counts = (above_numbered entry.seq (n + 1) more (omega (arith, counts.0)) counts.1, rises_numbered (n + 1) more counts.1)

all_kept : (P : Entry → Type 0) (test : Entry → Bool) (list : List Entry) → AllByRecursion P list → AllByRecursion P (filter test list)
all_kept P test [] all = tt
all_kept P test (entry ∷ more) all = at (test entry) (all_kept P test more all.1)
  where
    at : (b : Bool) → AllByRecursion P (filter test more) → AllByRecursion P (cond b (entry ∷ filter test more) (filter test more))
    at true rest = (all.0, rest)
    at false rest = rest

rises_kept : (test : Entry → Bool) (list : List Entry) → Rises list → Rises (filter test list)
rises_kept test [] rises = tt
rises_kept test (entry ∷ more) rises = at (test entry) (rises_kept test more rises.1)
  where
    at : (b : Bool) → Rises (filter test more) → Rises (cond b (entry ∷ filter test more) (filter test more))
    at true rest = (all_kept (λ it. entry.seq < it.seq) test more rises.0, rest)
    at false rest = rest

not_true_is : (b : Bool) → not b ≡ true → b ≡ false
not_true_is true e = absurd (false≢true e)
not_true_is false e = refl

open_ones : (done : List ℕ) (list : List Entry) → AllByRecursion (λ it. is_in it.seq done ≡ false) (filter (λ it. not (is_in it.seq done)) list)
open_ones done [] = tt
open_ones done (entry ∷ more) = at (is_in entry.seq done) refl (open_ones done more)
  where
    at : (b : Bool) → is_in entry.seq done ≡ b → AllByRecursion (λ it. is_in it.seq done ≡ false) (filter (λ it. not (is_in it.seq done)) more) → AllByRecursion (λ it. is_in it.seq done ≡ false) (cond (not b) (entry ∷ filter (λ it. not (is_in it.seq done)) more) (filter (λ it. not (is_in it.seq done)) more))
    at true is rest = rest
    at false is rest = (is, rest)

still_new : (old : List ℕ) (seq : ℕ) (list : List Entry) → AllByRecursion (λ it. seq < it.seq) list → AllByRecursion (λ it. is_in it.seq old ≡ false) list → AllByRecursion (λ it. is_in it.seq (seq ∷ old) ≡ false) list
still_new old seq [] above apart = tt
still_new old seq (entry ∷ more) above apart = (rw (ne_eqb seq entry.seq (λ e. let lt = above.0 in omega (arith, e, lt)), apart.0) refl, still_new old seq more above.1 apart.1)

new_rows : (streams : List ConfStream) (opening : Opening) (number : ℕ) (old : List ℕ) (list : List Entry) (rows : List RawRow) → AreRowsOf streams opening number list rows → Rises list → AllByRecursion (λ it. is_in it.seq old ≡ false) list → AreNew old (map (λ (row : RawRow). row.seq) rows)
new_rows streams opening number old [] [] are rises apart = tt
new_rows streams opening number old [] (row ∷ rows) are rises apart = absurd are
new_rows streams opening number old (entry ∷ more) [] are rises apart = absurd are
new_rows streams opening number old (entry ∷ more) (row ∷ rows) are rises apart =
    let same = sym are.0.is.numbers.seq
    in (subst (λ seq. is_in seq old ≡ false) same apart.0, new_rows streams opening number (row.seq ∷ old) more rows are.1 rises.1 (subst (λ seq. AllByRecursion (λ it. is_in it.seq (seq ∷ old) ≡ false) more) same (still_new old entry.seq more rises.0 apart.1)))

own_rows : (streams : List ConfStream) (opening : Opening) (number load : ℕ) (list : List Entry) (rows : List RawRow) → load ≡ opening.load → AreRowsOf streams opening number list rows → AllByRecursion (λ row. row.load ≡ load) rows
own_rows streams opening number load [] [] same are = tt
own_rows streams opening number load [] (row ∷ rows) same are = absurd are
own_rows streams opening number load (entry ∷ more) [] same are = absurd are
own_rows streams opening number load (entry ∷ more) (row ∷ rows) same are = (are.0.is.numbers.load ∙ sym same, own_rows streams opening number load more rows same are.1)

-- The law

commit_in : (streams : List ConfStream) (read : Reading) (before : List Event) (stream : ℕ) (rows : List RawRow) (load : Load) (older : List Load) → loads before ≡ load ∷ older → IsSafeLoad streams read (with_event (Committed stream rows) load) → CommittedFits before rows
commit_in streams read before stream rows load older is safe = at split.act split.last_is (each_at (Fits streams load.opening) [] split.front [] split.act (subst (EachFits (Fits streams load.opening) []) split.is safe.fit))
  where
    split : SplitActs read safe.acts load.events (Committed stream rows)
    split = split_acts read safe.acts load.events (Committed stream rows) safe.are

    same : (tables_of before).load ≡ load.opening.load
    same = number_is no_tables [] before refl ∙ ap number is

    these : (own : ℕ) (made : List RawRow) → CommitFits streams load.opening split.front own made → CommittedFits before made
    these own made fits =
        let list = filter fits.chosen (uncommitted split.front)
        in record {
          own = own_rows streams load.opening own (tables_of before).load list made same fits.are;
          new = subst (λ old. AreNew old (map (λ (row : RawRow). row.seq) made)) (committed_are read split.front load.events split.are ∙ sym (ap last_committed is)) (new_rows streams load.opening own (committed split.front) list made fits.are (rises_kept fits.chosen (uncommitted split.front) (rises_kept (λ it. not (is_in it.seq (committed split.front))) (entries (taken split.front)) (rises_numbered 0 (entries (taken split.front)) (numbered 0 (taken split.front))))) (all_kept (λ it. is_in it.seq (committed split.front) ≡ false) fits.chosen (uncommitted split.front) (open_ones (committed split.front) (entries (taken split.front)))));
        }

    at : (act : Act) → IsAct read act (Committed stream rows) → Fits streams load.opening split.front act → CommittedFits before rows
    at (Commits own made) is fits = subst (CommittedFits before) (sym is.1) (these own made fits)
    at (Takes line) is fits = absurd is
    at Ends is fits = absurd is
    at (Echoes state) is fits = absurd is
    at Turns is fits = absurd is

pub safe_commits_fit : SafeCommitsFit
safe_commits_fit streams read before stream rows safe = at (loads before) refl
  where
    last : (list : List Load) → loads before ≡ list → IsSafeLast streams read (loads_after list (Committed stream rows))
    last list is = subst (IsSafeLast streams read) (loads_own before (Committed stream rows) refl ∙ ap (λ list. loads_after list (Committed stream rows)) is) safe

    at : (list : List Load) → loads before ≡ list → CommittedFits before rows
    at [] is = absurd (last [] is)
    at (load ∷ older) is = commit_in streams read before stream rows load older is (last (load ∷ older) is)
