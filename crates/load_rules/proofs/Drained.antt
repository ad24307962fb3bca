-- Runs that have drained.
use Rattle.std.proofs.Common.{arith, ◌≡◌, ◌⊎◌, inl, inr, ℕ, ◌+◌, ◌<◌, ◌≤◌, eqb, List, [], ◌∷◌, ◌++◌, map, length, Option, None, Some, Bool, true, false, cond, refl, sym, ◌∙◌, ap, subst, append_assoc}
use Rattle.std.specs.Prelude.{filter, find, slice_get}
use Rattle.std.specs.List.{AllByRecursion, list_all}
use Rattle.std.proofs.lemmas.List.{append-nil}
use Rattle.std.proofs.lemmas.Bool.{and_parts, and_from, or_cases, eqb-true, eq-eqb, ne_eqb, cases_eq, false≢true}
use Rattle.outside.specs.Tables.{same_id}
use Rattle.catalog.specs.declared.stream.ConfStream.{ConfStream}
use Rattle.airbyte_message.specs.Lanes.{Lane}
use Rattle.load_rules.specs.Prefixes.{IsPrefix}
use Rattle.load_rules.specs.Lines.{Line}
use Rattle.load_rules.specs.Taken.{Entry, entries, LaneState, states, of_lane, covers, is_in}
use Rattle.load_rules.specs.Acts.{Act, Takes, Ends, Commits, Echoes, Turns, taken, committed, echoed}
use Rattle.load_rules.specs.Machine.{Placed, Machine, Step, Accept, End, Seal, HandOut, Commit, TakeBack, Release, Turn, start, is_out, is_done, entry_of, in_batch, is_releasable, have_sequences, commits, commits_batch, releases, hands_out, commits_at, happens, run, accepted, IsDrained}
use Rattle.load_rules.specs.Laws.{DrainedIsDone, OrderIsFree, NoStateIsLeft}
use Rattle.load_rules.proofs.TakenLists.{Numbered, numbered, covered_front}
use Rattle.load_rules.proofs.Machines.{IsMarked, Rising, IsGood, seqs, good_run, good_start, taken-more, commit_taken, echo_taken, length_placed}

all_done : (done : List ℕ) (list : List Placed) → AllByRecursion (λ placed. is_done placed.place ≡ true) list → AllByRecursion (IsMarked done) list → AllByRecursion (λ entry. is_in entry.seq done ≡ true) (map entry_of list)
all_done done [] held marked = tt
all_done done (first ∷ more) held marked = (marked.0 ∙ held.0, all_done done more held.1 marked.1)

all_covered : (done : List ℕ) (lane : Lane) (list : List Entry) → AllByRecursion (λ entry. is_in entry.seq done ≡ true) list → list_all (λ seq. is_in seq done) (map (λ (entry : Entry). entry.seq) (filter (λ entry. covers lane entry.content.id) list)) ≡ true
all_covered done lane [] each = refl
all_covered done lane (entry ∷ more) each = at (covers lane entry.content.id) (all_covered done lane more each.1)
  where
    at : (b : Bool) → list_all (λ seq. is_in seq done) (map (λ (it : Entry). it.seq) (filter (λ it. covers lane it.content.id) more)) ≡ true → list_all (λ seq. is_in seq done) (map (λ (it : Entry). it.seq) (cond b (entry ∷ filter (λ it. covers lane it.content.id) more) (filter (λ it. covers lane it.content.id) more))) ≡ true
    at true rest = and_from (is_in entry.seq done) _ each.0 rest
    at false rest = rest

prefix_on : (a b c : List Line) → IsPrefix a b → IsPrefix b c → IsPrefix a c
prefix_on a b c first second = (first.0 ++ second.0, second.1 ∙ (ap (λ lines. lines ++ second.0) first.1 ∙ append_assoc a first.0 second.0))

rising_reaches : (low high : List Line) (list : List LaneState) → Rising low high list → IsPrefix low high
rising_reaches low high [] r = r
rising_reaches low high (first ∷ more) r = prefix_on low first.before high r.0 (rising_reaches first.before high more r.1)

done_of : (m : Machine) → IsGood m → IsDrained m → AllByRecursion (λ entry. is_in entry.seq (committed m.acts) ≡ true) (entries (taken m.acts))
done_of m g d = subst (AllByRecursion (λ entry. is_in entry.seq (committed m.acts) ≡ true)) g.entries_are (all_done (committed m.acts) m.placed d.nothing_held g.marked)

first_released : (acts : List Act) (state : LaneState) → IsPrefix state.before (taken acts) → AllByRecursion (λ entry. is_in entry.seq (committed acts) ≡ true) (entries (taken acts)) → is_releasable acts state ≡ true
first_released acts state prefix each =
    let whole = sym (ap (λ lines. list_all (λ seq. is_in seq (committed acts)) (map (λ (entry : Entry). entry.seq) (filter (λ entry. covers state.lane entry.content.id) (entries lines)))) prefix.1) ∙ all_covered (committed acts) state.lane (entries (taken acts)) each
    in (and_parts _ _ (sym (covered_front state.lane state.before prefix.0 (committed acts)) ∙ whole)).0

none_waits : (acts : List Act) (list : List LaneState) → Rising [] (taken acts) list → AllByRecursion (λ entry. is_in entry.seq (committed acts) ≡ true) (entries (taken acts)) → find (is_releasable acts) list ≡ None → list ≡ []
none_waits acts [] r each none = refl
none_waits acts (first ∷ more) r each none =
    let released = first_released acts first (rising_reaches first.before (taken acts) more r.1) each
    in absurd (grind (arith, released, none))

waits_none : (m : Machine) → IsGood m → IsDrained m → m.waiting ≡ []
waits_none m g d = none_waits m.acts m.waiting g.rising (done_of m g d) d.nothing_releasable

-- a sequence is a record's exactly where it is below their number

in_numbered : (n seq : ℕ) (list : List Entry) → Numbered n list → n ≤ seq → seq < n + length list → is_in seq (seqs list) ≡ true
in_numbered n seq [] counts low high = absurd (omega (arith, low, high))
in_numbered n seq (entry ∷ more) counts low high = at (cases_eq entry.seq seq) (λ above. in_numbered (n + 1) seq more counts.1 above (omega (arith, high)))
  where
    at : (entry.seq ≡ seq) ⊎ (entry.seq ≡ seq → ⊥) → (n + 1 ≤ seq → is_in seq (seqs more) ≡ true) → is_in seq (seqs (entry ∷ more)) ≡ true
    at (inl same) deeper = rw (eq-eqb entry.seq seq same) refl
    at (inr other) deeper = rw (ne_eqb entry.seq seq other) (deeper (omega (arith, low, counts.0, other)))

below_in : (seq n : ℕ) (done : List ℕ) → AllByRecursion (λ it. it < n) done → is_in seq done ≡ true → seq < n
below_in seq n [] below e = absurd (false≢true e)
below_in seq n (x ∷ xs) below e = at (or_cases (eqb x seq) (is_in seq xs) e) (below_in seq n xs below.1)
  where
    at : (eqb x seq ≡ true) ⊎ (is_in seq xs ≡ true) → (is_in seq xs ≡ true → seq < n) → seq < n
    at (inl same) deeper = let is = eqb-true x seq same in omega (arith, is, below.0)
    at (inr within) deeper = deeper within

done_in : (seq : ℕ) (list : List Entry) (done : List ℕ) → AllByRecursion (λ entry. is_in entry.seq done ≡ true) list → is_in seq (seqs list) ≡ true → is_in seq done ≡ true
done_in seq [] done each e = absurd (false≢true e)
done_in seq (first ∷ more) done each e = at (or_cases (eqb first.seq seq) (is_in seq (seqs more)) e) (done_in seq more done each.1)
  where
    at : (eqb first.seq seq ≡ true) ⊎ (is_in seq (seqs more) ≡ true) → (is_in seq (seqs more) ≡ true → is_in seq done ≡ true) → is_in seq done ≡ true
    at (inl same) deeper = subst (λ it. is_in it done ≡ true) (eqb-true first.seq seq same) each.0
    at (inr within) deeper = deeper within

same_tests : (a b : Bool) → (a ≡ true → b ≡ true) → (b ≡ true → a ≡ true) → a ≡ b
same_tests true b there back = sym (there refl)
same_tests false true there back = absurd (false≢true (back refl))
same_tests false false there back = refl

committed_is : (m : Machine) → IsGood m → IsDrained m → (seq : ℕ) → is_in seq (committed m.acts) ≡ is_in seq (seqs (entries (taken m.acts)))
committed_is m g d seq = same_tests (is_in seq (committed m.acts)) (is_in seq (seqs (entries (taken m.acts)))) (λ e. in_numbered 0 seq (entries (taken m.acts)) (numbered 0 (taken m.acts)) (omega arith) (let lt = below_in seq (length m.placed) (committed m.acts) g.below e in let long = length_placed m g in omega (arith, lt, long))) (done_in seq (entries (taken m.acts)) (committed m.acts) (done_of m g d))

echoed_is : (m : Machine) → IsGood m → IsDrained m → (lane : Lane) → echoed lane m.acts ≡ of_lane lane (states (taken m.acts))
echoed_is m g d lane =
    sym (append-nil (echoed lane m.acts)) ∙ (ap (λ list. echoed lane m.acts ++ of_lane lane list) (sym (waits_none m g d)) ∙ sym (g.lanes lane).splits)

-- what a step takes

quiet_step : (acts now : List Act) (steps : List Step) → taken now ≡ taken acts → taken now ++ accepted steps ≡ taken acts ++ accepted steps
quiet_step acts now steps same = ap (λ lines. lines ++ accepted steps) same

step_taken : (streams : List ConfStream) (m : Machine) (step : Step) (steps : List Step) → taken (happens streams m step).acts ++ accepted steps ≡ taken m.acts ++ accepted (step ∷ steps)
step_taken streams m (Accept line) steps = ap (λ lines. lines ++ accepted steps) (taken-more m.acts (Takes line)) ∙ append_assoc (taken m.acts) (line ∷ []) (accepted steps)
step_taken streams m End steps = quiet_step m.acts (m.acts ++ Ends ∷ []) steps (taken-more m.acts Ends ∙ append-nil (taken m.acts))
step_taken streams m (Seal id count) steps = refl
step_taken streams m (HandOut id count batch) steps = at (filter (λ placed. is_out batch placed.place) m.placed)
  where
    at : (others : List Placed) → taken (hands_out m id count batch others).acts ++ accepted steps ≡ taken m.acts ++ accepted steps
    at [] = refl
    at (other ∷ others) = refl
step_taken streams m (Commit number id batch rows) steps = at (slice_get streams number)
  where
    kept : (b : Bool) → taken (cond b (commits m number id batch rows) m).acts ++ accepted steps ≡ taken m.acts ++ accepted steps
    kept true = quiet_step m.acts (m.acts ++ Commits number rows ∷ []) steps (commit_taken m.acts number rows)
    kept false = refl

    these : (list : List Entry) → taken (commits_batch m number id batch rows list).acts ++ accepted steps ≡ taken m.acts ++ accepted steps
    these [] = refl
    these (entry ∷ more) = kept (have_sequences rows (entry ∷ more))

    of_stream : (b : Bool) → taken (cond b (commits_batch m number id batch rows (in_batch id batch m.placed)) m).acts ++ accepted steps ≡ taken m.acts ++ accepted steps
    of_stream true = these (in_batch id batch m.placed)
    of_stream false = refl

    at : (found : Option ConfStream) → taken (commits_at m number id batch rows found).acts ++ accepted steps ≡ taken m.acts ++ accepted steps
    at None = refl
    at (Some stream) = of_stream (same_id stream.id id)
step_taken streams m (TakeBack id batch) steps = refl
step_taken streams m Release steps = at (find (is_releasable m.acts) m.waiting)
  where
    at : (found : Option LaneState) → taken (releases m found).acts ++ accepted steps ≡ taken m.acts ++ accepted steps
    at None = refl
    at (Some state) = quiet_step m.acts (m.acts ++ Echoes state ∷ []) steps (echo_taken m.acts state)
step_taken streams m Turn steps = quiet_step m.acts (m.acts ++ Turns ∷ []) steps (taken-more m.acts Turns ∙ append-nil (taken m.acts))

pub run_taken : (streams : List ConfStream) (steps : List Step) (m : Machine) → taken (run streams steps m).acts ≡ taken m.acts ++ accepted steps
run_taken streams [] m = sym (append-nil (taken m.acts))
run_taken streams (step ∷ steps) m = run_taken streams steps (happens streams m step) ∙ step_taken streams m step steps

pub no_state_is_left : NoStateIsLeft
no_state_is_left streams steps d = waits_none (run streams steps start) (good_run streams steps start good_start) d

pub drained_is_done : DrainedIsDone
drained_is_done streams steps d =
    let m = run streams steps start in
    let g = good_run streams steps start good_start in
    record { committed_all = committed_is m g d; echoed_all = echoed_is m g d }

pub order_is_free : OrderIsFree
order_is_free streams first second same first_ends second_ends =
    let f = run streams first start in
    let s = run streams second start in
    let fg = good_run streams first start good_start in
    let sg = good_run streams second start good_start in
    let alike : taken f.acts ≡ taken s.acts = run_taken streams first start ∙ (same ∙ sym (run_taken streams second start)) in
    record {
      committed_alike = λ seq. committed_is f fg first_ends seq ∙ (ap (λ lines. is_in seq (seqs (entries lines))) alike ∙ sym (committed_is s sg second_ends seq));
      echoed_alike = λ lane. echoed_is f fg first_ends lane ∙ (ap (λ lines. of_lane lane (states lines)) alike ∙ sym (echoed_is s sg second_ends lane));
    }
