-- What every run of the machine keeps.
use Rattle.std.proofs.Common.{arith, ◌≡◌, ◌⊎◌, inl, inr, ℕ, ◌+◌, ◌-◌, ◌<◌, ◌≤◌, eqb, ltb, List, [], ◌∷◌, ◌++◌, map, length, Option, None, Some, Bool, true, false, cond, refl, sym, ◌∙◌, ap, subst, append_assoc, length-append}
use Rattle.std.specs.Prelude.{filter, filter_map, flat_map, ◌||◌, ◌&&◌, find}
use Rattle.std.specs.List.{AllByRecursion, list_all}
use Rattle.std.proofs.lemmas.List.{append-nil, map-append}
use Rattle.std.proofs.lemmas.List.Elements.{filter_map-append, filter-append}
use Rattle.std.proofs.lemmas.List.Folds.{list_any-append}
use Rattle.std.proofs.lemmas.Grind.{flat_map-append}
use Rattle.std.proofs.lemmas.Bool.{and_parts, or_right, eq-eqb, eqb-true, cases_Bool, false≢true, ne_eqb}
use Rattle.basics.specs.declared.stream.StreamId.{StreamId}
use Rattle.outside.specs.Tables.{same_id}
use Rattle.outside.specs.declared.event.RawRow.{RawRow}
use Rattle.outside.proofs.TableLaws.{id_own, id_is}
use Rattle.catalog.specs.declared.stream.ConfStream.{ConfStream}
use Rattle.airbyte_message.specs.Lanes.{Lane, lane_of}
use Rattle.airbyte_message.specs.Lanes as lanes
use Rattle.airbyte_message.specs.State.{State}
use Rattle.airbyte_message.specs.declared.message.RecordMsg.{RecordMsg}
use Rattle.load_rules.specs.Prefixes.{IsPrefix}
use Rattle.load_rules.specs.Lines.{Line, record_in, state_in}
use Rattle.load_rules.specs.Taken.{Entry, and_record, entries_from, entries, LaneState, state_of, state_of_lane, states, of_lane, covers, is_same_lane, is_in}
use Rattle.load_rules.specs.Acts.{Act, Takes, Ends, Commits, Echoes, Turns, line_of, taken, rows_of, committed, state_echoed, echoed}
use Rattle.load_rules.specs.Machine.{Place, Queued, Sealed, Out, Done, Placed, Machine, Step, Accept, End, Seal, HandOut, Commit, TakeBack, Release, Turn, start, queue, is_out, is_sealed, is_queued, is_done, is_queued_of, is_sealed_of, is_in_batch, put_in, move, move_first, entry_of, in_batch, is_releasable, without_first, accepts, have_sequences, commits, commits_batch, releases, hands_out, commits_at, happens, run}
use Rattle.load_rules.proofs.TakenLists.{entries-append, states-append, all_append, all_weaker, all_both, Numbered, numbered, covered_front}

-- the place of a record says whether it is committed
abbrev pub IsMarked : List ℕ → Placed → Type 0
IsMarked done placed = is_in placed.entry.seq done ≡ is_done placed.place

-- the lane's states are those that were echoed, and then those that wait
pub record LaneStands (acts : List Act) (waiting : List LaneState) (lane : Lane) : Type 0 where
  pub splits : of_lane lane (states (taken acts)) ≡ echoed lane acts ++ of_lane lane waiting

-- each waiting state has what the ones before it have, and more
abbrev pub Rising : List Line → List Line → List LaneState → Type 0
Rising low high [] = IsPrefix low high
Rising low high (state ∷ more) = IsPrefix low state.before × Rising state.before high more

pub record IsGood (m : Machine) : Type 0 where
  pub entries_are : map entry_of m.placed ≡ entries (taken m.acts)
  pub marked : AllByRecursion (IsMarked (committed m.acts)) m.placed
  pub below : AllByRecursion (λ seq. seq < length m.placed) (committed m.acts)
  pub lanes : (lane : Lane) → LaneStands m.acts m.waiting lane
  pub rising : Rising [] (taken m.acts) m.waiting

-- Acts behind acts

pub taken-more : (acts : List Act) (act : Act) → taken (acts ++ act ∷ []) ≡ taken acts ++ taken (act ∷ [])
taken-more acts act = filter_map-append line_of acts (act ∷ [])

pub committed-more : (acts : List Act) (act : Act) → committed (acts ++ act ∷ []) ≡ committed acts ++ committed (act ∷ [])
committed-more acts act = ap (map (λ row. row.seq)) (flat_map-append rows_of acts (act ∷ [])) ∙ map-append (λ (row : RawRow). row.seq) (flat_map rows_of acts) (flat_map rows_of (act ∷ []))

pub echoed-more : (lane : Lane) (acts : List Act) (act : Act) → echoed lane (acts ++ act ∷ []) ≡ echoed lane acts ++ echoed lane (act ∷ [])
echoed-more lane acts act = ap (of_lane lane) (filter_map-append state_echoed acts (act ∷ [])) ∙ filter-append (λ state. is_same_lane lane state.lane) (filter_map state_echoed acts) (filter_map state_echoed (act ∷ []))

-- an act that takes, commits and echoes nothing
record IsQuiet (acts now : List Act) : Type 0 where
  taken_is : taken now ≡ taken acts
  committed_is : committed now ≡ committed acts
  echoed_is : (lane : Lane) → echoed lane now ≡ echoed lane acts

lanes_quiet : (acts now : List Act) (waiting : List LaneState) (lane : Lane) → taken now ≡ taken acts → echoed lane now ≡ echoed lane acts → LaneStands acts waiting lane → LaneStands now waiting lane
lanes_quiet acts now waiting lane taken_is echoed_is stands = record { splits = ap (λ lines. of_lane lane (states lines)) taken_is ∙ (stands.splits ∙ ap (λ gone. gone ++ of_lane lane waiting) (sym echoed_is)) }

good_quiet : (m : Machine) (now : List Act) → IsQuiet m.acts now → IsGood m → IsGood (record m { acts = now })
good_quiet m now quiet g = record {
  entries_are = g.entries_are ∙ ap entries (sym quiet.taken_is);
  marked = subst (λ done. AllByRecursion (IsMarked done) m.placed) (sym quiet.committed_is) g.marked;
  below = subst (λ done. AllByRecursion (λ seq. seq < length m.placed) done) (sym quiet.committed_is) g.below;
  lanes = λ lane. lanes_quiet m.acts now m.waiting lane quiet.taken_is (quiet.echoed_is lane) (g.lanes lane);
  rising = subst (λ lines. Rising [] lines m.waiting) (sym quiet.taken_is) g.rising;
}

end_quiet : (acts : List Act) → IsQuiet acts (acts ++ Ends ∷ [])
end_quiet acts = record { taken_is = taken-more acts Ends ∙ append-nil (taken acts); committed_is = committed-more acts Ends ∙ append-nil (committed acts); echoed_is = λ lane. echoed-more lane acts Ends ∙ append-nil (echoed lane acts) }

turn_quiet : (acts : List Act) → IsQuiet acts (acts ++ Turns ∷ [])
turn_quiet acts = record { taken_is = taken-more acts Turns ∙ append-nil (taken acts); committed_is = committed-more acts Turns ∙ append-nil (committed acts); echoed_is = λ lane. echoed-more lane acts Turns ∙ append-nil (echoed lane acts) }

-- Moves that commit nothing

entries-move : (test : Placed → Bool) (place : Place) (list : List Placed) → map entry_of (move test place list) ≡ map entry_of list
entries-move test place [] = refl
entries-move test place (one ∷ more) = grind (arith, cases_Bool (test one), entries-move test place more)

entries-move_first : (test : Placed → Bool) (place : Place) (n : ℕ) (list : List Placed) → map entry_of (move_first test place n list) ≡ map entry_of list
entries-move_first test place n [] = refl
entries-move_first test place n (one ∷ more) = grind (arith, cases_Bool (test one), entries-move_first test place n more, entries-move_first test place (n - 1) more)

pub length-move : (test : Placed → Bool) (place : Place) (list : List Placed) → length (move test place list) ≡ length list
length-move test place [] = refl
length-move test place (one ∷ more) = grind (arith, length-move test place more)

length-move_first : (test : Placed → Bool) (place : Place) (n : ℕ) (list : List Placed) → length (move_first test place n list) ≡ length list
length-move_first test place n [] = refl
length-move_first test place n (one ∷ more) = grind (arith, cases_Bool (test one), length-move_first test place n more, length-move_first test place (n - 1) more)

marked-move : (done : List ℕ) (test : Placed → Bool) (place : Place) (list : List Placed) → ((one : Placed) → test one ≡ true → is_done one.place ≡ is_done place) → AllByRecursion (IsMarked done) list → AllByRecursion (IsMarked done) (move test place list)
marked-move done test place [] keeps each = tt
marked-move done test place (one ∷ more) keeps each = (at (cases_Bool (test one)), marked-move done test place more keeps each.1)
  where
    at : (test one ≡ true) ⊎ (test one ≡ false) → IsMarked done (cond (test one) (put_in place one) one)
    at (inl passes) = rw passes (each.0 ∙ keeps one passes)
    at (inr fails) = rw fails each.0

marked-step : (done : List ℕ) (b : Bool) (place : Place) (one : Placed) (xs ys : List Placed) → (b ≡ true → is_done one.place ≡ is_done place) → IsMarked done one → AllByRecursion (IsMarked done) xs → AllByRecursion (IsMarked done) ys → AllByRecursion (IsMarked done) (cond b (put_in place one ∷ xs) (one ∷ ys))
marked-step done true place one xs ys keeps here first second = (here ∙ keeps refl, first)
marked-step done false place one xs ys keeps here first second = (here, second)

marked-move_first : (done : List ℕ) (test : Placed → Bool) (place : Place) (n : ℕ) (list : List Placed) → ((one : Placed) → test one ≡ true → is_done one.place ≡ is_done place) → AllByRecursion (IsMarked done) list → AllByRecursion (IsMarked done) (move_first test place n list)
marked-move_first done test place n [] keeps each = tt
marked-move_first done test place n (one ∷ more) keeps each = marked-step done (test one && ltb 0 n) place one (move_first test place (n - 1) more) (move_first test place n more) (λ e. keeps one (and_parts (test one) (ltb 0 n) e).0) each.0 (marked-move_first done test place (n - 1) more keeps each.1) (marked-move_first done test place n more keeps each.1)

good_places : (m : Machine) (placed : List Placed) → map entry_of placed ≡ map entry_of m.placed → length placed ≡ length m.placed → AllByRecursion (IsMarked (committed m.acts)) placed → IsGood m → IsGood (record m { placed = placed })
good_places m placed same long marked g = record {
  entries_are = same ∙ g.entries_are;
  marked = marked;
  below = subst (λ n. AllByRecursion (λ seq. seq < n) (committed m.acts)) (sym long) g.below;
  lanes = g.lanes;
  rising = g.rising;
}

good_move : (m : Machine) (test : Placed → Bool) (place : Place) → ((one : Placed) → test one ≡ true → is_done one.place ≡ is_done place) → IsGood m → IsGood (record m { placed = move test place m.placed })
good_move m test place keeps g = good_places m (move test place m.placed) (entries-move test place m.placed) (length-move test place m.placed) (marked-move (committed m.acts) test place m.placed keeps g.marked) g

good_move_first : (m : Machine) (test : Placed → Bool) (place : Place) (n : ℕ) → ((one : Placed) → test one ≡ true → is_done one.place ≡ is_done place) → IsGood m → IsGood (record m { placed = move_first test place n m.placed })
good_move_first m test place n keeps g = good_places m (move_first test place n m.placed) (entries-move_first test place n m.placed) (length-move_first test place n m.placed) (marked-move_first (committed m.acts) test place n m.placed keeps g.marked) g

-- Accepting

entries-queue : (list : List Entry) → map entry_of (map queue list) ≡ list
entries-queue [] = refl
entries-queue (entry ∷ more) = ap (λ rest. entry ∷ rest) (entries-queue more)

length_entries : (list : List Placed) → length (map entry_of list) ≡ length list
length_entries [] = refl
length_entries (first ∷ more) = grind (arith, length_entries more)

pub length_placed : (m : Machine) → IsGood m → length m.placed ≡ length (entries (taken m.acts))
length_placed m g = sym (length_entries m.placed) ∙ ap length g.entries_are

pub not_in : (seq n : ℕ) (done : List ℕ) → n ≤ seq → AllByRecursion (λ one. one < n) done → is_in seq done ≡ false
not_in seq n [] above each = refl
not_in seq n (x ∷ xs) above each = rw (ne_eqb x seq (λ e. omega (arith, each.0, above, e)), not_in seq n xs above each.1) refl

marked-queue : (done : List ℕ) (n : ℕ) (line : Line) → AllByRecursion (λ seq. seq < n) done → AllByRecursion (IsMarked done) (map queue (entries_from n (line ∷ [])))
marked-queue done n line each = at (record_in line.found)
  where
    at : (found : Option RecordMsg) → AllByRecursion (IsMarked done) (map queue (and_record n found (λ next. [])))
    at None = tt
    at (Some content) = (not_in n n done (omega arith) each, tt)

rising_on : (low high : List Line) (line : Line) (list : List LaneState) → Rising low high list → Rising low (high ++ line ∷ []) list
rising_on low high line [] r = (r.0 ++ line ∷ [], ap (λ lines. lines ++ line ∷ []) r.1 ∙ append_assoc low r.0 (line ∷ []))
rising_on low high line (state ∷ more) r = (r.0, rising_on state.before high line more r.1)

rising_more : (low high : List Line) (line : Line) (list : List LaneState) (state : LaneState) → state.before ≡ high → Rising low high list → Rising low (high ++ line ∷ []) (list ++ state ∷ [])
rising_more low high line [] state is r = (subst (IsPrefix low) (sym is) r, subst (λ lines. IsPrefix lines (high ++ line ∷ [])) (sym is) (line ∷ [], refl))
rising_more low high line (first ∷ more) state is r = (r.0, rising_more first.before high line more state is r.1)

pub rising_accept : (lines : List Line) (line : Line) (list : List LaneState) → Rising [] lines list → Rising [] (lines ++ line ∷ []) (list ++ state_of lines (state_in line.found))
rising_accept lines line list r = at (state_in line.found)
  where
    here : (state : State) (lane : Option Lane) → Rising [] (lines ++ line ∷ []) (list ++ state_of_lane lines state lane)
    here state None = subst (Rising [] (lines ++ line ∷ [])) (sym (append-nil list)) (rising_on [] lines line list r)
    here state (Some lane) = rising_more [] lines line list (record { lane = lane; state = state; before = lines }) refl r

    at : (found : Option State) → Rising [] (lines ++ line ∷ []) (list ++ state_of lines found)
    at None = subst (Rising [] (lines ++ line ∷ [])) (sym (append-nil list)) (rising_on [] lines line list r)
    at (Some state) = here state (lane_of state.kind)

pub states-one : (lines : List Line) (line : Line) → states (lines ++ line ∷ []) ≡ states lines ++ state_of lines (state_in line.found)
states-one lines line = states-append [] lines (line ∷ []) ∙ ap (λ more. states lines ++ more) (append-nil (state_of lines (state_in line.found)))

lane_accept : (acts : List Act) (waiting : List LaneState) (line : Line) (lane : Lane) → LaneStands acts waiting lane → LaneStands (acts ++ Takes line ∷ []) (waiting ++ state_of (taken acts) (state_in line.found)) lane
lane_accept acts waiting line lane stands =
    let more = state_of (taken acts) (state_in line.found)
    in record {
      splits =
          ap (λ lines. of_lane lane (states lines)) (taken-more acts (Takes line))
          ∙ (ap (of_lane lane) (states-one (taken acts) line)
          ∙ (filter-append (λ state. is_same_lane lane state.lane) (states (taken acts)) more
          ∙ (ap (λ list. list ++ of_lane lane more) stands.splits
          ∙ (append_assoc (echoed lane acts) (of_lane lane waiting) (of_lane lane more)
          ∙ (ap (λ list. echoed lane acts ++ list) (sym (filter-append (λ state. is_same_lane lane state.lane) waiting more))
          ∙ ap (λ gone. gone ++ of_lane lane (waiting ++ more)) (sym (echoed-more lane acts (Takes line) ∙ append-nil (echoed lane acts))))))));
    }

from_zero : (m : Machine) → IsGood m → length m.placed ≡ 0 + length (entries (taken m.acts))
from_zero m g = let long = length_placed m g in omega (arith, long)

good_accept : (m : Machine) (line : Line) → IsGood m → IsGood (accepts m line)
good_accept m line g =
    let more = entries_from (length m.placed) (line ∷ [])
    in let done_is : committed (m.acts ++ Takes line ∷ []) ≡ committed m.acts = committed-more m.acts (Takes line) ∙ append-nil (committed m.acts)
    in record {
      entries_are =
          map-append entry_of m.placed (map queue more)
          ∙ (ap (λ list. list ++ map entry_of (map queue more)) g.entries_are
          ∙ (ap (λ list. entries (taken m.acts) ++ list) (entries-queue more ∙ ap (λ n. entries_from n (line ∷ [])) (from_zero m g))
          ∙ (sym (entries-append 0 (taken m.acts) (line ∷ []))
          ∙ ap entries (sym (taken-more m.acts (Takes line))))));
      marked = subst (λ done. AllByRecursion (IsMarked done) (m.placed ++ map queue more)) (sym done_is) (all_append (IsMarked (committed m.acts)) m.placed (map queue more) g.marked (marked-queue (committed m.acts) (length m.placed) line g.below));
      below = subst (λ done. AllByRecursion (λ seq. seq < length (m.placed ++ map queue more)) done) (sym done_is) (all_weaker (λ seq. seq < length m.placed) (λ seq. seq < length (m.placed ++ map queue more)) (committed m.acts) (λ seq lt. let long = length-append m.placed (map queue more) in omega (arith, lt, long)) g.below);
      lanes = λ lane. lane_accept m.acts m.waiting line lane (g.lanes lane);
      rising = subst (λ lines. Rising [] lines (m.waiting ++ state_of (taken m.acts) (state_in line.found))) (sym (taken-more m.acts (Takes line))) (rising_accept (taken m.acts) line m.waiting g.rising);
    }

-- Committing

abbrev pub seqs : List Entry → List ℕ
seqs list = map (λ entry. entry.seq) list

abbrev pub picked : (Placed → Bool) → List Placed → List Entry
picked test list = map entry_of (filter test list)

-- rows that have the sequences of records, as an equation of lists
pub sequences_are : (rows : List RawRow) (list : List Entry) → have_sequences rows list ≡ true → map (λ (made : RawRow). made.seq) rows ≡ seqs list
sequences_are [] [] e = refl
sequences_are [] (entry ∷ more) e = absurd (false≢true e)
sequences_are (row ∷ rows) [] e = absurd (false≢true e)
sequences_are (row ∷ rows) (entry ∷ more) e =
    let parts = and_parts (eqb row.seq entry.seq) (have_sequences rows more) e in
    let first = eqb-true row.seq entry.seq parts.0 in
    let deeper = sequences_are rows more parts.1 in
    rw (first, deeper) refl

not_picked : (seq n : ℕ) (test : Placed → Bool) (list : List Placed) → seq < n → Numbered n (map entry_of list) → is_in seq (seqs (picked test list)) ≡ false
not_picked seq n test [] lt counts = refl
not_picked seq n test (first ∷ more) lt counts = either (test first) first (filter test more) (ne_eqb first.entry.seq seq (λ e. omega (arith, e, lt, counts.0))) (not_picked seq (n + 1) test more (omega (arith, lt)) counts.1)
  where
    either : (b : Bool) (first : Placed) (rest : List Placed) → eqb first.entry.seq seq ≡ false → is_in seq (seqs (map entry_of rest)) ≡ false → is_in seq (seqs (map entry_of (cond b (first ∷ rest) rest))) ≡ false
    either true first rest ne none = rw (ne, none) refl
    either false first rest ne none = none

all_above : (n m : ℕ) (list : List Placed) → n < m → Numbered m (map entry_of list) → AllByRecursion (λ placed. n < placed.entry.seq) list
all_above n m [] lt counts = tt
all_above n m (first ∷ more) lt counts = (omega (arith, lt, counts.0), all_above n (m + 1) more (omega (arith, lt)) counts.1)

-- a sequence is among those that were picked exactly where its record passes
pub picked_is : (n : ℕ) (test : Placed → Bool) (list : List Placed) → Numbered n (map entry_of list) → AllByRecursion (λ placed. is_in placed.entry.seq (seqs (picked test list)) ≡ test placed) list
picked_is n test [] counts = tt
picked_is n test (first ∷ more) counts = (
  head (test first) (filter test more) refl (not_picked first.entry.seq (n + 1) test more (omega (arith, counts.0)) counts.1),
  all_both (λ x. n < x.entry.seq) (λ x. is_in x.entry.seq (seqs (picked test more)) ≡ test x) (λ x. is_in x.entry.seq (seqs (picked test (first ∷ more))) ≡ test x) more (λ x above is. tail (test first) x (filter test more) (ne_eqb first.entry.seq x.entry.seq (λ e. omega (arith, e, above, counts.0))) is) (all_above n (n + 1) more (omega arith) counts.1) (picked_is (n + 1) test more counts.1),
)
  where
    head : (b : Bool) (rest : List Placed) → test first ≡ b → is_in first.entry.seq (seqs (map entry_of rest)) ≡ false → is_in first.entry.seq (seqs (map entry_of (cond b (first ∷ rest) rest))) ≡ b
    head true rest is none = rw (eq-eqb first.entry.seq first.entry.seq refl) refl
    head false rest is none = none

    tail : (b : Bool) (x : Placed) (rest : List Placed) → eqb first.entry.seq x.entry.seq ≡ false → is_in x.entry.seq (seqs (map entry_of rest)) ≡ test x → is_in x.entry.seq (seqs (map entry_of (cond b (first ∷ rest) rest))) ≡ test x
    tail true x rest ne is = rw ne is
    tail false x rest ne is = is

or_false : (b : Bool) → (b || false) ≡ b
or_false true = refl
or_false false = refl

pub is_in-append : (seq : ℕ) (xs ys : List ℕ) → is_in seq (xs ++ ys) ≡ (is_in seq xs || is_in seq ys)
is_in-append seq xs ys = list_any-append (λ other. eqb other seq) xs ys

marked-commit : (done more : List ℕ) (test : Placed → Bool) (list : List Placed) → AllByRecursion (IsMarked done) list → AllByRecursion (λ placed. is_in placed.entry.seq more ≡ test placed) list → AllByRecursion (IsMarked (done ++ more)) (move test Done list)
marked-commit done more test [] marked picks = tt
marked-commit done more test (first ∷ rest) marked picks = (head (test first) picks.0, marked-commit done more test rest marked.1 picks.1)
  where
    head : (b : Bool) → is_in first.entry.seq more ≡ b → IsMarked (done ++ more) (cond b (put_in Done first) first)
    head true is = is_in-append first.entry.seq done more ∙ rw is (or_right (is_in first.entry.seq done) true refl)
    head false is = is_in-append first.entry.seq done more ∙ (rw (is, marked.0) (or_false (is_done first.place)))

pub numbered_placed : (m : Machine) → IsGood m → Numbered 0 (map entry_of m.placed)
numbered_placed m g = subst (Numbered 0) (sym g.entries_are) (numbered 0 (taken m.acts))

below_picked : (n m : ℕ) (test : Placed → Bool) (list : List Placed) → Numbered n (map entry_of list) → n + length list ≤ m → AllByRecursion (λ seq. seq < m) (seqs (picked test list))
below_picked n m test [] counts le = tt
below_picked n m test (first ∷ more) counts le = either (test first) (filter test more) (below_picked (n + 1) m test more counts.1 (omega (arith, le)))
  where
    either : (b : Bool) (rest : List Placed) → AllByRecursion (λ seq. seq < m) (seqs (map entry_of rest)) → AllByRecursion (λ seq. seq < m) (seqs (map entry_of (cond b (first ∷ rest) rest)))
    either true rest each = (omega (arith, counts.0, le), each)
    either false rest each = each

pub commit_done : (acts : List Act) (number : ℕ) (rows : List RawRow) → committed (acts ++ Commits number rows ∷ []) ≡ committed acts ++ map (λ row. row.seq) rows
commit_done acts number rows = committed-more acts (Commits number rows) ∙ ap (λ more. committed acts ++ more) (ap (map (λ (made : RawRow). made.seq)) (append-nil rows))

pub commit_taken : (acts : List Act) (number : ℕ) (rows : List RawRow) → taken (acts ++ Commits number rows ∷ []) ≡ taken acts
commit_taken acts number rows = taken-more acts (Commits number rows) ∙ append-nil (taken acts)

pub commit_echoed : (lane : Lane) (acts : List Act) (number : ℕ) (rows : List RawRow) → echoed lane (acts ++ Commits number rows ∷ []) ≡ echoed lane acts
commit_echoed lane acts number rows = echoed-more lane acts (Commits number rows) ∙ append-nil (echoed lane acts)

good_commit : (m : Machine) (number : ℕ) (id : StreamId) (batch : ℕ) (rows : List RawRow) → map (λ (made : RawRow). made.seq) rows ≡ seqs (in_batch id batch m.placed) → IsGood m → IsGood (commits m number id batch rows)
good_commit m number id batch rows same g =
    let test = is_in_batch id batch
    in let list = in_batch id batch m.placed
    in let taken_is = commit_taken m.acts number rows
    in let done_is : committed (m.acts ++ Commits number rows ∷ []) ≡ committed m.acts ++ seqs list = commit_done m.acts number rows ∙ ap (λ more. committed m.acts ++ more) same
    in record {
      entries_are = entries-move test Done m.placed ∙ (g.entries_are ∙ ap entries (sym taken_is));
      marked = subst (λ done. AllByRecursion (IsMarked done) (move test Done m.placed)) (sym done_is) (marked-commit (committed m.acts) (seqs list) test m.placed g.marked (picked_is 0 test m.placed (numbered_placed m g)));
      below = subst (λ n. AllByRecursion (λ seq. seq < n) (committed (m.acts ++ Commits number rows ∷ []))) (sym (length-move test Done m.placed)) (subst (AllByRecursion (λ seq. seq < length m.placed)) (sym done_is) (all_append (λ seq. seq < length m.placed) (committed m.acts) (seqs list) g.below (below_picked 0 (length m.placed) test m.placed (numbered_placed m g) (omega arith))));
      lanes = λ lane. lanes_quiet m.acts (m.acts ++ Commits number rows ∷ []) m.waiting lane taken_is (commit_echoed lane m.acts number rows) (g.lanes lane);
      rising = subst (λ lines. Rising [] lines m.waiting) (sym taken_is) g.rising;
    }

good_commit_batch : (m : Machine) (number : ℕ) (id : StreamId) (batch : ℕ) (rows : List RawRow) (list : List Entry) → list ≡ in_batch id batch m.placed → IsGood m → IsGood (commits_batch m number id batch rows list)
good_commit_batch m number id batch rows [] is g = g
good_commit_batch m number id batch rows (entry ∷ more) is g = at (cases_Bool (have_sequences rows (entry ∷ more)))
  where
    at : (have_sequences rows (entry ∷ more) ≡ true) ⊎ (have_sequences rows (entry ∷ more) ≡ false) → IsGood (cond (have_sequences rows (entry ∷ more)) (commits m number id batch rows) m)
    at (inl have) = rw have (good_commit m number id batch rows (sequences_are rows (entry ∷ more) have ∙ ap seqs is) g)
    at (inr differ) = rw differ g

good_commit_at : (m : Machine) (number : ℕ) (id : StreamId) (batch : ℕ) (rows : List RawRow) (found : Option ConfStream) → IsGood m → IsGood (commits_at m number id batch rows found)
good_commit_at m number id batch rows None g = g
good_commit_at m number id batch rows (Some stream) g = at (same_id stream.id id)
  where
    at : (b : Bool) → IsGood (cond b (commits_batch m number id batch rows (in_batch id batch m.placed)) m)
    at true = good_commit_batch m number id batch rows (in_batch id batch m.placed) refl g
    at false = g

-- Releasing

pub found_passes : {A : Type 0} (test : A → Bool) (xs : List A) (x : A) → find test xs ≡ Some x → test x ≡ true
found_passes test [] x e = cc
found_passes test (y ∷ ys) x e = at (cases_Bool (test y)) (found_passes test ys x)
  where
    at : (test y ≡ true) ⊎ (test y ≡ false) → (find test ys ≡ Some x → test x ≡ true) → test x ≡ true
    at (inl passes) deeper = grind (arith, passes, e)
    at (inr fails) deeper = deeper (grind (arith, fails, e))

pub prefix_on : (a b c : List Line) → IsPrefix a b → IsPrefix b c → IsPrefix a c
prefix_on a b c first second = (first.0 ++ second.0, second.1 ∙ (ap (λ lines. lines ++ second.0) first.1 ∙ append_assoc a first.0 second.0))

found_above : (test : LaneState → Bool) (low high : List Line) (list : List LaneState) (state : LaneState) → Rising low high list → find test list ≡ Some state → IsPrefix low state.before
found_above test low high [] state r e = absurd (grind (arith, e))
found_above test low high (first ∷ more) state r e = at (cases_Bool (test first)) (found_above test first.before high more state r.1)
  where
    at : (test first ≡ true) ⊎ (test first ≡ false) → (find test more ≡ Some state → IsPrefix first.before state.before) → IsPrefix low state.before
    at (inl passes) deeper =
        let same : first ≡ state = grind (arith, passes, e)
        in subst (λ it. IsPrefix low it.before) same r.0
    at (inr fails) deeper = prefix_on low first.before state.before r.0 (deeper (grind (arith, fails, e)))

pub lane_own : (lane : Lane) → is_same_lane lane lane ≡ true
lane_own lanes.all = refl
lane_own (lanes.one id) = id_own id

pub lane_is : (a b : Lane) → is_same_lane a b ≡ true → a ≡ b
lane_is lanes.all lanes.all e = refl
lane_is lanes.all (lanes.one b) e = absurd (false≢true e)
lane_is (lanes.one a) lanes.all e = absurd (false≢true e)
lane_is (lanes.one a) (lanes.one b) e = ap (λ id. lanes.one id) (id_is a b e)

-- what an earlier state of the lane covers, the later one does
before_less : (acts : List Act) (state earlier : LaneState) → state.lane ≡ earlier.lane → IsPrefix earlier.before state.before → is_releasable acts state ≡ true → is_releasable acts earlier ≡ true
before_less acts state earlier same prefix released =
    let parts = covered_front state.lane earlier.before prefix.0 (committed acts)
    in let whole = sym (ap (λ lines. list_all (λ seq. is_in seq (committed acts)) (map (λ (entry : Entry). entry.seq) (filter (λ entry. covers state.lane entry.content.id) (entries lines)))) prefix.1) ∙ released
    in subst (λ lane. list_all (λ seq. is_in seq (committed acts)) (map (λ (entry : Entry). entry.seq) (filter (λ entry. covers lane entry.content.id) (entries earlier.before))) ≡ true) same (and_parts _ _ (sym parts ∙ whole)).0

-- the first releasable state is the first of its lane
pub first_of_lane : (acts : List Act) (low high : List Line) (list : List LaneState) (state : LaneState) → Rising low high list → find (is_releasable acts) list ≡ Some state → of_lane state.lane list ≡ state ∷ of_lane state.lane (without_first (is_releasable acts) list)
first_of_lane acts low high [] state r e = absurd (grind (arith, e))
first_of_lane acts low high (first ∷ more) state r e = at (cases_Bool (is_releasable acts first)) (first_of_lane acts first.before high more state r.1)
  where
    apart : (is_same_lane state.lane first.lane ≡ true) ⊎ (is_same_lane state.lane first.lane ≡ false) → IsPrefix first.before state.before → is_releasable acts state ≡ true → is_releasable acts first ≡ false → of_lane state.lane more ≡ state ∷ of_lane state.lane (without_first (is_releasable acts) more) → of_lane state.lane (first ∷ more) ≡ state ∷ of_lane state.lane (without_first (is_releasable acts) (first ∷ more))
    apart (inl same) prefix released fails deeper = absurd (false≢true (sym fails ∙ before_less acts state first (lane_is state.lane first.lane same) prefix released))
    apart (inr other) prefix released fails deeper = rw (other, fails) (deeper ∙ rw other refl)

    at : (is_releasable acts first ≡ true) ⊎ (is_releasable acts first ≡ false) → (find (is_releasable acts) more ≡ Some state → of_lane state.lane more ≡ state ∷ of_lane state.lane (without_first (is_releasable acts) more)) → of_lane state.lane (first ∷ more) ≡ state ∷ of_lane state.lane (without_first (is_releasable acts) (first ∷ more))
    at (inl passes) deeper =
        let found = rw passes at e in
        let same : first ≡ state = cc in
        let own = lane_own state.lane in
        grind (arith, passes, same, own)
    at (inr fails) deeper =
        let found = rw fails at e in
        apart (cases_Bool (is_same_lane state.lane first.lane)) (found_above (is_releasable acts) first.before high more state r.1 found) (found_passes (is_releasable acts) more state found) fails (deeper found)

other_lanes : (test : LaneState → Bool) (lane : Lane) (list : List LaneState) (state : LaneState) → is_same_lane lane state.lane ≡ false → find test list ≡ Some state → of_lane lane list ≡ of_lane lane (without_first test list)
other_lanes test lane [] state other e = absurd (grind (arith, e))
other_lanes test lane (first ∷ more) state other e = at (cases_Bool (test first)) (other_lanes test lane more state other)
  where
    at : (test first ≡ true) ⊎ (test first ≡ false) → (find test more ≡ Some state → of_lane lane more ≡ of_lane lane (without_first test more)) → of_lane lane (first ∷ more) ≡ of_lane lane (without_first test (first ∷ more))
    at (inl passes) deeper =
        let found = rw passes at e in
        let same : first ≡ state = cc in
        grind (arith, passes, same, other)
    at (inr fails) deeper = let rest = deeper (rw fails at e) in grind (arith, fails, rest)

pub rising_less : (low high : List Line) (first : LaneState) (list : List LaneState) → IsPrefix low first.before → Rising first.before high list → Rising low high list
rising_less low high first [] prefix r = prefix_on low first.before high prefix r
rising_less low high first (next ∷ more) prefix r = (prefix_on low first.before next.before prefix r.0, r.1)

rising_without : (test : LaneState → Bool) (low high : List Line) (list : List LaneState) → Rising low high list → Rising low high (without_first test list)
rising_without test low high [] r = r
rising_without test low high (first ∷ more) r = at (test first) (rising_without test first.before high more r.1)
  where
    at : (b : Bool) → Rising first.before high (without_first test more) → Rising low high (cond b more (first ∷ without_first test more))
    at true deeper = rising_less low high first more r.0 r.1
    at false deeper = (r.0, deeper)

pub echo_taken : (acts : List Act) (state : LaneState) → taken (acts ++ Echoes state ∷ []) ≡ taken acts
echo_taken acts state = taken-more acts (Echoes state) ∙ append-nil (taken acts)

pub echo_done : (acts : List Act) (state : LaneState) → committed (acts ++ Echoes state ∷ []) ≡ committed acts
echo_done acts state = committed-more acts (Echoes state) ∙ append-nil (committed acts)

pub lane_release : (m : Machine) (state : LaneState) (lane : Lane) → IsGood m → find (is_releasable m.acts) m.waiting ≡ Some state → LaneStands (m.acts ++ Echoes state ∷ []) (without_first (is_releasable m.acts) m.waiting) lane
lane_release m state lane g e = at (cases_Bool (is_same_lane lane state.lane))
  where
    at : (is_same_lane lane state.lane ≡ true) ⊎ (is_same_lane lane state.lane ≡ false) → LaneStands (m.acts ++ Echoes state ∷ []) (without_first (is_releasable m.acts) m.waiting) lane
    at (inl own) =
        let is = lane_is lane state.lane own in
        let left = of_lane state.lane (without_first (is_releasable m.acts) m.waiting) in
        subst (λ it. LaneStands (m.acts ++ Echoes state ∷ []) (without_first (is_releasable m.acts) m.waiting) it) (sym is) (record {
          splits =
              ap (λ lines. of_lane state.lane (states lines)) (echo_taken m.acts state)
              ∙ ((g.lanes state.lane).splits
              ∙ (ap (λ list. echoed state.lane m.acts ++ list) (first_of_lane m.acts [] (taken m.acts) m.waiting state g.rising e)
              ∙ (sym (append_assoc (echoed state.lane m.acts) (state ∷ []) left)
              ∙ ap (λ gone. gone ++ left) (sym (echoed-more state.lane m.acts (Echoes state) ∙ ap (λ b. echoed state.lane m.acts ++ cond b (state ∷ []) []) (lane_own state.lane))))));
        })
    at (inr other) = record {
      splits =
          ap (λ lines. of_lane lane (states lines)) (echo_taken m.acts state)
          ∙ ((g.lanes lane).splits
          ∙ (ap (λ list. echoed lane m.acts ++ list) (other_lanes (is_releasable m.acts) lane m.waiting state other e)
          ∙ ap (λ gone. gone ++ of_lane lane (without_first (is_releasable m.acts) m.waiting)) (sym (echoed-more lane m.acts (Echoes state) ∙ (ap (λ b. echoed lane m.acts ++ cond b (state ∷ []) []) other ∙ append-nil (echoed lane m.acts))))));
    }

good_release : (m : Machine) (found : Option LaneState) → find (is_releasable m.acts) m.waiting ≡ found → IsGood m → IsGood (releases m found)
good_release m None is g = g
good_release m (Some state) is g = record {
  entries_are = g.entries_are ∙ ap entries (sym (echo_taken m.acts state));
  marked = subst (λ done. AllByRecursion (IsMarked done) m.placed) (sym (echo_done m.acts state)) g.marked;
  below = subst (λ done. AllByRecursion (λ seq. seq < length m.placed) done) (sym (echo_done m.acts state)) g.below;
  lanes = λ lane. lane_release m state lane g is;
  rising = subst (λ lines. Rising [] lines (without_first (is_releasable m.acts) m.waiting)) (sym (echo_taken m.acts state)) (rising_without (is_releasable m.acts) [] (taken m.acts) m.waiting g.rising);
}

-- Every step

queued_is_not_done : (place : Place) → is_queued place ≡ true → is_done place ≡ false
queued_is_not_done Queued e = refl
queued_is_not_done Sealed e = refl
queued_is_not_done (Out batch) e = refl
queued_is_not_done Done e = absurd (false≢true e)

sealed_is_not_done : (place : Place) → is_sealed place ≡ true → is_done place ≡ false
sealed_is_not_done Queued e = refl
sealed_is_not_done Sealed e = refl
sealed_is_not_done (Out batch) e = refl
sealed_is_not_done Done e = absurd (false≢true e)

pub out_is_not_done : (batch : ℕ) (place : Place) → is_out batch place ≡ true → is_done place ≡ false
out_is_not_done batch Queued e = refl
out_is_not_done batch Sealed e = refl
out_is_not_done batch (Out own) e = refl
out_is_not_done batch Done e = absurd (false≢true e)

good_hand_out : (m : Machine) (id : StreamId) (count batch : ℕ) (others : List Placed) → IsGood m → IsGood (hands_out m id count batch others)
good_hand_out m id count batch (other ∷ others) g = g
good_hand_out m id count batch [] g = good_move_first m (is_sealed_of id) (Out batch) count (λ placed e. sealed_is_not_done placed.place (and_parts _ _ e).0) g

pub good_step : (streams : List ConfStream) (m : Machine) (step : Step) → IsGood m → IsGood (happens streams m step)
good_step streams m (Accept line) g = good_accept m line g
good_step streams m End g = good_quiet m (m.acts ++ Ends ∷ []) (end_quiet m.acts) g
good_step streams m (Seal id count) g = good_move_first m (is_queued_of id) Sealed count (λ placed e. queued_is_not_done placed.place (and_parts _ _ e).0) g
good_step streams m (HandOut id count batch) g = good_hand_out m id count batch _ g
good_step streams m (Commit number id batch rows) g = good_commit_at m number id batch rows _ g
good_step streams m (TakeBack id batch) g = good_move m (is_in_batch id batch) Sealed (λ placed e. out_is_not_done batch placed.place (and_parts _ _ e).0) g
good_step streams m Release g = good_release m _ refl g
good_step streams m Turn g = good_quiet m (m.acts ++ Turns ∷ []) (turn_quiet m.acts) g

pub good_run : (streams : List ConfStream) (steps : List Step) (m : Machine) → IsGood m → IsGood (run streams steps m)
good_run streams [] m g = g
good_run streams (step ∷ steps) m g = good_run streams steps (happens streams m step) (good_step streams m step g)

pub good_start : IsGood start
good_start = record { entries_are = refl; marked = tt; below = tt; lanes = λ lane. record { splits = refl }; rising = ([], refl) }
