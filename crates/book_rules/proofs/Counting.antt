-- How many records are committed: those that have their places still are not.
use Rattle.std.proofs.Common.{arith, ◌≡◌, ◌⊎◌, inl, inr, ℕ, ◌+◌, ◌-◌, List, [], ◌∷◌, ◌++◌, map, length, Option, None, Some, Bool, true, false, cond, refl, sym, ◌∙◌, ap, length-append}
use Rattle.std.specs.Prelude.{filter, find, not, ◌&&◌, nat_lt, slice_get}
use Rattle.std.proofs.lemmas.Bool.{and_parts, cases_Bool, false≢true}
use Rattle.basics.specs.declared.stream.StreamId.{StreamId}
use Rattle.catalog.specs.declared.stream.ConfStream.{ConfStream}
use Rattle.outside.specs.Tables.{same_id}
use Rattle.outside.specs.declared.event.RawRow.{RawRow}
use Rattle.load_rules.specs.Acts.{Takes, Commits, Ends, Turns, committed}
use Rattle.load_rules.specs.Machine.{Machine, Place, Queued, Sealed, Out, Done, Placed, Step, Accept, End, Seal, HandOut, Commit, TakeBack, Release, Turn, start, run, happens, commits, commits_at, commits_batch, releases, hands_out, entry_of, have_sequences, in_batch, is_done, is_in_batch, is_of, is_out, is_queued, is_queued_of, is_releasable, is_sealed, is_sealed_of, move, move_first, put_in}
use Rattle.load_rules.specs.Lines.{Line}
use Rattle.load_rules.specs.Machine as machine
use Rattle.load_rules.specs.Taken.{Entry, LaneState, entries_from}
use Rattle.load_rules.proofs.Machines.{commit_done, committed-more, echo_done, length-move, out_is_not_done, seqs, sequences_are}
use Rattle.std.proofs.lemmas.List.{append-nil}
use Rattle.book_rules.specs.Holds.{still}
use Rattle.book_rules.proofs.Lists.{length_of_map}
use Rattle.book_rules.proofs.Moves.{length_first_placed, still_more}

-- Moves that commit nothing

still_one : (first : Placed) (more others : List Placed) → length (still more) ≡ length (still others) → length (still (first ∷ more)) ≡ length (still (first ∷ others))
still_one first more others same = at (is_done first.place)
  where
    at : (b : Bool) → length (cond (not b) (first ∷ still more) (still more)) ≡ length (cond (not b) (first ∷ still others) (still others))
    at true = same
    at false = grind (arith, same)

still_put : (first : Placed) (place : Place) (more others : List Placed) → is_done place ≡ false → is_done first.place ≡ false → length (still more) ≡ length (still others) → length (still (put_in place first ∷ more)) ≡ length (still (first ∷ others))
still_put first place more others to from same = rw (to, from) (grind (arith, same))

still_moved : (t : Placed → Bool) (place : Place) (placed : List Placed) → is_done place ≡ false → ((one : Placed) → t one ≡ true → is_done one.place ≡ false) → length (still (move t place placed)) ≡ length (still placed)
still_moved t place [] to from = refl
still_moved t place (first ∷ more) to from = at (cases_Bool (t first)) (still_moved t place more to from)
  where
    at : (t first ≡ true) ⊎ (t first ≡ false) → length (still (move t place more)) ≡ length (still more) → length (still (move t place (first ∷ more))) ≡ length (still (first ∷ more))
    at (inl passes) rest = rw passes (still_put first place (move t place more) more to (from first passes) rest)
    at (inr fails) rest = rw fails (still_one first (move t place more) more rest)

still_first : (t : Placed → Bool) (place : Place) (n : ℕ) (placed : List Placed) → is_done place ≡ false → ((one : Placed) → t one ≡ true → is_done one.place ≡ false) → length (still (move_first t place n placed)) ≡ length (still placed)
still_first t place n [] to from = refl
still_first t place n (first ∷ more) to from = at (cases_Bool (t first && nat_lt 0 n)) (still_first t place n more to from) (still_first t place (n - 1) more to from)
  where
    at : ((t first && nat_lt 0 n) ≡ true) ⊎ ((t first && nat_lt 0 n) ≡ false) → length (still (move_first t place n more)) ≡ length (still more) → length (still (move_first t place (n - 1) more)) ≡ length (still more) → length (still (move_first t place n (first ∷ more))) ≡ length (still (first ∷ more))
    at (inl passes) same less = rw passes (still_put first place (move_first t place (n - 1) more) more to (from first (and_parts (t first) (nat_lt 0 n) passes).0) less)
    at (inr fails) same less = rw fails (still_one first (move_first t place n more) more same)

-- a batch that is done

done_fewer : (t : Placed → Bool) (placed : List Placed) → ((one : Placed) → t one ≡ true → is_done one.place ≡ false) → length (still (move t Done placed)) + length (filter t placed) ≡ length (still placed)
done_fewer t [] from = refl
done_fewer t (first ∷ more) from = at (cases_Bool (t first)) (done_fewer t more from)
  where
    stays : (b : Bool) → length (still (move t Done more)) + length (filter t more) ≡ length (still more) → length (cond (not b) (first ∷ still (move t Done more)) (still (move t Done more))) + length (filter t more) ≡ length (cond (not b) (first ∷ still more) (still more))
    stays true rest = rest
    stays false rest = omega (arith, rest)

    at : (t first ≡ true) ⊎ (t first ≡ false) → length (still (move t Done more)) + length (filter t more) ≡ length (still more) → length (still (move t Done (first ∷ more))) + length (filter t (first ∷ more)) ≡ length (still (first ∷ more))
    at (inl passes) rest = rw (passes, from first passes) (omega (arith, rest))
    at (inr fails) rest = rw fails (stays (is_done first.place) rest)

-- Each record has its place still, or is committed

pub record Counts (m : Machine) : Type 0 where
  pub counts : length (committed m.acts) + length (still m.placed) ≡ length m.placed

queued_open : (place : Place) → is_queued place ≡ true → is_done place ≡ false
queued_open Queued e = refl
queued_open Sealed e = refl
queued_open (Out batch) e = refl
queued_open Done e = absurd (false≢true e)

sealed_open : (place : Place) → is_sealed place ≡ true → is_done place ≡ false
sealed_open Queued e = refl
sealed_open Sealed e = refl
sealed_open (Out batch) e = refl
sealed_open Done e = absurd (false≢true e)

counts_places : (m : Machine) (placed : List Placed) → length (still placed) ≡ length (still m.placed) → length placed ≡ length m.placed → Counts m → Counts (record m { placed = placed })
counts_places m placed same long c = record { counts = let it = c.counts in omega (arith, it, same, long) }

counts_accept : (m : Machine) (line : Line) → Counts m → Counts (machine.accepts m line)
counts_accept m line c = record {
  counts =
      let list = entries_from (length m.placed) (line ∷ []) in
      let before = c.counts in
      let done = ap (λ (it : List ℕ). length it) (committed-more m.acts (Takes line) ∙ append-nil (committed m.acts)) in
      let more = ap (λ (it : List Placed). length it) (still_more m.placed list) in
      let long = length-append (still m.placed) (map machine.queue list) in
      let all = length-append m.placed (map machine.queue list) in
      omega (arith, before, done, more, long, all);
}

counts_commit : (m : Machine) (number : ℕ) (id : StreamId) (batch : ℕ) (rows : List RawRow) (list : List Entry) → in_batch id batch m.placed ≡ list → have_sequences rows list ≡ true → Counts m → Counts (commits m number id batch rows)
counts_commit m number id batch rows list is have c = record {
  counts =
      let before = c.counts in
      let done : length (committed (m.acts ++ Commits number rows ∷ [])) ≡ length (committed m.acts) + length (map (λ (row : RawRow). row.seq) rows) = ap (λ (it : List ℕ). length it) (commit_done m.acts number rows) ∙ length-append (committed m.acts) (map (λ (row : RawRow). row.seq) rows) in
      let same : length (map (λ (row : RawRow). row.seq) rows) ≡ length (seqs list) = ap (λ (it : List ℕ). length it) (sequences_are rows list have) in
      let long : length (seqs list) ≡ length list = length_of_map (λ (entry : Entry). entry.seq) list in
      let picked : length list ≡ length (filter (is_in_batch id batch) m.placed) = ap (λ (it : List Entry). length it) (sym is) ∙ length_of_map entry_of (filter (is_in_batch id batch) m.placed) in
      let fewer = done_fewer (is_in_batch id batch) m.placed (λ one e. out_is_not_done batch one.place (and_parts (is_out batch one.place) (is_of id one) e).0) in
      let all = length-move (is_in_batch id batch) Done m.placed in
      omega (arith, before, done, same, long, picked, fewer, all);
}

counts_batch : (m : Machine) (number : ℕ) (id : StreamId) (batch : ℕ) (rows : List RawRow) (list : List Entry) → in_batch id batch m.placed ≡ list → Counts m → Counts (commits_batch m number id batch rows list)
counts_batch m number id batch rows [] is c = c
counts_batch m number id batch rows (entry ∷ more) is c = at (cases_Bool (have_sequences rows (entry ∷ more)))
  where
    at : (have_sequences rows (entry ∷ more) ≡ true) ⊎ (have_sequences rows (entry ∷ more) ≡ false) → Counts (cond (have_sequences rows (entry ∷ more)) (commits m number id batch rows) m)
    at (inl have) = rw have (counts_commit m number id batch rows (entry ∷ more) is have c)
    at (inr differ) = rw differ c

counts_at : (m : Machine) (number : ℕ) (id : StreamId) (batch : ℕ) (rows : List RawRow) (found : Option ConfStream) → Counts m → Counts (commits_at m number id batch rows found)
counts_at m number id batch rows None c = c
counts_at m number id batch rows (Some stream) c = at (same_id stream.id id)
  where
    at : (b : Bool) → Counts (cond b (commits_batch m number id batch rows (in_batch id batch m.placed)) m)
    at true = counts_batch m number id batch rows (in_batch id batch m.placed) refl c
    at false = c

counts_out : (m : Machine) (id : StreamId) (count batch : ℕ) (others : List Placed) → Counts m → Counts (hands_out m id count batch others)
counts_out m id count batch [] c = counts_places m (move_first (is_sealed_of id) (Out batch) count m.placed) (still_first (is_sealed_of id) (Out batch) count m.placed refl (λ one e. sealed_open one.place (and_parts (is_sealed one.place) (is_of id one) e).0)) (length_first_placed (is_sealed_of id) (Out batch) count m.placed) c
counts_out m id count batch (other ∷ others) c = c

counts_release : (m : Machine) (found : Option LaneState) → Counts m → Counts (releases m found)
counts_release m None c = c
counts_release m (Some state) c = record { counts = let it = c.counts in let done = ap (λ (list : List ℕ). length list) (echo_done m.acts state) in omega (arith, it, done) }

counts_step : (streams : List ConfStream) (m : Machine) (step : Step) → Counts m → Counts (happens streams m step)
counts_step streams m (Accept line) c = counts_accept m line c
counts_step streams m End c = record { counts = let it = c.counts in let done = ap (λ (list : List ℕ). length list) (committed-more m.acts Ends ∙ append-nil (committed m.acts)) in omega (arith, it, done) }
counts_step streams m (Seal id count) c = counts_places m (move_first (is_queued_of id) Sealed count m.placed) (still_first (is_queued_of id) Sealed count m.placed refl (λ one e. queued_open one.place (and_parts (is_queued one.place) (is_of id one) e).0)) (length_first_placed (is_queued_of id) Sealed count m.placed) c
counts_step streams m (HandOut id count batch) c = counts_out m id count batch (filter (λ (one : Placed). is_out batch one.place) m.placed) c
counts_step streams m (Commit number id batch rows) c = counts_at m number id batch rows (slice_get streams number) c
counts_step streams m (TakeBack id batch) c = counts_places m (move (is_in_batch id batch) Sealed m.placed) (still_moved (is_in_batch id batch) Sealed m.placed refl (λ one e. out_is_not_done batch one.place (and_parts (is_out batch one.place) (is_of id one) e).0)) (length-move (is_in_batch id batch) Sealed m.placed) c
counts_step streams m Release c = counts_release m (find (is_releasable m.acts) m.waiting) c
counts_step streams m Turn c = record { counts = let it = c.counts in let done = ap (λ (list : List ℕ). length list) (committed-more m.acts Turns ∙ append-nil (committed m.acts)) in omega (arith, it, done) }

pub counts_run : (streams : List ConfStream) (steps : List Step) (m : Machine) → Counts m → Counts (run streams steps m)
counts_run streams [] m c = c
counts_run streams (step ∷ steps) m c = counts_run streams steps (happens streams m step) (counts_step streams m step c)

pub counts_start : Counts start
counts_start = record { counts = refl }
