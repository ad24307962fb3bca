-- Sealed records of a stream stand in front of unsealed ones.
use Rattle.std.proofs.Common.{arith, ◌≡◌, ◌⊎◌, inl, inr, ℕ, ◌-◌, zero, suc, ltb, List, [], ◌∷◌, ◌++◌, map, length, Option, None, Some, Bool, true, false, cond, refl, sym, ◌∙◌, ap, subst}
use Rattle.std.specs.Prelude.{filter, ◌&&◌, find, slice_get}
use Rattle.std.specs.List.{AllByRecursion}
use Rattle.std.proofs.lemmas.List.{map-append}
use Rattle.std.proofs.lemmas.List.Elements.{filter-append}
use Rattle.std.proofs.lemmas.Bool.{cases_Bool, false≢true, and_parts, and_left, and_right, and_from, lt-ltb}
use Rattle.basics.specs.declared.stream.StreamId.{StreamId}
use Rattle.outside.specs.Tables.{same_id}
use Rattle.outside.proofs.TableLaws.{id_own, id_is}
use Rattle.catalog.specs.declared.stream.ConfStream.{ConfStream}
use Rattle.load_rules.specs.Taken.{Entry, entries_from, LaneState}
use Rattle.load_rules.specs.Machine.{Place, Queued, Sealed, Out, Done, Placed, Machine, Step, Accept, End, Seal, HandOut, Commit, TakeBack, Release, Turn, start, queue, is_out, is_sealed, is_queued, is_of, move, move_first, is_in_batch, in_batch, is_queued_of, is_sealed_of, is_releasable, have_sequences, commits, commits_batch, commits_at, releases, hands_out, happens, run, is_unsealed, flags, IsTail}
use Rattle.load_rules.specs.Laws.{SealedInFront}

tail_append : (xs ys : List Bool) → IsTail xs → AllByRecursion (λ x. x ≡ true) ys → IsTail (xs ++ ys)
tail_append [] [] tail each = tt
tail_append [] (y ∷ ys) tail each = ((λ _. each.1), tail_append [] ys tt each.1)
tail_append (x ∷ xs) ys tail each = ((λ is. both xs (tail.0 is)), tail_append xs ys tail.1 each)
  where
    both : (xs : List Bool) → AllByRecursion (λ x. x ≡ true) xs → AllByRecursion (λ x. x ≡ true) (xs ++ ys)
    both [] first = each
    both (z ∷ zs) first = (first.0, both zs first.1)

flags_cons : (id : StreamId) (first : Placed) (xs ys : List Placed) → flags id xs ≡ flags id ys → flags id (first ∷ xs) ≡ flags id (first ∷ ys)
flags_cons id first xs ys same = at (is_of id first)
  where
    at : (b : Bool) → map (λ x. is_unsealed x.place) (cond b (first ∷ filter (is_of id) xs) (filter (is_of id) xs)) ≡ map (λ x. is_unsealed x.place) (cond b (first ∷ filter (is_of id) ys) (filter (is_of id) ys))
    at true = ap (λ (bs : List Bool). is_unsealed first.place ∷ bs) same
    at false = same

-- places that are not unsealed become such
flags_kept : (test : Placed → Bool) (place : Place) (list : List Placed) (id : StreamId) → is_unsealed place ≡ false → ((it : Placed) → test it ≡ true → is_unsealed it.place ≡ false) → flags id (move test place list) ≡ flags id list
flags_kept test place [] id sealed apart = refl
flags_kept test place (first ∷ more) id sealed apart = at (cases_Bool (test first)) (cases_Bool (is_of id first)) (flags_kept test place more id sealed apart)
  where
    at : (test first ≡ true) ⊎ (test first ≡ false) → (is_of id first ≡ true) ⊎ (is_of id first ≡ false) → flags id (move test place more) ≡ flags id more → flags id (move test place (first ∷ more)) ≡ flags id (first ∷ more)
    at (inl passes) (inl own) rest = rw (passes, own, sealed, apart first passes, rest) refl
    at (inl passes) (inr other) rest = rw (passes, other, rest) refl
    at (inr fails) own rest = rw fails (flags_cons id first (move test place more) more rest)

flags_first : (test : Placed → Bool) (place : Place) (n : ℕ) (list : List Placed) (id : StreamId) → ((it : Placed) → test it ≡ true → (is_of id it ≡ false) ⊎ ((is_unsealed place ≡ false) × (is_unsealed it.place ≡ false))) → flags id (move_first test place n list) ≡ flags id list
flags_first test place n [] id apart = refl
flags_first test place n (first ∷ more) id apart = at (cases_Bool (test first && ltb 0 n)) (cases_Bool (is_of id first)) (flags_first test place (n - 1) more id apart) (flags_first test place n more id apart)
  where
    at : ((test first && ltb 0 n) ≡ true) ⊎ ((test first && ltb 0 n) ≡ false) → (is_of id first ≡ true) ⊎ (is_of id first ≡ false) → flags id (move_first test place (n - 1) more) ≡ flags id more → flags id (move_first test place n more) ≡ flags id more → flags id (move_first test place n (first ∷ more)) ≡ flags id (first ∷ more)
    at (inl passes) (inl own) less same = on (apart first (and_parts (test first) (ltb 0 n) passes).0)
      where
        on : (is_of id first ≡ false) ⊎ ((is_unsealed place ≡ false) × (is_unsealed first.place ≡ false)) → flags id (move_first test place n (first ∷ more)) ≡ flags id (first ∷ more)
        on (inl other) = absurd (false≢true (sym other ∙ own))
        on (inr both) = rw (passes, own, both.0, both.1, less) refl
    at (inl passes) (inr other) less same = rw (passes, other, less) refl
    at (inr fails) own less same = rw fails (flags_cons id first (move_first test place n more) more same)

none_first : (test : Placed → Bool) (place : Place) (list : List Placed) → move_first test place 0 list ≡ list
none_first test place [] = refl
none_first test place (first ∷ more) = rw (and_right (test first) (ltb 0 0) refl) (ap (λ (xs : List Placed). first ∷ xs) (none_first test place more))

out_sealed : (batch : ℕ) (place : Place) → is_out batch place ≡ true → is_unsealed place ≡ false
out_sealed batch Queued e = absurd (false≢true e)
out_sealed batch Sealed e = refl
out_sealed batch (Out own) e = refl
out_sealed batch Done e = refl

sealed_sealed : (place : Place) → is_sealed place ≡ true → is_unsealed place ≡ false
sealed_sealed Queued e = absurd (false≢true e)
sealed_sealed Sealed e = refl
sealed_sealed (Out own) e = refl
sealed_sealed Done e = refl

unqueued_sealed : (place : Place) → is_queued place ≡ false → is_unsealed place ≡ false
unqueued_sealed Queued e = absurd (false≢true (sym e))
unqueued_sealed Sealed e = refl
unqueued_sealed (Out own) e = refl
unqueued_sealed Done e = refl

seal_tail : (id : StreamId) (n : ℕ) (list : List Placed) → IsTail (flags id list) → IsTail (flags id (move_first (is_queued_of id) Sealed n list))
seal_tail id zero list tail = rw none_first tail
seal_tail id (suc n) [] tail = tt
seal_tail id (suc n) (first ∷ more) tail = at (cases_Bool (is_of id first)) (cases_Bool (is_queued first.place)) (seal_tail id n more) (seal_tail id (suc n) more)
  where
    at : (is_of id first ≡ true) ⊎ (is_of id first ≡ false) → (is_queued first.place ≡ true) ⊎ (is_queued first.place ≡ false) → (IsTail (flags id more) → IsTail (flags id (move_first (is_queued_of id) Sealed n more))) → (IsTail (flags id more) → IsTail (flags id (move_first (is_queued_of id) Sealed (suc n) more))) → IsTail (flags id (move_first (is_queued_of id) Sealed (suc n) (first ∷ more)))
    at (inl own) (inl queued) less same =
        let here = rw own at tail in
        let count : suc n - 1 ≡ n = omega arith in
        rw (and_from (is_queued_of id first) (ltb 0 (suc n)) (and_from (is_queued first.place) (is_of id first) queued own) (lt-ltb 0 (suc n) (omega arith)), own, count) ((λ e. absurd (false≢true e)), less here.1)
    at (inl own) (inr kept) less same =
        let here = rw own at tail in
        rw (and_left (is_queued_of id first) (ltb 0 (suc n)) (and_left (is_queued first.place) (is_of id first) kept), own, unqueued_sealed first.place kept) ((λ e. absurd (false≢true e)), same here.1)
    at (inr other) queued less same =
        let here = rw other at tail in
        rw (and_left (is_queued_of id first) (ltb 0 (suc n)) (and_right (is_queued first.place) (is_of id first) other), other) (same here)

tails_accept : (list : List Placed) (more : List Entry) (id : StreamId) → IsTail (flags id list) → IsTail (flags id (list ++ map queue more))
tails_accept list more id tail = rw (filter-append, map-append) (tail_append (flags id list) (flags id (map queue more)) tail (unsealed more))
  where
    unsealed : (more : List Entry) → AllByRecursion (λ x. x ≡ true) (flags id (map queue more))
    unsealed [] = tt
    unsealed (entry ∷ more) = at (same_id id entry.content.id) (unsealed more)
      where
        at : (b : Bool) → AllByRecursion (λ x. x ≡ true) (flags id (map queue more)) → AllByRecursion (λ x. x ≡ true) (map (λ x. is_unsealed x.place) (cond b (queue entry ∷ filter (is_of id) (map queue more)) (filter (is_of id) (map queue more))))
        at true rest = (refl, rest)
        at false rest = rest

-- a record of one stream is of no other
apart_of : (own id : StreamId) (it : Placed) → same_id own id ≡ false → is_of own it ≡ true → is_of id it ≡ false
apart_of own id it other is = at (cases_Bool (is_of id it))
  where
    at : (is_of id it ≡ true) ⊎ (is_of id it ≡ false) → is_of id it ≡ false
    at (inl both) = absurd (false≢true (sym other ∙ (ap (same_id own) (id_is id it.entry.content.id both ∙ sym (id_is own it.entry.content.id is)) ∙ id_own own)))
    at (inr apart) = apart

tails_step : (streams : List ConfStream) (m : Machine) (step : Step) (id : StreamId) → ((s : StreamId) → IsTail (flags s m.placed)) → IsTail (flags id (happens streams m step).placed)
tails_step streams m (Accept line) id tails = tails_accept m.placed (entries_from (length m.placed) (line ∷ [])) id (tails id)
tails_step streams m End id tails = tails id
tails_step streams m (Seal own count) id tails = at (cases_Bool (same_id own id))
  where
    at : (same_id own id ≡ true) ⊎ (same_id own id ≡ false) → IsTail (flags id (move_first (is_queued_of own) Sealed count m.placed))
    at (inl same) = subst (λ it. IsTail (flags id (move_first (is_queued_of it) Sealed count m.placed))) (sym (id_is own id same)) (seal_tail id count m.placed (tails id))
    at (inr other) = subst IsTail (sym (flags_first (is_queued_of own) Sealed count m.placed id (λ it e. inl (apart_of own id it other (and_parts (is_queued it.place) (is_of own it) e).1)))) (tails id)
tails_step streams m (HandOut own count batch) id tails = at (filter (λ placed. is_out batch placed.place) m.placed)
  where
    at : (others : List Placed) → IsTail (flags id (hands_out m own count batch others).placed)
    at (other ∷ others) = tails id
    at [] = subst IsTail (sym (flags_first (is_sealed_of own) (Out batch) count m.placed id (λ it e. inr (refl, sealed_sealed it.place (and_parts (is_sealed it.place) (is_of own it) e).0)))) (tails id)
tails_step streams m (Commit number own batch rows) id tails = at (slice_get streams number)
  where
    kept : (b : Bool) → IsTail (flags id (cond b (commits m number own batch rows) m).placed)
    kept true = subst IsTail (sym (flags_kept (is_in_batch own batch) Done m.placed id refl (λ it e. out_sealed batch it.place (and_parts (is_out batch it.place) (is_of own it) e).0))) (tails id)
    kept false = tails id

    these : (list : List Entry) → IsTail (flags id (commits_batch m number own batch rows list).placed)
    these [] = tails id
    these (entry ∷ more) = kept (have_sequences rows (entry ∷ more))

    of_stream : (b : Bool) → IsTail (flags id (cond b (commits_batch m number own batch rows (in_batch own batch m.placed)) m).placed)
    of_stream true = these (in_batch own batch m.placed)
    of_stream false = tails id

    at : (found : Option ConfStream) → IsTail (flags id (commits_at m number own batch rows found).placed)
    at None = tails id
    at (Some stream) = of_stream (same_id stream.id own)
tails_step streams m (TakeBack own batch) id tails = subst IsTail (sym (flags_kept (is_in_batch own batch) Sealed m.placed id refl (λ it e. out_sealed batch it.place (and_parts (is_out batch it.place) (is_of own it) e).0))) (tails id)
tails_step streams m Release id tails = at (find (is_releasable m.acts) m.waiting)
  where
    at : (found : Option LaneState) → IsTail (flags id (releases m found).placed)
    at None = tails id
    at (Some state) = tails id
tails_step streams m Turn id tails = tails id

tails_run : (streams : List ConfStream) (steps : List Step) (m : Machine) (id : StreamId) → ((s : StreamId) → IsTail (flags s m.placed)) → IsTail (flags id (run streams steps m).placed)
tails_run streams [] m id tails = tails id
tails_run streams (step ∷ steps) m id tails = tails_run streams steps (happens streams m step) id (λ s. tails_step streams m step s tails)

pub sealed_in_front : SealedInFront
sealed_in_front streams steps id = tails_run streams steps start id (λ s. tt)
