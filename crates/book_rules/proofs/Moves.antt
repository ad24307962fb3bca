-- Places: what a move in the queue is in the machine.
use Rattle.std.proofs.Common.{arith, ◌≡◌, ◌⊎◌, inl, inr, ℕ, ◌-◌, ◌≤◌, eqb, List, [], ◌∷◌, ◌++◌, map, length, Some, Bool, true, false, cond, refl, sym, ◌∙◌, ap}
use Rattle.std.specs.Prelude.{filter, not, ◌&&◌, ◌||◌, slice_get, nat_lt}
use Rattle.std.specs.List.{AllByRecursion}
use Rattle.std.proofs.lemmas.List.Elements.{filter-append}
use Rattle.std.proofs.lemmas.Bool.{cases_Bool, cases_eq, eq-eqb, ne_eqb, false_from_ne_true, lt-ltb}
use Rattle.basics.specs.declared.stream.StreamId.{StreamId}
use Rattle.outside.specs.Tables.{same_id}
use Rattle.outside.proofs.TableLaws.{id_own, id_is}
use Rattle.stream_index.specs.Distinct.{AreDistinct}
use Rattle.book_queue.specs.Content.{Held}
use Rattle.book_queue.specs.Content as queue
use Rattle.load_rules.specs.Taken.{Entry}
use Rattle.load_rules.specs.Machine.{queue as queue_of, Place, Done, Placed, is_out, is_sealed, is_queued, is_done, is_of, is_queued_of, is_sealed_of, is_in_batch, put_in, move, move_first}
use Rattle.book_rules.specs.Holds.{IsHeld, AreHeld, place_of, still, accepted_of}
use Rattle.book_rules.proofs.Lists.{some_is}

-- Places

pub place_open : (place : queue.Place) → is_done (place_of place) ≡ false
place_open queue.Queued = refl
place_open queue.Sealed = refl
place_open (queue.Out batch) = refl

pub place_queued : (place : queue.Place) → is_queued (place_of place) ≡ queue.is_queued place
place_queued queue.Queued = refl
place_queued queue.Sealed = refl
place_queued (queue.Out batch) = refl

pub place_sealed : (place : queue.Place) → is_sealed (place_of place) ≡ queue.is_sealed place
place_sealed queue.Queued = refl
place_sealed queue.Sealed = refl
place_sealed (queue.Out batch) = refl

pub place_out : (batch : ℕ) (place : queue.Place) → is_out batch (place_of place) ≡ queue.is_out batch place
place_out batch queue.Queued = refl
place_out batch queue.Sealed = refl
place_out batch (queue.Out own) = refl

pub held_queued : (ids : List StreamId) (placed : Placed) (held : Held) → IsHeld ids placed held → is_queued placed.place ≡ queue.is_queued held.place
held_queued ids placed held is = ap is_queued (sym is.place) ∙ place_queued held.place

pub held_sealed : (ids : List StreamId) (placed : Placed) (held : Held) → IsHeld ids placed held → is_sealed placed.place ≡ queue.is_sealed held.place
held_sealed ids placed held is = ap is_sealed (sym is.place) ∙ place_sealed held.place

pub held_out : (batch : ℕ) (ids : List StreamId) (placed : Placed) (held : Held) → IsHeld ids placed held → is_out batch placed.place ≡ queue.is_out batch held.place
held_out batch ids placed held is = ap (is_out batch) (sym is.place) ∙ place_out batch held.place

-- a number names one stream
pub number_same : (ids : List StreamId) (a b : ℕ) (x y : StreamId) → AreDistinct ids → slice_get ids a ≡ Some x → slice_get ids b ≡ Some y → same_id y x ≡ eqb a b
number_same ids a b x y distinct first second = at (cases_eq a b)
  where
    at : (a ≡ b) ⊎ (a ≡ b → ⊥) → same_id y x ≡ eqb a b
    at (inl same) =
        let is : y ≡ x = some_is y x (sym second ∙ (ap (slice_get ids) (sym same) ∙ first)) in
        rw (eq-eqb a b same) (ap (λ (id : StreamId). same_id id x) is ∙ id_own x)
    at (inr apart) = rw (ne_eqb a b apart) (false_from_ne_true (same_id y x) (λ e. apart (distinct a b x first (second ∙ ap (λ (id : StreamId). Some id) (id_is y x e)))))

pub held_of : (ids : List StreamId) (stream : ℕ) (id : StreamId) (placed : Placed) (held : Held) → AreDistinct ids → slice_get ids stream ≡ Some id → IsHeld ids placed held → is_of id placed ≡ eqb held.stream stream
held_of ids stream id placed held distinct named is = number_same ids held.stream stream placed.entry.content.id id distinct is.named named

pub held_queued_of : (ids : List StreamId) (stream : ℕ) (id : StreamId) (placed : Placed) (held : Held) → AreDistinct ids → slice_get ids stream ≡ Some id → IsHeld ids placed held → is_queued_of id placed ≡ queue.is_queued_of stream held
held_queued_of ids stream id placed held distinct named is = rw (held_queued ids placed held is, held_of ids stream id placed held distinct named is) refl

pub held_sealed_of : (ids : List StreamId) (stream : ℕ) (id : StreamId) (placed : Placed) (held : Held) → AreDistinct ids → slice_get ids stream ≡ Some id → IsHeld ids placed held → is_sealed_of id placed ≡ queue.is_sealed_of stream held
held_sealed_of ids stream id placed held distinct named is = rw (held_sealed ids placed held is, held_of ids stream id placed held distinct named is) refl

pub held_in_batch : (ids : List StreamId) (batch stream : ℕ) (id : StreamId) (placed : Placed) (held : Held) → AreDistinct ids → slice_get ids stream ≡ Some id → IsHeld ids placed held → is_in_batch id batch placed ≡ (queue.is_out batch held.place && eqb held.stream stream)
held_in_batch ids batch stream id placed held distinct named is = rw (held_out batch ids placed held is, held_of ids stream id placed held distinct named is) refl

-- Those that are held

pub still_open : (first : Placed) (more : List Placed) → is_done first.place ≡ false → still (first ∷ more) ≡ first ∷ still more
still_open first more stays = rw stays refl

pub still_done : (first : Placed) (more : List Placed) → is_done first.place ≡ true → still (first ∷ more) ≡ still more
still_done first more done = rw done refl

pub held_length : (ids : List StreamId) (placed : List Placed) (held : List Held) → AreHeld ids placed held → length placed ≡ length held
held_length ids [] [] are = refl
held_length ids [] (one ∷ others) are = absurd are
held_length ids (first ∷ more) [] are = absurd are
held_length ids (first ∷ more) (one ∷ others) are = grind (arith, held_length ids more others are.1)

pub held_push : (ids : List StreamId) (placed : List Placed) (held : List Held) (last : Placed) (one : Held) → AreHeld ids placed held → IsHeld ids last one → AreHeld ids (placed ++ last ∷ []) (held ++ one ∷ [])
held_push ids [] [] last one are is = (is, tt)
held_push ids [] (other ∷ others) last one are is = absurd are
held_push ids (first ∷ more) [] last one are is = absurd are
held_push ids (first ∷ more) (other ∷ others) last one are is = (are.0, held_push ids more others last one are.1 is)

pub held_put : (ids : List StreamId) (own : queue.Place) (placed : Placed) (held : Held) → IsHeld ids placed held → IsHeld ids (put_in (place_of own) placed) (queue.put_in own held)
held_put ids own placed held is = record { seq = is.seq; line = is.line; named = is.named; place = refl }

-- Moves that are one in both

module _ (ids : List StreamId) (t : Placed → Bool) (u : Held → Bool) (own : queue.Place) (none : (one : Placed) → is_done one.place ≡ true → t one ≡ false) (alike : (placed : Placed) (held : Held) → IsHeld ids placed held → t placed ≡ u held) where
  moved_held : (first : Placed) (more : List Placed) (held : List Held) → is_done first.place ≡ false → AreHeld ids (first ∷ still more) held → ((rest : List Held) → AreHeld ids (still more) rest → AreHeld ids (still (move t (place_of own) more)) (queue.move u own rest)) → AreHeld ids (still (move t (place_of own) (first ∷ more))) (queue.move u own held)
  moved_held first more [] stays are deeper = absurd are
  moved_held first more (one ∷ others) stays are deeper = at (cases_Bool (u one))
    where
      at : (u one ≡ true) ⊎ (u one ≡ false) → AreHeld ids (still (move t (place_of own) (first ∷ more))) (queue.move u own (one ∷ others))
      at (inl passes) = rw (alike first one are.0, passes, place_open own) (held_put ids own first one are.0, deeper others are.1)
      at (inr fails) = rw (alike first one are.0, fails, stays) (are.0, deeper others are.1)

  pub move_held : (placed : List Placed) (held : List Held) → AreHeld ids (still placed) held → AreHeld ids (still (move t (place_of own) placed)) (queue.move u own held)
  move_held [] [] are = tt
  move_held [] (one ∷ others) are = absurd are
  move_held (first ∷ more) held are = at (cases_Bool (is_done first.place)) (λ rest. move_held more rest)
    where
      at : (is_done first.place ≡ true) ⊎ (is_done first.place ≡ false) → ((rest : List Held) → AreHeld ids (still more) rest → AreHeld ids (still (move t (place_of own) more)) (queue.move u own rest)) → AreHeld ids (still (move t (place_of own) (first ∷ more))) (queue.move u own held)
      at (inl done) deeper = rw (none first done, done) (deeper held (rw done at are))
      at (inr stays) deeper = moved_held first more held stays (rw stays at are) deeper

  first_moved : (n : ℕ) (first : Placed) (more : List Placed) (held : List Held) → is_done first.place ≡ false → AreHeld ids (first ∷ still more) held → ((k : ℕ) (rest : List Held) → AreHeld ids (still more) rest → AreHeld ids (still (move_first t (place_of own) k more)) (queue.move_first u own k rest)) → AreHeld ids (still (move_first t (place_of own) n (first ∷ more))) (queue.move_first u own n held)
  first_moved n first more [] stays are deeper = absurd are
  first_moved n first more (one ∷ others) stays are deeper = at (cases_Bool (u one && nat_lt 0 n))
    where
      at : ((u one && nat_lt 0 n) ≡ true) ⊎ ((u one && nat_lt 0 n) ≡ false) → AreHeld ids (still (move_first t (place_of own) n (first ∷ more))) (queue.move_first u own n (one ∷ others))
      at (inl passes) = rw (alike first one are.0, passes, place_open own) (held_put ids own first one are.0, deeper (n - 1) others are.1)
      at (inr fails) = rw (alike first one are.0, fails, stays) (are.0, deeper n others are.1)

  pub move_first_held : (n : ℕ) (placed : List Placed) (held : List Held) → AreHeld ids (still placed) held → AreHeld ids (still (move_first t (place_of own) n placed)) (queue.move_first u own n held)
  move_first_held n [] [] are = tt
  move_first_held n [] (one ∷ others) are = absurd are
  move_first_held n (first ∷ more) held are = at (cases_Bool (is_done first.place)) (λ k rest. move_first_held k more rest)
    where
      at : (is_done first.place ≡ true) ⊎ (is_done first.place ≡ false) → ((k : ℕ) (rest : List Held) → AreHeld ids (still more) rest → AreHeld ids (still (move_first t (place_of own) k more)) (queue.move_first u own k rest)) → AreHeld ids (still (move_first t (place_of own) n (first ∷ more))) (queue.move_first u own n held)
      at (inl done) deeper = rw (none first done, done) (deeper n held (rw done at are))
      at (inr stays) deeper = first_moved n first more held stays (rw stays at are) deeper

-- those that pass are done, and held no more
module _ (ids : List StreamId) (t : Placed → Bool) (u : Held → Bool) (none : (one : Placed) → is_done one.place ≡ true → t one ≡ false) (alike : (placed : Placed) (held : Held) → IsHeld ids placed held → t placed ≡ u held) where
  done_first : (first : Placed) (more : List Placed) (held : List Held) → is_done first.place ≡ false → AreHeld ids (first ∷ still more) held → ((rest : List Held) → AreHeld ids (still more) rest → AreHeld ids (still (move t Done more)) (filter (λ one. not (u one)) rest)) → AreHeld ids (still (move t Done (first ∷ more))) (filter (λ one. not (u one)) held)
  done_first first more [] stays are deeper = absurd are
  done_first first more (one ∷ others) stays are deeper = at (cases_Bool (u one))
    where
      at : (u one ≡ true) ⊎ (u one ≡ false) → AreHeld ids (still (move t Done (first ∷ more))) (filter (λ one. not (u one)) (one ∷ others))
      at (inl passes) = rw (alike first one are.0, passes) (deeper others are.1)
      at (inr fails) = rw (alike first one are.0, fails, stays) (are.0, deeper others are.1)

  pub done_held : (placed : List Placed) (held : List Held) → AreHeld ids (still placed) held → AreHeld ids (still (move t Done placed)) (filter (λ one. not (u one)) held)
  done_held [] [] are = tt
  done_held [] (one ∷ others) are = absurd are
  done_held (first ∷ more) held are = at (cases_Bool (is_done first.place)) (λ rest. done_held more rest)
    where
      at : (is_done first.place ≡ true) ⊎ (is_done first.place ≡ false) → ((rest : List Held) → AreHeld ids (still more) rest → AreHeld ids (still (move t Done more)) (filter (λ one. not (u one)) rest)) → AreHeld ids (still (move t Done (first ∷ more))) (filter (λ one. not (u one)) held)
      at (inl done) deeper = rw (none first done, done) (deeper held (rw done at are))
      at (inr stays) deeper = done_first first more held stays (rw stays at are) deeper

-- Moves in the queue

pub first_none : (u : Held → Bool) (own : queue.Place) (held : List Held) → queue.move_first u own 0 held ≡ held
first_none u own [] = refl
first_none u own (one ∷ others) = at (u one) (first_none u own others)
  where
    at : (b : Bool) → queue.move_first u own 0 others ≡ others → cond (b && nat_lt 0 0) (queue.put_in own one ∷ queue.move_first u own (0 - 1) others) (one ∷ queue.move_first u own 0 others) ≡ one ∷ others
    at true rest = ap (λ list. one ∷ list) rest
    at false rest = ap (λ list. one ∷ list) rest

-- so many as pass in a front
pub first_whole : (u : Held → Bool) (own : queue.Place) (front rest : List Held) → queue.move_first u own (length (filter u front)) (front ++ rest) ≡ queue.move u own front ++ rest
first_whole u own [] rest = first_none u own rest
first_whole u own (one ∷ others) rest = at (cases_Bool (u one)) (first_whole u own others rest)
  where
    at : (u one ≡ true) ⊎ (u one ≡ false) → queue.move_first u own (length (filter u others)) (others ++ rest) ≡ queue.move u own others ++ rest → queue.move_first u own (length (filter u (one ∷ others))) ((one ∷ others) ++ rest) ≡ queue.move u own (one ∷ others) ++ rest
    at (inl passes) deeper =
        let some : nat_lt 0 (length (one ∷ filter u others)) ≡ true = lt-ltb 0 (length (one ∷ filter u others)) (omega arith) in
        let less : length (one ∷ filter u others) - 1 ≡ length (filter u others) = omega arith in
        rw (passes, some, less, deeper) refl
    at (inr fails) deeper = rw (fails, deeper) refl

-- where none passes behind a front
pub first_front : (u : Held → Bool) (own : queue.Place) (n : ℕ) (front rest : List Held) → AllByRecursion (λ one. u one ≡ false) rest → queue.move_first u own n (front ++ rest) ≡ queue.move_first u own n front ++ rest
first_front u own n [] [] fail = refl
first_front u own n [] (one ∷ others) fail = rw (fail.0, first_front u own n [] others fail.1) refl
first_front u own n (one ∷ others) rest fail = at (u one && nat_lt 0 n) (first_front u own n others rest fail) (first_front u own (n - 1) others rest fail)
  where
    at : (b : Bool) → queue.move_first u own n (others ++ rest) ≡ queue.move_first u own n others ++ rest → queue.move_first u own (n - 1) (others ++ rest) ≡ queue.move_first u own (n - 1) others ++ rest → cond b (queue.put_in own one ∷ queue.move_first u own (n - 1) (others ++ rest)) (one ∷ queue.move_first u own n (others ++ rest)) ≡ cond b (queue.put_in own one ∷ queue.move_first u own (n - 1) others) (one ∷ queue.move_first u own n others) ++ rest
    at true same less = ap (λ list. queue.put_in own one ∷ list) less
    at false same less = ap (λ list. one ∷ list) same

pub move_front : (u : Held → Bool) (own : queue.Place) (front rest : List Held) → AllByRecursion (λ one. u one ≡ false) rest → queue.move u own (front ++ rest) ≡ queue.move u own front ++ rest
move_front u own [] [] fail = refl
move_front u own [] (one ∷ others) fail = rw (fail.0, move_front u own [] others fail.1) refl
move_front u own (one ∷ others) rest fail = ap (λ list. cond (u one) (queue.put_in own one) one ∷ list) (move_front u own others rest fail)

pub accepted_move : (u : Held → Bool) (own : queue.Place) (held : List Held) → map accepted_of (queue.move u own held) ≡ map accepted_of held
accepted_move u own [] = refl
accepted_move u own (one ∷ others) = at (u one) (accepted_move u own others)
  where
    at : (b : Bool) → map accepted_of (queue.move u own others) ≡ map accepted_of others → map accepted_of (cond b (queue.put_in own one) one ∷ queue.move u own others) ≡ map accepted_of (one ∷ others)
    at true rest = ap (λ list. accepted_of one ∷ list) rest
    at false rest = ap (λ list. accepted_of one ∷ list) rest

pub accepted_first : (u : Held → Bool) (own : queue.Place) (n : ℕ) (held : List Held) → map accepted_of (queue.move_first u own n held) ≡ map accepted_of held
accepted_first u own n [] = refl
accepted_first u own n (one ∷ others) = at (u one && nat_lt 0 n) (accepted_first u own n others) (accepted_first u own (n - 1) others)
  where
    at : (b : Bool) → map accepted_of (queue.move_first u own n others) ≡ map accepted_of others → map accepted_of (queue.move_first u own (n - 1) others) ≡ map accepted_of others → map accepted_of (cond b (queue.put_in own one ∷ queue.move_first u own (n - 1) others) (one ∷ queue.move_first u own n others)) ≡ map accepted_of (one ∷ others)
    at true same less = ap (λ list. accepted_of one ∷ list) less
    at false same less = ap (λ list. accepted_of one ∷ list) same

pub length_move : (u : Held → Bool) (own : queue.Place) (held : List Held) → length (queue.move u own held) ≡ length held
length_move u own [] = refl
length_move u own (one ∷ others) = grind (arith, length_move u own others)

pub length_first : (u : Held → Bool) (own : queue.Place) (n : ℕ) (held : List Held) → length (queue.move_first u own n held) ≡ length held
length_first u own n [] = refl
length_first u own n (one ∷ others) = at (u one && nat_lt 0 n) (length_first u own n others) (length_first u own (n - 1) others)
  where
    at : (b : Bool) → length (queue.move_first u own n others) ≡ length others → length (queue.move_first u own (n - 1) others) ≡ length others → length (cond b (queue.put_in own one ∷ queue.move_first u own (n - 1) others) (one ∷ queue.move_first u own n others)) ≡ length (one ∷ others)
    at true same less = grind (arith, less)
    at false same less = grind (arith, same)

pub all_move : (P : Held → Type 0) (u : Held → Bool) (own : queue.Place) (held : List Held) → ((one : Held) → P (queue.put_in own one)) → AllByRecursion P held → AllByRecursion P (queue.move u own held)
all_move P u own [] put each = tt
all_move P u own (one ∷ others) put each = (at (u one), all_move P u own others put each.1)
  where
    at : (b : Bool) → P (cond b (queue.put_in own one) one)
    at true = put one
    at false = each.0

pub all_move_first : (P : Held → Type 0) (u : Held → Bool) (own : queue.Place) (n : ℕ) (held : List Held) → ((one : Held) → P (queue.put_in own one)) → AllByRecursion P held → AllByRecursion P (queue.move_first u own n held)
all_move_first P u own n [] put each = tt
all_move_first P u own n (one ∷ others) put each = at (u one && nat_lt 0 n) (all_move_first P u own n others put each.1) (all_move_first P u own (n - 1) others put each.1)
  where
    at : (b : Bool) → AllByRecursion P (queue.move_first u own n others) → AllByRecursion P (queue.move_first u own (n - 1) others) → AllByRecursion P (cond b (queue.put_in own one ∷ queue.move_first u own (n - 1) others) (one ∷ queue.move_first u own n others))
    at true same less = (put one, less)
    at false same less = (each.0, same)

-- Moves in the machine

pub move_as : (t u : Placed → Bool) (place : Place) (placed : List Placed) → AllByRecursion (λ one. t one ≡ u one) placed → move t place placed ≡ move u place placed
move_as t u place [] each = refl
move_as t u place (one ∷ more) each = rw (each.0, move_as t u place more each.1) refl

pub move_none : (place : Place) (placed : List Placed) → move (λ one. false) place placed ≡ placed
move_none place [] = refl
move_none place (one ∷ more) = ap (λ list. one ∷ list) (move_none place more)

-- what was put there stays there
pub move_twice : (t u : Placed → Bool) (place : Place) (placed : List Placed) → move u place (move t place placed) ≡ move (λ one. t one || u one) place placed
move_twice t u place [] = refl
move_twice t u place (one ∷ more) = at (cases_Bool (t one)) (move_twice t u place more)
  where
    put : (b : Bool) → cond b (put_in place (put_in place one)) (put_in place one) ≡ put_in place one
    put true = refl
    put false = refl

    at : (t one ≡ true) ⊎ (t one ≡ false) → move u place (move t place more) ≡ move (λ one. t one || u one) place more → move u place (move t place (one ∷ more)) ≡ move (λ one. t one || u one) place (one ∷ more)
    at (inl passes) rest = rw (passes, rest) (ap (λ (it : Placed). it ∷ move (λ one. t one || u one) place more) (put (u (put_in place one))))
    at (inr fails) rest = rw (fails, rest) refl

-- so many as there are
pub move_first_all : (t : Placed → Bool) (place : Place) (n : ℕ) (placed : List Placed) → length placed ≤ n → move_first t place n placed ≡ move t place placed
move_first_all t place n [] enough = refl
move_first_all t place n (one ∷ more) enough = at (cases_Bool (t one)) (move_first_all t place n more (omega (arith, enough))) (move_first_all t place (n - 1) more (omega (arith, enough)))
  where
    some : nat_lt 0 n ≡ true
    some = lt-ltb 0 n (omega (arith, enough))

    at : (t one ≡ true) ⊎ (t one ≡ false) → move_first t place n more ≡ move t place more → move_first t place (n - 1) more ≡ move t place more → move_first t place n (one ∷ more) ≡ move t place (one ∷ more)
    at (inl passes) same less = rw (passes, some, less) refl
    at (inr fails) same less = rw (fails, same) refl

pub length_first_placed : (t : Placed → Bool) (place : Place) (n : ℕ) (placed : List Placed) → length (move_first t place n placed) ≡ length placed
length_first_placed t place n [] = refl
length_first_placed t place n (one ∷ more) = at (t one && nat_lt 0 n) (length_first_placed t place n more) (length_first_placed t place (n - 1) more)
  where
    at : (b : Bool) → length (move_first t place n more) ≡ length more → length (move_first t place (n - 1) more) ≡ length more → length (cond b (put_in place one ∷ move_first t place (n - 1) more) (one ∷ move_first t place n more)) ≡ length (one ∷ more)
    at true same less = grind (arith, less)
    at false same less = grind (arith, same)

-- records that are queued

queued_open : (list : List Entry) → filter (λ (one : Placed). not (is_done one.place)) (map queue_of list) ≡ map queue_of list
queued_open [] = refl
queued_open (entry ∷ more) = ap (λ list. queue_of entry ∷ list) (queued_open more)

pub still_more : (placed : List Placed) (list : List Entry) → still (placed ++ map queue_of list) ≡ still placed ++ map queue_of list
still_more placed list = filter-append (λ (one : Placed). not (is_done one.place)) placed (map queue_of list) ∙ ap (λ more. still placed ++ more) (queued_open list)
