-- Queues that are sealed, batches that are handed out and taken back.
use Rattle.std.proofs.Common.{arith, ◌≡◌, ◌⊎◌, inl, inr, ℕ, ◌+◌, ◌-◌, eqb, List, [], ◌∷◌, ◌++◌, map, length, Option, None, Some, Bool, true, false, cond, refl, sym, ◌∙◌, ap, subst}
use Rattle.std.specs.Prelude.{filter, not, ◌&&◌, slice_get, nat_lt, IfSome, option_to_list}
use Rattle.std.specs.List.{AllByRecursion, list_any}
use Rattle.std.proofs.lemmas.Bool.{and_parts, cases_Bool, cases_eq, eq-eqb, eqb-true, false≢true, lt-ltb, ltb-true, ne_eqb}
use Rattle.basics.specs.declared.stream.StreamId.{StreamId}
use Rattle.catalog.specs.declared.stream.ConfStream.{ConfStream}
use Rattle.outside.specs.Tables.{same_id}
use Rattle.outside.proofs.TableLaws.{id_own}
use Rattle.stream_index.specs.Distinct.{AreDistinct}
use Rattle.book_queue.specs.Content.{Held, QueueView, all_of, number_below}
use Rattle.book_queue.specs.Content as queue
use Rattle.load_rules.specs.Machine.{Machine, Place, Queued, Sealed, Out, Done, Placed, Step, Seal, HandOut, TakeBack, is_out, is_sealed, is_queued, is_done, is_of, is_queued_of, is_sealed_of, is_in_batch, move, move_first, happens, run, hands_out}
use Rattle.load_rules.proofs.Machines.{length-move}
use Rattle.load_rules.proofs.TakenLists.{all_weaker}
use Rattle.book_rules.specs.Books.{IsGiveBackRun, IsPickRun, IsSealing, IsTakingBack}
use Rattle.book_rules.specs.Holds.{IsHeld, AreHeld, place_of, still, accepted_of}
use Rattle.book_rules.specs.Views.{BookView, ids}
use Rattle.book_rules.proofs.Lists.{all_append, any_self}
use Rattle.book_rules.proofs.Moves.{accepted_first, accepted_move, all_move, all_move_first, first_front, first_whole, held_in_batch, held_out, held_queued, held_queued_of, held_sealed_of, length_first, length_first_placed, length_move, move_as, move_first_all, move_first_held, move_front, move_held, move_none, move_twice}
use Rattle.book_rules.proofs.Whole.{IsWhole, Leads, leads_still, MovesTo, leads_requeued, whole_requeued}

-- a batch is handed out
abbrev pub IsPicking : Step → Type 0
IsPicking (HandOut id count batch) = Unit {0}
IsPicking step = ⊥

-- Places that pass no test

done_not_queued : (place : Place) → is_done place ≡ true → is_queued place ≡ false
done_not_queued Queued e = absurd (false≢true e)
done_not_queued Sealed e = absurd (false≢true e)
done_not_queued (Out batch) e = refl
done_not_queued Done e = refl

done_not_sealed : (place : Place) → is_done place ≡ true → is_sealed place ≡ false
done_not_sealed Queued e = refl
done_not_sealed Sealed e = absurd (false≢true e)
done_not_sealed (Out batch) e = refl
done_not_sealed Done e = refl

pub done_not_out : (batch : ℕ) (place : Place) → is_done place ≡ true → is_out batch place ≡ false
done_not_out batch Queued e = refl
done_not_out batch Sealed e = refl
done_not_out batch (Out own) e = absurd (false≢true e)
done_not_out batch Done e = refl

-- Moves by one step for each record

abbrev MovesBy : List ConfStream → ℕ → (Placed → Bool) → Step → Type 0
MovesBy catalog n test step = (m : Machine) → length m.placed ≡ n → happens catalog m step ≡ record m { placed = move test Sealed m.placed }

chain : (P : Step → Type 0) (catalog : List ConfStream) (n : ℕ) (R : Placed → Placed → Bool) (step_of : Placed → Step) → ((one : Placed) → P (step_of one)) → ((one : Placed) → MovesBy catalog n (R one) (step_of one)) → (list : List Placed) (m : Machine) → length m.placed ≡ n → MovesTo P catalog m (move (λ x. list_any (λ y. R y x) list) Sealed m.placed)
chain P catalog n R step_of kind moves [] m long = record { steps = []; all = tt; is = ap (λ (placed : List Placed). record m { placed = placed }) (sym (move_none Sealed m.placed)) }
chain P catalog n R step_of kind moves (one ∷ more) m long =
    let then = chain P catalog n R step_of kind moves more (record m { placed = move (R one) Sealed m.placed }) (length-move (R one) Sealed m.placed ∙ long) in
    record {
      steps = step_of one ∷ then.steps;
      all = (kind one, then.all);
      is = ap (run catalog then.steps) (moves one m long) ∙ (then.is ∙ ap (λ (placed : List Placed). record m { placed = placed }) (move_twice (R one) (λ x. list_any (λ y. R y x) more) Sealed m.placed));
    }

each_moves : (P : Step → Type 0) (catalog : List ConfStream) (m : Machine) (R : Placed → Placed → Bool) (t : Placed → Bool) (step_of : Placed → Step) → ((one : Placed) → P (step_of one)) → ((one : Placed) → MovesBy catalog (length m.placed) (R one) (step_of one)) → ((x : Placed) → R x x ≡ t x) → ((y x : Placed) → t x ≡ false → R y x ≡ false) → MovesTo P catalog m (move t Sealed m.placed)
each_moves P catalog m R t step_of kind moves own none =
    let all = chain P catalog (length m.placed) R step_of kind moves m.placed m refl in
    record {
      steps = all.steps;
      all = all.all;
      is = all.is ∙ ap (λ (placed : List Placed). record m { placed = placed }) (move_as (λ x. list_any (λ y. R y x) m.placed) t Sealed m.placed (any_self R t m.placed [] m.placed refl own none));
    }

and_own : (b : Bool) (id : StreamId) → (b && same_id id id) ≡ b
and_own true id = id_own id
and_own false id = refl

pub and_none : (a b : Bool) → a ≡ false → (a && b) ≡ false
and_none a b is = rw is refl

-- all queues are sealed
abbrev is_queued_at : Placed → Bool
is_queued_at one = is_queued one.place

seals_all : (catalog : List ConfStream) (m : Machine) → MovesTo IsSealing catalog m (move is_queued_at Sealed m.placed)
seals_all catalog m = each_moves IsSealing catalog m (λ y x. is_queued_of y.entry.content.id x) is_queued_at (λ one. Seal one.entry.content.id (length m.placed)) (λ one. tt) (λ one now long. ap (λ (placed : List Placed). record now { placed = placed }) (move_first_all (is_queued_of one.entry.content.id) Sealed (length m.placed) now.placed (omega (arith, long)))) (λ x. and_own (is_queued x.place) x.entry.content.id) (λ y x none. and_none (is_queued x.place) (is_of y.entry.content.id x) none)

-- all batches are taken back
abbrev batch_at : Place → ℕ
batch_at (Out batch) = batch
batch_at Queued = 0
batch_at Sealed = 0
batch_at Done = 0

abbrev is_handed_out : Place → Bool
is_handed_out (Out batch) = true
is_handed_out Queued = false
is_handed_out Sealed = false
is_handed_out Done = false

out_own : (place : Place) → is_out (batch_at place) place ≡ is_handed_out place
out_own Queued = refl
out_own Sealed = refl
out_own (Out batch) = eq-eqb batch batch refl
out_own Done = refl

out_none : (batch : ℕ) (place : Place) → is_handed_out place ≡ false → is_out batch place ≡ false
out_none batch Queued e = refl
out_none batch Sealed e = refl
out_none batch (Out own) e = absurd (false≢true (sym e))
out_none batch Done e = refl

takes_all : (catalog : List ConfStream) (m : Machine) → MovesTo IsTakingBack catalog m (move (λ one. is_handed_out one.place) Sealed m.placed)
takes_all catalog m = each_moves IsTakingBack catalog m (λ y x. is_in_batch y.entry.content.id (batch_at y.place) x) (λ one. is_handed_out one.place) (λ one. TakeBack one.entry.content.id (batch_at one.place)) (λ one. tt) (λ one now long. refl) (λ x. and_own (is_out (batch_at x.place) x.place) x.entry.content.id ∙ out_own x.place) (λ y x none. and_none (is_out (batch_at y.place) x.place) (is_of y.entry.content.id x) (out_none (batch_at y.place) x.place none))

-- The records of a batch are of one stream

pub alike_push : (number : ℕ) (held : List Held) (one : Held) → one.place ≡ queue.Queued → queue.IsOfOneStream number held → queue.IsOfOneStream number (held ++ one ∷ [])
alike_push number held one placed same = record { stream = same.stream; all = all_append (λ it. queue.is_in_batch number it ≡ true → it.stream ≡ same.stream) held (one ∷ []) same.all (λ e. absurd (false≢true (sym (ap (queue.is_out number) placed) ∙ e)), tt) }

alike_move : (number : ℕ) (u : Held → Bool) (held : List Held) → queue.IsOfOneStream number held → queue.IsOfOneStream number (queue.move u queue.Sealed held)
alike_move number u held same = record { stream = same.stream; all = all_move (λ it. queue.is_in_batch number it ≡ true → it.stream ≡ same.stream) u queue.Sealed held (λ one e. absurd (false≢true e)) same.all }

-- The book behind them

put_fresh : (n : ℕ) (one : Held) → number_below n (queue.put_in queue.Sealed one).place ≡ true
put_fresh n one = refl

leads_moved : (P : Step → Type 0) (book : BookView) (m : Machine) (t : Placed → Bool) (u : Held → Bool) → IsWhole book m → MovesTo P book.catalog m (move t Sealed m.placed) → ((one : Placed) → is_done one.place ≡ true → t one ≡ false) → ((placed : Placed) (held : Held) → IsHeld (ids book) placed held → t placed ≡ u held) → AllByRecursion (λ one. u one ≡ false) (option_to_list book.queue.parked) → Leads P book.catalog (record book { queue = record (book.queue) { held = queue.move u queue.Sealed book.queue.held } }) m
leads_moved P book m t u w moves none alike apart =
    let moved = move_front u queue.Sealed book.queue.held (option_to_list book.queue.parked) apart in
    leads_requeued P book m (record (book.queue) { held = queue.move u queue.Sealed book.queue.held }) (move t Sealed m.placed) w moves (record {
      long = length-move t Sealed m.placed;
      accepted = ap (map accepted_of) (sym moved) ∙ accepted_move u queue.Sealed (all_of book.queue);
      held = subst (AreHeld (ids book) (still (move t Sealed m.placed))) moved (move_held (ids book) t u queue.Sealed none alike m.placed (all_of book.queue) w.holds.held);
      streams = refl;
      next = refl;
      room = let long = length_move u queue.Sealed book.queue.held in let few = w.holds.room in omega (arith, long, few);
      slots = refl;
      bytes = refl;
      batch = refl;
      fresh = all_move (λ one. number_below book.queue.next_batch one.place ≡ true) u queue.Sealed book.queue.held (put_fresh book.queue.next_batch) w.holds.fresh;
      parked = w.holds.parked;
      alike = λ n. alike_move n u book.queue.held (w.holds.alike n);
    })

-- a stream's queue is sealed
pub seal_leads : (book : BookView) (m : Machine) (stream : ℕ) (id : StreamId) → AreDistinct (ids book) → slice_get (ids book) stream ≡ Some id → IsWhole book m → Leads IsSealing book.catalog (record book { queue = record (book.queue) { held = queue.sealed_whole stream book.queue.held } }) m
seal_leads book m stream id distinct named w =
    let u = queue.is_queued_of stream in
    let n = length (filter u book.queue.held) in
    let placed = move_first (is_queued_of id) Sealed n m.placed in
    let whole = first_whole u queue.Sealed book.queue.held (option_to_list book.queue.parked) in
    leads_requeued IsSealing book m (record (book.queue) { held = queue.sealed_whole stream book.queue.held }) placed w (record { steps = Seal id n ∷ []; all = (tt, tt); is = refl }) (record {
      long = length_first_placed (is_queued_of id) Sealed n m.placed;
      accepted = ap (map accepted_of) (sym whole) ∙ accepted_first u queue.Sealed n (all_of book.queue);
      held = subst (AreHeld (ids book) (still placed)) whole (move_first_held (ids book) (is_queued_of id) u queue.Sealed (λ one done. and_none (is_queued one.place) (is_of id one) (done_not_queued one.place done)) (λ one held is. held_queued_of (ids book) stream id one held distinct named is) n m.placed (all_of book.queue) w.holds.held);
      streams = refl;
      next = refl;
      room = let long = length_move u queue.Sealed book.queue.held in let few = w.holds.room in omega (arith, long, few);
      slots = refl;
      bytes = refl;
      batch = refl;
      fresh = all_move (λ one. number_below book.queue.next_batch one.place ≡ true) u queue.Sealed book.queue.held (put_fresh book.queue.next_batch) w.holds.fresh;
      parked = w.holds.parked;
      alike = λ n. alike_move n u book.queue.held (w.holds.alike n);
    })

pub seal_full_leads : (book : BookView) (m : Machine) (stream : ℕ) (id : StreamId) → AreDistinct (ids book) → slice_get (ids book) stream ≡ Some id → IsWhole book m → Leads IsSealing book.catalog (record book { queue = record (book.queue) { held = queue.sealed_full book.queue.batch stream book.queue.held } }) m
seal_full_leads book m stream id distinct named w = at (nat_lt (queue.count_of stream book.queue.held) book.queue.batch)
  where
    at : (b : Bool) → Leads IsSealing book.catalog (record book { queue = record (book.queue) { held = cond b book.queue.held (queue.sealed_whole stream book.queue.held) } }) m
    at true = leads_still IsSealing book.catalog book m w
    at false = seal_leads book m stream id distinct named w

-- the stream of a record that is held has an id
record IsNamed (ids : List StreamId) (stream : ℕ) : Type 0 where
  id : StreamId
  named : slice_get ids stream ≡ Some id

abbrev IsNamedIf : List StreamId → Option ℕ → Type 0
IsNamedIf ids None = Unit {0}
IsNamedIf ids (Some stream) = IsNamed ids stream

oldest_named : (ids : List StreamId) (placed : List Placed) (held rest : List Held) → AreHeld ids placed (held ++ rest) → IsNamedIf ids (queue.oldest_of held)
oldest_named ids placed [] rest are = tt
oldest_named ids [] (one ∷ others) rest are = absurd are
oldest_named ids (first ∷ more) (one ∷ others) rest are = at (cases_Bool (queue.is_in_queue one)) (oldest_named ids more others rest are.1)
  where
    at : (queue.is_in_queue one ≡ true) ⊎ (queue.is_in_queue one ≡ false) → IsNamedIf ids (queue.oldest_of others) → IsNamedIf ids (queue.oldest_of (one ∷ others))
    at (inl passes) deeper = rw passes (record { id = first.entry.content.id; named = are.0.named })
    at (inr fails) deeper = rw fails deeper

pub seal_oldest_leads : (book : BookView) (m : Machine) → AreDistinct (ids book) → IsWhole book m → Leads IsSealing book.catalog (record book { queue = record (book.queue) { held = queue.sealed_oldest book.queue.held } }) m
seal_oldest_leads book m distinct w = at (queue.oldest_of book.queue.held) (oldest_named (ids book) (still m.placed) book.queue.held (option_to_list book.queue.parked) w.holds.held)
  where
    at : (oldest : Option ℕ) → IsNamedIf (ids book) oldest → Leads IsSealing book.catalog (record book { queue = record (book.queue) { held = queue.sealed_for oldest book.queue.held } }) m
    at None named = leads_still IsSealing book.catalog book m w
    at (Some stream) named = seal_leads book m stream named.id distinct named.named w

pub seal_all_leads : (book : BookView) (m : Machine) → book.queue.parked ≡ None → IsWhole book m → Leads IsSealing book.catalog (record book { queue = record (book.queue) { held = queue.move queue.is_in_queue queue.Sealed book.queue.held } }) m
seal_all_leads book m empty w = leads_moved IsSealing book m is_queued_at queue.is_in_queue w (seals_all book.catalog m) (λ one done. done_not_queued one.place done) (λ placed held is. held_queued (ids book) placed held is) (subst (λ (parked : Option Held). AllByRecursion (λ one. queue.is_in_queue one ≡ false) (option_to_list parked)) (sym empty) tt)

-- Batches

parked_out : (P : queue.Place → Bool) (parked : Option Held) → P queue.Queued ≡ false → IfSome parked (λ one. one.place ≡ queue.Queued) → AllByRecursion (λ one. P one.place ≡ false) (option_to_list parked)
parked_out P None none is = tt
parked_out P (Some one) none is = (ap P is ∙ none, tt)

handed_place : (place : queue.Place) → is_handed_out (place_of place) ≡ not (queue.is_queued place)
handed_place queue.Queued = refl
handed_place queue.Sealed = refl
handed_place (queue.Out batch) = refl

done_not_handed : (place : Place) → is_done place ≡ true → is_handed_out place ≡ false
done_not_handed Queued e = refl
done_not_handed Sealed e = refl
done_not_handed (Out batch) e = absurd (false≢true e)
done_not_handed Done e = refl

pub recall_leads : (book : BookView) (m : Machine) → IsWhole book m → Leads IsTakingBack book.catalog (record book { queue = record (book.queue) { held = queue.move queue.is_handed_out queue.Sealed book.queue.held } }) m
recall_leads book m w = leads_moved IsTakingBack book m (λ one. is_handed_out one.place) queue.is_handed_out w (takes_all book.catalog m) (λ one done. done_not_handed one.place done) (λ placed held is. ap is_handed_out (sym is.place) ∙ handed_place held.place) (parked_out (λ place. not (queue.is_queued place)) book.queue.parked refl w.holds.parked)

parked_sealed : (stream : ℕ) (parked : Option Held) → IfSome parked (λ one. one.place ≡ queue.Queued) → AllByRecursion (λ one. queue.is_sealed_of stream one ≡ false) (option_to_list parked)
parked_sealed stream None is = tt
parked_sealed stream (Some one) is = (ap (λ place. queue.is_sealed place && eqb one.stream stream) is, tt)

-- a front of a stream's sealed records is handed out, under a number that no batch has
none_out : (n : ℕ) (place : queue.Place) → number_below n place ≡ true → queue.is_out n place ≡ false
none_out n queue.Queued e = refl
none_out n queue.Sealed e = refl
none_out n (queue.Out own) e = at (cases_Bool (eqb own n))
  where
    at : (eqb own n ≡ true) ⊎ (eqb own n ≡ false) → eqb own n ≡ false
    at (inl same) = absurd (let lt = ltb-true own n e in let is = eqb-true own n same in omega (arith, lt, is))
    at (inr other) = other

no_batch : (ids : List StreamId) (n : ℕ) (placed : List Placed) (held : List Held) → AreHeld ids (still placed) held → AllByRecursion (λ one. number_below n one.place ≡ true) held → filter (λ one. is_out n one.place) placed ≡ []
no_batch ids n [] held are fresh = refl
no_batch ids n (first ∷ more) held are fresh = at (cases_Bool (is_done first.place)) (λ rest. no_batch ids n more rest)
  where
    on : (rest : List Held) → is_done first.place ≡ false → AreHeld ids (first ∷ still more) rest → AllByRecursion (λ one. number_below n one.place ≡ true) rest → ((rest : List Held) → AreHeld ids (still more) rest → AllByRecursion (λ one. number_below n one.place ≡ true) rest → filter (λ one. is_out n one.place) more ≡ []) → filter (λ one. is_out n one.place) (first ∷ more) ≡ []
    on [] stays are fresh deeper = absurd are
    on (one ∷ others) stays are fresh deeper =
        let out : is_out n first.place ≡ false = held_out n ids first one are.0 ∙ none_out n one.place fresh.0 in
        rw out (deeper others are.1 fresh.1)

    at : (is_done first.place ≡ true) ⊎ (is_done first.place ≡ false) → ((rest : List Held) → AreHeld ids (still more) rest → AllByRecursion (λ one. number_below n one.place ≡ true) rest → filter (λ one. is_out n one.place) more ≡ []) → filter (λ one. is_out n one.place) (first ∷ more) ≡ []
    at (inl done) deeper = let out = done_not_out n first.place done in rw out (deeper held (rw done at are) fresh)
    at (inr stays) deeper = on held stays (rw stays at are) fresh deeper

fresh_parked : (n : ℕ) (parked : Option Held) → IfSome parked (λ one. one.place ≡ queue.Queued) → AllByRecursion (λ one. number_below n one.place ≡ true) (option_to_list parked)
fresh_parked n None is = tt
fresh_parked n (Some one) is = (ap (number_below n) is, tt)

below_next : (n : ℕ) (place : queue.Place) → number_below n place ≡ true → number_below (n + 1) place ≡ true
below_next n queue.Queued e = refl
below_next n queue.Sealed e = refl
below_next n (queue.Out own) e = let lt = ltb-true own n e in lt-ltb own (n + 1) (omega (arith, lt))

first_own : (stream n k : ℕ) (held : List Held) → AllByRecursion (λ one. number_below n one.place ≡ true) held → AllByRecursion (λ one. queue.is_in_batch n one ≡ true → one.stream ≡ stream) (queue.move_first (queue.is_sealed_of stream) (queue.Out n) k held)
first_own stream n k [] fresh = tt
first_own stream n k (one ∷ others) fresh = at (cases_Bool (queue.is_sealed_of stream one && nat_lt 0 k)) (first_own stream n k others fresh.1) (first_own stream n (k - 1) others fresh.1)
  where
    at : ((queue.is_sealed_of stream one && nat_lt 0 k) ≡ true) ⊎ ((queue.is_sealed_of stream one && nat_lt 0 k) ≡ false) → AllByRecursion (λ it. queue.is_in_batch n it ≡ true → it.stream ≡ stream) (queue.move_first (queue.is_sealed_of stream) (queue.Out n) k others) → AllByRecursion (λ it. queue.is_in_batch n it ≡ true → it.stream ≡ stream) (queue.move_first (queue.is_sealed_of stream) (queue.Out n) (k - 1) others) → AllByRecursion (λ it. queue.is_in_batch n it ≡ true → it.stream ≡ stream) (queue.move_first (queue.is_sealed_of stream) (queue.Out n) k (one ∷ others))
    at (inl passes) same less =
        let of = and_parts (queue.is_sealed one.place) (eqb one.stream stream) (and_parts (queue.is_sealed_of stream one) (nat_lt 0 k) passes).0 in
        rw passes (λ e. eqb-true one.stream stream of.1, less)
    at (inr fails) same less = rw fails (λ e. absurd (false≢true (sym (none_out n one.place fresh.0) ∙ e)), same)

alike_first : (stream n k : ℕ) (held : List Held) → AllByRecursion (λ one. number_below n one.place ≡ true) held → ((number : ℕ) → queue.IsOfOneStream number held) → (number : ℕ) → queue.IsOfOneStream number (queue.move_first (queue.is_sealed_of stream) (queue.Out n) k held)
alike_first stream n k held fresh same number = at (cases_eq n number)
  where
    at : (n ≡ number) ⊎ (n ≡ number → ⊥) → queue.IsOfOneStream number (queue.move_first (queue.is_sealed_of stream) (queue.Out n) k held)
    at (inl is) = subst (λ b. queue.IsOfOneStream b (queue.move_first (queue.is_sealed_of stream) (queue.Out n) k held)) is (record { stream = stream; all = first_own stream n k held fresh })
    at (inr apart) = let one = same number in record { stream = one.stream; all = all_move_first (λ it. queue.is_in_batch number it ≡ true → it.stream ≡ one.stream) (queue.is_sealed_of stream) (queue.Out n) k held (λ it e. absurd (false≢true (sym (ne_eqb n number apart) ∙ e))) one.all }

-- by one step
pub record LeadsPicked (catalog : List ConfStream) (new : BookView) (m : Machine) : Type 0 where
  pub steps : List Step
  pub once : IsPickRun steps
  pub all : AllByRecursion IsPicking steps
  pub leads : IsWhole new (run catalog steps m)

pub hand_out_leads : (book : BookView) (m : Machine) (stream : ℕ) (id : StreamId) → AreDistinct (ids book) → slice_get (ids book) stream ≡ Some id → IsWhole book m → LeadsPicked book.catalog (record book { queue = record (book.queue) { held = queue.move_first (queue.is_sealed_of stream) (queue.Out book.queue.next_batch) book.queue.batch book.queue.held; next_batch = book.queue.next_batch + 1 } }) m
hand_out_leads book m stream id distinct named w =
    let u = queue.is_sealed_of stream in
    let n = book.queue.batch in
    let batch = book.queue.next_batch in
    let placed = move_first (is_sealed_of id) (Out batch) n m.placed in
    let front = first_front u (queue.Out batch) n book.queue.held (option_to_list book.queue.parked) (parked_sealed stream book.queue.parked w.holds.parked) in
    let moves : MovesTo IsPicking book.catalog m placed = record { steps = HandOut id n batch ∷ []; all = (tt, tt); is = ap (hands_out m id n batch) (no_batch (ids book) batch m.placed (all_of book.queue) w.holds.held (all_append (λ one. number_below batch one.place ≡ true) book.queue.held (option_to_list book.queue.parked) w.holds.fresh (fresh_parked batch book.queue.parked w.holds.parked))) } in
    record {
      steps = HandOut id n batch ∷ [];
      once = tt;
      all = (tt, tt);
      leads = whole_requeued IsPicking book m (record (book.queue) { held = queue.move_first u (queue.Out batch) n book.queue.held; next_batch = batch + 1 }) placed w moves (record {
        long = length_first_placed (is_sealed_of id) (Out batch) n m.placed;
        accepted = ap (map accepted_of) (sym front) ∙ accepted_first u (queue.Out batch) n (all_of book.queue);
        held = subst (AreHeld (ids book) (still placed)) front (move_first_held (ids book) (is_sealed_of id) u (queue.Out batch) (λ one done. and_none (is_sealed one.place) (is_of id one) (done_not_sealed one.place done)) (λ one held is. held_sealed_of (ids book) stream id one held distinct named is) n m.placed (all_of book.queue) w.holds.held);
        streams = refl;
        next = refl;
        room = let long = length_first u (queue.Out batch) n book.queue.held in let few = w.holds.room in omega (arith, long, few);
        slots = refl;
        bytes = refl;
        batch = refl;
        fresh = all_move_first (λ one. number_below (batch + 1) one.place ≡ true) u (queue.Out batch) n book.queue.held (λ one. lt-ltb batch (batch + 1) (omega arith)) (all_weaker (λ one. number_below batch one.place ≡ true) (λ one. number_below (batch + 1) one.place ≡ true) book.queue.held (λ one. below_next batch one.place) w.holds.fresh);
        parked = w.holds.parked;
        alike = alike_first stream batch n book.queue.held w.holds.fresh w.holds.alike;
      });
    }

-- A batch is taken back

abbrev pub of_batch : ℕ → ℕ → Held → Bool
of_batch batch number one = queue.is_out batch one.place && eqb one.stream number

pub batch_done : (id : StreamId) (batch : ℕ) (one : Placed) → is_done one.place ≡ true → is_in_batch id batch one ≡ false
batch_done id batch one done = and_none (is_out batch one.place) (is_of id one) (done_not_out batch one.place done)

-- the records of the batch are all of one stream
pub of_one : (batch number : ℕ) (held : List Held) → AllByRecursion (λ one. queue.is_in_batch batch one ≡ true → one.stream ≡ number) held → AllByRecursion (λ one. of_batch batch number one ≡ queue.is_in_batch batch one) held
of_one batch number [] each = tt
of_one batch number (one ∷ others) each = (at (cases_Bool (queue.is_in_batch batch one)), of_one batch number others each.1)
  where
    at : (queue.is_in_batch batch one ≡ true) ⊎ (queue.is_in_batch batch one ≡ false) → of_batch batch number one ≡ queue.is_in_batch batch one
    at (inl within) = rw (within, eq-eqb one.stream number (each.0 within)) refl
    at (inr other) = rw other refl

pub parked_apart : (batch number : ℕ) (parked : Option Held) → IfSome parked (λ one. one.place ≡ queue.Queued) → AllByRecursion (λ one. of_batch batch number one ≡ false) (option_to_list parked)
parked_apart batch number None is = tt
parked_apart batch number (Some one) is = (ap (λ place. queue.is_out batch place && eqb one.stream number) is, tt)

held_move_as : (t u : Held → Bool) (own : queue.Place) (held : List Held) → AllByRecursion (λ one. t one ≡ u one) held → queue.move t own held ≡ queue.move u own held
held_move_as t u own [] each = refl
held_move_as t u own (one ∷ others) each = rw (each.0, held_move_as t u own others each.1) refl

-- the stream of a batch that is handed out has an id
batch_named : (ids : List StreamId) (batch stream : ℕ) (placed : List Placed) (held rest : List Held) → AreHeld ids placed (held ++ rest) → list_any (queue.is_in_batch batch) held ≡ true → AllByRecursion (λ one. queue.is_in_batch batch one ≡ true → one.stream ≡ stream) held → IsNamed ids stream
batch_named ids batch stream placed [] rest are some each = absurd (false≢true some)
batch_named ids batch stream [] (one ∷ others) rest are some each = absurd are
batch_named ids batch stream (first ∷ more) (one ∷ others) rest are some each = at (cases_Bool (queue.is_in_batch batch one)) (batch_named ids batch stream more others rest are.1)
  where
    at : (queue.is_in_batch batch one ≡ true) ⊎ (queue.is_in_batch batch one ≡ false) → (list_any (queue.is_in_batch batch) others ≡ true → AllByRecursion (λ it. queue.is_in_batch batch it ≡ true → it.stream ≡ stream) others → IsNamed ids stream) → IsNamed ids stream
    at (inl within) deeper = record { id = first.entry.content.id; named = ap (slice_get ids) (sym (each.0 within)) ∙ are.0.named }
    at (inr other) deeper = deeper (rw other at some) each.1

pub record LeadsBack (number : ℕ) (catalog : List ConfStream) (new : BookView) (m : Machine) : Type 0 where
  pub steps : List Step
  pub once : IsGiveBackRun number steps
  pub all : AllByRecursion IsTakingBack steps
  pub leads : IsWhole new (run catalog steps m)

pub give_back_leads : (book : BookView) (m : Machine) (batch : ℕ) → AreDistinct (ids book) → list_any (queue.is_in_batch batch) book.queue.held ≡ true → IsWhole book m → LeadsBack batch book.catalog (record book { queue = record (book.queue) { held = queue.move (queue.is_in_batch batch) queue.Sealed book.queue.held } }) m
give_back_leads book m batch distinct some w =
    let same = w.holds.alike batch in
    let stream = same.stream in
    let named = batch_named (ids book) batch stream (still m.placed) book.queue.held (option_to_list book.queue.parked) w.holds.held some same.all in
    let id = named.id in
    let u = of_batch batch stream in
    let placed = move (is_in_batch id batch) Sealed m.placed in
    let moves : MovesTo IsTakingBack book.catalog m placed = record { steps = TakeBack id batch ∷ []; all = (tt, tt); is = refl } in
    let moved = move_front u queue.Sealed book.queue.held (option_to_list book.queue.parked) (parked_apart batch stream book.queue.parked w.holds.parked) ∙ ap (λ list. list ++ option_to_list book.queue.parked) (held_move_as u (queue.is_in_batch batch) queue.Sealed book.queue.held (of_one batch stream book.queue.held same.all)) in
    record {
      steps = TakeBack id batch ∷ [];
      once = refl;
      all = (tt, tt);
      leads = whole_requeued IsTakingBack book m (record (book.queue) { held = queue.move (queue.is_in_batch batch) queue.Sealed book.queue.held }) placed w moves (record {
        long = length-move (is_in_batch id batch) Sealed m.placed;
        accepted = ap (map accepted_of) (sym moved) ∙ accepted_move u queue.Sealed (all_of book.queue);
        held = subst (AreHeld (ids book) (still placed)) moved (move_held (ids book) (is_in_batch id batch) u queue.Sealed (batch_done id batch) (λ one held is. held_in_batch (ids book) batch stream id one held distinct named.named is) m.placed (all_of book.queue) w.holds.held);
        streams = refl;
        next = refl;
        room = let long = length_move (queue.is_in_batch batch) queue.Sealed book.queue.held in let few = w.holds.room in omega (arith, long, few);
        slots = refl;
        bytes = refl;
        batch = refl;
        fresh = all_move (λ one. number_below book.queue.next_batch one.place ≡ true) (queue.is_in_batch batch) queue.Sealed book.queue.held (put_fresh book.queue.next_batch) w.holds.fresh;
        parked = w.holds.parked;
        alike = λ n. alike_move n (queue.is_in_batch batch) book.queue.held (w.holds.alike n);
      });
    }
