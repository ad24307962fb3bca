-- What is so of every queue, as contracts see it.
use Rattle.std.proofs.Common.{arith, ◌≡◌, ℕ, ◌+◌, ◌<◌, ◌≤◌, ◌==◌, List, [], ◌∷◌, ◌++◌, map, length, true, false, nat_lt, refl, sym, ◌∙◌, ap, subst, inl, inr, ◌⊎◌, Option, None, Some, IfSome, option_to_list}
use Rattle.std.specs.List.{AllByRecursion, list_any}
use Rattle.std.proofs.lemmas.Bool.{cases_Bool, false≢true}
use Rattle.std.proofs.lemmas.List.{append-nil, length-map}
use Rattle.std.proofs.lemmas.List.Sums.{sum_by-cons}
use Rattle.buffer_pool.specs.declared.slot.Slot.{Slot}
use Rattle.buffer_pool.specs.Content.{PoolView, RiseFrom, is_in_chain}
use Rattle.buffer_pool.specs.Content.{bytes_of as bytes_of_slots}
use Rattle.book_queue.specs.declared.lane.Lane.{Lane}
use Rattle.book_queue.specs.declared.batch.Batch.{Batch}
use Rattle.book_queue.specs.declared.batch.Parked.{Parked}
use Rattle.book_queue.specs.Content.{Held, Queued, bytes_of, is_in_batch, IsBatchOf, IsOfOneStream, IsQueue, number_below, RiseBetween}
use Rattle.book_queue.specs.Views.{AreKept, BatchFits, ChainFits, IsKept, MayCome, SlotFits, held_of, lane_at, next_of, parked_of, place_at, view_of}
use Rattle.book_queue.proofs.Lists.{all_as, all_both, all_map, all_middle, all_push, any_as, any_map, count_any}
use Rattle.book_queue.proofs.Kept.{seqs_below, slots_of}
use Rattle.book_queue.proofs.Numbers.{number_all, true_same}
use Rattle.book_queue.proofs.Places.{in_batch, in_no_batch}

-- the fields of what is seen, by the records
pub seen_as : (pool : PoolView) (lanes : List Lane) (out : List Batch) (parked : Option Parked) (batch next_batch : ℕ) (held : List Held) → map (held_of lanes out) pool.held ≡ held → view_of pool lanes out parked batch next_batch ≡ record { held = held; parked = parked_of parked; streams = pool.streams; slots = pool.slots; bytes = pool.bytes; batch = batch; next = next_of pool.next parked; next_batch = next_batch }
seen_as pool lanes out parked batch next_batch held same = ap (λ records. record { held = records; parked = parked_of parked; streams = pool.streams; slots = pool.slots; bytes = pool.bytes; batch = batch; next = next_of pool.next parked; next_batch = next_batch }) same

-- Batches

-- a batch with this number stands among these
pub record StandsAmong (number : ℕ) (out : List Batch) : Type 0 where
  pub front : List Batch
  pub rest : List Batch
  pub batch : Batch
  pub splits : out ≡ front ++ batch ∷ rest
  pub numbered : batch.number ≡ number

pub any_splits : (number : ℕ) (out : List Batch) → list_any (λ batch. batch.number == number) out ≡ true → StandsAmong number out
any_splits number [] is = absurd (false≢true is)
any_splits number (batch ∷ more) is = at (cases_Bool (batch.number == number)) (any_splits number more)
  where
    at : ((batch.number == number) ≡ true) ⊎ ((batch.number == number) ≡ false) → (list_any (λ one. one.number == number) more ≡ true → StandsAmong number more) → StandsAmong number (batch ∷ more)
    at (inl own) deeper = record { front = []; rest = more; batch = batch; splits = refl; numbered = true_same batch.number number own }
    at (inr other) deeper = let found = deeper (rw other at is) in record { front = batch ∷ found.front; rest = found.rest; batch = found.batch; splits = ap (λ out. batch ∷ out) found.splits; numbered = found.numbered }

pub of_batch : (held : List Slot) (streams next : ℕ) (lanes : List Lane) (front rest : List Batch) (batch : Batch) (next_batch : ℕ) → AreKept held streams next lanes (front ++ batch ∷ rest) next_batch → IsBatchOf batch.stream batch.number (map (held_of lanes (front ++ batch ∷ rest)) held)
of_batch held streams next lanes front rest batch next_batch kept =
    let inside = in_batch held streams next lanes front rest batch next_batch kept
    in let mine = all_middle (BatchFits held streams next next_batch) front rest batch kept.batches_fit
    in record {
      some = any_map (is_in_batch batch.number) (held_of lanes (front ++ batch ∷ rest)) held ∙ (any_as (λ slot. is_in_batch batch.number (held_of lanes (front ++ batch ∷ rest) slot)) (is_in_chain batch.chain) held inside ∙ count_any (is_in_chain batch.chain) held (let some = mine.some in let counted = mine.count_is in omega (arith, some, counted)));
      all = all_map (λ one. is_in_batch batch.number one ≡ true → one.stream ≡ batch.stream) (held_of lanes (front ++ batch ∷ rest)) held
          (all_both (λ slot. is_in_batch batch.number (held_of lanes (front ++ batch ∷ rest) slot) ≡ is_in_chain batch.chain slot) (λ slot. is_in_chain batch.chain slot ≡ true → (slot.stream ≡ batch.stream) × (slot.seq < (lane_at lanes batch.stream).behind)) (λ slot. is_in_batch batch.number (held_of lanes (front ++ batch ∷ rest) slot) ≡ true → slot.stream ≡ batch.stream) held
          (λ slot same own is. (own (sym same ∙ is)).0) inside (slots_of held streams next lanes front rest batch next_batch kept));
    }

-- the same, where the batch stands among those that are handed out
pub batch_stands : (held : List Slot) (streams next : ℕ) (lanes : List Lane) (out : List Batch) (next_batch number : ℕ) → AreKept held streams next lanes out next_batch → (found : StandsAmong number out) → IsBatchOf found.batch.stream number (map (held_of lanes out) held)
batch_stands held streams next lanes out next_batch number kept found = subst (λ batches. IsBatchOf found.batch.stream number (map (held_of lanes batches) held)) (sym found.splits) (subst (λ own. IsBatchOf found.batch.stream own (map (held_of lanes (found.front ++ found.batch ∷ found.rest)) held)) found.numbered (of_batch held streams next lanes found.front found.rest found.batch next_batch (subst (λ batches. AreKept held streams next lanes batches next_batch) found.splits kept)))

of_one_stream : (held : List Slot) (streams next : ℕ) (lanes : List Lane) (out : List Batch) (next_batch number : ℕ) → AreKept held streams next lanes out next_batch → IsOfOneStream number (map (held_of lanes out) held)
of_one_stream held streams next lanes out next_batch number kept = at (cases_Bool (list_any (λ batch. batch.number == number) out))
  where
    at : (list_any (λ batch. batch.number == number) out ≡ true) ⊎ (list_any (λ batch. batch.number == number) out ≡ false) → IsOfOneStream number (map (held_of lanes out) held)
    at (inl is) = let found = any_splits number out is in record { stream = found.batch.stream; all = (batch_stands held streams next lanes out next_batch number kept found).all }
    at (inr none) = record { stream = 0; all = all_map (λ one. is_in_batch number one ≡ true → one.stream ≡ 0) (held_of lanes out) held (all_as (λ slot. is_in_batch number (held_of lanes out slot) ≡ false) (λ slot. is_in_batch number (held_of lanes out slot) ≡ true → slot.stream ≡ 0) held (λ slot out_of is. absurd (false≢true (sym out_of ∙ is))) (in_no_batch held streams next lanes out next_batch number kept none)) }

number_fresh : (behind : ℕ) (out : List Batch) (next_batch stream seq : ℕ) (chain : Option ℕ) → AllByRecursion (λ batch. batch.number < next_batch) out → ChainFits behind out stream seq chain → number_below next_batch (place_at behind out seq chain) ≡ true
number_fresh behind out next_batch stream seq None below fits = at (cases_Bool (nat_lt seq behind))
  where
    at : (nat_lt seq behind ≡ true) ⊎ (nat_lt seq behind ≡ false) → number_below next_batch (place_at behind out seq None) ≡ true
    at (inl is) = rw is refl
    at (inr is) = rw is refl
number_fresh behind out next_batch stream seq (Some chain) below fits = number_all (λ number. nat_lt number next_batch ≡ true) out chain fits.1 (all_as (λ batch. batch.number < next_batch) (λ batch. batch.chain ≡ chain → nat_lt batch.number next_batch ≡ true) out (λ batch less is. grind (arith, less)) below)

-- Order

rise_held : (lanes : List Lane) (out : List Batch) (low high : ℕ) (held : List Slot) → RiseFrom low held → AllByRecursion (λ slot. slot.seq < high) held → low ≤ high → RiseBetween low high (map (held_of lanes out) held)
rise_held lanes out low high [] rise below above = above
rise_held lanes out low high (slot ∷ more) rise below above = (rise.0, rise_held lanes out (slot.seq + 1) high more rise.1 below.1 (let less = below.0 in omega (arith, less)))

rise_push : (low high seq : ℕ) (held : List Held) (one : Held) → RiseBetween low high held → high ≤ seq → one.seq ≡ seq → RiseBetween low (seq + 1) (held ++ one ∷ [])
rise_push low high seq [] one rise above same = (omega (arith, rise, above, same), omega (arith, same))
rise_push low high seq (other ∷ more) one rise above same = (rise.0, rise_push (other.seq + 1) high seq more one rise.1 above same)

rise_all : (low streams high : ℕ) (held : List Held) (parked : Option Parked) → RiseBetween low high held → MayCome streams high parked → RiseBetween low (next_of high parked) (held ++ option_to_list (parked_of parked))
rise_all low streams high held None rise may = rw (append-nil held) rise
rise_all low streams high held (Some parked) rise may = rise_push low high parked.seq held (record { seq = parked.seq; stream = parked.stream; line = parked.line; place = Queued }) rise may.1 refl

streams_all : (streams high : ℕ) (held : List Held) (parked : Option Parked) → AllByRecursion (λ one. one.stream < streams) held → MayCome streams high parked → AllByRecursion (λ one. one.stream < streams) (held ++ option_to_list (parked_of parked))
streams_all streams high held None all may = rw (append-nil held) all
streams_all streams high held (Some parked) all may = all_push (λ one. one.stream < streams) held (record { seq = parked.seq; stream = parked.stream; line = parked.line; place = Queued }) all may.0

parked_queued : (parked : Option Parked) → IfSome (parked_of parked) (λ one. one.place ≡ Queued)
parked_queued None = tt
parked_queued (Some parked) = refl

pub bytes_same : (lanes : List Lane) (out : List Batch) (held : List Slot) → bytes_of (map (held_of lanes out) held) ≡ bytes_of_slots held
bytes_same lanes out [] = refl
bytes_same lanes out (slot ∷ more) = sum_by-cons (λ one. length one.line) (held_of lanes out slot) (map (held_of lanes out) more) ∙ (ap (λ sum. length slot.line + sum) (bytes_same lanes out more) ∙ sym (sum_by-cons (λ one. length one.line) slot more))

pub stands_so : (pool : PoolView) (lanes : List Lane) (out : List Batch) (parked : Option Parked) (batch next_batch : ℕ) → IsKept pool lanes out parked batch next_batch → RiseFrom 0 pool.held → length pool.held ≤ pool.slots → bytes_of_slots pool.held ≤ pool.bytes → IsQueue (view_of pool lanes out parked batch next_batch)
stands_so pool lanes out parked batch next_batch kept rise few small = record {
  rise = rise_all 0 pool.streams pool.next (map (held_of lanes out) pool.held) parked (rise_held lanes out 0 pool.next pool.held rise (seqs_below lanes out pool.next pool.held kept.are.slots_fit) (omega arith)) kept.may_come;
  of_streams = streams_all pool.streams pool.next (map (held_of lanes out) pool.held) parked (all_map (λ one. one.stream < pool.streams) (held_of lanes out) pool.held (all_as (SlotFits lanes out pool.next) (λ slot. slot.stream < pool.streams) pool.held (λ slot fits. let less = fits.within in let long = kept.are.long in omega (arith, less, long)) kept.are.slots_fit)) kept.may_come;
  few = let long = length-map pool.held (held_of lanes out) in omega (arith, long, few);
  small = let same = bytes_same lanes out pool.held in omega (arith, same, small);
  batch_some = kept.some;
  parked_is = parked_queued parked;
  fresh = all_map (λ one. number_below next_batch one.place ≡ true) (held_of lanes out) pool.held (all_as (SlotFits lanes out pool.next) (λ slot. number_below next_batch (held_of lanes out slot).place ≡ true) pool.held (λ slot fits. number_fresh (lane_at lanes slot.stream).behind out next_batch slot.stream slot.seq slot.chain (all_as (BatchFits pool.held pool.streams pool.next next_batch) (λ one. one.number < next_batch) out (λ one is. is.numbered) kept.are.batches_fit) fits.chained) kept.are.slots_fit);
  alike = λ number. of_one_stream pool.held pool.streams pool.next lanes out next_batch number kept.are;
}
