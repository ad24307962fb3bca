-- Records that come, and queues that are sealed for them, as contracts see it.
use Rattle.std.proofs.Common.{arith, ◌≡◌, ℕ, ◌+◌, ◌-◌, ◌<◌, ◌≤◌, ◌^◌, List, [], ◌∷◌, ◌++◌, map, length, true, false, nat_lt, refl, sym, ◌∙◌, ap, subst, inl, inr, ◌⊎◌, Option, None, Some, unwrap_or, slice_index_or, slice_set}
use Rattle.std.specs.List.{AllByRecursion}
use Rattle.std.proofs.lemmas.Bool.{cases_Bool}
use Rattle.std.proofs.lemmas.Option.{none-some}
use Rattle.buffer_pool.specs.declared.slot.Slot.{Slot}
use Rattle.buffer_pool.specs.Content.{PoolView}
use Rattle.buffer_pool.specs.Content.{is_queued as is_queued_free, is_queued_of as is_queued_slot, queued as queued_slot, oldest_of as oldest_slot}
use Rattle.book_queue.specs.declared.lane.Lane.{Lane}
use Rattle.book_queue.specs.declared.batch.Batch.{Batch}
use Rattle.book_queue.specs.declared.batch.Parked.{Parked}
use Rattle.book_queue.specs.Content.{Held, count_of, queued, sealed_for, sealed_full, sealed_oldest, sealed_whole}
use Rattle.book_queue.specs.Views.{IsKept, SlotFits, changed, grown, held_of, lane_at, next_of, parked_of, view_of}
use Rattle.book_queue.proofs.Lists.{count_within}
use Rattle.book_queue.proofs.Lanes.{behind_same}
use Rattle.book_queue.proofs.Kept.{pushed_kept}
use Rattle.book_queue.proofs.Places.{count_queued, oldest_is, pushed_view}
use Rattle.book_queue.proofs.Handing.{lane_found}

-- A full queue

pub queue_count : (pool : PoolView) (lanes : List Lane) (out : List Batch) (parked : Option Parked) (batch next_batch stream : ℕ) (lane : Lane) → IsKept pool lanes out parked batch next_batch → stream < pool.streams → lane ≡ slice_index_or lanes stream lane → lane.queued ≡ count_of stream (map (held_of lanes out) pool.held)
queue_count pool lanes out parked batch next_batch stream lane kept below is =
    let within : stream < length lanes = let long = kept.are.long in omega (arith, below, long)
    in ap (λ one. one.queued) (lane_found lanes stream lane within is) ∙ ((kept.are.lanes_fit stream below).queued_is ∙ sym (count_queued lanes out stream pool.held))

pub full_sealed : (batch stream : ℕ) (held : List Held) → batch ≤ count_of stream held → sealed_whole stream held ≡ sealed_full batch stream held
full_sealed batch stream held full = let misses : nat_lt (count_of stream held) batch ≡ false = grind (arith, full) in rw misses refl

pub full_left : (batch stream : ℕ) (held : List Held) → count_of stream held < batch → held ≡ sealed_full batch stream held
full_left batch stream held few = let is : nat_lt (count_of stream held) batch ≡ true = grind (arith, few) in rw is refl

-- The oldest queue

pub oldest_below : (lanes : List Lane) (out : List Batch) (next stream : ℕ) (held : List Slot) → AllByRecursion (SlotFits lanes out next) held → Some stream ≡ oldest_slot held → stream < length lanes
oldest_below lanes out next stream [] fits is = absurd (none-some stream (sym is))
oldest_below lanes out next stream (slot ∷ more) fits is = at (cases_Bool (is_queued_free slot)) (oldest_below lanes out next stream more fits.1)
  where
    at : (is_queued_free slot ≡ true) ⊎ (is_queued_free slot ≡ false) → (Some stream ≡ oldest_slot more → stream < length lanes) → stream < length lanes
    at (inl free) deeper = let same : stream ≡ slot.stream = ap (λ one. unwrap_or one 0) (rw free at is) in let within = fits.0.within in omega (arith, same, within)
    at (inr misses) deeper = deeper (rw misses at is)

pub oldest_sealed_is : (lanes : List Lane) (out : List Batch) (stream : Option ℕ) (held : List Slot) → stream ≡ oldest_slot held → sealed_for stream (map (held_of lanes out) held) ≡ sealed_oldest (map (held_of lanes out) held)
oldest_sealed_is lanes out stream held is = ap (λ one. sealed_for one (map (held_of lanes out) held)) (is ∙ sym (oldest_is lanes out held))

-- A record that finds room

pub none_parked : (parked : Option Parked) → parked_of parked ≡ None → parked ≡ None
none_parked None is = refl
none_parked (Some parked) is = absurd (none-some _ (sym is))

pub grow_room : (pool : PoolView) (lanes : List Lane) (out : List Batch) (parked : Option Parked) (batch next_batch stream : ℕ) → IsKept pool lanes out parked batch next_batch → stream < pool.streams → length pool.held < pool.slots → (lane_at lanes stream).queued < 2 ^ 32 - 1
grow_room pool lanes out parked batch next_batch stream kept below free =
    let queued_is = (kept.are.lanes_fit stream below).queued_is
    in let few = count_within (is_queued_slot stream) pool.held
    in let slots = kept.counted
    in omega (arith, queued_is, few, free, slots)

pub record ComesIn (pool after : PoolView) (lanes others : List Lane) (out : List Batch) (parked : Option Parked) (batch next_batch stream seq : ℕ) (line : List ℕ) : Type 0 where
  pub kept : IsKept after others out parked batch next_batch
  pub seen : view_of after others out parked batch next_batch ≡ record (view_of pool lanes out parked batch next_batch) { held = map (held_of lanes out) pool.held ++ queued seq stream line ∷ []; next = seq + 1 }

comes_canon : (pool : PoolView) (lanes : List Lane) (out : List Batch) (batch next_batch stream seq : ℕ) (line : List ℕ) → IsKept pool lanes out None batch next_batch → stream < pool.streams → pool.next ≤ seq → ComesIn pool (record pool { held = pool.held ++ queued_slot stream seq line ∷ []; next = seq + 1 }) lanes (changed stream (grown seq) lanes) out None batch next_batch stream seq line
comes_canon pool lanes out batch next_batch stream seq line kept below above =
    let within : stream < length lanes = let long = kept.are.long in omega (arith, below, long)
    in let lane : Lane = grown seq (lane_at lanes stream)
    in let bound = (kept.are.lanes_fit stream below).below
    in record {
      kept = record { are = pushed_kept pool.held pool.streams pool.next lanes out next_batch stream seq line kept.are below above; may_come = tt; some = kept.some; counted = kept.counted };
      seen = ap (λ held. record (view_of pool lanes out None batch next_batch) { held = held; next = seq + 1 }) (pushed_view lanes (slice_set lanes stream lane) out stream seq line pool.held (behind_same lanes stream lane within refl) (omega (arith, bound, above)));
    }

pub comes_in : (pool after : PoolView) (lanes others : List Lane) (out : List Batch) (parked : Option Parked) (batch next_batch stream seq : ℕ) (line : List ℕ) → IsKept pool lanes out parked batch next_batch → parked_of parked ≡ None → stream < pool.streams → next_of pool.next parked ≤ seq → after ≡ record pool { held = pool.held ++ queued_slot stream seq line ∷ []; next = seq + 1 } → others ≡ changed stream (grown seq) lanes → ComesIn pool after lanes others out parked batch next_batch stream seq line
comes_in pool after lanes others out parked batch next_batch stream seq line kept none below above after_is others_is =
    let parked_is = none_parked parked none
    in subst (λ a. ComesIn pool a lanes others out parked batch next_batch stream seq line) (sym after_is)
    (subst (λ ones. ComesIn pool (record pool { held = pool.held ++ queued_slot stream seq line ∷ []; next = seq + 1 }) lanes ones out parked batch next_batch stream seq line) (sym others_is)
    (subst (λ one. ComesIn pool (record pool { held = pool.held ++ queued_slot stream seq line ∷ []; next = seq + 1 }) lanes (changed stream (grown seq) lanes) out one batch next_batch stream seq line) (sym parked_is)
    (comes_canon pool lanes out batch next_batch stream seq line (subst (λ one. IsKept pool lanes out one batch next_batch) parked_is kept) below (subst (λ one. next_of pool.next one ≤ seq) parked_is above))))
