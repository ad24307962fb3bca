-- What a queue keeps, through each change.
use Rattle.std.proofs.Common.{arith, ◌≡◌, ◌≢◌, ℕ, ◌+◌, ◌<◌, ◌≤◌, ◌==◌, List, [], ◌∷◌, ◌++◌, map, filter, length, Bool, true, false, not, ◌&&◌, nat_lt, refl, sym, ◌∙◌, ap, subst, inl, inr, ◌⊎◌, Option, None, Some, unwrap_or, slice_set}
use Rattle.std.specs.List.{AllByRecursion}
use Rattle.std.proofs.lemmas.Bool.{cases_Bool, cases_eq, false≢true}
use Rattle.std.proofs.lemmas.List.{length-set, length-map}
use Rattle.std.proofs.lemmas.Option.{none-some}
use Rattle.buffer_pool.specs.declared.slot.Slot.{Slot}
use Rattle.buffer_pool.specs.Content.{RiseFrom, first_of, in_chain, is_in_chain, is_of_chain, released, with_chain, with_restored, without_chain}
use Rattle.buffer_pool.specs.Content.{is_queued_of as is_queued_slot, queued as queued_slot}
use Rattle.book_queue.specs.declared.lane.Lane.{Lane}
use Rattle.book_queue.specs.declared.batch.Batch.{Batch}
use Rattle.book_queue.specs.Views.{AreKept, BatchFits, ChainFits, LaneFits, SlotFits, changed, count_if, grown, is_sealed_below, lane_at, refilled, sealed_to, shrunk}
use Rattle.book_queue.proofs.Lists.{all_as, all_both, all_filter, all_middle, all_push, all_without, any_front, any_middle, any_without, none_any, count_filter, count_length, count_push}
use Rattle.book_queue.proofs.Lanes.{SameBehind, behind_same, lane_other, lane_same, lane_sealed, lanes_after}
use Rattle.book_queue.proofs.Numbers.{apart_false, apart_without, false_apart, others_apart, push_apart, same_true}
use Rattle.book_queue.proofs.Slots.{chain_all, chain_count, chain_counts, chain_others, chain_own, chain_queues, first_has, freed_queues, queue_in, queued_of_chain, queued_of_stream, restored_all, restored_counts, restored_in, restored_others, restored_out, restored_queues}

-- A lane whose queue is as it was

count_and : (t u : Slot → Bool) (held : List Slot) → count_if (λ slot. t slot && u slot) held ≡ count_if u (filter t held)
count_and t u [] = refl
count_and t u (slot ∷ more) = at (cases_Bool (t slot)) (count_and t u more)
  where
    at : (t slot ≡ true) ⊎ (t slot ≡ false) → count_if (λ one. t one && u one) more ≡ count_if u (filter t more) → count_if (λ one. t one && u one) (slot ∷ more) ≡ count_if u (filter t (slot ∷ more))
    at (inl is) rest = rw is (rw rest refl)
    at (inr is) rest = rw is (omega (arith, rest))

abbrev head_seq : List Slot → Option ℕ
head_seq [] = None
head_seq (slot ∷ more) = Some slot.seq

first_queue : (stream : ℕ) (held : List Slot) → first_of stream held ≡ head_seq (queue_in stream held)
first_queue stream [] = refl
first_queue stream (slot ∷ more) = at (cases_Bool (is_queued_slot stream slot)) (first_queue stream more)
  where
    at : (is_queued_slot stream slot ≡ true) ⊎ (is_queued_slot stream slot ≡ false) → first_of stream more ≡ head_seq (queue_in stream more) → first_of stream (slot ∷ more) ≡ head_seq (queue_in stream (slot ∷ more))
    at (inl is) rest = rw is refl
    at (inr is) rest = rw is rest

pub lane_kept : (held others : List Slot) (next later stream : ℕ) (lane : Lane) → queue_in stream others ≡ queue_in stream held → next ≤ later → LaneFits held next stream lane → LaneFits others later stream lane
lane_kept held others next later stream lane same above fits = record {
  queued_is = fits.queued_is ∙ (sym (count_length (is_queued_slot stream) held) ∙ (ap length (sym same) ∙ count_length (is_queued_slot stream) others));
  sealed_is = fits.sealed_is ∙ (count_and (is_queued_slot stream) (λ slot. nat_lt slot.seq lane.behind) held ∙ (ap (count_if (λ slot. nat_lt slot.seq lane.behind)) (sym same) ∙ sym (count_and (is_queued_slot stream) (λ slot. nat_lt slot.seq lane.behind) others)));
  front_is = fits.front_is ∙ (first_queue stream held ∙ (ap head_seq (sym same) ∙ sym (first_queue stream others)));
  below = omega (arith, fits.below, above);
}

-- A record whose lane is sealed as far or further

chain_higher : (behind later : ℕ) (out : List Batch) (stream seq : ℕ) (chain : Option ℕ) → behind ≤ later → ChainFits behind out stream seq chain → ChainFits later out stream seq chain
chain_higher behind later out stream seq None above fits = tt
chain_higher behind later out stream seq (Some chain) above fits = (omega (arith, fits.0, above), fits.1, fits.2)

pub slot_kept : (lanes others : List Lane) (out : List Batch) (next later : ℕ) (slot : Slot) → (lane_at lanes slot.stream).behind ≤ (lane_at others slot.stream).behind → length others ≡ length lanes → next ≤ later → SlotFits lanes out next slot → SlotFits others out later slot
slot_kept lanes others out next later slot higher long above fits = record {
  within = omega (arith, fits.within, long);
  below = omega (arith, fits.below, above);
  chained = chain_higher (lane_at lanes slot.stream).behind (lane_at others slot.stream).behind out slot.stream slot.seq slot.chain higher fits.chained;
  named = fits.named;
}

-- A record is pushed

push_queues : (stream other seq : ℕ) (line : List ℕ) (held : List Slot) → other ≢ stream → queue_in other (held ++ queued_slot stream seq line ∷ []) ≡ queue_in other held
push_queues stream other seq line [] differ = let misses : (stream == other) ≡ false = grind (arith, differ) in rw misses refl
push_queues stream other seq line (slot ∷ more) differ = at (cases_Bool (is_queued_slot other slot)) (push_queues stream other seq line more differ)
  where
    at : (is_queued_slot other slot ≡ true) ⊎ (is_queued_slot other slot ≡ false) → queue_in other (more ++ queued_slot stream seq line ∷ []) ≡ queue_in other more → queue_in other (slot ∷ more ++ queued_slot stream seq line ∷ []) ≡ queue_in other (slot ∷ more)
    at (inl is) rest = rw is (ap (λ slots. slot ∷ slots) rest)
    at (inr is) rest = rw is rest

first_push : (stream seq : ℕ) (line : List ℕ) (held : List Slot) → Some (unwrap_or (first_of stream held) seq) ≡ first_of stream (held ++ queued_slot stream seq line ∷ [])
first_push stream seq line [] = let own : (stream == stream) ≡ true = grind arith in rw own refl
first_push stream seq line (slot ∷ more) = at (cases_Bool (is_queued_slot stream slot)) (first_push stream seq line more)
  where
    at : (is_queued_slot stream slot ≡ true) ⊎ (is_queued_slot stream slot ≡ false) → Some (unwrap_or (first_of stream more) seq) ≡ first_of stream (more ++ queued_slot stream seq line ∷ []) → Some (unwrap_or (first_of stream (slot ∷ more)) seq) ≡ first_of stream (slot ∷ more ++ queued_slot stream seq line ∷ [])
    at (inl is) rest = rw is refl
    at (inr is) rest = rw is rest

grown_fits : (held : List Slot) (next stream seq : ℕ) (line : List ℕ) (lane : Lane) → next ≤ seq → LaneFits held next stream lane → LaneFits (held ++ queued_slot stream seq line ∷ []) (seq + 1) stream (grown seq lane)
grown_fits held next stream seq line lane above fits =
    let own : (stream == stream) ≡ true = grind arith
    in let not_below : nat_lt seq lane.behind ≡ false = grind (arith, above, fits.below)
    in record {
      queued_is = let more = count_push (is_queued_slot stream) held (queued_slot stream seq line) in let counted = rw own at more in omega (arith, counted, fits.queued_is);
      sealed_is = let more = count_push (is_sealed_below lane.behind stream) held (queued_slot stream seq line) in let counted = rw not_below at (rw own at more) in omega (arith, counted, fits.sealed_is);
      front_is = ap (λ front. Some (unwrap_or front seq)) fits.front_is ∙ first_push stream seq line held;
      below = omega (arith, fits.below, above);
    }

pub pushed_kept : (held : List Slot) (streams next : ℕ) (lanes : List Lane) (out : List Batch) (next_batch stream seq : ℕ) (line : List ℕ) → AreKept held streams next lanes out next_batch → stream < streams → next ≤ seq → AreKept (held ++ queued_slot stream seq line ∷ []) streams (seq + 1) (changed stream (grown seq) lanes) out next_batch
pushed_kept held streams next lanes out next_batch stream seq line kept below above =
    let within : stream < length lanes = omega (arith, kept.long, below)
    in let lane : Lane = grown seq (lane_at lanes stream)
    in let others : List Lane = slice_set lanes stream lane
    in let long : length others ≡ length lanes = length-set lanes stream lane
    in let same : SameBehind lanes others = behind_same lanes stream lane within refl
    in record {
      long = long ∙ kept.long;
      slots_fit = all_push (SlotFits others out (seq + 1)) held (queued_slot stream seq line)
          (all_as (SlotFits lanes out next) (SlotFits others out (seq + 1)) held (λ slot fits. slot_kept lanes others out next (seq + 1) slot (let is = same slot.stream in omega (arith, is)) long (omega (arith, above)) fits) kept.slots_fit)
          (record {
            within = omega (arith, long, within);
            below = omega arith;
            chained = tt;
            named = all_as (BatchFits held streams next next_batch) (λ batch. batch.chain ≡ seq → None ≡ Some batch.chain) out (λ batch fits is. absurd (omega (arith, fits.chain_below, above, is))) kept.batches_fit;
          });
      lanes_fit = λ other low. lanes_after (LaneFits held next) (LaneFits (held ++ queued_slot stream seq line ∷ []) (seq + 1)) lanes stream lane within (λ one less. kept.lanes_fit one (omega (arith, less, kept.long)))
          (λ one differ fits. lane_kept held (held ++ queued_slot stream seq line ∷ []) next (seq + 1) one (lane_at lanes one) (push_queues stream one seq line held differ) (omega (arith, above)) fits)
          (grown_fits held next stream seq line (lane_at lanes stream) above (kept.lanes_fit stream below)) other (omega (arith, low, kept.long));
      batches_fit = all_as (BatchFits held streams next next_batch) (BatchFits (held ++ queued_slot stream seq line ∷ []) streams (seq + 1) next_batch) out
          (λ batch fits. record {
            of_stream = fits.of_stream;
            numbered = fits.numbered;
            chain_below = omega (arith, fits.chain_below, above);
            count_is = let more = count_push (is_in_chain batch.chain) held (queued_slot stream seq line) in omega (arith, more, fits.count_is);
            some = fits.some;
          }) kept.batches_fit;
      apart = kept.apart;
    }

-- A queue is sealed

all_below : (next stream : ℕ) (held : List Slot) → AllByRecursion (λ slot. slot.seq < next) held → count_if (is_queued_slot stream) held ≡ count_if (is_sealed_below next stream) held
all_below next stream [] all = refl
all_below next stream (slot ∷ more) all =
    let is : nat_lt slot.seq next ≡ true = let less = all.0 in grind (arith, less)
    in let same : is_queued_slot stream slot ≡ is_sealed_below next stream slot = rw is (and_true (is_queued_slot stream slot))
    in rw (sym same) (rw (all_below next stream more all.1) refl)
  where
    and_true : (b : Bool) → b ≡ b && true
    and_true true = refl
    and_true false = refl

pub seqs_below : (lanes : List Lane) (out : List Batch) (next : ℕ) (held : List Slot) → AllByRecursion (SlotFits lanes out next) held → AllByRecursion (λ slot. slot.seq < next) held
seqs_below lanes out next held all = all_as (SlotFits lanes out next) (λ slot. slot.seq < next) held (λ slot fits. fits.below) all

sealed_fits : (held : List Slot) (next stream : ℕ) (lane : Lane) → AllByRecursion (λ slot. slot.seq < next) held → LaneFits held next stream lane → LaneFits held next stream (sealed_to next lane)
sealed_fits held next stream lane all fits = record {
  queued_is = fits.queued_is;
  sealed_is = fits.queued_is ∙ all_below next stream held all;
  front_is = fits.front_is;
  below = omega arith;
}

higher_by : (lanes : List Lane) (stream other next : ℕ) → stream < length lanes → (lane_at lanes stream).behind ≤ next → (lane_at lanes other).behind ≤ (lane_at (changed stream (sealed_to next) lanes) other).behind
higher_by lanes stream other next within above = at (cases_eq other stream)
  where
    at : (other ≡ stream) ⊎ (other ≡ stream → ⊥) → (lane_at lanes other).behind ≤ (lane_at (changed stream (sealed_to next) lanes) other).behind
    at (inl is) = let own = ap (λ lane. lane.behind) (lane_same lanes stream (sealed_to next (lane_at lanes stream)) within) in subst (λ number. (lane_at lanes number).behind ≤ (lane_at (changed stream (sealed_to next) lanes) number).behind) (sym is) (omega (arith, own, above))
    at (inr apart) = let same = ap (λ lane. lane.behind) (lane_other lanes stream other (sealed_to next (lane_at lanes stream)) apart) in omega (arith, same)

pub sealed_kept : (held : List Slot) (streams next : ℕ) (lanes : List Lane) (out : List Batch) (next_batch stream : ℕ) → AreKept held streams next lanes out next_batch → stream < streams → AreKept held streams next (changed stream (sealed_to next) lanes) out next_batch
sealed_kept held streams next lanes out next_batch stream kept below =
    let within : stream < length lanes = omega (arith, kept.long, below)
    in let lane : Lane = sealed_to next (lane_at lanes stream)
    in let long : length (slice_set lanes stream lane) ≡ length lanes = length-set lanes stream lane
    in let all = seqs_below lanes out next held kept.slots_fit
    in record {
      long = long ∙ kept.long;
      slots_fit = all_as (SlotFits lanes out next) (SlotFits (slice_set lanes stream lane) out next) held (λ slot fits. slot_kept lanes (slice_set lanes stream lane) out next next slot (higher_by lanes stream slot.stream next within (kept.lanes_fit stream below).below) long (omega arith) fits) kept.slots_fit;
      lanes_fit = λ other low. lanes_after (LaneFits held next) (LaneFits held next) lanes stream lane within (λ one less. kept.lanes_fit one (omega (arith, less, kept.long))) (λ one differ fits. fits) (sealed_fits held next stream (lane_at lanes stream) all (kept.lanes_fit stream below)) other (omega (arith, low, kept.long));
      batches_fit = kept.batches_fit;
      apart = kept.apart;
    }

pub all_sealed_kept : (held : List Slot) (streams next : ℕ) (lanes : List Lane) (out : List Batch) (next_batch : ℕ) → AreKept held streams next lanes out next_batch → AreKept held streams next (map (sealed_to next) lanes) out next_batch
all_sealed_kept held streams next lanes out next_batch kept =
    let long : length (map (sealed_to next) lanes) ≡ length lanes = length-map lanes (sealed_to next)
    in let all = seqs_below lanes out next held kept.slots_fit
    in record {
      long = long ∙ kept.long;
      slots_fit = all_as (SlotFits lanes out next) (SlotFits (map (sealed_to next) lanes) out next) held (λ slot fits. slot_kept lanes (map (sealed_to next) lanes) out next next slot (let is = ap (λ lane. lane.behind) (lane_sealed next lanes slot.stream fits.within) in let before = (kept.lanes_fit slot.stream (omega (arith, fits.within, kept.long))).below in omega (arith, is, before)) long (omega arith) fits) kept.slots_fit;
      lanes_fit = λ other low. subst (LaneFits held next other) (sym (lane_sealed next lanes other (omega (arith, low, kept.long)))) (sealed_fits held next other (lane_at lanes other) all (kept.lanes_fit other low));
      batches_fit = kept.batches_fit;
      apart = kept.apart;
    }

-- A batch is handed out

-- no batch has the chain that a queue's front names, and no record is in it
pub front_fresh : (held : List Slot) (streams next : ℕ) (lanes : List Lane) (out : List Batch) (next_batch stream front : ℕ) → AreKept held streams next lanes out next_batch → first_of stream held ≡ Some front → AllByRecursion (λ batch. batch.chain ≢ front) out
front_fresh held streams next lanes out next_batch stream front kept first =
    let found = first_has (SlotFits lanes out next) stream front held first kept.slots_fit
    in all_as (λ batch. batch.chain ≡ found.0.seq → found.0.chain ≡ Some batch.chain) (λ batch. batch.chain ≢ front) out (λ batch named is. none-some batch.chain (sym (queued_of_chain stream found.0 found.2) ∙ named (is ∙ sym found.1))) found.3.named

in_none : (chain : ℕ) (lanes : List Lane) (out : List Batch) (next : ℕ) (slot : Slot) → AllByRecursion (λ batch. batch.chain ≢ chain) out → SlotFits lanes out next slot → is_in_chain chain slot ≡ false
in_none chain lanes out next slot fresh fits = at (cases_Bool (is_in_chain chain slot))
  where
    at : (is_in_chain chain slot ≡ true) ⊎ (is_in_chain chain slot ≡ false) → is_in_chain chain slot ≡ false
    at (inl is) =
        let chained = subst (ChainFits (lane_at lanes slot.stream).behind out slot.stream slot.seq) (chain_own chain slot is) fits.chained
        in absurd (false≢true (sym (none_any (λ batch. batch.chain == chain) out (all_as (λ batch. batch.chain ≢ chain) (λ batch. (batch.chain == chain) ≡ false) out (λ batch differ. apart_false batch.chain chain differ) fresh)) ∙ chained.1))
    at (inr is) = is

pub front_apart : (held : List Slot) (streams next : ℕ) (lanes : List Lane) (out : List Batch) (next_batch stream front : ℕ) → AreKept held streams next lanes out next_batch → first_of stream held ≡ Some front → AllByRecursion (λ slot. is_in_chain front slot ≡ false) held
front_apart held streams next lanes out next_batch stream front kept first = all_as (SlotFits lanes out next) (λ slot. is_in_chain front slot ≡ false) held (λ slot fits. in_none front lanes out next slot (front_fresh held streams next lanes out next_batch stream front kept first) fits) kept.slots_fit

chain_push : (behind : ℕ) (out : List Batch) (batch : Batch) (stream seq : ℕ) (chain : Option ℕ) → AllByRecursion (λ other. other.chain ≢ batch.chain) out → ChainFits behind out stream seq chain → ChainFits behind (out ++ batch ∷ []) stream seq chain
chain_push behind out batch stream seq None fresh fits = tt
chain_push behind out batch stream seq (Some chain) fresh fits = (
  fits.0,
  any_front (λ other. other.chain == chain) out (batch ∷ []) fits.1,
  all_push (λ other. other.chain ≡ chain → other.stream ≡ stream) out batch fits.2 (λ is. absurd (false≢true (sym (none_any (λ other. other.chain == chain) out (all_as (λ other. other.chain ≢ batch.chain) (λ other. (other.chain == chain) ≡ false) out (λ other differ. apart_false other.chain chain (λ same. differ (same ∙ sym is))) fresh)) ∙ fits.1))),
)

pub handed_kept : (held : List Slot) (streams next : ℕ) (lanes : List Lane) (out : List Batch) (next_batch stream count front low : ℕ) → AreKept held streams next lanes out next_batch → RiseFrom low held → stream < streams → 1 ≤ count → count ≤ (lane_at lanes stream).sealed → first_of stream held ≡ Some front → AreKept (with_chain front stream count held) streams next (changed stream (shrunk count (first_of stream (with_chain front stream count held))) lanes) (out ++ record { number = next_batch; stream = stream; count = count; chain = front } ∷ []) (next_batch + 1)
handed_kept held streams next lanes out next_batch stream count front low kept rise below some few first =
    let within : stream < length lanes = omega (arith, kept.long, below)
    in let after : List Slot = with_chain front stream count held
    in let batch : Batch = record { number = next_batch; stream = stream; count = count; chain = front }
    in let lane : Lane = shrunk count (first_of stream after) (lane_at lanes stream)
    in let others : List Lane = slice_set lanes stream lane
    in let long : length others ≡ length lanes = length-set lanes stream lane
    in let same : SameBehind lanes others = behind_same lanes stream lane within refl
    in let own_fits = kept.lanes_fit stream below
    in let behind : ℕ = (lane_at lanes stream).behind
    in let fewer : count ≤ count_if (is_sealed_below behind stream) held = let is = own_fits.sealed_is in omega (arith, few, is)
    in let fresh = front_fresh held streams next lanes out next_batch stream front kept first
    in let apart = front_apart held streams next lanes out next_batch stream front kept first
    in let counts = chain_counts front stream behind low count held rise fewer
    in let front_below : front < next = let found = first_has (λ slot. slot.seq < next) stream front held first (seqs_below lanes out next held kept.slots_fit) in omega (arith, found.1, found.3)
    in let stay : (slot : Slot) → SlotFits lanes out next slot → slot.seq ≢ front → SlotFits others (out ++ batch ∷ []) next slot = λ slot fits differ. record {
      within = omega (arith, long, fits.within);
      below = fits.below;
      chained = chain_push (lane_at others slot.stream).behind out batch slot.stream slot.seq slot.chain fresh (subst (λ bound. ChainFits bound out slot.stream slot.seq slot.chain) (sym (same slot.stream)) fits.chained);
      named = all_push (λ other. other.chain ≡ slot.seq → slot.chain ≡ Some other.chain) out batch fits.named (λ is. absurd (differ (sym is)));
    }
    in let goes : (slot : Slot) → SlotFits lanes out next slot → is_queued_slot stream slot ≡ true → slot.seq < behind → SlotFits others (out ++ batch ∷ []) next (in_chain front slot) = λ slot fits queued less. record {
      within = omega (arith, long, fits.within);
      below = fits.below;
      chained = (
        (let is = queued_of_stream stream slot queued in let bound : (lane_at others slot.stream).behind ≡ behind = same slot.stream ∙ ap (λ number. (lane_at lanes number).behind) is in omega (arith, less, bound)),
        any_middle (λ other. other.chain == front) out [] batch (same_true front front refl),
        all_push (λ other. other.chain ≡ front → other.stream ≡ slot.stream) out batch (all_as (λ other. other.chain ≢ front) (λ other. other.chain ≡ front → other.stream ≡ slot.stream) out (λ other differ is. absurd (differ is)) fresh) (λ is. sym (queued_of_stream stream slot queued)),
      );
      named = all_push (λ other. other.chain ≡ slot.seq → Some front ≡ Some other.chain) out batch (all_as (λ other. other.chain ≡ slot.seq → slot.chain ≡ Some other.chain) (λ other. other.chain ≡ slot.seq → Some front ≡ Some other.chain) out (λ other named is. absurd (none-some other.chain (sym (queued_of_chain stream slot queued) ∙ named is))) fits.named) (λ is. refl);
    }
    in record {
      long = long ∙ kept.long;
      slots_fit = chain_all (SlotFits lanes out next) (SlotFits others (out ++ batch ∷ []) next) front stream behind low count held stay goes rise fewer first some kept.slots_fit;
      lanes_fit = λ other small. lanes_after (LaneFits held next) (LaneFits after next) lanes stream lane within (λ one less. kept.lanes_fit one (omega (arith, less, kept.long)))
          (λ one differ fits. lane_kept held after next next one (lane_at lanes one) (chain_queues front stream one behind low count held differ rise fewer) (omega arith) fits)
          (record {
            queued_is = let is = own_fits.queued_is in let left = counts.0 in omega (arith, is, left);
            sealed_is = let is = own_fits.sealed_is in let left = counts.1 in omega (arith, is, left);
            front_is = refl;
            below = own_fits.below;
          }) other (omega (arith, small, kept.long));
      batches_fit = all_push (BatchFits after streams next (next_batch + 1)) out batch
          (all_both (λ other. other.chain ≢ front) (BatchFits held streams next next_batch) (BatchFits after streams next (next_batch + 1)) out
          (λ other differ fits. record {
            of_stream = fits.of_stream;
            numbered = omega (arith, fits.numbered);
            chain_below = fits.chain_below;
            count_is = fits.count_is ∙ sym (chain_others front other.chain stream behind low count held differ rise fewer);
            some = fits.some;
          }) fresh kept.batches_fit)
          (record {
            of_stream = below;
            numbered = omega arith;
            chain_below = front_below;
            count_is = sym (chain_count front stream behind low count held rise fewer apart);
            some = some;
          });
      apart = push_apart out batch kept.apart (all_both (λ other. other.chain ≢ front) (BatchFits held streams next next_batch) (λ other. (other.number < next_batch) × (other.chain ≢ front)) out (λ other differ fits. (fits.numbered, differ)) fresh kept.batches_fit);
    }

-- A batch is taken out: put back, or let go

some_same : (a b : ℕ) → Some a ≡ Some b → a ≡ b
some_same a b same = ap (λ one. unwrap_or one 0) same

not_true : (b : Bool) → not b ≡ true → b ≡ false
not_true true is = absurd (false≢true is)
not_true false is = refl

-- a record that is in one chain is not in another
stays : (slot : Slot) (other batch : Batch) → other.chain ≢ batch.chain → is_in_chain other.chain slot ≡ true → not (is_in_chain batch.chain slot) ≡ true
stays slot other batch differ is = let misses : is_in_chain batch.chain slot ≡ false = ap (is_of_chain batch.chain) (chain_own other.chain slot is) ∙ apart_false other.chain batch.chain differ in rw misses refl

-- without a batch, where the record is not in it
chain_without : (behind : ℕ) (front rest : List Batch) (batch : Batch) (stream seq : ℕ) (chain : Option ℕ) → is_of_chain batch.chain chain ≡ false → ChainFits behind (front ++ batch ∷ rest) stream seq chain → ChainFits behind (front ++ rest) stream seq chain
chain_without behind front rest batch stream seq None misses fits = tt
chain_without behind front rest batch stream seq (Some chain) misses fits = (
  fits.0,
  any_without (λ other. other.chain == chain) front rest batch (apart_false batch.chain chain (λ same. false_apart chain batch.chain misses (sym same))) fits.1,
  all_without (λ other. other.chain ≡ chain → other.stream ≡ stream) front rest batch fits.2,
)

slot_without : (lanes others : List Lane) (front rest : List Batch) (batch : Batch) (next : ℕ) (slot : Slot) → SameBehind lanes others → length others ≡ length lanes → is_in_chain batch.chain slot ≡ false → SlotFits lanes (front ++ batch ∷ rest) next slot → SlotFits others (front ++ rest) next slot
slot_without lanes others front rest batch next slot same long misses fits = record {
  within = omega (arith, long, fits.within);
  below = fits.below;
  chained = chain_without (lane_at others slot.stream).behind front rest batch slot.stream slot.seq slot.chain misses (subst (λ bound. ChainFits bound (front ++ batch ∷ rest) slot.stream slot.seq slot.chain) (sym (same slot.stream)) fits.chained);
  named = all_without (λ other. other.chain ≡ slot.seq → slot.chain ≡ Some other.chain) front rest batch fits.named;
}

-- the records of a batch are of its stream, and were sealed
pub slots_of : (held : List Slot) (streams next : ℕ) (lanes : List Lane) (front rest : List Batch) (batch : Batch) (next_batch : ℕ) → AreKept held streams next lanes (front ++ batch ∷ rest) next_batch → AllByRecursion (λ slot. is_in_chain batch.chain slot ≡ true → (slot.stream ≡ batch.stream) × (slot.seq < (lane_at lanes batch.stream).behind)) held
slots_of held streams next lanes front rest batch next_batch kept = all_as (SlotFits lanes (front ++ batch ∷ rest) next) (λ slot. is_in_chain batch.chain slot ≡ true → (slot.stream ≡ batch.stream) × (slot.seq < (lane_at lanes batch.stream).behind)) held
    (λ slot fits is.
    let chained = subst (ChainFits (lane_at lanes slot.stream).behind (front ++ batch ∷ rest) slot.stream slot.seq) (chain_own batch.chain slot is) fits.chained
    in let own = sym (all_middle (λ other. other.chain ≡ batch.chain → other.stream ≡ slot.stream) front rest batch chained.2 refl)
    in (own, subst (λ number. slot.seq < (lane_at lanes number).behind) own chained.0)) kept.slots_fit

slot_released : (lanes others : List Lane) (front rest : List Batch) (batch : Batch) (next : ℕ) (slot : Slot) → SameBehind lanes others → length others ≡ length lanes → AllByRecursion (λ other. other.chain ≢ batch.chain) (front ++ rest) → (is_in_chain batch.chain slot ≡ true) ⊎ (is_in_chain batch.chain slot ≡ false) → SlotFits lanes (front ++ batch ∷ rest) next slot → SlotFits others (front ++ rest) next (released batch.chain slot)
slot_released lanes others front rest batch next slot same long apart (inr misses) fits = subst (SlotFits others (front ++ rest) next) (sym (restored_out batch.chain slot misses)) (slot_without lanes others front rest batch next slot same long misses fits)
slot_released lanes others front rest batch next slot same long apart (inl is) fits = subst (SlotFits others (front ++ rest) next) (sym (restored_in batch.chain slot is)) (record {
  within = omega (arith, long, fits.within);
  below = fits.below;
  chained = tt;
  named = all_both (λ other. other.chain ≢ batch.chain) (λ other. other.chain ≡ slot.seq → slot.chain ≡ Some other.chain) (λ other. other.chain ≡ slot.seq → None ≡ Some other.chain) (front ++ rest) (λ other differ named same_seq. absurd (differ (some_same other.chain batch.chain (sym (named same_seq) ∙ chain_own batch.chain slot is)))) apart (all_without (λ other. other.chain ≡ slot.seq → slot.chain ≡ Some other.chain) front rest batch fits.named);
})

pub restored_kept : (held : List Slot) (streams next : ℕ) (lanes : List Lane) (front rest : List Batch) (batch : Batch) (next_batch : ℕ) → AreKept held streams next lanes (front ++ batch ∷ rest) next_batch → AreKept (with_restored batch.chain held) streams next (changed batch.stream (refilled batch.count (first_of batch.stream (with_restored batch.chain held))) lanes) (front ++ rest) next_batch
restored_kept held streams next lanes front rest batch next_batch kept =
    let mine = all_middle (BatchFits held streams next next_batch) front rest batch kept.batches_fit
    in let stream : ℕ = batch.stream
    in let within : stream < length lanes = let less = mine.of_stream in omega (arith, kept.long, less)
    in let after : List Slot = with_restored batch.chain held
    in let lane : Lane = refilled batch.count (first_of stream after) (lane_at lanes stream)
    in let others : List Lane = slice_set lanes stream lane
    in let long : length others ≡ length lanes = length-set lanes stream lane
    in let same : SameBehind lanes others = behind_same lanes stream lane within refl
    in let own_fits = kept.lanes_fit stream mine.of_stream
    in let of_batch = slots_of held streams next lanes front rest batch next_batch kept
    in let counts = restored_counts batch.chain stream (lane_at lanes stream).behind held of_batch
    in let apart = others_apart front rest batch kept.apart
    in let step : (slot : Slot) → SlotFits lanes (front ++ batch ∷ rest) next slot → SlotFits others (front ++ rest) next (released batch.chain slot) = λ slot fits. slot_released lanes others front rest batch next slot same long apart (cases_Bool (is_in_chain batch.chain slot)) fits
    in record {
      long = long ∙ kept.long;
      slots_fit = restored_all (SlotFits lanes (front ++ batch ∷ rest) next) (SlotFits others (front ++ rest) next) batch.chain held step kept.slots_fit;
      lanes_fit = λ other small. lanes_after (LaneFits held next) (LaneFits after next) lanes stream lane within (λ one less. kept.lanes_fit one (omega (arith, less, kept.long)))
          (λ one differ fits. lane_kept held after next next one (lane_at lanes one) (restored_queues batch.chain stream one held differ (all_as (λ slot. is_in_chain batch.chain slot ≡ true → (slot.stream ≡ stream) × (slot.seq < (lane_at lanes stream).behind)) (λ slot. is_in_chain batch.chain slot ≡ true → slot.stream ≡ stream) held (λ slot both is. (both is).0) of_batch)) (omega arith) fits)
          (record {
            queued_is = let is = own_fits.queued_is in let more = counts.0 in let counted = mine.count_is in omega (arith, is, more, counted);
            sealed_is = let is = own_fits.sealed_is in let more = counts.1 in let counted = mine.count_is in omega (arith, is, more, counted);
            front_is = refl;
            below = own_fits.below;
          }) other (omega (arith, small, kept.long));
      batches_fit = all_both (λ other. other.chain ≢ batch.chain) (BatchFits held streams next next_batch) (BatchFits after streams next next_batch) (front ++ rest)
          (λ other differ fits. record {
            of_stream = fits.of_stream;
            numbered = fits.numbered;
            chain_below = fits.chain_below;
            count_is = fits.count_is ∙ sym (restored_others batch.chain other.chain held differ);
            some = fits.some;
          }) apart (all_without (BatchFits held streams next next_batch) front rest batch kept.batches_fit);
      apart = apart_without front rest batch kept.apart;
    }

pub freed_kept : (held : List Slot) (streams next : ℕ) (lanes : List Lane) (front rest : List Batch) (batch : Batch) (next_batch : ℕ) → AreKept held streams next lanes (front ++ batch ∷ rest) next_batch → AreKept (without_chain batch.chain held) streams next lanes (front ++ rest) next_batch
freed_kept held streams next lanes front rest batch next_batch kept =
    let apart = others_apart front rest batch kept.apart
    in record {
      long = kept.long;
      slots_fit = all_filter (SlotFits lanes (front ++ batch ∷ rest) next) (SlotFits lanes (front ++ rest) next) (λ slot. not (is_in_chain batch.chain slot)) held (λ slot fits passes. slot_without lanes lanes front rest batch next slot (λ stream. refl) refl (not_true (is_in_chain batch.chain slot) passes) fits) kept.slots_fit;
      lanes_fit = λ other small. lane_kept held (without_chain batch.chain held) next next other (lane_at lanes other) (freed_queues batch.chain other held) (omega arith) (kept.lanes_fit other small);
      batches_fit = all_both (λ other. other.chain ≢ batch.chain) (BatchFits held streams next next_batch) (BatchFits (without_chain batch.chain held) streams next next_batch) (front ++ rest)
          (λ other differ fits. record {
            of_stream = fits.of_stream;
            numbered = fits.numbered;
            chain_below = fits.chain_below;
            count_is = fits.count_is ∙ sym (count_filter (is_in_chain other.chain) (λ slot. not (is_in_chain batch.chain slot)) held (λ slot is. stays slot other batch differ is));
            some = fits.some;
          }) apart (all_without (BatchFits held streams next next_batch) front rest batch kept.batches_fit);
      apart = apart_without front rest batch kept.apart;
    }
