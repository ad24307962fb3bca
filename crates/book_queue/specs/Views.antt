-- How a queue keeps its records: in a pool, beside counts for each stream and the batches that are handed out.
use Rattle.std.specs.Prelude.{◌≡◌, ◌≢◌, ℕ, ◌+◌, ◌-◌, ◌<◌, ◌≤◌, ◌==◌, ◌^◌, List, [], ◌∷◌, ◌++◌, map, length, Bool, true, ◌&&◌, nat_lt, if◌then◌else◌, Option, None, Some, slice_index_or, slice_set, unwrap_or}
use Rattle.std.specs.List.{AllByRecursion, list_any}
use Rattle.buffer_pool.specs.declared.slot.Slot.{Slot}
use Rattle.buffer_pool.specs.Content.{PoolView, first_of, is_in_chain, is_queued_of}
use Rattle.book_queue.specs.declared.lane.Lane.{Lane}
use Rattle.book_queue.specs.declared.batch.Batch.{Batch}
use Rattle.book_queue.specs.declared.batch.Parked.{Parked}
use Rattle.book_queue.specs.Content.{Place, Queued, Sealed, Out, Held, QueueView}

abbrev pub no_lane : Lane
no_lane = record { queued = 0; sealed = 0; front = None; behind = 0 }

abbrev pub lane_at : List Lane → ℕ → Lane
lane_at lanes stream = slice_index_or lanes stream no_lane

abbrev pub changed : ℕ → (Lane → Lane) → List Lane → List Lane
changed stream change lanes = slice_set lanes stream (change (lane_at lanes stream))

-- a record more, which is not sealed
abbrev pub grown : ℕ → Lane → Lane
grown seq lane = record lane { queued = lane.queued + 1; front = Some (unwrap_or lane.front seq) }

-- all records are sealed, which are below this sequence
abbrev pub sealed_to : ℕ → Lane → Lane
sealed_to next lane = record lane { sealed = lane.queued; behind = next }

-- without so many of its sealed records, and with so many more
abbrev pub shrunk : ℕ → Option ℕ → Lane → Lane
shrunk count front lane = record lane { queued = lane.queued - count; sealed = lane.sealed - count; front = front }

abbrev pub refilled : ℕ → Option ℕ → Lane → Lane
refilled count front lane = record lane { queued = lane.queued + count; sealed = lane.sealed + count; front = front }

abbrev pub front_of : Lane → ℕ
front_of lane = unwrap_or lane.front 0

-- of the lanes below this one, the one whose first sealed record is oldest
abbrev pub IsOldestBelow : List Lane → ℕ → Option ℕ → Type 0
IsOldestBelow lanes high None = (stream : ℕ) → stream < high → (lane_at lanes stream).sealed ≡ 0
IsOldestBelow lanes high (Some found) =
    (found < high) × (1 ≤ (lane_at lanes found).sealed) × ((stream : ℕ) → stream < high → 1 ≤ (lane_at lanes stream).sealed → front_of (lane_at lanes found) ≤ front_of (lane_at lanes stream))

-- the number of the batch with this chain
abbrev pub number_in : List Batch → ℕ → ℕ
number_in [] chain = 0
number_in (batch ∷ more) chain = if batch.chain == chain then batch.number else number_in more chain

-- what is queued below its stream's bound is sealed
abbrev pub place_at : ℕ → List Batch → ℕ → Option ℕ → Place
place_at behind out seq None = if nat_lt seq behind then Sealed else Queued
place_at behind out seq (Some chain) = Out (number_in out chain)

abbrev pub held_of : List Lane → List Batch → Slot → Held
held_of lanes out slot = record { seq = slot.seq; stream = slot.stream; line = slot.line; place = place_at (lane_at lanes slot.stream).behind out slot.seq slot.chain }

abbrev pub parked_of : Option Parked → Option Held
parked_of None = None
parked_of (Some parked) = Some (record { seq = parked.seq; stream = parked.stream; line = parked.line; place = Queued })

-- above the sequences of the pool and that of the parked record
abbrev pub next_of : ℕ → Option Parked → ℕ
next_of next None = next
next_of next (Some parked) = parked.seq + 1

abbrev pub view_of : PoolView → List Lane → List Batch → Option Parked → ℕ → ℕ → QueueView
view_of pool lanes out parked batch next_batch = record {
  held = map (held_of lanes out) pool.held;
  parked = parked_of parked;
  streams = pool.streams;
  slots = pool.slots;
  bytes = pool.bytes;
  batch = batch;
  next = next_of pool.next parked;
  next_batch = next_batch;
}

-- how many pass
abbrev pub count_if : {A : Type 0} → (A → Bool) → List A → ℕ
count_if test [] = 0
count_if test (x ∷ xs) = (if test x then 1 else 0) + count_if test xs

abbrev pub is_sealed_below : ℕ → ℕ → Slot → Bool
is_sealed_below behind stream slot = is_queued_of stream slot && nat_lt slot.seq behind

-- the counts of a stream are those of its queue in the pool
pub record LaneFits (held : List Slot) (next stream : ℕ) (lane : Lane) : Type 0 where
  pub queued_is : lane.queued ≡ count_if (is_queued_of stream) held
  pub sealed_is : lane.sealed ≡ count_if (is_sealed_below lane.behind stream) held
  pub front_is : lane.front ≡ first_of stream held
  pub below : lane.behind ≤ next

-- a record that is detached is in a batch of its stream, and was sealed
abbrev pub ChainFits : ℕ → List Batch → ℕ → ℕ → Option ℕ → Type 0
ChainFits behind out stream seq None = Unit {0}
ChainFits behind out stream seq (Some chain) =
    (seq < behind) × (list_any (λ batch. batch.chain == chain) out ≡ true) × AllByRecursion (λ batch. batch.chain ≡ chain → batch.stream ≡ stream) out

pub record SlotFits (lanes : List Lane) (out : List Batch) (next : ℕ) (slot : Slot) : Type 0 where
  pub within : slot.stream < length lanes
  pub below : slot.seq < next
  pub chained : ChainFits (lane_at lanes slot.stream).behind out slot.stream slot.seq slot.chain
  -- the record that names a batch's chain is in it
  pub named : AllByRecursion (λ batch. batch.chain ≡ slot.seq → slot.chain ≡ Some batch.chain) out

pub record BatchFits (held : List Slot) (streams next next_batch : ℕ) (batch : Batch) : Type 0 where
  pub of_stream : batch.stream < streams
  pub numbered : batch.number < next_batch
  pub chain_below : batch.chain < next
  pub count_is : batch.count ≡ count_if (is_in_chain batch.chain) held
  pub some : 1 ≤ batch.count

-- numbers rise, and no two have one chain
abbrev pub AreApart : List Batch → Type 0
AreApart [] = Unit {0}
AreApart (batch ∷ more) = AllByRecursion (λ other. (batch.number < other.number) × (batch.chain ≢ other.chain)) more × AreApart more

-- a batch was taken out
pub record IsTakenOut (number : ℕ) (old new : List Batch) (batch : Batch) : Type 0 where
  pub front : List Batch
  pub rest : List Batch
  pub splits : old ≡ front ++ batch ∷ rest
  pub left : new ≡ front ++ rest
  pub numbered : batch.number ≡ number

-- the parked record may be pushed
abbrev pub MayCome : ℕ → ℕ → Option Parked → Type 0
MayCome streams next None = Unit {0}
MayCome streams next (Some parked) = (parked.stream < streams) × (next ≤ parked.seq) × (parked.seq < 2 ^ 64 - 1)

-- counts and batches fit the pool
pub record AreKept (held : List Slot) (streams next : ℕ) (lanes : List Lane) (out : List Batch) (next_batch : ℕ) : Type 0 where
  pub long : length lanes ≡ streams
  pub slots_fit : AllByRecursion (SlotFits lanes out next) held
  pub lanes_fit : (stream : ℕ) → stream < streams → LaneFits held next stream (lane_at lanes stream)
  pub batches_fit : AllByRecursion (BatchFits held streams next next_batch) out
  pub apart : AreApart out

-- what a queue keeps
pub record IsKept (pool : PoolView) (lanes : List Lane) (out : List Batch) (parked : Option Parked) (batch next_batch : ℕ) : Type 0 where
  pub are : AreKept pool.held pool.streams pool.next lanes out next_batch
  pub may_come : MayCome pool.streams pool.next parked
  pub some : 1 ≤ batch
  pub counted : pool.slots < 2 ^ 32
