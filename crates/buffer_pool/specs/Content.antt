-- What a pool holds.
use Rattle.std.specs.Prelude.{◌≡◌, ℕ, ◌+◌, ◌-◌, ◌<◌, ◌≤◌, ◌==◌, List, [], ◌∷◌, ◌++◌, map, filter, find, length, sum_by, Bool, true, false, ◌&&◌, not, nat_lt, if◌then◌else◌, Option, None, Some, option_map, take, drop, slice_index_or}
use Rattle.std.specs.List.{AllByRecursion, list_any}
use Rattle.buffer_pool.specs.declared.slot.Slot.{Slot}
use Rattle.outside.specs.declared.line.SeqLine.{SeqLine}

pub record PoolView : Type 0 where
  -- the records, by sequence
  pub held : List Slot
  -- of how many streams
  pub streams : ℕ
  -- how many records, and how many bytes of them, it may hold
  pub slots : ℕ
  pub bytes : ℕ
  -- above the sequences of all records that were ever pushed
  pub next : ℕ

-- sequences rise, from this one on
abbrev pub RiseFrom : ℕ → List Slot → Type 0
RiseFrom low [] = Unit {0}
RiseFrom low (slot ∷ more) = (low ≤ slot.seq) × RiseFrom (slot.seq + 1) more

-- detached or not, a record keeps its bytes
abbrev pub bytes_of : List Slot → ℕ
bytes_of held = sum_by (λ slot. length slot.line) held

-- one slot and these bytes are free
abbrev pub HasRoom : PoolView → ℕ → Type 0
HasRoom pool line = (length pool.held < pool.slots) × (bytes_of pool.held + line ≤ pool.bytes)

abbrev pub is_of_chain : ℕ → Option ℕ → Bool
is_of_chain chain None = false
is_of_chain chain (Some own) = own == chain

abbrev pub is_in_chain : ℕ → Slot → Bool
is_in_chain chain slot = is_of_chain chain slot.chain

abbrev pub is_free : Option ℕ → Bool
is_free None = true
is_free (Some chain) = false

-- in a queue, and not detached
abbrev pub is_queued : Slot → Bool
is_queued slot = is_free slot.chain

abbrev pub is_queued_of : ℕ → Slot → Bool
is_queued_of stream slot = (slot.stream == stream) && is_queued slot

abbrev pub line_of : Slot → SeqLine
line_of slot = record { seq = slot.seq; line = slot.line }

-- a stream's queue
abbrev pub queue_of : ℕ → List Slot → List SeqLine
queue_of stream held = map line_of (filter (is_queued_of stream) held)

-- the records of a chain
abbrev pub chain_of : ℕ → List Slot → List SeqLine
chain_of chain held = map line_of (filter (is_in_chain chain) held)

-- a record as it is when it comes
abbrev pub queued : ℕ → ℕ → List ℕ → Slot
queued stream seq line = record { seq = seq; stream = stream; line = line; chain = None }

abbrev pub in_chain : ℕ → Slot → Slot
in_chain chain slot = record slot { chain = Some chain }

-- the first so many of a stream's queue are detached in this chain
abbrev pub with_chain : ℕ → ℕ → ℕ → List Slot → List Slot
with_chain chain stream most [] = []
with_chain chain stream most (slot ∷ more) = if is_queued_of stream slot && nat_lt 0 most then in_chain chain slot ∷ with_chain chain stream (most - 1) more else slot ∷ with_chain chain stream most more

abbrev pub first_of : ℕ → List Slot → Option ℕ
first_of stream held = option_map (λ slot. slot.seq) (find (is_queued_of stream) held)

-- the stream of the least sequence in a queue
abbrev pub oldest_of : List Slot → Option ℕ
oldest_of held = option_map (λ slot. slot.stream) (find is_queued held)

abbrev pub detached_for : Option ℕ → ℕ → ℕ → List Slot → List Slot
detached_for None stream most held = held
detached_for (Some chain) stream most held = with_chain chain stream most held

-- the front of a stream's queue is detached, in the chain that has its first sequence
abbrev pub with_front_detached : ℕ → ℕ → List Slot → List Slot
with_front_detached stream most held = detached_for (first_of stream held) stream most held

abbrev pub released : ℕ → Slot → Slot
released chain slot = if is_in_chain chain slot then record slot { chain = None } else slot

-- the records of a chain are queued again, at their places
abbrev pub with_restored : ℕ → List Slot → List Slot
with_restored chain held = map (released chain) held

-- without the records of a chain
abbrev pub without_chain : ℕ → List Slot → List Slot
without_chain chain held = filter (λ slot. not (is_in_chain chain slot)) held

-- a record whose sequence names a chain, and that does not stand in it
abbrev pub stands_apart : ℕ → Slot → Bool
stands_apart chain slot = (slot.seq == chain) && not (is_in_chain chain slot)

-- a chain's number is the sequence of a record of its own, or of none that is held, and none of its records is older
abbrev pub IsNamed : List Slot → ℕ → Option ℕ → Type 0
IsNamed held seq None = Unit {0}
IsNamed held seq (Some chain) = (chain ≤ seq) × (list_any (stands_apart chain) held ≡ false)

abbrev pub AreNamed : List Slot → List Slot → Type 0
AreNamed held part = AllByRecursion (λ slot. IsNamed held slot.seq slot.chain) part

-- what a pool keeps
pub record IsPool (held : List Slot) (slots bytes sum next : ℕ) : Type 0 where
  pub rise : RiseFrom 0 held
  pub few : length held ≤ slots
  pub sum_is : sum ≡ bytes_of held
  pub small : bytes_of held ≤ bytes
  pub below : AllByRecursion (λ slot. slot.seq < next) held
  pub named : AreNamed held held

-- a stream's queue begins there
pub record IsFrontAt (stream : ℕ) (held : List Slot) (index : ℕ) : Type 0 where
  pub within : index < length held
  pub first : (d : Slot) → first_of stream held ≡ Some (slice_index_or held index d).seq
  pub detached : (chain most : ℕ) → with_chain chain stream most held ≡ take index held ++ with_chain chain stream most (drop index held)
