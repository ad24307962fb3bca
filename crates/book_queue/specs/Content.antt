-- The records that a queue holds, each with its place.
use Rattle.std.specs.Prelude.{◌≡◌, ℕ, ◌+◌, ◌-◌, ◌<◌, ◌≤◌, ◌==◌, List, [], ◌∷◌, ◌++◌, map, filter, find, length, sum_by, Bool, true, false, ◌&&◌, not, nat_lt, if◌then◌else◌, Option, None, Some, IfSome, option_map, option_to_list}
use Rattle.std.specs.List.{AllByRecursion, list_any}
use Rattle.outside.specs.declared.line.SeqLine.{SeqLine}

-- where a record is: in its stream's queue, sealed there or not, or in a batch that is handed out
pub data Place : Type 0 where
  Queued : Place
  Sealed : Place
  Out : (batch : ℕ) → Place

pub record Held : Type 0 where
  pub seq : ℕ
  pub stream : ℕ
  pub line : List ℕ
  pub place : Place

pub record QueueView : Type 0 where
  -- the records that found room, by sequence
  pub held : List Held
  -- a record that found none, and waits behind its stream's queue
  pub parked : Option Held
  -- of how many streams
  pub streams : ℕ
  -- how many records, and how many bytes of them, find room
  pub slots : ℕ
  pub bytes : ℕ
  -- a queue of so many records is sealed, and a batch has no more
  pub batch : ℕ
  -- above the sequences of all records that ever came
  pub next : ℕ
  -- above the numbers of all batches that were ever handed out
  pub next_batch : ℕ

-- all records, by sequence
abbrev pub all_of : QueueView → List Held
all_of view = view.held ++ option_to_list view.parked

abbrev pub is_out : ℕ → Place → Bool
is_out batch (Out own) = own == batch
is_out batch Queued = false
is_out batch Sealed = false

abbrev pub is_sealed : Place → Bool
is_sealed Sealed = true
is_sealed Queued = false
is_sealed (Out batch) = false

-- sealed or not
abbrev pub is_queued : Place → Bool
is_queued Sealed = true
is_queued Queued = true
is_queued (Out batch) = false

abbrev pub is_queued_of : ℕ → Held → Bool
is_queued_of stream held = is_queued held.place && (held.stream == stream)

abbrev pub is_sealed_of : ℕ → Held → Bool
is_sealed_of stream held = is_sealed held.place && (held.stream == stream)

abbrev pub is_in_batch : ℕ → Held → Bool
is_in_batch batch held = is_out batch held.place

abbrev pub is_in_queue : Held → Bool
is_in_queue held = is_queued held.place

abbrev pub is_ready : Held → Bool
is_ready held = is_sealed held.place

abbrev pub is_handed_out : Held → Bool
is_handed_out held = not (is_queued held.place)

-- a record as it comes
abbrev pub queued : ℕ → ℕ → List ℕ → Held
queued seq stream line = record { seq = seq; stream = stream; line = line; place = Queued }

abbrev pub put_in : Place → Held → Held
put_in place held = record held { place = place }

-- those that pass are put there
abbrev pub move : (Held → Bool) → Place → List Held → List Held
move test place [] = []
move test place (held ∷ more) = (if test held then put_in place held else held) ∷ move test place more

-- the first so many that pass are put there
abbrev pub move_first : (Held → Bool) → Place → ℕ → List Held → List Held
move_first test place count [] = []
move_first test place count (held ∷ more) =
    if test held && nat_lt 0 count then put_in place held ∷ move_first test place (count - 1) more else held ∷ move_first test place count more

abbrev pub line_of : Held → SeqLine
line_of held = record { seq = held.seq; line = held.line }

-- the lines of a batch that is handed out
abbrev pub batch_of : ℕ → List Held → List SeqLine
batch_of batch held = map line_of (filter (is_in_batch batch) held)

-- how many records are in a stream's queue
abbrev pub count_of : ℕ → List Held → ℕ
count_of stream held = length (filter (is_queued_of stream) held)

-- a stream's queue is sealed
abbrev pub sealed_whole : ℕ → List Held → List Held
sealed_whole stream held = move (is_queued_of stream) Sealed held

-- a stream's queue is sealed where it has so many records
abbrev pub sealed_full : ℕ → ℕ → List Held → List Held
sealed_full batch stream held = if nat_lt (count_of stream held) batch then held else sealed_whole stream held

-- the stream of the first record in a queue
abbrev pub oldest_of : List Held → Option ℕ
oldest_of held = option_map (λ first. first.stream) (find is_in_queue held)

abbrev pub sealed_for : Option ℕ → List Held → List Held
sealed_for None held = held
sealed_for (Some stream) held = sealed_whole stream held

-- the oldest queue is sealed
abbrev pub sealed_oldest : List Held → List Held
sealed_oldest held = sealed_for (oldest_of held) held

-- the stream of the first sealed record
abbrev pub ready_of : List Held → Option ℕ
ready_of held = option_map (λ first. first.stream) (find is_ready held)

abbrev pub bytes_of : List Held → ℕ
bytes_of held = sum_by (λ one. length one.line) held

-- one slot and so many bytes are free
abbrev pub HasRoom : QueueView → ℕ → Type 0
HasRoom view line = (length view.held < view.slots) × (bytes_of view.held + line ≤ view.bytes)

-- the parked record, where there is one, finds room now
abbrev pub ParkedFits : QueueView → Type 0
ParkedFits view = IfSome view.parked (λ parked. HasRoom view (length parked.line))

-- with the parked record in its queue
abbrev pub unparked_with : Option Held → QueueView → QueueView
unparked_with None view = view
unparked_with (Some parked) view = record view { held = sealed_full view.batch parked.stream (view.held ++ parked ∷ []); parked = None }

abbrev pub unparked : QueueView → QueueView
unparked view = unparked_with view.parked view

-- the parked record stays, where there is one
abbrev pub still_parked_with : Option Held → QueueView → QueueView
still_parked_with None view = view
still_parked_with (Some parked) view = record view { held = sealed_oldest view.held }

abbrev pub still_parked : QueueView → QueueView
still_parked view = still_parked_with view.parked view

-- a batch that is handed out is of this stream
pub record IsBatchOf (stream batch : ℕ) (held : List Held) : Type 0 where
  pub some : list_any (is_in_batch batch) held ≡ true
  pub all : AllByRecursion (λ one. is_in_batch batch one ≡ true → one.stream ≡ stream) held

-- the front of a stream's sealed records was handed out as the next batch, with these lines
pub record HandsOut (stream batch : ℕ) (lines : List SeqLine) (old new : QueueView) : Type 0 where
  pub numbered : batch ≡ old.next_batch
  pub goes : new ≡ record old { held = move_first (is_sealed_of stream) (Out batch) old.batch old.held; next_batch = batch + 1 }
  pub lines_are : lines ≡ batch_of batch new.held
  pub some : 0 < length lines
  pub most : length lines ≤ old.batch

-- sequences rise, from one on and below another
abbrev pub RiseBetween : ℕ → ℕ → List Held → Type 0
RiseBetween low high [] = low ≤ high
RiseBetween low high (held ∷ more) = (low ≤ held.seq) × RiseBetween (held.seq + 1) high more

abbrev pub number_below : ℕ → Place → Bool
number_below high (Out batch) = nat_lt batch high
number_below high Queued = true
number_below high Sealed = true

-- the records of a batch are of one stream
pub record IsOfOneStream (batch : ℕ) (held : List Held) : Type 0 where
  pub stream : ℕ
  pub all : AllByRecursion (λ one. is_in_batch batch one ≡ true → one.stream ≡ stream) held

-- what is so of every queue
pub record IsQueue (view : QueueView) : Type 0 where
  pub rise : RiseBetween 0 view.next (all_of view)
  pub of_streams : AllByRecursion (λ one. one.stream < view.streams) (all_of view)
  pub few : length view.held ≤ view.slots
  pub small : bytes_of view.held ≤ view.bytes
  pub batch_some : 1 ≤ view.batch
  pub parked_is : IfSome view.parked (λ parked. parked.place ≡ Queued)
  pub fresh : AllByRecursion (λ one. number_below view.next_batch one.place ≡ true) view.held
  pub alike : (batch : ℕ) → IsOfOneStream batch view.held
