-- The generations that an attempt gives to the streams of a catalog, and what it makes of the saved set.
use Rattle.std.specs.Prelude.{◌≡◌, ℕ, ◌+◌, List, [], ◌∷◌, map, Bool, true, false, ◌&&◌, not, is_some, option_map, unwrap_or, if◌then◌else◌, Option, None, Some}
use Rattle.basics.specs.declared.stream.StreamId.{StreamId}
use Rattle.catalog.specs.declared.modes.DestMode.{DestMode}
use Rattle.catalog.specs.declared.modes.DestMode.TheVariants as dest
use Rattle.catalog.specs.declared.modes.SyncMode.{SyncMode}
use Rattle.catalog.specs.declared.modes.SyncMode.TheVariants as mode
use Rattle.catalog.specs.declared.stream.ConfStream.{ConfStream}
use Rattle.catalog.specs.declared.stream.Gen.{Gen}
use Rattle.generation_rules.specs.Generations.{next_of}
use Rattle.state_kinds.specs.Saved.{Saved, entry_of}
use Rattle.state_kinds.specs.Changes.{begun, given_of}

abbrev pub is_full_refresh : SyncMode → Bool
is_full_refresh mode.FullRefresh = true
is_full_refresh mode.Incremental = false

abbrev pub is_overwrite : DestMode → Bool
is_overwrite dest.Overwrite = true
is_overwrite dest.Append = false
is_overwrite dest.AppendDedup = false

-- A stream restarts in each attempt where its source reads all of it and its destination replaces it, unless the source can go on
-- where it stopped and the catalog tells the generation.
abbrev pub restarts : ConfStream → Bool
restarts stream = is_full_refresh stream.sync && (is_overwrite stream.dest && not (stream.resumable && is_some stream.generation))

-- the generation that the set has of a stream
abbrev pub last_generation : Saved → StreamId → Option ℕ
last_generation set id = option_map (λ entry. entry.generation) (entry_of set.entries id)

abbrev pub restarted : ℕ → Gen
restarted generation = record { generation = generation; minimum = generation }

-- A stream that restarts gets the next generation, behind the catalog's and the set's, also as its minimum; none where that is
-- spent. Any other stream gets what the catalog tells.
abbrev pub gen_of : Saved → ConfStream → Option Gen
gen_of set stream =
    if restarts stream then option_map restarted (next_of stream.generation (last_generation set stream.id))
    else Some (record { generation = unwrap_or stream.generation 0; minimum = stream.minimum })

abbrev pub and_gen : Option Gen → Option (List Gen) → Option (List Gen)
and_gen None gens = None
and_gen (Some gen) None = None
and_gen (Some gen) (Some gens) = Some (gen ∷ gens)

-- the generations of all streams, in the catalog's order; none where that of one is spent
abbrev pub gens_of : Saved → List ConfStream → Option (List Gen)
gens_of set [] = Some []
gens_of set (stream ∷ streams) = and_gen (gen_of set stream) (gens_of set streams)

-- the number of the first stream whose generations are spent, where the first of these has this number
abbrev pub spent_from : ℕ → Saved → List ConfStream → Option ℕ
spent_from number set [] = None
spent_from number set (stream ∷ streams) = if is_some (gen_of set stream) then spent_from (number + 1) set streams else Some number

abbrev pub first_spent : Saved → List ConfStream → Option ℕ
first_spent set streams = spent_from 0 set streams

-- an attempt begins with this set: it gives the streams these generations, and leaves this of the set
pub record Begins (streams : List ConfStream) (set : Saved) (gens : List Gen) (now : Saved) : Type 0 where
  pub gens_are : gens_of set streams ≡ Some gens
  pub is : now ≡ begun (given_of streams gens) set

-- a stream and its generation
pub record Held : Type 0 where
  pub id : StreamId
  pub generation : ℕ

-- the streams of a set, with their generations and without their states
abbrev pub generations_in : Saved → List Held
generations_in set = map (λ entry. record { id = entry.id; generation = entry.generation }) set.entries
