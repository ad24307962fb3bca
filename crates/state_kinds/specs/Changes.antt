-- What an attempt's beginning makes of a set of saved states, and what a state that is put into it does.
use Rattle.std.specs.Prelude.{ℕ, List, ◌++◌, ◌==◌, map, filter, find, Option, None, Some, Result, Ok, Err, Bool, false, not, is_some, option_map, if◌then◌else◌}
use Rattle.std.specs.List.{list_any, zip}
use Rattle.stream_index.specs.Same.{is_same_stream}
use Rattle.basics.specs.declared.stream.StreamId.{StreamId}
use Rattle.airbyte_message.specs.State.{State}
use Rattle.airbyte_message.specs.declared.message.StateKind.{StateKind}
use Rattle.airbyte_message.specs.declared.message.StateKind.TheVariants as kind
use Rattle.outside.specs.declared.faults.StateFault.{StateFault}
use Rattle.outside.specs.declared.faults.StateFault.TheVariants as fault
use Rattle.state_kinds.specs.declared.entry.SavedEntry.{SavedEntry}
use Rattle.catalog.specs.declared.stream.ConfStream.{ConfStream}
use Rattle.catalog.specs.declared.stream.Gen.{Gen}
use Rattle.state_kinds.specs.Saved.{Saved, entry_ids, entry_of, has_states, has_stream}

-- ---- an attempt begins: each configured stream is given a generation

abbrev pub Given : Type 0
Given = List (StreamId × ℕ)

-- the generations that an attempt gives to the streams of a catalog, one to each
abbrev pub given_of : List ConfStream → List Gen → Given
given_of streams gens = map (λ pair. (pair.0.id, pair.1.generation)) (zip streams gens)

-- the generation that a stream is given
abbrev pub generation_of : Given → StreamId → Option ℕ
generation_of given id = option_map (λ pair. pair.1) (find (λ pair. is_same_stream id pair.0) given)

-- an entry whose stream is given this generation, or none: its state stays where its generation does
abbrev pub renewed_to : SavedEntry → Option ℕ → SavedEntry
renewed_to entry None = entry
renewed_to entry (Some generation) = if entry.generation == generation then entry else (record entry { generation = generation; state = None })

abbrev pub renewed : Given → SavedEntry → SavedEntry
renewed given entry = renewed_to entry (generation_of given entry.id)

-- a new entry
abbrev pub new_entry : StreamId × ℕ → SavedEntry
new_entry pair = record { id = pair.0; generation = pair.1; state = None }

-- the entries of the streams that are not among these
abbrev pub added : Given → List StreamId → List SavedEntry
added given ids = map new_entry (filter (λ pair. not (has_stream ids pair.0)) given)

-- whether there is an entry, of this generation
abbrev pub is_of : ℕ → Option SavedEntry → Bool
is_of generation None = false
is_of generation (Some entry) = entry.generation == generation

-- whether the stream had no entry, or one of another generation
abbrev pub is_changed : List SavedEntry → StreamId × ℕ → Bool
is_changed entries pair = not (is_of pair.1 (entry_of entries pair.0))

-- Each configured stream has its generation. Where that is another, or there was no entry, its state is dropped, and so is a
-- state of all streams. Entries of other streams stay.
abbrev pub begun : Given → Saved → Saved
begun given set = record {
  entries = map (renewed given) set.entries ++ added given (entry_ids set.entries);
  global = if list_any (is_changed set.entries) given then None else set.global;
}

-- ---- a state is put

abbrev pub with_state : StreamId → List ℕ → SavedEntry → SavedEntry
with_state id object entry = if is_same_stream id entry.id then (record entry { state = Some object }) else entry

abbrev pub put_stream : StreamId → List ℕ → Saved → Result Saved StateFault
put_stream id object set =
    if is_some set.global then Err fault.Mixed
    else (if has_stream (entry_ids set.entries) id then Ok (record set { entries = map (with_state id object) set.entries }) else Err fault.Unknown)

abbrev pub put_global : List ℕ → Saved → Result Saved StateFault
put_global object set = if has_states set.entries then Err fault.Mixed else Ok (record set { global = Some object })

abbrev pub put_kind : StateKind → List ℕ → Saved → Result Saved StateFault
put_kind (kind.Stream id blob) object set = put_stream id object set
put_kind (kind.Global shared streams) object set = put_global object set
put_kind kind.Legacy object set = Err fault.Legacy

-- The state takes the place of its lane's state, or is refused.
abbrev pub put_into : State → Saved → Result Saved StateFault
put_into state set = put_kind state.kind state.object set
