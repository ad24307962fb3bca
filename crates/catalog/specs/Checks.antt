-- The checks of an entry whose members have their forms, in their order, and the stream that it configures where none fails.
use Rattle.std.specs.Prelude.{ℕ, List, [], ◌∷◌, Option, None, Some, Result, Ok, Err, Bool, true, false, nat_lt, unwrap_or, if◌then◌else◌}
use Rattle.std.specs.List.{list_any}
use Rattle.stream_index.specs.Same.{is_same_stream}
use Rattle.basics.specs.declared.limits.TheConstants.{GREATEST_GENERATION}
use Rattle.basics.specs.declared.stream.StreamId.{StreamId}
use Rattle.outside.specs.declared.faults.CatalogFault.{CatalogFault}
use Rattle.outside.specs.declared.faults.CatalogFault.TheVariants as fault
use Rattle.catalog.specs.declared.modes.SyncMode.{SyncMode}
use Rattle.catalog.specs.declared.modes.DestMode.{DestMode}
use Rattle.catalog.specs.declared.modes.DestMode.TheVariants as dest
use Rattle.catalog.specs.declared.stream.ConfStream.{ConfStream}
use Rattle.catalog.specs.declared.entry.Entry.{Entry}
use Rattle.catalog.specs.declared.entry.Ids.{Ids}
use Rattle.catalog.specs.Modes.{sync_mode_of, dest_mode_of}
use Rattle.catalog.specs.Entry.{PathNames}

-- the first list, or the other where the first is empty
abbrev pub or_else : {A : Type 0} → List A → List A → List A
or_else [] other = other
or_else (item ∷ items) other = item ∷ items

-- an empty path is no path
abbrev pub unless_empty : PathNames → Option PathNames
unless_empty [] = None
unless_empty (name ∷ names) = Some (name ∷ names)

-- the stream that an entry configures with these modes
abbrev pub stream_with : List ℕ → Entry → SyncMode → DestMode → ConfStream
stream_with text entry sync_mode dest_mode = record {
  id = entry.stream.id;
  sync = sync_mode;
  dest = dest_mode;
  cursor = unless_empty (or_else entry.cursor entry.stream.cursor);
  key = or_else entry.key entry.stream.key;
  generation = entry.ids.generation;
  minimum = unwrap_or entry.ids.minimum 0;
  sync_id = entry.ids.sync_id;
  resumable = entry.stream.resumable;
  schema = entry.stream.schema;
  raw_entry = text;
}

abbrev pub is_above : Option ℕ → Bool
is_above None = false
is_above (Some id) = nat_lt GREATEST_GENERATION id

-- an id is above the limit
abbrev pub is_too_large : Ids → Bool
is_too_large ids = list_any is_above (ids.generation ∷ ids.minimum ∷ ids.sync_id ∷ [])

-- the minimum generation is above the generation, where an absent one is 0
abbrev pub is_minimum_above : Ids → Bool
is_minimum_above ids = nat_lt (unwrap_or ids.generation 0) (unwrap_or ids.minimum 0)

-- a stream that is deduplicated has no key
abbrev pub lacks_key : DestMode → List PathNames → Bool
lacks_key dest.AppendDedup [] = true
lacks_key _ _ = false

-- the fault of the first check that fails
abbrev pub first_failing : {F : Type 0} → List (Bool × F) → Option F
first_failing [] = None
first_failing (check ∷ checks) = if check.0 then Some check.1 else first_failing checks

-- the checks of stream n with these members, whatever streams stand before it
abbrev pub fault_of : ℕ → Ids → DestMode → List PathNames → Option CatalogFault
fault_of n ids dest_mode key = first_failing (
    (is_too_large ids, fault.TooLarge n)
    ∷ (is_minimum_above ids, fault.MinimumAboveGeneration n)
    ∷ (lacks_key dest_mode key, fault.NoKey n)
    ∷ [])

-- a value, unless there is a fault
abbrev pub unless : {A F : Type 0} → Option F → A → Result A F
unless None value = Ok value
unless (Some found) value = Err found

-- what an entry is, once its modes are known; a word that is no mode is found before all else
abbrev pub judged_in : ℕ → List ℕ → Entry → Option SyncMode → Option DestMode → Result ConfStream CatalogFault
judged_in n text entry (Some sync_mode) (Some dest_mode) =
    let stream = stream_with text entry sync_mode dest_mode in unless (fault_of n entry.ids dest_mode stream.key) stream
judged_in n text entry _ _ = Err (fault.BadMode n)

-- what an entry with these members is as stream n, whatever streams stand before it
abbrev pub judged_alone : ℕ → List ℕ → Entry → Result ConfStream CatalogFault
judged_alone n text entry = judged_in n text entry (sync_mode_of entry.sync) (dest_mode_of entry.dest)

-- a stream whose id stands earlier is faulty
abbrev pub once : List StreamId → ℕ → Result ConfStream CatalogFault → Result ConfStream CatalogFault
once earlier n (Ok stream) = if list_any (is_same_stream stream.id) earlier then Err (fault.Twice n) else Ok stream
once earlier n (Err found) = Err found

-- what an entry with these members is as stream n, behind the streams with these ids
abbrev pub judged : List StreamId → ℕ → List ℕ → Entry → Result ConfStream CatalogFault
judged earlier n text entry = once earlier n (judged_alone n text entry)
