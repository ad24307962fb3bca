-- An attempt of a source that can be replayed: it reads what the source has to give, from the place of the state on that it was
-- started with.
use Rattle.std.specs.Prelude.{◌≡◌, ◌+◌, ◌≤◌, List, length, true, Contains, Option, None, Some}
use Rattle.std.specs.List.{AllByRecursion}
use Rattle.basics.specs.declared.stream.StreamId.{StreamId}
use Rattle.outside.specs.Event.{read_over}
use Rattle.outside.specs.declared.event.Codes.{Codes}
use Rattle.outside.specs.declared.event.Event.{Event}
use Rattle.outside.specs.declared.event.Event.TheVariants as event
use Rattle.outside.specs.declared.event.Exit.TheVariants.{Code}
use Rattle.airbyte_message.specs.Lanes.{Lane, one, all}
use Rattle.airbyte_message.specs.declared.stream_status.StreamStatus.{StreamStatus}
use Rattle.airbyte_message.specs.declared.stream_status.StreamStatus.TheVariants.{Complete}
use Rattle.load_rules.specs.Prefixes.{IsPrefix}
use Rattle.load_rules.specs.Lines.{Reading, lines_read, is_known}
use Rattle.load_rules.specs.Taken.{LaneState, states, covers}
use Rattle.load_rules.specs.Finished.{last_status}
use Rattle.load_rules.specs.Attempts.{Attempt, reads, passed}
use Rattle.state_kinds.specs.Saved.{Saved}
use Rattle.state_kinds.specs.Texts.{states_text}
use Rattle.state_kinds.specs.Writable.{IsWritable}
use Rattle.replay_rules.specs.Sources.{Source, lane_for, place_of, held_in, rest_of, bodies}

-- the lane is one of the source's kind
abbrev pub IsOfSource : Source → Lane → Type 0
IsOfSource source (one id) = lane_for source id ≡ one id
IsOfSource source all = source.is_global ≡ true

-- A state that is read stands at its place or behind it: so many bodies of its lane were given before it, from the start on or
-- since then, in this attempt. (A source may give a record again, so a place may be less.)
pub record IsPlaced (source : Source) (set : Saved) (state : LaneState) : Type 0 where
  pub own : IsOfSource source state.lane
  pub is : source.place state.state.object ≤ place_of source (held_in set state.lane) + length (bodies state.lane state.before)

-- the source said last that a stream is complete, or said nothing of it
abbrev pub IsFine : Option StreamStatus → Type 0
IsFine None = Unit {0}
IsFine (Some status) = status ≡ Complete

-- The source's output was read to its end, the source ended with code 0, and each stream of the lane is complete, or none was said
-- to be.
pub record IsReadOut (ids : List StreamId) (read : Reading) (lane : Lane) (events : List Event) : Type 0 where
  pub over : read_over events ≡ true
  pub codes : Codes
  pub ended : Contains events (event.Ended codes)
  pub code : codes.source ≡ Some (Code 0)
  pub fine : (id : StreamId) → is_known ids id ≡ true → covers lane id ≡ true → IsFine (last_status id (lines_read read (reads events)))

-- The events of an attempt that was started with this set. For each configured stream: the records that it read in the stream's lane
-- are the first of those from its start on, and they are all where the lane was read out.
pub record IsReplayedFrom (ids : List StreamId) (read : Reading) (source : Source) (set : Saved) (events : List Event) : Type 0 where
  pub reads_on : (id : StreamId) → is_known ids id ≡ true → IsPrefix (bodies (lane_for source id) (passed ids read events)) (rest_of source set id)
  pub placed : AllByRecursion (IsPlaced source set) (states (passed ids read events))
  pub whole : (id : StreamId) → is_known ids id ≡ true → IsReadOut ids read (lane_for source id) events → bodies (lane_for source id) (passed ids read events) ≡ rest_of source set id

-- The attempt is one of the source, whichever set its states are of. (A text is that of one set's states, as far as the configured
-- streams go: each state tells its lane.)
abbrev pub IsReplayable : List StreamId → Reading → Source → Attempt → Type 0
IsReplayable ids read source attempt = (set : Saved) → IsWritable set → attempt.plan.states ≡ states_text set ids → IsReplayedFrom ids read source set attempt.events
