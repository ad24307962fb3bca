-- What a source has to give, whatever attempt asks for it, and where an attempt starts in it.
use Rattle.std.specs.Prelude.{ℕ, List, map, filter, drop, Bool, Option, None, Some, if◌then◌else◌}
use Rattle.basics.specs.declared.stream.StreamId.{StreamId}
use Rattle.airbyte_message.specs.Lanes.{Lane, one, all}
use Rattle.load_rules.specs.Lines.{Line}
use Rattle.load_rules.specs.Taken.{Entry, entries, covers}
use Rattle.state_kinds.specs.Saved.{Saved, state_of}

-- the data of a record, and its stream
pub record Body : Type 0 where
  pub id : StreamId
  pub body : List ℕ

-- One list of bodies for each stream, or one for all streams where the source's states are of all streams; and how many bodies of
-- its lane's list stand before a state. A state is the text of its object here, so each text has one place, in every attempt.
pub record Source : Type 0 where
  pub is_global : Bool
  pub list : Lane → List Body
  pub place : List ℕ → ℕ

-- the lane of the source's list that has a stream's records
abbrev pub lane_for : Source → StreamId → Lane
lane_for source id = if source.is_global then all else one id

abbrev pub place_of : Source → Option (List ℕ) → ℕ
place_of source None = 0
place_of source (Some object) = source.place object

-- the state that a set has of a lane
abbrev pub held_in : Saved → Lane → Option (List ℕ)
held_in set (one id) = state_of set.entries id
held_in set all = set.global

-- where an attempt starts in the list of a stream that is started with this set: at the place of its state, or at the first body
abbrev pub start_of : Source → Saved → StreamId → ℕ
start_of source set id = place_of source (held_in set (lane_for source id))

-- the bodies from there on
abbrev pub rest_of : Source → Saved → StreamId → List Body
rest_of source set id = drop (start_of source set id) (source.list (lane_for source id))

abbrev pub body_told : Entry → Body
body_told entry = record { id = entry.content.id; body = entry.content.body }

-- the bodies of the records among lines that a lane covers, in order
abbrev pub bodies : Lane → List Line → List Body
bodies lane lines = map body_told (filter (λ entry. covers lane entry.content.id) (entries lines))
