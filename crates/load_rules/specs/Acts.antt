-- The events of a load as they are meant: each taken line with what it is read as, and each emitted line with the state whose
-- echo it is.
use Rattle.std.specs.Prelude.{◌≡◌, ℕ, List, [], ◌∷◌, map, filter_map, flat_map, Option, None, Some}
use Rattle.outside.specs.declared.event.Event.{Event}
use Rattle.outside.specs.declared.event.Event.TheVariants as event
use Rattle.outside.specs.declared.event.RawRow.{RawRow}
use Rattle.airbyte_message.specs.Echo.{IsEcho}
use Rattle.airbyte_message.specs.Lanes.{Lane}
use Rattle.load_rules.specs.Lines.{Line, Reading, line_read}
use Rattle.load_rules.specs.Taken.{LaneState, of_lane, count_of}

pub data Act : Type 0 where
  Takes : (line : Line) → Act
  Ends : Act
  Commits : (number : ℕ) (rows : List RawRow) → Act
  Echoes : (state : LaneState) → Act
  -- a merge, or a stream that is shown
  Turns : Act

abbrev pub IsAct : Reading → Act → Event → Type 0
IsAct read (Takes line) (event.Took text) = line ≡ line_read read text
IsAct read Ends event.TookEnd = Unit {0}
IsAct read (Commits number rows) (event.Committed own committed) = (own ≡ number) × (committed ≡ rows)
IsAct read (Echoes state) (event.Emitted text) = IsEcho state.state.object (count_of state) text
IsAct read Turns (event.Merged stream winners mark) = Unit {0}
IsAct read Turns (event.Shown stream floor top) = Unit {0}
IsAct read _ _ = ⊥

abbrev pub AreActs : Reading → List Act → List Event → Type 0
AreActs read [] [] = Unit {0}
AreActs read (act ∷ acts) (event ∷ events) = IsAct read act event × AreActs read acts events
AreActs read [] (event ∷ events) = ⊥
AreActs read (act ∷ acts) [] = ⊥

abbrev pub line_of : Act → Option Line
line_of (Takes line) = Some line
line_of act = None

-- the lines that were taken
abbrev pub taken : List Act → List Line
taken acts = filter_map line_of acts

abbrev pub rows_of : Act → List RawRow
rows_of (Commits number rows) = rows
rows_of act = []

-- the sequences that were committed
abbrev pub committed : List Act → List ℕ
committed acts = map (λ row. row.seq) (flat_map rows_of acts)

abbrev pub state_echoed : Act → Option LaneState
state_echoed (Echoes state) = Some state
state_echoed act = None

-- the states of a lane that were echoed
abbrev pub echoed : Lane → List Act → List LaneState
echoed lane acts = of_lane lane (filter_map state_echoed acts)
