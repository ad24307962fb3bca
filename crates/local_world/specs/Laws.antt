-- The laws of files that are given again.
use Rattle.std.specs.Prelude.{◌≡◌, List, ◌∷◌, ◌++◌, None, Some}
use Rattle.airbyte_message.specs.Lanes.{Lane, lane_of}
use Rattle.airbyte_message.specs.Same.{Same}
use Rattle.airbyte_message.specs.State.{State}
use Rattle.state_kinds.specs.StateLists.{list_fault}
use Rattle.load_rules.specs.Lines.{Line, state_in}
use Rattle.local_world.specs.Starts.{AreStarts, Start}
use Rattle.local_world.specs.Left.{left_behind}
use Rattle.local_world.specs.Replay.{GivesRest, IsReplayable, of_lane, others_in, started}

-- Behind any array of its states that is not refused a replayable file gives the rest of each lane.
abbrev pub FilesReplay : Type 0
FilesReplay = (lane : Lane) (lines : List Line) (states : List State) (starts : List Start)
    → IsReplayable lane lines → list_fault states ≡ None → AreStarts lines states starts
    → GivesRest lane lines (started lane states) (left_behind starts lines)

-- A file that gave a state of a lane, begun again with that state for the lane, gives the lane's lines behind it.
abbrev pub FilesResume : Type 0
FilesResume = (lane : Lane) (lines : List Line) (states again : List State) (starts later : List Start) (gone rest : List Line) (line : Line) (own state : State)
    → IsReplayable lane lines → list_fault states ≡ None → AreStarts lines states starts → left_behind starts lines ≡ gone ++ line ∷ rest
    → state_in line.found ≡ Some own → lane_of own.kind ≡ Some lane
    → list_fault again ≡ None → AreStarts lines again later → started lane again ≡ Some state → Same own state
    → of_lane lane (left_behind later lines) ≡ of_lane lane rest

-- Lines that are no records and no states stay, wherever the file starts.
abbrev pub OthersStay : Type 0
OthersStay = (lines : List Line) (starts : List Start) → others_in (left_behind starts lines) ≡ others_in lines
