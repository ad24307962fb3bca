-- Which lines of a file are left behind its starts.
use Rattle.std.specs.Prelude.{ℕ, ◌+◌, List, [], ◌∷◌, Bool, true, false, ◌&&◌, nat_lt, if◌then◌else◌, Option, None, Some}
use Rattle.std.specs.List.{list_any}
use Rattle.outside.specs.Tables.{same_id}
use Rattle.airbyte_message.specs.Lanes.{Lane, one, all}
use Rattle.airbyte_message.specs.declared.message.Message.{Message}
use Rattle.airbyte_message.specs.declared.message.Message.TheVariants as message
use Rattle.airbyte_message.specs.declared.message.StateKind.{StateKind}
use Rattle.airbyte_message.specs.declared.message.StateKind.TheVariants as kind
use Rattle.load_rules.specs.Lines.{Line}
use Rattle.load_rules.specs.Taken.{covers}
use Rattle.local_world.specs.Starts.{Start}

-- a lane has the states of its stream; that of all streams has every state
abbrev pub has_state : Lane → StateKind → Bool
has_state all kind = true
has_state (one id) (kind.Stream other blob) = same_id id other
has_state (one id) (kind.Global shared streams) = false
has_state (one id) kind.Legacy = false

-- whether a message is of a lane: a record that the lane covers, or a state that it has
abbrev pub is_of : Lane → Option Message → Bool
is_of lane None = false
is_of lane (Some (message.Rec content)) = covers lane content.id
is_of lane (Some (message.State state)) = has_state lane state.kind
is_of lane (Some (message.Log content)) = false
is_of lane (Some (message.Spec content)) = false
is_of lane (Some (message.Connection content)) = false
is_of lane (Some (message.Catalog content)) = false
is_of lane (Some (message.Trace content)) = false
is_of lane (Some (message.Control content)) = false

-- the line with this number, from 0, stands in front of the start of a lane that it is of
abbrev pub is_left_out : List Start → ℕ → Line → Bool
is_left_out starts number line = list_any (λ start. nat_lt number start.behind && is_of start.lane line.found) starts

-- what is left of lines that are numbered from this number on
abbrev pub left_from : List Start → ℕ → List Line → List Line
left_from starts number [] = []
left_from starts number (line ∷ lines) =
    if is_left_out starts number line then left_from starts (number + 1) lines else line ∷ left_from starts (number + 1) lines

-- the lines that are left, in their order
abbrev pub left_behind : List Start → List Line → List Line
left_behind starts lines = left_from starts 0 lines
