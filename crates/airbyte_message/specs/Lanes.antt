-- The lane of a state, and the records that a state covers (Airbyte Protocol, version 0: AirbyteStateMessage).
use Rattle.std.specs.Prelude.{◌≡◌, Option, None, Some, IsSomeAnd}
use Rattle.basics.specs.declared.stream.StreamId.{StreamId}
use Rattle.airbyte_message.specs.State.{State}
use Rattle.airbyte_message.specs.declared.message.RecordMsg.{RecordMsg}
use Rattle.airbyte_message.specs.declared.message.StateKind.{StateKind}
use Rattle.airbyte_message.specs.declared.message.StateKind.TheVariants as kind

-- one stream, or all streams
pub data Lane : Type 0 where
  one : StreamId → Lane
  all : Lane

-- the lane of a state; a Legacy state has none
abbrev pub lane_of : StateKind → Option Lane
lane_of (kind.Stream id blob) = Some (one id)
lane_of (kind.Global shared streams) = Some all
lane_of kind.Legacy = None

-- a lane covers its stream, or all streams
abbrev pub LaneCovers : Lane → StreamId → Type 0
LaneCovers (one id) stream = stream ≡ id
LaneCovers all stream = Unit {0}

-- a state covers the records of the streams that its lane covers
abbrev pub Covers : State → RecordMsg → Type 0
Covers state content = IsSomeAnd (lane_of state.kind) (λ lane. LaneCovers lane content.id)
