-- Where the states that are pending in a ledger stand among the lines of the source.
use Rattle.std.specs.Prelude.{◌≡◌, ℕ, ◌+◌, List, [], ◌∷◌, ◌++◌, filter, length, true, Option, None, Some}
use Rattle.std.specs.List.{AllByRecursion}
use Rattle.basics.specs.declared.stream.StreamId.{StreamId}
use Rattle.outside.specs.declared.event.Event.{Event}
use Rattle.airbyte_message.specs.Lanes.{Lane}
use Rattle.load_rules.specs.Lines.{Reading, is_known_kind, lines_read, passes}
use Rattle.load_rules.specs.Taken.{LaneState}
use Rattle.load_rules.specs.Attempts.{gives, reads, Waiting, none_given, LeavesAll}
use Rattle.sync_rules.specs.Sync.{texts}
use Rattle.sync_ledger.specs.Noted.{Noted, pending_in}
use Rattle.sync_ledger.specs.declared.pending.Pending.{Pending}
use Rattle.attempt_turns.specs.Waits.{StandsIn}

-- it is this given state of the lane, which stands in its line and is passed on
pub record IsPlaced (ids : List StreamId) (read : Reading) (events : List Event) (lane : Lane) (pending : Pending) (state : LaneState) : Type 0 where
  pub of_lane : state.lane ≡ lane
  pub same : pending.state ≡ state.state
  pub stands : StandsIn ids read events pending.line state
  pub known : is_known_kind ids state.state.kind ≡ true

abbrev pub AllPlaced : List StreamId → Reading → List Event → Lane → List Pending → List LaneState → Type 0
AllPlaced ids read events lane [] [] = Unit {0}
AllPlaced ids read events lane (pending ∷ more) (state ∷ states) = IsPlaced ids read events lane pending state × AllPlaced ids read events lane more states
AllPlaced ids read events lane pending states = ⊥

-- what is pending in a lane is what waits in it, one by one
pub record LaneIsPlaced (ids : List StreamId) (read : Reading) (events : List Event) (lane : Lane) (pending : List Pending) : Type 0 where
  pub waiting : Waiting
  pub waits : LeavesAll read lane none_given events waiting
  pub each : AllPlaced ids read events lane pending waiting.states

-- The line that is to be given next is the last that was read, and what was given before is what is passed on of the lines before it;
-- where it is a state it has its number.
pub record IsLastLine (ids : List StreamId) (read : Reading) (events : List Event) (text : List ℕ) (held : List Pending) : Type 0 where
  pub front : List (List ℕ)
  pub last : reads events ≡ front ++ text ∷ []
  pub given : gives events ≡ texts (filter (λ line. passes ids line.found) (lines_read read front))
  pub numbered : AllByRecursion (λ pending. pending.line ≡ length front + 1) held

abbrev pub HeldIsLast : List StreamId → Reading → List Event → Option (List ℕ) → List Pending → Type 0
HeldIsLast ids read events None held = Unit {0}
HeldIsLast ids read events (Some text) held = IsLastLine ids read events text held

-- behind these events, where this line is to be given next
pub record ArePlaced (ids : List StreamId) (read : Reading) (events : List Event) (line : Option (List ℕ)) (noted : Noted) : Type 0 where
  pub lanes : (lane : Lane) → LaneIsPlaced ids read events lane (pending_in noted lane)
  pub held : HeldIsLast ids read events line noted.held
