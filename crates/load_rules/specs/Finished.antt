-- A finished load: all that was taken is committed, echoed, merged and shown.
use Rattle.std.specs.Prelude.{◌≡◌, ℕ, ◌<◌, List, [], ◌∷◌, fold, Bool, true, false, slice_get, if◌then◌else◌, Contains, Option, None, Some, IsSome}
use Rattle.std.specs.List.{AllByRecursion}
use Rattle.basics.specs.declared.stream.StreamId.{StreamId}
use Rattle.outside.specs.Tables.{same_id, tables_of, plan_at}
use Rattle.outside.specs.declared.event.Event.{Event}
use Rattle.outside.specs.declared.event.Event.TheVariants.{TookEnd}
use Rattle.outside.specs.declared.event.StreamPlan.{StreamPlan}
use Rattle.outside.specs.declared.table.Tables.{Tables}
use Rattle.airbyte_message.specs.Lanes.{Lane, lane_of}
use Rattle.airbyte_message.specs.State.{State}
use Rattle.airbyte_message.specs.declared.stream_status.StreamStatus.{StreamStatus}
use Rattle.airbyte_message.specs.declared.stream_status.StreamStatus.TheVariants.{Complete}
use Rattle.catalog.specs.declared.stream.ConfStream.{ConfStream}
use Rattle.catalog.specs.declared.modes.DestMode.{DestMode}
use Rattle.catalog.specs.declared.modes.DestMode.TheVariants as dest
use Rattle.dedup_merge.specs.Merges.{unmerged_at}
use Rattle.load_rules.specs.Lines.{Line, Reading, lines_read, Status, status_in, state_in}
use Rattle.load_rules.specs.Taken.{states, of_lane}
use Rattle.load_rules.specs.Loads.{Load, loads, tooks, held_in}
use Rattle.load_rules.specs.Acts.{Act, AreActs, taken, echoed}

abbrev pub is_dedup : DestMode → Bool
is_dedup dest.AppendDedup = true
is_dedup dest.Append = false
is_dedup dest.Overwrite = false

abbrev pub status_after : StreamId → Option StreamStatus → Option Status → Option StreamStatus
status_after id last None = last
status_after id last (Some status) = if same_id status.id id then Some status.status else last

-- the last status of a stream among lines
abbrev pub last_status : StreamId → List Line → Option StreamStatus
last_status id lines = fold (λ last line. status_after id last (status_in line.found)) None lines

-- its source said last, in the lines that the load took, that a stream is complete
abbrev pub IsComplete : Reading → Load → ConfStream → Type 0
IsComplete read load stream = last_status stream.id (lines_read read (tooks load.events)) ≡ Some Complete

-- Of a stream of the catalog: it stands at its number in the load's plan; where it is deduplicated, nothing is left to merge on
-- the load's side; and it is not hidden, or no more.
pub record StreamIsDone (tables : Tables) (number : ℕ) (stream : ConfStream) : Type 0 where
  pub plan : StreamPlan
  pub planned : plan_at tables number ≡ Some plan
  pub same : plan.id ≡ stream.id
  pub merged : is_dedup stream.dest ≡ true → unmerged_at tables number ≡ []
  pub shown : plan.hidden ≡ false

abbrev pub HasLane : Option State → Type 0
HasLane None = Unit {0}
HasLane (Some state) = IsSome (lane_of state.kind)

-- each state of these acts is echoed, lane by lane in order; a state without a lane has no echo
pub record EchoesAll (acts : List Act) : Type 0 where
  pub lanes : AllByRecursion (λ line. HasLane (state_in line.found)) (taken acts)
  pub echoed_are : (lane : Lane) → echoed lane acts ≡ of_lane lane (states (taken acts))

-- This is the last load of the trace; its input has ended, and all that it took is committed and echoed.
pub record LoadIsDone (read : Reading) (trace : List Event) (load : Load) : Type 0 where
  pub older : List Load
  pub last : loads trace ≡ load ∷ older
  pub ended : Contains load.events TookEnd
  pub committed_are : held_in read load.events ≡ []
  pub acts : List Act
  pub are : AreActs read acts load.events
  pub echoes : EchoesAll acts

-- The last load of the trace is finished: all that it took is done, and each stream of the catalog is complete, merged and shown.
pub record IsFinished (streams : List ConfStream) (read : Reading) (trace : List Event) : Type 0 where
  pub load : Load
  pub done : LoadIsDone read trace load
  pub complete : (number : ℕ) (stream : ConfStream) → slice_get streams number ≡ Some stream → IsComplete read load stream
  pub each : (number : ℕ) (stream : ConfStream) → slice_get streams number ≡ Some stream → StreamIsDone (tables_of trace) number stream

-- It is finished but for the streams that are not complete, of which nothing more is asked; and this number is that of the first.
pub record IsIncomplete (streams : List ConfStream) (read : Reading) (trace : List Event) (number : ℕ) : Type 0 where
  pub load : Load
  pub done : LoadIsDone read trace load
  pub each : (other : ℕ) (stream : ConfStream) → slice_get streams other ≡ Some stream → IsComplete read load stream → StreamIsDone (tables_of trace) other stream
  pub stream : ConfStream
  pub configured : slice_get streams number ≡ Some stream
  pub incomplete : ¬ IsComplete read load stream
  pub before : (other : ℕ) (stream : ConfStream) → other < number → slice_get streams other ≡ Some stream → IsComplete read load stream
