-- Where a sync stands behind its events: what its state store holds, and what the last attempt has done so far.
use Rattle.std.specs.Prelude.{◌≡◌, ℕ, List, [], ◌∷◌, ◌++◌, map, filter, Bool, true, false, is_none, option_map, if◌then◌else◌, Option, None, Some}
use Rattle.std.specs.Fmt.{decimal}
use Rattle.basics.specs.declared.stream.StreamId.{StreamId}
use Rattle.outside.specs.Event.{read_over}
use Rattle.outside.specs.declared.event.Event.{Event}
use Rattle.outside.specs.declared.event.Event.TheVariants as event
use Rattle.airbyte_message.specs.declared.message.Message.TheVariants as message
use Rattle.airbyte_message.specs.declared.message.TraceMsg.TheVariants as trace
use Rattle.airbyte_message.specs.declared.stream_status.StreamStatus.TheVariants.{Complete}
use Rattle.message_writer.specs.Written.{written}
use Rattle.load_rules.specs.Lines.{Line, Reading, line_read, lines_read}
use Rattle.load_rules.specs.Taken.{LaneState, states}
use Rattle.load_rules.specs.Finished.{last_status}
use Rattle.load_rules.specs.Attempts.{reads, passed, TakesState}
use Rattle.state_kinds.specs.Saved.{Saved, nothing_saved}

-- ---- an attempt

-- the saved set that an attempt was started with, and the events that its link has added by itself since
pub record Running : Type 0 where
  pub start : Saved
  pub events : List Event

-- the texts of lines
abbrev pub texts : List Line → List (List ℕ)
texts lines = map (λ line. line.text) lines

-- the line that tells that a stream is complete
abbrev pub completion : StreamId → List ℕ
completion id = written (message.Trace (trace.Status id Complete (Some (decimal 0))))

-- the streams of which no line of the source tells a status
abbrev pub untold : List StreamId → Reading → List Event → List StreamId
untold ids read events = filter (λ id. is_none (last_status id (lines_read read (reads events)))) ids

-- Once the source's output has ended, each stream without any status is told to be complete, in the catalog's order.
abbrev pub completions : List StreamId → Reading → List Event → List (List ℕ)
completions ids read events = if read_over events then map completion (untold ids read events) else []

-- what the destination is to be given, in order: the lines that are passed on, then the completions
abbrev pub to_give : List StreamId → Reading → List Event → List (List ℕ)
to_give ids read events = texts (passed ids read events) ++ completions ids read events

-- What a line takes that comes back behind these events of its attempt: the given state that it takes, or nothing.
abbrev pub Takes : Reading → List Event → List ℕ → Option LaneState → Type 0
Takes read events text (Some taken) = (back : LaneState) × (states (line_read read text ∷ []) ≡ back ∷ []) × TakesState read events back taken
Takes read events text None = (back taken : LaneState) → states (line_read read text ∷ []) ≡ back ∷ [] → ¬ TakesState read events back taken

-- ---- a sync

pub record Sync : Type 0 where
  -- the saved set, and what it was before it was saved last
  pub set : Saved
  pub previous : Saved
  -- it was saved behind the last start of an attempt
  pub is_begun : Bool
  -- what the last line that came back took, until a set is saved or an attempt is started
  pub owed : Option LaneState
  -- the attempt that was started last
  pub attempt : Option Running

abbrev pub no_sync : Sync
no_sync = record { set = nothing_saved; previous = nothing_saved; is_begun = false; owed = None; attempt = None }

abbrev pub and_event : Event → Running → Running
and_event event attempt = record attempt { events = attempt.events ++ event ∷ [] }

-- the last attempt goes on by an event
abbrev pub with_event : Event → Sync → Sync
with_event event sync = record sync { attempt = option_map (and_event event) sync.attempt }

-- an attempt is started
abbrev pub started : Sync → Sync
started sync = record sync { is_begun = false; owed = None; attempt = Some (record { start = sync.set; events = [] }) }

-- a line came back, and took this
abbrev pub got : List ℕ → Option LaneState → Sync → Sync
got text owed sync = record (with_event (event.Got text) sync) { owed = owed }

-- a set is saved, as this text
abbrev pub saved : List ℕ → Saved → Sync → Sync
saved text set sync = record (with_event (event.Saved text) sync) { set = set; previous = sync.set; is_begun = true; owed = None }
