-- A dock in memory: what it holds, and what a call adds.
use Rattle.std.specs.Prelude.{◌≡◌, ℕ, ◌+◌, ◌-◌, ◌^◌, ◌≤◌, min, List, [], ◌∷◌, ◌++◌, map, Bool, if◌then◌else◌, Contains, Option, Some}
use Rattle.outside.specs.Link.{Told}
use Rattle.outside.specs.Hand.{Hand, HandPolls, fresh_hand}
use Rattle.outside.specs.Dock.{DockSeen, DockFace, event_of, took_over, took_over_after, IsWithinLimit}
use Rattle.outside.specs.Tables.{tables_of, tables_after, side_marks_of}
use Rattle.outside.specs.declared.dock.DockTally.{DockTally}
use Rattle.outside.specs.declared.event.Event.{Event}
use Rattle.outside.specs.declared.event.Event.TheVariants.{Took, TookEnd}
use Rattle.outside.specs.declared.link.PollKind.{PollKind}
use Rattle.outside.specs.declared.link.PollKind.TheVariants as kind
use Rattle.outside.specs.declared.link.Polled.{Polled}
use Rattle.outside.specs.declared.link.Polled.TheVariants as polled
use Rattle.outside.specs.declared.table.Tables.{Tables}
use Rattle.outside_mem.specs.Calls.{Calls, first_calls, next_call, call_made}

-- The trace

abbrev pub ToldEvent : Type 0
ToldEvent = Told Event DockTally

abbrev pub told : Event → DockTally → ToldEvent
told event counts = record { event = event; counts = counts }

-- events, each with the counts beside it
abbrev pub told_with : List Event → List DockTally → List ToldEvent
told_with [] counts = []
told_with (event ∷ events) [] = []
told_with (event ∷ events) (count ∷ counts) = told event count ∷ told_with events counts

-- The store

-- the tables that a trace makes
abbrev pub trace_tables : List ToldEvent → Tables
trace_tables trace = tables_of (map event_of trace)

-- the event changes no table, and is neither a load's opening nor the input's end
pub record IsPlain (event : Event) : Type 0 where
  pub tables : (tables : Tables) → tables_after tables event ≡ tables
  pub over : (over : Bool) → took_over_after over event ≡ over

-- a trace with the end of the input, where it is the first of the load
abbrev pub ended : DockTally → List ToldEvent → List ToldEvent
ended counts trace = if took_over (map event_of trace) then trace else trace ++ told TookEnd counts ∷ []

-- The dock

-- what contracts see of the dock
pub record DockState : Type 0 where
  pub trace : List ToldEvent
  pub tally : DockTally
  pub poll : PollKind
  pub rows_read : ℕ
  pub hand : Hand
  pub moment : ℕ
  -- the calls that can fail
  pub calls : Calls

abbrev pub hand_of : List (List ℕ) → Option (List ℕ) → Bool → List (List ℕ) → Hand
hand_of waiting torn is_open output = record { waiting = waiting; torn = torn; is_open = is_open; output = output }

abbrev pub face_of : DockState → DockFace
face_of state = record { poll = state.poll; side_marks = side_marks_of (trace_tables state.trace); hand = Some state.hand; moment = Some state.moment }

abbrev pub seen_of : DockState → DockSeen
seen_of state = record { trace = Some state.trace; counts = state.tally; face = face_of state; rows_read = state.rows_read }

abbrev pub no_tally : DockTally
no_tally = record { read_faults = 0; store_faults = 0; write_faults = 0; quiet = 0; opens = 0 }

-- a dock in which nothing happened
abbrev pub first_state : ℕ → List ℕ → DockState
first_state moment fails = record { trace = []; tally = no_tally; poll = kind.Other; rows_read = 0; hand = fresh_hand; moment = moment; calls = first_calls fails }

-- Calls that fail

-- The call was to fail, and nothing has changed but what was counted: calls and faults.
pub record FailsOnly (old new : DockState) : Type 0 where
  pub numbered : Contains old.calls.fails (next_call old.calls)
  pub state : new ≡ record old { calls = call_made old.calls; tally = new.tally }

-- so of a poll, which is the last one
pub record FailsPoll (old new : DockState) : Type 0 where
  pub numbered : Contains old.calls.fails (next_call old.calls)
  pub state : new ≡ record old { calls = call_made old.calls; tally = new.tally; poll = kind.Other }

-- A poll that is not to fail

abbrev pub given_trace : Polled → DockState → List ToldEvent
given_trace (polled.Line line) state = state.trace ++ told (Took line) state.tally ∷ []
given_trace (polled.Torn line) state = state.trace ++ told (Took line) state.tally ∷ []
given_trace polled.TooLong state = state.trace
given_trace polled.NotYet state = state.trace
given_trace polled.End state = ended state.tally state.trace
given_trace polled.Failed state = state.trace
given_trace polled.NoMemory state = state.trace

abbrev pub given_quiet : Polled → ℕ → ℕ
given_quiet polled.NotYet quiet = min (quiet + 1) (2 ^ 64 - 1)
given_quiet (polled.Line line) quiet = quiet
given_quiet (polled.Torn line) quiet = quiet
given_quiet polled.TooLong quiet = quiet
given_quiet polled.End quiet = quiet
given_quiet polled.Failed quiet = quiet
given_quiet polled.NoMemory quiet = quiet

-- what it gives, adds and leaves
pub record Gives (given : Polled) (old new : DockState) : Type 0 where
  pub within : IsWithinLimit given
  pub passes : given ≡ polled.Failed → ⊥
  pub kept : old.tally.quiet ≤ new.tally.quiet
  pub hand : HandPolls given (Some old.hand) (Some new.hand)
  pub state : new ≡ record old { trace = given_trace given old; hand = new.hand; tally = record (old.tally) { quiet = given_quiet given old.tally.quiet } }
