-- What a ledger knows, by the events of its attempt.
use Rattle.std.specs.Prelude.{◌≡◌, ℕ, List, [], ◌∷◌, map, Bool, true, false, option_map, if◌then◌else◌, Option, None, Some, Result, Ok, Err}
use Rattle.basics.specs.declared.stream.StreamId.{StreamId}
use Rattle.outside.specs.Event.{read_in, given_in, got_in}
use Rattle.outside.specs.declared.event.Event.{Event}
use Rattle.outside.specs.declared.faults.Breach.{Breach}
use Rattle.outside.specs.declared.faults.Side.TheVariants as side
use Rattle.airbyte_message.specs.Lanes.{Lane, lane_of}
use Rattle.airbyte_message.specs.State.{State}
use Rattle.load_rules.specs.Lines.{Reading, lines_read, passes, state_in}
use Rattle.load_rules.specs.Taken.{LaneState}
use Rattle.load_rules.specs.Attempts.{reads, Waiting, none_given, LeavesAll}
use Rattle.state_kinds.specs.Saved.{Saved}
use Rattle.sync_rules.specs.Breaches.{AreUnbroken, has_global_state, has_stream_state}
use Rattle.sync_ledger.specs.Lists.{IsNotedOf}
use Rattle.sync_ledger.specs.Noted.{Noted, pending_in, saved_form}
use Rattle.sync_ledger.specs.Told.{told_of}
use Rattle.sync_ledger.specs.declared.form.StateForm.{StateForm}
use Rattle.sync_ledger.specs.declared.form.StateForm.TheVariants as form
use Rattle.sync_ledger.specs.declared.pending.Pending.{Pending}
use Rattle.sync_ledger.specs.declared.told.Told.{Told}
use Rattle.sync_ledger.specs.declared.verdict.Echoed.{Echoed}
use Rattle.sync_ledger.specs.declared.verdict.Echoed.TheVariants as echoed
use Rattle.sync_ledger.specs.declared.verdict.Verdict.{Verdict}
use Rattle.sync_ledger.specs.declared.verdict.Verdict.TheVariants as verdict

-- what a line of the source tells
abbrev pub told_read : Reading → List ℕ → Told
told_read read text = told_of side.Source text (read text)

-- a state that has a lane
abbrev pub with_lane : State → Option Lane → List State
with_lane state None = []
with_lane state (Some lane) = state ∷ []

abbrev pub states_in : Option State → List State
states_in None = []
states_in (Some state) = with_lane state (lane_of state.kind)

abbrev pub states_pending : List Pending → List State
states_pending pending = map (λ it. it.state) pending

abbrev pub states_waiting : List LaneState → List State
states_waiting waiting = map (λ it. it.state) waiting

-- what is pending in a lane is what waits in it behind these events: the given states that may still be taken, in order
pub record IsPendingOf (read : Reading) (events : List Event) (lane : Lane) (pending : List Pending) : Type 0 where
  pub waiting : Waiting
  pub waits : LeavesAll read lane none_given events waiting
  pub same : states_pending pending ≡ states_waiting waiting.states

-- of which form states are, by whether there are some of streams and some of all streams
abbrev pub form_by : Bool → Bool → Option StateForm
form_by of_streams of_all = if of_all then Some form.Global else (if of_streams then Some form.Stream else None)

-- the line that is to be given next is passed on, and where it is a state the ledger holds it
abbrev pub Holds : List StreamId → Reading → Option (List ℕ) → List Pending → Type 0
Holds ids read None held = held ≡ []
Holds ids read (Some text) held = (passes ids (read text) ≡ true) × (states_pending held ≡ states_in (state_in (read text)))

-- The ledger of an attempt over these streams that was started with this set, behind these events, where this line is to be given
-- next. No line that it heard was a breach.
pub record IsLedgerOf (ids : List StreamId) (start : Saved) (read : Reading) (events : List Event) (line : Option (List ℕ)) (noted : Noted) : Type 0 where
  pub ids_are : noted.ids ≡ ids
  pub heard : IsNotedOf (saved_form start) (map (told_read read) (reads events)) noted
  pub unbroken : AreUnbroken ids start (lines_read read (reads events))
  pub form : noted.form ≡ form_by (has_stream_state start (lines_read read (reads events))) (has_global_state start (lines_read read (reads events)))
  pub holds : Holds ids read line noted.held
  pub waits : (lane : Lane) → IsPendingOf read events lane (pending_in noted lane)

-- the breach for which a line is refused
abbrev pub breach_in : Result Verdict Breach → Option Breach
breach_in (Ok answer) = None
breach_in (Err why) = Some why

abbrev pub is_give : Verdict → Bool
is_give verdict.Give = true
is_give (verdict.Say line) = false
is_give verdict.Nothing = false
is_give (verdict.ConfigError line) = false

-- a line that is to be given is held until it is
abbrev pub held_by : Verdict → List ℕ → Option (List ℕ)
held_by answer text = if is_give answer then Some text else None

-- the state that a line of the destination takes
abbrev pub taken_by : Echoed → Option State
taken_by (echoed.State state) = Some state
taken_by (echoed.Say line) = None
taken_by echoed.Nothing = None
taken_by (echoed.ConfigError line) = None

abbrev pub state_taken : Option LaneState → Option State
state_taken owed = option_map (λ it. it.state) owed

-- an event that is no line of the source or of the destination
pub record IsQuiet (event : Event) : Type 0 where
  pub none_read : read_in event ≡ None
  pub none_given : given_in event ≡ None
  pub none_got : got_in event ≡ None
