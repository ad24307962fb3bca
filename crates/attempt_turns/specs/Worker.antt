-- What a worker keeps of an attempt, as facts about where its call stands.
use Rattle.std.specs.Prelude.{◌≡◌, ◌⊎◌, ℕ, ◌+◌, ◌<◌, ◌≤◌, List, [], ◌∷◌, ◌++◌, drop, filter, is_none, is_some, length, map, Option, None, Some, option_to_list, Bool, true, false, if◌then◌else◌, IsTrue, IfSome, Ok, Contains}
use Rattle.std.specs.List.{AllByRecursion, list_any}
use Rattle.json_fields.specs.Answer.{IsAnswer}
use Rattle.basics.specs.declared.stream.StreamId.{StreamId}
use Rattle.outside.specs.Event.{read_over, got_over}
use Rattle.outside.specs.Link.{Seen, own_events}
use Rattle.outside.specs.declared.event.Event.{Event}
use Rattle.outside.specs.declared.event.Event.TheVariants as event
use Rattle.outside.specs.declared.event.Exit.TheVariants.{Code}
use Rattle.outside.specs.declared.faults.Side.{Side}
use Rattle.outside.specs.declared.faults.Side.TheVariants as side
use Rattle.outside.specs.declared.link.LinkFace.{LinkFace}
use Rattle.outside.specs.declared.link.PollKind.TheVariants as kind
use Rattle.airbyte_message.specs.Messages.{IsMessage}
use Rattle.airbyte_message.specs.State.{State as StateMsg}
use Rattle.catalog.specs.Reading.{ids_of}
use Rattle.catalog.specs.declared.stream.ConfStream.{ConfStream}
use Rattle.load_rules.specs.Prefixes.{EachFits}
use Rattle.load_rules.specs.Lines.{IsReading, Reading, lines_read, state_in}
use Rattle.load_rules.specs.Taken.{LaneState, states}
use Rattle.load_rules.specs.Finished.{last_status}
use Rattle.load_rules.specs.Attempts.{gives, gots, passed, reads}
use Rattle.load_rules.specs.Engine.{is_closed, is_ended}
use Rattle.state_kinds.specs.Saved.{Saved, IsSaved, entry_ids, has_states, has_stream}
use Rattle.state_kinds.specs.Changes.{put_into}
use Rattle.sync_rules.specs.Calls.{Call}
use Rattle.sync_rules.specs.Generations.{generations_in}
use Rattle.sync_rules.specs.Laws.{AreOrderly}
use Rattle.sync_rules.specs.SafeSync.{nothing, IsAsked}
use Rattle.sync_rules.specs.Steps.{Step}
use Rattle.sync_rules.specs.Sync.{Running, Sync, Takes, completion, texts, to_give}
use Rattle.sync_ledger.specs.Told.{told_of}
use Rattle.sync_ledger.specs.declared.form.StateForm.TheVariants as form
use Rattle.sync_ledger.specs.declared.notes.TheConstants.{MOST_LINES}
use Rattle.sync_ledger.specs.declared.said.Saying.{Saying}
use Rattle.sync_ledger.specs.declared.said.Saying.TheVariants as saying
use Rattle.sync_ledger.specs.declared.told.Told.{Told}
use Rattle.sync_ledger.specs.declared.told.Told.TheVariants as told
use Rattle.ledger_rules.specs.Ledgers.{IsLedgerOf}
use Rattle.attempt_turns.specs.Acts.{Place, place_after}
use Rattle.attempt_turns.specs.History.{State}
use Rattle.attempt_turns.specs.Placed.{ArePlaced}
use Rattle.attempt_turns.specs.declared.worker.Worker.{Worker}

-- ---- what ends an attempt and has not come

abbrev pub is_error_saying : Saying → Bool
is_error_saying (saying.ConfigError line) = true
is_error_saying (saying.Say line) = false
is_error_saying saying.Nothing = false

abbrev pub is_error_told : Told → Bool
is_error_told (told.Other own) = is_error_saying own
is_error_told (told.Record id) = false
is_error_told (told.State state) = false
is_error_told (told.Status id status) = false

-- a line that says that a configuration is wrong
abbrev pub is_error : Side → Reading → List ℕ → Bool
is_error from read text = is_error_told (told_of from text (read text))

-- a state that comes back takes a given one
abbrev pub ComesBack : Reading → List Event → Event → Type 0
ComesBack read before (event.Got text) = (state_in (read text) ≡ None) ⊎ ((taken : LaneState) × Takes read before text (Some taken))
ComesBack read before event = Unit {0}

-- The destination's input was closed behind the end of the source's output, and before that of its own; nothing is read or given behind
-- it.
pub record ClosedBehind (events : List Event) : Type 0 where
  pub front : List Event
  pub back : List Event
  pub closes : events ≡ front ++ event.Closed ∷ back
  pub read_all : read_over front ≡ true
  pub going : got_over front ≡ false
  pub none_read : reads back ≡ []
  pub none_given : gives back ≡ []

-- ---- an attempt

-- the line of the source that is to be given next; a completion is the worker's own
abbrev pub source_held : Worker → Option (List ℕ)
source_held w = if w.is_completing then None else w.held

-- the streams from this number on whose completions are still to be made
abbrev pub untold_from : ℕ → List StreamId → Reading → List Event → List StreamId
untold_from next ids read events = filter (λ id. is_none (last_status id (lines_read read (reads events)))) (drop next ids)

-- what is still to be given behind the line that is held
abbrev pub left_to_give : Worker → List StreamId → Reading → List Event → List (List ℕ)
left_to_give w ids read events = if w.read_over then map completion (untold_from w.completed ids read events) else []

-- the saved set has each stream, and its states are of the form that the ledger knows: so it takes what the ledger takes
pub record SetFits (w : Worker) (streams : List ConfStream) : Type 0 where
  pub has_streams : AllByRecursion (λ id. has_stream (entry_ids w.set.entries) id ≡ true) (ids_of streams)
  pub of_streams : has_states w.set.entries ≡ true → w.ledger.form ≡ Some form.Stream
  pub of_all : is_some w.set.global ≡ true → w.ledger.form ≡ Some form.Global

-- no line that was read or came back ended the attempt
pub record NoneEnds (read : Reading) (events : List Event) : Type 0 where
  pub no_error : list_any (is_error side.Source read) (reads events) ≡ false
  pub no_error_back : list_any (is_error side.Dest read) (gots events) ≡ false
  pub come_back : EachFits (ComesBack read) [] events

-- an attempt goes on, and this is what the worker has of it
pub record IsOn (w : Worker) (streams : List ConfStream) (read : Reading) (own : Running) : Type 0 where
  pub orderly : AreOrderly streams
  pub reading : IsReading read own.events
  pub ledger : IsLedgerOf (ids_of streams) own.start read own.events (source_held w) w.ledger
  pub placed : ArePlaced (ids_of streams) read own.events (source_held w) w.ledger
  pub start : IsSaved own.start
  pub kept : generations_in w.set ≡ generations_in own.start
  pub set_fits : SetFits w streams
  pub none_ends : NoneEnds read own.events
  pub going : list_any is_ended own.events ≡ false
  pub closed : list_any is_closed own.events ≡ w.closed
  pub closed_behind : w.closed ≡ true → ClosedBehind own.events
  pub read_so : read_over own.events ≡ w.read_over
  pub got_so : got_over own.events ≡ w.got_over
  pub few_lines : length (reads own.events) ≤ MOST_LINES
  pub got_lines : w.got_lines ≡ length (gots own.events)
  pub gives_next : to_give (ids_of streams) read own.events ≡ (gives own.events ++ option_to_list w.held) ++ left_to_give w (ids_of streams) read own.events
  -- completions are made behind the end of the output; before the first of them what was given and what is held are all that is passed on
  pub reads_first : w.read_over ≡ false → (w.is_completing ≡ false) × (w.completed ≡ 0)
  pub own_lines : w.is_completing ≡ false → w.completed ≡ 0 → texts (passed (ids_of streams) read own.events) ≡ gives own.events ++ option_to_list w.held

-- the attempt is the call's last: so many were begun, and all before it have ended
pub record IsLast (w : Worker) (here : Place) : Type 0 where
  pub begun : here.standing.called.begun ≡ w.number
  pub number : here.standing.called.number ≡ w.number
  pub positive : 0 < w.number
  pub ended : here.ended + 1 ≡ w.number
  pub works : here.failed ≡ false

-- Between two lines of an attempt: what came back is saved, and all lines that were asked for are said.
pub record Stands (w : Worker) (call : Call) (streams : List ConfStream) (read : Reading) (here : Place) (said : List (List ℕ)) : Type 0 where
  pub is_last : IsLast w here
  pub attempt : Running
  pub runs : here.standing.sync.attempt ≡ Some attempt
  pub on : IsOn w streams read attempt
  pub set : here.standing.sync.set ≡ w.set
  pub none_owed : here.standing.sync.owed ≡ None
  pub said_all : here.asked ≡ said

-- an event has come, of which the worker has not heard
pub record HasCome (text : List ℕ) (own : Event) (w : Worker) (call : Call) (streams : List ConfStream) (read : Reading) (here : Place) (said : List (List ℕ)) : Type 0 where
  pub before : Place
  pub stood : Stands w call streams read before said
  pub now : Sync
  pub steps : Step streams read (IsAsked streams nothing []) before.standing.sync own now
  pub reads : IsAnswer (IsMessage text) (read text)
  pub is : here ≡ place_after read before own now

-- a line of the source was read; a line came back, and what it takes is owed
abbrev pub HasRead : List ℕ → Worker → State
HasRead text w = HasCome text (event.ReadLine text) w

abbrev pub HasGot : List ℕ → Worker → State
HasGot text w = HasCome text (event.Got text) w

-- what a line took that came back is to be saved
pub record Owes (taken : StateMsg) (w : Worker) (call : Call) (streams : List ConfStream) (read : Reading) (here : Place) (said : List (List ℕ)) : Type 0 where
  pub is_last : IsLast w here
  pub attempt : Running
  pub runs : here.standing.sync.attempt ≡ Some attempt
  pub on : IsOn w streams read attempt
  pub set : here.standing.sync.set ≡ w.set
  pub state : LaneState
  pub owed : here.standing.sync.owed ≡ Some state
  pub is : state.state ≡ taken
  pub passed_on : Contains (states (passed (ids_of streams) read attempt.events)) state
  pub can_put : (now : Saved) × (put_into taken w.set ≡ Ok now)
  pub said_all : here.asked ≡ said

-- this line is still to be said, and then it stands so
abbrev pub HasToSay : List ℕ → State → State
HasToSay line Then call streams read here said = (here.asked ≡ said ++ line ∷ []) × Then call streams read here (said ++ line ∷ [])

-- a completion is made only where the source is known to have ended with code 0
abbrev pub HasCode : Worker → LinkFace → Type 0
HasCode w face = (w.is_completing ≡ true) ⊎ (0 < w.completed) → face.codes.source ≡ Some (Code 0)

-- What holds of the link between two lines: it runs, its input is open until the worker closes it, its told trace has ended as the worker
-- knows, no line was too long at the last poll, at most one line too many came back; and the input is closed behind code 0 only behind the
-- last completion.
pub record Live (w : Worker) (seen : Seen) : Type 0 where
  pub running : IsTrue seen.face.running
  pub input_open : w.closed ≡ false → IsTrue seen.face.input_open
  pub read_told : IfSome (own_events seen) (λ events. read_over events ≡ w.read_over)
  pub got_told : IfSome (own_events seen) (λ events. got_over events ≡ w.got_over)
  pub source_short : ¬ (seen.face.source_poll ≡ kind.TooLong)
  pub dest_short : ¬ (seen.face.dest_poll ≡ kind.TooLong)
  pub few_got : w.got_lines ≤ MOST_LINES + 1
  pub few_over : w.got_over ≡ true → w.got_lines ≤ MOST_LINES
  pub completed : HasCode w seen.face
  pub all_completed : w.closed ≡ true → seen.face.codes.source ≡ Some (Code 0) → (w.held ≡ None) × (length w.ledger.ids ≤ w.completed)

-- the source may be polled: no line is held, and neither its output has ended nor the destination's input
pub record IsReadable (w : Worker) : Type 0 where
  pub empty : w.held ≡ None
  pub going : w.read_over ≡ false
  pub opened : w.closed ≡ false
