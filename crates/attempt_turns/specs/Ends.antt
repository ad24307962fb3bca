-- How an attempt ends, and what is known then.
use Rattle.std.specs.Prelude.{◌≡◌, ◌⊎◌, ℕ, ◌+◌, ◌<◌, ◌≤◌, List, [], ◌∷◌, ◌++◌, Bool, true, false, is_some, length, option_to_list, slice_get, take, IsTrue, Option, None, Some}
use Rattle.std.specs.List.{AllByRecursion, list_any}
use Rattle.basics.specs.Told.{Rose}
use Rattle.basics.specs.declared.stream.StreamId.{StreamId}
use Rattle.outside.specs.Desk.{DeskSeen}
use Rattle.outside.specs.Event.{got_over, read_over}
use Rattle.outside.specs.Link.{Seen}
use Rattle.outside.specs.declared.event.Event.{Event}
use Rattle.outside.specs.declared.event.Event.TheVariants as event
use Rattle.outside.specs.declared.event.Exit.{Exit}
use Rattle.outside.specs.declared.event.Exit.TheVariants.{Code}
use Rattle.outside.specs.declared.faults.Breach.{Breach}
use Rattle.outside.specs.declared.faults.Breach.TheVariants as breach
use Rattle.outside.specs.declared.faults.Side.{Side}
use Rattle.outside.specs.declared.faults.Side.TheVariants as side
use Rattle.outside.specs.declared.link.LinkCounts.{LinkCounts}
use Rattle.outside.specs.declared.link.LinkFace.{LinkFace}
use Rattle.outside.specs.declared.link.PollKind.{PollKind}
use Rattle.outside.specs.declared.link.PollKind.TheVariants as kind
use Rattle.outside.specs.declared.status.Status.{Status}
use Rattle.outside.specs.declared.status.Status.TheVariants as status
use Rattle.airbyte_message.specs.Lanes.{lane_of}
use Rattle.airbyte_message.specs.State.{State as StateMsg}
use Rattle.airbyte_message.specs.declared.stream_status.StreamStatus.{StreamStatus}
use Rattle.airbyte_message.specs.declared.stream_status.StreamStatus.TheVariants.{Complete}
use Rattle.attempt_loop.specs.Attempts.{is_retried}
use Rattle.catalog.specs.Reading.{ids_of}
use Rattle.catalog.specs.declared.stream.ConfStream.{ConfStream}
use Rattle.load_rules.specs.Prefixes.{EachFits, IsPrefix}
use Rattle.load_rules.specs.Lines.{Reading, line_read, lines_read, state_in}
use Rattle.load_rules.specs.Finished.{last_status}
use Rattle.load_rules.specs.Attempts.{gives, gots, passed, reads}
use Rattle.load_rules.specs.Engine.{is_closed, is_ended}
use Rattle.sync_rules.specs.Breaches.{AreUnbroken, breach_of}
use Rattle.sync_rules.specs.Calls.{Call, IsThrough, OwesNothing}
use Rattle.sync_rules.specs.Sync.{Running, Takes, texts}
use Rattle.sync_ledger.specs.declared.notes.TheConstants.{MOST_LINES}
use Rattle.attempt_turns.specs.Acts.{Place}
use Rattle.attempt_turns.specs.Silence.{Waited}
use Rattle.attempt_turns.specs.Waits.{IsFirstWaiting}
use Rattle.attempt_turns.specs.Worker.{ComesBack, NoneEnds, is_error}
use Rattle.attempt_turns.specs.declared.worker.Moved.{Moved}
use Rattle.attempt_turns.specs.declared.worker.Moved.TheVariants as moved
use Rattle.attempt_turns.specs.declared.worker.Worker.{Worker}

-- ---- what an attempt's events say of its end

-- no line that was read or came back ended the attempt
pub record IsClean (ids : List StreamId) (read : Reading) (own : Running) : Type 0 where
  pub unbroken : AreUnbroken ids own.start (lines_read read (reads own.events))
  pub none_ends : NoneEnds read own.events

-- The last line that was read is refused, and none before it. Its number is how many were read.
pub record RefusesLast (ids : List StreamId) (read : Reading) (own : Running) (why : Breach) (line : ℕ) : Type 0 where
  pub front : List (List ℕ)
  pub text : List ℕ
  pub last : reads own.events ≡ front ++ text ∷ []
  pub unbroken : AreUnbroken ids own.start (lines_read read front)
  pub breaks : breach_of ids own.start (lines_read read front) (line_read read text) ≡ Some why
  pub no_error : list_any (is_error side.Source read) front ≡ false
  pub no_error_back : list_any (is_error side.Dest read) (gots own.events) ≡ false
  pub come_back : EachFits (ComesBack read) [] own.events
  pub number : line ≡ length (reads own.events)

-- a line was too long when it was polled: it has the number behind the lines
abbrev pub TooLongAt : PollKind → List (List ℕ) → ℕ → Type 0
TooLongAt last lines line = (last ≡ kind.TooLong) × (line ≡ length lines + 1)

-- the last line that came back is a state without a kind, or it takes nothing
pub record RefusesBackLast (ids : List StreamId) (read : Reading) (own : Running) (why : Breach) (line : ℕ) : Type 0 where
  pub front : List Event
  pub text : List ℕ
  pub back : List Event
  pub splits : own.events ≡ front ++ event.Got text ∷ back
  pub last : gots back ≡ []
  pub state : StateMsg
  pub is_state : state_in (read text) ≡ Some state
  pub why_so : ((lane_of state.kind ≡ None) × (why ≡ breach.Legacy)) ⊎ ((is_some (lane_of state.kind) ≡ true) × Takes read front text None × (why ≡ breach.Stranger))
  pub come_back : EachFits (ComesBack read) [] front
  pub unbroken : AreUnbroken ids own.start (lines_read read (reads own.events))
  pub no_error : list_any (is_error side.Source read) (reads own.events) ≡ false
  pub no_error_back : list_any (is_error side.Dest read) (gots own.events) ≡ false
  pub number : line ≡ length (gots own.events)

-- the lines of a side, of which the last says that a configuration is wrong, and none before it
pub record ErrsLast (from : Side) (read : Reading) (lines : List (List ℕ)) (line : ℕ) : Type 0 where
  pub front : List (List ℕ)
  pub text : List ℕ
  pub last : lines ≡ front ++ text ∷ []
  pub is : is_error from read text ≡ true
  pub no_error : list_any (is_error from read) front ≡ false
  pub number : line ≡ length lines

abbrev pub lines_from : Side → Running → List (List ℕ)
lines_from side.Source own = reads own.events
lines_from side.Dest own = gots own.events

abbrev pub other_side : Side → Side
other_side side.Source = side.Dest
other_side side.Dest = side.Source

pub record ErrsSo (from : Side) (line : ℕ) (ids : List StreamId) (read : Reading) (own : Running) : Type 0 where
  pub last : ErrsLast from read (lines_from from own) line
  pub other : list_any (is_error (other_side from) read) (lines_from (other_side from) own) ≡ false
  pub unbroken : AreUnbroken ids own.start (lines_read read (reads own.events))
  pub come_back : EachFits (ComesBack read) [] own.events

-- a stream whose last status is that it is complete, or that has none
abbrev pub is_done : Option StreamStatus → Bool
is_done None = true
is_done (Some Complete) = true
is_done (Some other) = false

abbrev pub is_done_in : Reading → List Event → StreamId → Bool
is_done_in read events id = is_done (last_status id (lines_read read (reads events)))

abbrev pub AllComplete : List StreamId → Reading → List Event → Type 0
AllComplete ids read events = AllByRecursion (λ id. is_done_in read events id ≡ true) ids

pub record IsFirstIncomplete (ids : List StreamId) (read : Reading) (events : List Event) (stream : ℕ) : Type 0 where
  pub id : StreamId
  pub at : slice_get ids stream ≡ Some id
  pub incomplete : is_done_in read events id ≡ false
  pub others : AllByRecursion (λ other. is_done_in read events other ≡ true) (take stream ids)

-- an attempt whose events were all that they should be, but for its end
pub record WentClean (ids : List StreamId) (read : Reading) (own : Running) : Type 0 where
  pub clean : IsClean ids read own
  pub through : IsThrough ids read own.events
  pub few_read : length (reads own.events) ≤ MOST_LINES
  pub few_got : length (gots own.events) ≤ MOST_LINES

-- one line more was read than are taken, and none before it ended the attempt
pub record TooManyRead (ids : List StreamId) (read : Reading) (own : Running) : Type 0 where
  pub front : List (List ℕ)
  pub text : List ℕ
  pub last : reads own.events ≡ front ++ text ∷ []
  pub number : length (reads own.events) ≡ MOST_LINES + 1
  pub unbroken : AreUnbroken ids own.start (lines_read read front)
  pub no_error : list_any (is_error side.Source read) front ≡ false
  pub no_error_back : list_any (is_error side.Dest read) (gots own.events) ≡ false
  pub come_back : EachFits (ComesBack read) [] own.events

-- What an attempt's events and the last polls say where it was started and ended so. Nothing meets an end that no attempt has. Of several
-- ends of an attempt that went through, the source's comes first: one of its streams is not complete; then the destination's.
abbrev pub EndsSo : Status → List StreamId → Reading → LinkFace → Running → Type 0
EndsSo status.Ok ids read face own = WentClean ids read own × AllComplete ids read own.events × IsFirstWaiting ids read own.events None
EndsSo (status.SourceIncomplete stream) ids read face own = WentClean ids read own × IsFirstIncomplete ids read own.events stream
EndsSo (status.DestUnechoed line) ids read face own = WentClean ids read own × AllComplete ids read own.events × IsFirstWaiting ids read own.events (Some line)
EndsSo status.DestEarly ids read face own = IsClean ids read own × (got_over own.events ≡ true) × (list_any is_closed own.events ≡ false)
EndsSo (status.SourceFailed exit) ids read face own = IsClean ids read own
EndsSo (status.DestFailed exit) ids read face own = IsClean ids read own × (IsThrough ids read own.events → AllComplete ids read own.events)
EndsSo status.LinkFault ids read face own = IsClean ids read own × (IsThrough ids read own.events → AllComplete ids read own.events × IsFirstWaiting ids read own.events None)
EndsSo (status.Silent waits) ids read face own = IsClean ids read own
EndsSo (status.SourceBreach why line) ids read face own = RefusesLast ids read own why line ⊎ ((why ≡ breach.TooLong) × TooLongAt face.source_poll (reads own.events) line × IsClean ids read own)
EndsSo (status.DestBreach why line) ids read face own = RefusesBackLast ids read own why line ⊎ ((why ≡ breach.TooLong) × TooLongAt face.dest_poll (gots own.events) line × IsClean ids read own)
EndsSo (status.ConfigError from line) ids read face own = ErrsSo from line ids read own
EndsSo status.TooManyLines ids read face own = TooManyRead ids read own ⊎ ((length (gots own.events) ≡ MOST_LINES + 1) × IsClean ids read own)
EndsSo status.StateFault ids read face own = Unit {0}
EndsSo status.SayFault ids read face own = Unit {0}
EndsSo status.NoMemory ids read face own = Unit {0}
EndsSo end ids read face own = ⊥

-- the ends of an attempt that was not started, or whose start told nothing
abbrev pub EndsUnstarted : Status → Type 0
EndsUnstarted (status.SourceFailed exit) = Unit {0}
EndsUnstarted (status.DestFailed exit) = Unit {0}
EndsUnstarted status.LinkFault = Unit {0}
EndsUnstarted status.StateFault = Unit {0}
EndsUnstarted status.SayFault = Unit {0}
EndsUnstarted status.NoMemory = Unit {0}
EndsUnstarted (status.BadCatalog fault) = Unit {0}
EndsUnstarted end = ⊥

-- All that was asked for was said; a part of it where saying failed or memory lacked.
abbrev pub SaidSo : Status → List (List ℕ) → List (List ℕ) → Type 0
SaidSo status.SayFault asked said = IsPrefix said asked
SaidSo status.NoMemory asked said = IsPrefix said asked
SaidSo end asked said = asked ≡ said

-- the end of the children may be told: where a completion was given, the source is known to have ended with code 0
pub record CanStop (streams : List ConfStream) (read : Reading) (face : LinkFace) (here : Place) : Type 0 where
  pub number : here.standing.called.number ≡ here.ended + 1
  pub attempt : Running
  pub runs : here.standing.sync.attempt ≡ Some attempt
  pub going : list_any is_ended attempt.events ≡ false
  pub rightly : IsPrefix (gives attempt.events) (texts (passed (ids_of streams) read attempt.events)) ⊎ (face.codes.source ≡ Some (Code 0))

-- What a worker has of an attempt that has ended. (Where the destination's input could not be closed, it may be closed all the same.)
pub record Knows (w : Worker) (ids : List StreamId) (read : Reading) (face : LinkFace) (own : Running) : Type 0 where
  pub read_so : read_over own.events ≡ w.read_over
  pub got_so : got_over own.events ≡ w.got_over
  pub closed : w.closed ≡ true → list_any is_closed own.events ≡ true
  pub opened : w.closed ≡ false → (w.got_over ≡ true) ⊎ IsTrue face.input_open → list_any is_closed own.events ≡ false
  pub held : w.is_completing ≡ false → w.completed ≡ 0 → texts (passed ids read own.events) ≡ gives own.events ++ option_to_list w.held

-- another attempt may follow, also where stopping fails
abbrev pub is_again : Status → Bool
is_again status.Ok = true
is_again end = is_retried end

-- An attempt that was begun has come to its end so, in front of `stop` and of its line.
pub record Ends (end : Status) (face : LinkFace) (w : Worker) (call : Call) (streams : List ConfStream) (read : Reading) (here : Place) (said : List (List ℕ)) : Type 0 where
  pub begun : here.standing.called.begun ≡ w.number
  pub number : here.standing.called.number ≤ w.number
  pub ended : here.ended + 1 ≡ w.number
  pub failed : here.failed ≡ true → end ≡ status.StateFault
  pub set : is_again end ≡ true → here.standing.sync.set ≡ w.set
  pub paid : OwesNothing end here.standing.sync
  pub so : here.standing.called.number ≡ w.number → (own : Running) × (here.standing.sync.attempt ≡ Some own) × EndsSo end (ids_of streams) read face own
  pub knows : is_again end ≡ true → here.standing.called.number ≡ w.number → (own : Running) × (here.standing.sync.attempt ≡ Some own) × Knows w (ids_of streams) read face own
  pub unstarted : here.standing.called.number < w.number → EndsUnstarted end
  pub can_stop : face.running ≡ true → CanStop streams read face here
  pub said_so : SaidSo end here.asked said

-- ---- causes

abbrev pub IsNotFailed : Option Exit → Type 0
IsNotFailed None = Unit {0}
IsNotFailed (Some exit) = exit ≡ Code 0

-- what a source's end is known by: each output was read to its end, or the destination's ended before its input was closed, or the link failed
abbrev pub SourceKnown : Worker → LinkCounts → Seen → Type 0
SourceKnown w from now = ((w.read_over ≡ true) × (w.got_over ≡ true)) ⊎ (((w.got_over ≡ true) × (w.closed ≡ false)) ⊎ Rose from.link_faults now.counts.link_faults)

-- The cause of each end, by the counts and the codes that are known, where the counts at the attempt's beginning were these. Ends by a line
-- have their cause in what was read; want of memory is free.
abbrev pub Causes : Status → Worker → LinkCounts → ℕ → Seen → ℕ → Type 0
Causes status.Ok w from say now said = (now.face.codes.source ≡ Some (Code 0)) × (now.face.codes.dest ≡ Some (Code 0))
Causes (status.DestUnechoed line) w from say now said = (now.face.codes.source ≡ Some (Code 0)) × (now.face.codes.dest ≡ Some (Code 0))
Causes (status.SourceIncomplete stream) w from say now said = now.face.codes.source ≡ Some (Code 0)
Causes (status.SourceFailed exit) w from say now said = (now.face.codes.source ≡ Some exit) × (¬ (exit ≡ Code 0)) × SourceKnown w from now
Causes (status.DestFailed exit) w from say now said = (now.face.codes.dest ≡ Some exit) × (¬ (exit ≡ Code 0)) × ((w.got_over ≡ true) ⊎ Rose from.link_faults now.counts.link_faults) × IsNotFailed now.face.codes.source
Causes status.DestEarly w from say now said = (now.face.codes.dest ≡ Some (Code 0)) × IsNotFailed now.face.codes.source
Causes status.LinkFault w from say now said = Rose from.link_faults now.counts.link_faults × IsNotFailed now.face.codes.source × IsNotFailed now.face.codes.dest
Causes status.StateFault w from say now said = Rose from.state_faults now.counts.state_faults
Causes (status.Silent waits) w from say now said = (waits ≡ 5400) × Waited 5400 w from now
Causes status.SayFault w from say now said = Rose say said
Causes (status.SourceBreach why line) w from say now said = Unit {0}
Causes (status.DestBreach why line) w from say now said = Unit {0}
Causes (status.ConfigError from_side line) w from say now said = Unit {0}
Causes status.TooManyLines w from say now said = Unit {0}
Causes status.NoMemory w from say now said = Unit {0}
Causes end w from say now said = ⊥

-- Within a turn: where the link or the desk failed its count rose. (Ends by a line have their cause in what was read, and want of memory
-- is free; the codes are looked at behind the turn, so no end by them comes in it.)
abbrev pub TurnCause : Status → Seen → Seen → DeskSeen → DeskSeen → Type 0
TurnCause status.LinkFault old new desk_old desk_new = Rose old.counts.link_faults new.counts.link_faults
TurnCause status.SayFault old new desk_old desk_new = Rose desk_old.say_faults desk_new.say_faults
TurnCause status.StateFault old new desk_old desk_new = Rose old.counts.state_faults new.counts.state_faults
TurnCause (status.SourceBreach why line) old new desk_old desk_new = Unit {0}
TurnCause (status.DestBreach why line) old new desk_old desk_new = Unit {0}
TurnCause (status.ConfigError from line) old new desk_old desk_new = Unit {0}
TurnCause status.TooManyLines old new desk_old desk_new = Unit {0}
TurnCause status.NoMemory old new desk_old desk_new = Unit {0}
TurnCause end old new desk_old desk_new = ⊥

-- a step that brought nothing was quiet: the count of the source's quiet answers rose
abbrev pub WasQuiet : Moved → Seen → Seen → Type 0
WasQuiet moved.Yes old new = Unit {0}
WasQuiet moved.No old new = Rose old.counts.quiet_source new.counts.quiet_source

-- the same of the destination
abbrev pub WasQuietBack : Moved → Seen → Seen → Type 0
WasQuietBack moved.Yes old new = Unit {0}
WasQuietBack moved.No old new = Rose old.counts.quiet_dest new.counts.quiet_dest
