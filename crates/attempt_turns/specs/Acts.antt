-- What a worker does on its way: what its link's events tell, how its attempts end, and the lines that both ask for.
use Rattle.std.specs.Prelude.{◌≡◌, ◌⊎◌, ℕ, ◌+◌, ◌<◌, List, [], ◌∷◌, ◌++◌, Bool, true, false, ◌||◌, nat_lt, length, if◌then◌else◌, Option, None, Some, codes, MatchBool}
use Rattle.std.specs.Fmt.{decimal}
use Rattle.basics.specs.declared.limits.TheConstants.{LONGEST_LINE}
use Rattle.outside.specs.Status.{status_text}
use Rattle.outside.specs.declared.event.Event.{Event}
use Rattle.outside.specs.declared.event.Event.TheVariants as event
use Rattle.outside.specs.declared.faults.Side.TheVariants as side
use Rattle.outside.specs.declared.status.Status.{Status}
use Rattle.outside.specs.declared.status.Status.TheVariants as status
use Rattle.attempt_loop.specs.Attempts.{is_retried}
use Rattle.catalog.specs.declared.stream.ConfStream.{ConfStream}
use Rattle.load_rules.specs.Lines.{Reading}
use Rattle.load_rules.specs.Taken.{LaneState}
use Rattle.load_rules.specs.Attempts.{reads}
use Rattle.sync_rules.specs.Sync.{Running, Sync}
use Rattle.sync_rules.specs.Steps.{Step}
use Rattle.sync_rules.specs.SafeSync.{nothing, IsAsked}
use Rattle.sync_rules.specs.Calls.{Call, Standing, CallStep, begins_next, standing_after}
use Rattle.sync_ledger.specs.Told.{told_of}
use Rattle.sync_ledger.specs.declared.notes.TheConstants.{MOST_LINES}
use Rattle.sync_ledger.specs.declared.said.Saying.{Saying}
use Rattle.sync_ledger.specs.declared.said.Saying.TheVariants as saying
use Rattle.sync_ledger.specs.declared.told.Told.{Told}
use Rattle.sync_ledger.specs.declared.told.Told.TheVariants as told

-- ---- the lines that are said

abbrev pub lines_saying : Saying → List (List ℕ)
lines_saying (saying.Say line) = line ∷ []
lines_saying saying.Nothing = []
lines_saying (saying.ConfigError line) = line ∷ []

-- a record, a state and a status ask for no line
abbrev pub lines_told : Told → List (List ℕ)
lines_told (told.Record id) = []
lines_told (told.State state) = []
lines_told (told.Status id status) = []
lines_told (told.Other saying) = lines_saying saying

-- a state that is saved is said, as the source wrote its object
abbrev pub lines_saved : Option LaneState → List (List ℕ)
lines_saved None = []
lines_saved (Some state) = (codes "saved " ++ state.state.object) ∷ []

-- the lines that were read in the last attempt
abbrev pub reads_in : Option Running → List (List ℕ)
reads_in None = []
reads_in (Some attempt) = reads attempt.events

-- a line of the source that is above the length limit, or one more than are taken, is refused, whatever it is
abbrev pub is_refused : Standing → List ℕ → Bool
is_refused here text = nat_lt LONGEST_LINE (length text) || nat_lt MOST_LINES (length (reads_in here.sync.attempt) + 1)

-- the lines that an event asks for where a call stands so
abbrev pub lines_of : Reading → Standing → Event → List (List ℕ)
lines_of read here (event.ReadLine text) = if is_refused here text then [] else lines_told (told_of side.Source text (read text))
lines_of read here (event.Got text) = lines_told (told_of side.Dest text (read text))
lines_of read here (event.Saved text) = if begins_next here.called here.sync then [] else lines_saved here.sync.owed
lines_of read here event = []

-- the line at the end of an attempt
abbrev pub attempt_line : ℕ → Status → List ℕ
attempt_line number end = codes "attempt " ++ decimal number ++ codes ": " ++ status_text end

-- ---- the way

-- where a call stands: also how many of its attempts have ended and how the last of them did, whether the state store has failed, and
-- the lines that were asked for so far
pub record Place : Type 0 where
  pub standing : Standing
  pub ended : ℕ
  pub last : Option Status
  pub failed : Bool
  pub asked : List (List ℕ)

-- The link adds an event; or it adds one and says that it failed; or an attempt ends so.
pub data Act : Type 0 where
  does : Event → Act
  fails : Event → Act
  ends : Status → Act

abbrev pub place_after : Reading → Place → Event → Sync → Place
place_after read here event sync = record here { standing = standing_after here.standing event sync; asked = here.asked ++ lines_of read here.standing event }

-- a state that was saved so is not said
abbrev pub place_failed : Place → Event → Sync → Place
place_failed here event sync = record here { standing = standing_after here.standing event sync; failed = true }

abbrev pub place_ended : Place → Status → Place
place_ended here end = record here { ended = here.ended + 1; last = Some end; asked = here.asked ++ attempt_line (here.ended + 1) end ∷ [] }

-- another attempt begins only behind ends that are retried
abbrev pub CanBegin : Option Status → Type 0
CanBegin None = Unit {0}
CanBegin (Some end) = is_retried end ≡ true

-- an attempt was begun whose end was not said; or all that were begun have ended, and another may begin
abbrev pub IsOpen : Place → Type 0
IsOpen here = here.standing.called.begun ≡ here.ended + 1

abbrev pub IsShut : Place → Type 0
IsShut here = (here.standing.called.begun ≡ here.ended) × CanBegin here.last

-- A set is saved for an attempt once the one before has ended; it is started then, and all else is of an attempt that was started.
abbrev pub IsInOrder : Place → Event → Type 0
IsInOrder here (event.Saved text) = MatchBool (begins_next here.standing.called here.standing.sync) (IsShut here) (here.standing.called.number ≡ here.ended + 1)
IsInOrder here (event.Started plan) = IsOpen here
IsInOrder here event = here.standing.called.number ≡ here.ended + 1

-- behind a state store that failed the end of the children alone is told
abbrev pub Works : Place → Event → Type 0
Works here (event.Ended codes) = Unit {0}
Works here event = here.failed ≡ false

pub record InOrder (here : Place) (event : Event) : Type 0 where
  pub works : Works here event
  pub order : IsInOrder here event

-- the ends of an attempt that could not be begun: its generations are spent, its set was not saved, or memory lacked
abbrev pub EndsUnbegun : Status → Type 0
EndsUnbegun (status.BadCatalog fault) = Unit {0}
EndsUnbegun status.StateFault = Unit {0}
EndsUnbegun status.NoMemory = Unit {0}
EndsUnbegun end = ⊥

-- An attempt ends that was begun, or one that could not be begun. Behind a state store that failed it ends so.
pub record CanEnd (call : Call) (here : Place) (end : Status) : Type 0 where
  pub one : IsOpen here ⊎ (IsShut here × EndsUnbegun end)
  pub within : here.ended < call.limit
  pub failed : here.failed ≡ true → end ≡ status.StateFault

-- what fails and adds its event all the same
abbrev pub IsSave : Event → Type 0
IsSave (event.Saved text) = Unit {0}
IsSave event = ⊥

-- the acts lead from here to there: each event fits in a sync and in a call, whatever is committed
abbrev pub Going : Call → List ConfStream → Reading → Place → List Act → Place → Type 0
Going call streams read here [] there = there ≡ here
Going call streams read here (does event ∷ acts) there =
    (between : Sync) × Step streams read (IsAsked streams nothing []) here.standing.sync event between × CallStep call streams here.standing.called here.standing.sync event between
    × InOrder here event × Going call streams read (place_after read here event between) acts there
Going call streams read here (fails event ∷ acts) there =
    (between : Sync) × Step streams read (IsAsked streams nothing []) here.standing.sync event between × CallStep call streams here.standing.called here.standing.sync event between
    × InOrder here event × IsSave event × Going call streams read (place_failed here event between) acts there
Going call streams read here (ends end ∷ acts) there = CanEnd call here end × Going call streams read (place_ended here end) acts there

-- the events among acts
abbrev pub events_in : List Act → List Event
events_in [] = []
events_in (does event ∷ acts) = event ∷ events_in acts
events_in (fails event ∷ acts) = event ∷ events_in acts
events_in (ends end ∷ acts) = events_in acts

-- where a call begins
abbrev pub place_at : Standing → Place
place_at standing = record { standing = standing; ended = 0; last = None; failed = false; asked = [] }

-- the answers that may come without the end of an attempt, or behind another end
abbrev pub AnswersElse : Status → Type 0
AnswersElse status.SayFault = Unit {0}
AnswersElse status.NoMemory = Unit {0}
AnswersElse status.StateFault = Unit {0}
AnswersElse (status.BadState fault) = Unit {0}
AnswersElse end = ⊥

-- How a call ends: behind an end that is retried there were as many attempts as there may be; and it answers what its last attempt
-- ended with.
pub record CallEnds (call : Call) (there : Place) (answer : Status) : Type 0 where
  pub spent : is_retried answer ≡ true → there.ended ≡ call.limit
  pub last : (there.last ≡ Some answer) ⊎ AnswersElse answer
