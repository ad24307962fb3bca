-- What one call of the worker adds to a trace: its attempts by their numbers, each begun with a set that is saved for it, each
-- state that comes back saved before the next, and a last attempt that went well.
use Rattle.std.specs.Prelude.{◌≡◌, ℕ, ◌+◌, ◌<◌, ◌≤◌, List, [], ◌∷◌, ◌++◌, Bool, true, false, ◌==◌, ◌||◌, is_none, if◌then◌else◌, None, Some, Ok}
use Rattle.basics.specs.declared.stream.StreamId.{StreamId}
use Rattle.outside.specs.Event.{read_over, got_over}
use Rattle.outside.specs.declared.event.AttemptPlan.{AttemptPlan}
use Rattle.outside.specs.declared.event.Event.{Event}
use Rattle.outside.specs.declared.event.Event.TheVariants as event
use Rattle.outside.specs.declared.event.Job.{Job}
use Rattle.outside.specs.declared.status.Status.{Status}
use Rattle.outside.specs.declared.status.Status.TheVariants as status
use Rattle.catalog.specs.Reading.{ids_of}
use Rattle.catalog.specs.declared.stream.ConfStream.{ConfStream}
use Rattle.catalog.specs.declared.stream.Gen.{Gen}
use Rattle.load_rules.specs.Lines.{Reading}
use Rattle.load_rules.specs.Taken.{LaneState}
use Rattle.load_rules.specs.Attempts.{gives}
use Rattle.state_kinds.specs.Changes.{put_into}
use Rattle.sync_rules.specs.Generations.{Begins}
use Rattle.sync_rules.specs.Sync.{Running, Sync, to_give}
use Rattle.sync_rules.specs.Steps.{Step}
use Rattle.sync_rules.specs.SafeSync.{Asked, IsAsked}

-- what a call is to do
pub record Call : Type 0 where
  pub job : Job
  pub store : List ℕ
  -- how many attempts there may be
  pub limit : ℕ

-- what a call has done so far
pub record Called : Type 0 where
  -- how many sets it has saved with which an attempt begins
  pub begun : ℕ
  -- the number of the attempt that it started last, 0 before the first
  pub number : ℕ

abbrev pub not_called : Called
not_called = record { begun = 0; number = 0 }

-- What is saved next is what an attempt begins with: so it is before the first attempt, whatever an older call has left to be saved,
-- and from there on where nothing is owed.
abbrev pub begins_next : Called → Sync → Bool
begins_next called sync = called.number == 0 || is_none sync.owed

abbrev pub called_after : Sync → Called → Event → Called
called_after sync called (event.Started plan) = record called { number = plan.number }
called_after sync called (event.Saved text) = if begins_next called sync then (record called { begun = called.begun + 1 }) else called
called_after sync called event = called

-- An attempt that is started has as its number how many attempts were begun, which is above that of the attempt before, up to the
-- limit, and the call's job and store. (An attempt whose start failed may have told nothing, so a number may be left out.) Nothing is
-- owed from the attempt before.
pub record StartsOne (call : Call) (called : Called) (sync : Sync) (plan : AttemptPlan) : Type 0 where
  pub counts : plan.number ≡ called.begun
  pub rises : called.number < plan.number
  pub within : plan.number ≤ call.limit
  pub job_is : plan.job ≡ call.job
  pub store_is : plan.store ≡ call.store
  pub none_owed : sync.owed ≡ None

-- the set that is saved is what an attempt begins with, or it takes what is owed
abbrev pub SavesRightly : List ConfStream → Bool → Sync → Sync → Type 0
SavesRightly streams true sync now = (gens : List Gen) × Begins streams sync.set gens now.set
SavesRightly streams false sync now = (state : LaneState) × (sync.owed ≡ Some state) × (put_into state.state sync.set ≡ Ok now.set)

-- the call has started an attempt
abbrev pub HasStarted : Called → Type 0
HasStarted called = 0 < called.number

-- What a call has to fit beside what a sync has to. Lines are read, given and got in its own attempts, and those end in it.
abbrev pub CallStep : Call → List ConfStream → Called → Sync → Event → Sync → Type 0
CallStep call streams called sync (event.Started plan) now = StartsOne call called sync plan
CallStep call streams called sync (event.Saved text) now = SavesRightly streams (begins_next called sync) sync now
CallStep call streams called sync (event.ReadLine text) now = HasStarted called
CallStep call streams called sync event.ReadEnd now = HasStarted called
CallStep call streams called sync (event.Given text) now = HasStarted called
CallStep call streams called sync event.Closed now = HasStarted called
CallStep call streams called sync (event.Got text) now = HasStarted called
CallStep call streams called sync event.GotEnd now = HasStarted called
CallStep call streams called sync (event.Ended codes) now = HasStarted called
CallStep call streams called sync event now = Unit {0}

-- where a sync stands in a call
pub record Standing : Type 0 where
  pub called : Called
  pub sync : Sync

abbrev pub standing_after : Standing → Event → Sync → Standing
standing_after here event sync = record { called = called_after here.sync here.called event; sync = sync }

-- the events are those of a call, and lead from here to there, `before` being in front of all
abbrev pub CallGoes : Call → List ConfStream → Reading → Asked → List Event → Standing → List Event → Standing → Type 0
CallGoes call streams read asked before here [] there = there ≡ here
CallGoes call streams read asked before here (event ∷ events) there =
    (between : Sync) × Step streams read (IsAsked streams asked before) here.sync event between × CallStep call streams here.called here.sync event between
    × CallGoes call streams read asked (before ++ event ∷ []) (standing_after here event between) events there

-- where a call begins
abbrev pub called_at : Sync → Standing
called_at sync = record { called = not_called; sync = sync }

-- At a call's end nothing is owed, unless the store failed or memory lacked.
abbrev pub OwesNothing : Status → Sync → Type 0
OwesNothing status.StateFault sync = Unit {0}
OwesNothing status.NoMemory sync = Unit {0}
OwesNothing end sync = sync.owed ≡ None

-- An attempt that went through: the source's output was read to its end, all that is to be given was given, then the
-- destination's input was closed, and then its output was read to its end.
pub record IsThrough (ids : List StreamId) (read : Reading) (events : List Event) : Type 0 where
  pub front : List Event
  pub back : List Event
  pub closes : events ≡ front ++ event.Closed ∷ back
  pub read_all : read_over front ≡ true
  pub gave_all : gives front ≡ to_give ids read front
  pub got_all : got_over back ≡ true

-- the last attempt of the call went through
pub record WentThrough (ids : List StreamId) (read : Reading) (there : Standing) : Type 0 where
  pub attempt : Running
  pub last : there.sync.attempt ≡ Some attempt
  pub started : HasStarted there.called
  pub through : IsThrough ids read attempt.events

-- the ends that come only behind an attempt that went through
abbrev pub NeedsThrough : Status → Type 0 → Type 0
NeedsThrough status.Ok through = through
NeedsThrough (status.SourceIncomplete stream) through = through
NeedsThrough (status.DestUnechoed line) through = through
NeedsThrough end through = Unit {0}

-- what a call adds behind a trace, and how it ends
pub record IsCall (call : Call) (streams : List ConfStream) (read : Reading) (asked : Asked) (before : List Event) (sync : Sync) (more : List Event) (end : Status) : Type 0 where
  pub there : Standing
  pub goes : CallGoes call streams read asked before (called_at sync) more there
  pub paid : OwesNothing end there.sync
  pub went : NeedsThrough end (WentThrough (ids_of streams) read there)
