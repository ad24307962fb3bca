-- What holds of each sync: of its prefixes and of what goes on behind it, of what it gives, saves and takes.
use Rattle.std.specs.List.{AllByRecursion, list_any}
use Rattle.std.specs.Prelude.{◌≡◌, ◌⊎◌, ℕ, ◌<◌, List, [], ◌∷◌, ◌++◌, filter, length, Bool, true, false, Option, None, Some, Ok}
use Rattle.stream_index.specs.Distinct.{AreDistinct}
use Rattle.json_fields.specs.Answer.{IsOnly}
use Rattle.outside.specs.Event.{is_links, stored}
use Rattle.outside.specs.declared.event.Event.{Event}
use Rattle.outside.specs.declared.event.Event.TheVariants as event
use Rattle.catalog.specs.Configured.{IsWithinLimit}
use Rattle.catalog.specs.Reading.{ids_of}
use Rattle.catalog.specs.declared.stream.ConfStream.{ConfStream}
use Rattle.load_rules.specs.Prefixes.{IsPrefix}
use Rattle.load_rules.specs.Lines.{Reading, IsReading, line_read}
use Rattle.load_rules.specs.Taken.{LaneState, states}
use Rattle.load_rules.specs.Attempts.{Attempt, attempts, gives, TakesState}
use Rattle.load_rules.specs.Honest.{AddsHonestly}
use Rattle.message_writer.specs.Forms.{HasNames}
use Rattle.state_kinds.specs.Saved.{Saved, nothing_saved}
use Rattle.state_kinds.specs.Changes.{put_into}
use Rattle.state_kinds.specs.Store.{ReadsStore}
use Rattle.state_kinds.specs.Texts.{store_text}
use Rattle.state_kinds.specs.Writable.{IsWritable}
use Rattle.sync_rules.specs.Sync.{Running, Sync, Takes, to_give}
use Rattle.sync_rules.specs.Steps.{Step}
use Rattle.sync_rules.specs.SafeSync.{Asked, commits, nothing, Goes, IsCovered, Leads, IsSafeSync}
use Rattle.sync_rules.specs.Calls.{Call, Standing, CallGoes, HasStarted, called_at}

-- ---- how a sync goes on

-- what leads from here to there, and on from there, leads from here on
abbrev pub WaysJoin : Type 0
WaysJoin =
    (streams : List ConfStream) (read : Reading) (asked : Asked) (before events more : List Event) (sync between now : Sync)
    → Goes streams read asked before sync events between → Goes streams read asked (before ++ events) between more now → Goes streams read asked before sync (events ++ more) now

-- what leads over two lists leads over the first, and on from there
pub record Parted (streams : List ConfStream) (read : Reading) (asked : Asked) (before events more : List Event) (sync now : Sync) : Type 0 where
  pub between : Sync
  pub first : Goes streams read asked before sync events between
  pub then : Goes streams read asked (before ++ events) between more now

abbrev pub WaysPart : Type 0
WaysPart =
    (streams : List ConfStream) (read : Reading) (asked : Asked) (before events more : List Event) (sync now : Sync)
    → Goes streams read asked before sync (events ++ more) now → Parted streams read asked before events more sync now

-- each prefix of a safe sync is one
abbrev pub FrontsAreSafe : Type 0
FrontsAreSafe = (streams : List ConfStream) (read : Reading) (front rest : List Event) → IsSafeSync streams read (front ++ rest) → IsSafeSync streams read front

-- a safe sync goes on safely by an event that fits where it stands
abbrev pub StaysSafe : Type 0
StaysSafe =
    (streams : List ConfStream) (read : Reading) (trace : List Event) (sync : Sync) (event : Event) (now : Sync)
    → Leads streams read commits trace sync → Step streams read (IsCovered streams trace) sync event now → Leads streams read commits (trace ++ event ∷ []) now

-- a safe sync is a plain one, from the same standing to the same
abbrev pub SafeIsPlain : Type 0
SafeIsPlain =
    (streams : List ConfStream) (read : Reading) (before events : List Event) (sync now : Sync)
    → Goes streams read commits before sync events now → Goes streams read nothing before sync events now

-- A plain sync is known by what the link adds by itself, whatever a destination's store does between, and whatever stands before.
abbrev pub OwnEventsTell : Type 0
OwnEventsTell =
    (streams : List ConfStream) (read : Reading) (before behind events : List Event) (sync now : Sync)
    → Goes streams read nothing before sync (filter is_links events) now → Goes streams read nothing behind sync events now

-- ---- what the state store holds

-- an empty store is that of the set before all events
abbrev pub IsStoreOf : List ℕ → Saved → Type 0
IsStoreOf text set = ((text ≡ []) × (set ≡ nothing_saved)) ⊎ (text ≡ store_text set)

-- The store's text is that of the saved set.
abbrev pub StoreHolds : Type 0
StoreHolds = (streams : List ConfStream) (read : Reading) (asked : Asked) (trace : List Event) (now : Sync) → Leads streams read asked trace now → IsStoreOf (stored trace) now.set

-- A catalog whose streams' names are texts and stand once, and whose generations are within the limit, as those of each catalog that
-- is read.
pub record AreOrderly (streams : List ConfStream) : Type 0 where
  pub names : AllByRecursion HasNames (ids_of streams)
  pub distinct : AreDistinct (ids_of streams)
  pub generations : AllByRecursion (λ stream. IsWithinLimit stream.generation) streams

-- The store's text reads as the saved set, and as no other, whatever was saved: so the next attempt begins with that set.
pub record ReadsSaved (text : List ℕ) (set : Saved) : Type 0 where
  pub writable : IsWritable set
  pub reads : IsOnly (ReadsStore text) (Ok set)

abbrev pub SavedReadsBack : Type 0
SavedReadsBack =
    (streams : List ConfStream) (read : Reading) (asked : Asked) (trace : List Event) (now : Sync)
    → IsReading read trace → AreOrderly streams → Leads streams read asked trace now → ReadsSaved (stored trace) now.set

-- ---- what stands committed

-- the sync stands behind these attempts, the last first: it knows what the link has added by itself in the last
abbrev pub KnowsAttempt : Option Running → List Attempt → Type 0
KnowsAttempt None [] = Unit {0}
KnowsAttempt (Some own) (attempt ∷ older) = own.events ≡ filter is_links attempt.events
KnowsAttempt None (attempt ∷ older) = ⊥
KnowsAttempt (Some own) [] = ⊥

abbrev pub Knows : Sync → List Event → Type 0
Knows sync trace = KnowsAttempt sync.attempt (attempts trace)

-- wherever the events lead, the attempt is known (that of no sync behind no events is)
abbrev pub WaysKnow : Type 0
WaysKnow =
    (streams : List ConfStream) (read : Reading) (asked : Asked) (before events : List Event) (sync now : Sync)
    → Knows sync before → Goes streams read asked before sync events now → Knows now (before ++ events)

-- Where nothing is owed from before, what is added plainly and honestly is added safely, whatever was before.
abbrev pub HonestIsSafe : Type 0
HonestIsSafe =
    (streams : List ConfStream) (read : Reading) (before more : List Event) (sync now : Sync)
    → Knows sync before → sync.owed ≡ None → Goes streams read nothing before sync more now → AddsHonestly streams read before more
    → Goes streams read commits before sync more now

-- ---- one call of the worker

-- A call leads as a sync does.
abbrev pub CallsLead : Type 0
CallsLead =
    (call : Call) (streams : List ConfStream) (read : Reading) (asked : Asked) (before events : List Event) (here there : Standing)
    → CallGoes call streams read asked before here events there → Goes streams read asked before here.sync events there.sync

-- What a call does, and what it does from there on, it does.
abbrev pub CallsJoin : Type 0
CallsJoin =
    (call : Call) (streams : List ConfStream) (read : Reading) (asked : Asked) (before events more : List Event) (here between there : Standing)
    → CallGoes call streams read asked before here events between → CallGoes call streams read asked (before ++ events) between more there → CallGoes call streams read asked before here (events ++ more) there

-- It is known by what its link adds by itself.
abbrev pub CallsTell : Type 0
CallsTell =
    (call : Call) (streams : List ConfStream) (read : Reading) (before behind events : List Event) (here there : Standing)
    → CallGoes call streams read nothing before here (filter is_links events) there → CallGoes call streams read nothing behind here events there

-- Where its attempts are honest it is safe, whatever was before: what an older call left to be saved is not put any more.
abbrev pub HonestCallsAreSafe : Type 0
HonestCallsAreSafe =
    (call : Call) (streams : List ConfStream) (read : Reading) (before more : List Event) (sync : Sync) (there : Standing)
    → Knows sync before → CallGoes call streams read nothing before (called_at sync) more there → AddsHonestly streams read before more
    → CallGoes call streams read commits before (called_at sync) more there

-- the event starts an attempt, is a line that comes back, or saves a set
abbrev pub settles : Event → Bool
settles (event.Started plan) = true
settles (event.Got text) = true
settles (event.Saved text) = true
settles event = false

-- the state is saved, and nothing came back before it was
pub record IsPut (set : Saved) (state : LaneState) (events : List Event) : Type 0 where
  pub front : List Event
  pub now : Saved
  pub back : List Event
  pub splits : events ≡ front ++ event.Saved (store_text now) ∷ back
  pub first : list_any settles front ≡ false
  pub put : put_into state.state set ≡ Ok now

-- A call that goes on until nothing is owed saves the set that takes what is owed, before another line comes back or another attempt
-- is started.
abbrev pub OwedIsPut : Type 0
OwedIsPut =
    (call : Call) (streams : List ConfStream) (read : Reading) (asked : Asked) (before events : List Event) (here there : Standing) (state : LaneState)
    → HasStarted here.called → here.sync.owed ≡ Some state → CallGoes call streams read asked before here events there → there.sync.owed ≡ None
    → IsPut here.sync.set state events

-- ---- what is given

-- In every prefix the lines that an attempt was given are the first of those that are to be given.
abbrev pub GivenArePassed : Type 0
GivenArePassed =
    (streams : List ConfStream) (read : Reading) (trace : List Event) (now : Sync) (attempt : Running)
    → Leads streams read nothing trace now → now.attempt ≡ Some attempt → IsPrefix (gives attempt.events) (to_give (ids_of streams) read attempt.events)

-- ---- what is taken

-- Of two lines that come back in an attempt, of states of one lane, and that take given ones, the later takes one that was given
-- later: so the states that are saved rise within each lane, in the order in which the source wrote them.
abbrev pub TakenRise : Type 0
TakenRise =
    (read : Reading) (before more : List Event) (text : List ℕ) (back other first second : LaneState)
    → states (line_read read text ∷ []) ≡ back ∷ [] → other.lane ≡ back.lane
    → TakesState read before back first → TakesState read (before ++ event.Got text ∷ more) other second
    → length first.before < length second.before

-- What is owed can be put: the saved set takes it, being of its kind and having its stream. (The names of the streams are texts, as
-- those of each catalog are.)
abbrev pub SetsTake : Type 0
SetsTake =
    (streams : List ConfStream) (read : Reading) (asked : Asked) (trace : List Event) (now : Sync) (state : LaneState)
    → IsReading read trace → AllByRecursion HasNames (ids_of streams) → Leads streams read asked trace now → now.owed ≡ Some state
    → (set : Saved) × (put_into state.state now.set ≡ Ok set)

-- the event saves a set, or is a line that comes back
abbrev pub got_or_saved : Event → Bool
got_or_saved (event.Got text) = true
got_or_saved (event.Saved text) = true
got_or_saved event = false

-- the last of these lines that came back took this state, and no set was saved behind it
pub record LastTook (read : Reading) (state : LaneState) (events : List Event) : Type 0 where
  pub front : List Event
  pub text : List ℕ
  pub back : List Event
  pub splits : events ≡ front ++ event.Got text ∷ back
  pub took : Takes read front text (Some state)
  pub last : list_any got_or_saved back ≡ false

abbrev pub LastTookIn : Reading → LaneState → Option Running → Type 0
LastTookIn read state None = ⊥
LastTookIn read state (Some attempt) = LastTook read state attempt.events

-- What is owed is what the last line took that came back in the last attempt, and no set was saved since.
abbrev pub OwedWasTaken : Type 0
OwedWasTaken =
    (streams : List ConfStream) (read : Reading) (asked : Asked) (trace : List Event) (now : Sync) (state : LaneState)
    → Leads streams read asked trace now → now.owed ≡ Some state → LastTookIn read state now.attempt

-- Whatever line comes back, it takes one given state, or none.
pub record LinesTake : Type 0 where
  pub some : (read : Reading) (before : List Event) (text : List ℕ) → (owed : Option LaneState) × Takes read before text owed
  pub one : (read : Reading) (before : List Event) (text : List ℕ) (owed other : Option LaneState) → Takes read before text owed → Takes read before text other → owed ≡ other
