-- What each event of a sync has to fit, and where the sync stands behind it.
use Rattle.std.specs.Prelude.{◌≡◌, ◌⊎◌, ℕ, List, [], ◌∷◌, ◌++◌, true, false, Option, None, Some, Ok, Contains}
use Rattle.std.specs.List.{list_any}
use Rattle.basics.specs.declared.stream.StreamId.{StreamId}
use Rattle.outside.specs.Event.{read_over, got_over}
use Rattle.outside.specs.declared.event.Event.{Event}
use Rattle.outside.specs.declared.event.Event.TheVariants as event
use Rattle.outside.specs.declared.event.AttemptPlan.{AttemptPlan}
use Rattle.outside.specs.declared.event.Codes.{Codes}
use Rattle.outside.specs.declared.event.Exit.TheVariants.{Code}
use Rattle.catalog.specs.Reading.{ids_of}
use Rattle.catalog.specs.Written.{IsCatalogText}
use Rattle.catalog.specs.declared.stream.ConfStream.{ConfStream}
use Rattle.catalog.specs.declared.stream.Gen.{Gen}
use Rattle.load_rules.specs.Prefixes.{IsPrefix}
use Rattle.load_rules.specs.Lines.{Reading, lines_read}
use Rattle.load_rules.specs.Taken.{LaneState, states}
use Rattle.load_rules.specs.Attempts.{reads, gives, passed}
use Rattle.load_rules.specs.Engine.{is_ended, is_closed}
use Rattle.state_kinds.specs.Saved.{Saved}
use Rattle.state_kinds.specs.Changes.{put_into}
use Rattle.state_kinds.specs.Texts.{store_text, states_text}
use Rattle.sync_rules.specs.Generations.{Begins, generations_in}
use Rattle.sync_rules.specs.Breaches.{AreUnbroken}
use Rattle.sync_rules.specs.Sync.{Running, Sync, texts, to_give, Takes, with_event, started, got, saved}

-- An attempt is started behind a set that was saved for it, and that is what its beginning leaves of the set before. It carries the
-- catalog with the generations that the set before gives, and the states of the set.
pub record Starts (streams : List ConfStream) (sync : Sync) (plan : AttemptPlan) : Type 0 where
  pub saved : sync.is_begun ≡ true
  pub gens : List Gen
  pub begins : Begins streams sync.previous gens sync.set
  pub catalog : IsCatalogText streams gens plan.catalog
  pub states : plan.states ≡ states_text sync.set (ids_of streams)

-- an attempt was started, it has not ended, and it is so
abbrev pub InAttempt : Option Running → (Running → Type 0) → Type 0
InAttempt None is = ⊥
InAttempt (Some attempt) is = (list_any is_ended attempt.events ≡ false) × is attempt

-- a line is read, or the end of the source's output, before that end
abbrev pub ReadsOn : Running → Type 0
ReadsOn attempt = read_over attempt.events ≡ false

-- The destination's input is open; no line that was read is a breach; and the given lines are the first of those that are to be
-- given.
pub record GivesNext (ids : List StreamId) (read : Reading) (text : List ℕ) (attempt : Running) : Type 0 where
  pub input_open : list_any is_closed attempt.events ≡ false
  pub unbroken : AreUnbroken ids attempt.start (lines_read read (reads attempt.events))
  pub next : IsPrefix (gives attempt.events ++ text ∷ []) (to_give ids read attempt.events)

-- the destination's input is closed once, and not behind the end of the destination's output
pub record Closes (attempt : Running) : Type 0 where
  pub input_open : list_any is_closed attempt.events ≡ false
  pub going : got_over attempt.events ≡ false

-- A line comes back before the end of the destination's output, and while nothing is owed: what the line before it took is saved.
-- From there on what it takes itself is owed.
pub record Gets (read : Reading) (sync : Sync) (text : List ℕ) (now : Sync) (attempt : Running) : Type 0 where
  pub going : got_over attempt.events ≡ false
  pub none_owed : sync.owed ≡ None
  pub owed : Option LaneState
  pub takes : Takes read attempt.events text owed
  pub is : now ≡ got text owed sync

-- the attempt ends; where a completion was given, its source has ended with code 0
abbrev pub EndsRightly : List StreamId → Reading → Codes → Running → Type 0
EndsRightly ids read codes attempt = IsPrefix (gives attempt.events) (texts (passed ids read attempt.events)) ⊎ (codes.source ≡ Some (Code 0))

-- What is owed is put into the set: the state of a line that was passed on, while the generations are those that the attempt was
-- started with, and where the set takes it. Beside this the state has what is asked of it.
pub record Puts (streams : List ConfStream) (read : Reading) (Beside : LaneState → Type 0) (sync : Sync) (set : Saved) : Type 0 where
  pub attempt : Running
  pub in_attempt : sync.attempt ≡ Some attempt
  pub state : LaneState
  pub owed : sync.owed ≡ Some state
  pub passed_on : Contains (states (passed (ids_of streams) read attempt.events)) state
  pub kept : generations_in sync.set ≡ generations_in attempt.start
  pub put : put_into state.state sync.set ≡ Ok set
  pub beside : Beside state

-- The text of a set is saved: of what the beginning of an attempt leaves of the set before, or of that set with what is owed.
pub record Saves (streams : List ConfStream) (read : Reading) (Beside : LaneState → Type 0) (sync : Sync) (text : List ℕ) (now : Sync) : Type 0 where
  pub set : Saved
  pub text_is : text ≡ store_text set
  pub by : ((gens : List Gen) × Begins streams sync.set gens set) ⊎ Puts streams read Beside sync set
  pub is : now ≡ saved text set sync

-- What a destination's store does changes nothing here.
abbrev pub Step : List ConfStream → Reading → (LaneState → Type 0) → Sync → Event → Sync → Type 0
Step streams read Beside sync (event.Started plan) now = Starts streams sync plan × (now ≡ started sync)
Step streams read Beside sync (event.ReadLine text) now = InAttempt sync.attempt ReadsOn × (now ≡ with_event (event.ReadLine text) sync)
Step streams read Beside sync event.ReadEnd now = InAttempt sync.attempt ReadsOn × (now ≡ with_event event.ReadEnd sync)
Step streams read Beside sync (event.Given text) now = InAttempt sync.attempt (GivesNext (ids_of streams) read text) × (now ≡ with_event (event.Given text) sync)
Step streams read Beside sync event.Closed now = InAttempt sync.attempt Closes × (now ≡ with_event event.Closed sync)
Step streams read Beside sync (event.Got text) now = InAttempt sync.attempt (Gets read sync text now)
Step streams read Beside sync event.GotEnd now = InAttempt sync.attempt (λ attempt. got_over attempt.events ≡ false) × (now ≡ with_event event.GotEnd sync)
Step streams read Beside sync (event.Saved text) now = Saves streams read Beside sync text now
Step streams read Beside sync (event.Ended codes) now = InAttempt sync.attempt (EndsRightly (ids_of streams) read codes) × (now ≡ with_event (event.Ended codes) sync)
Step streams read Beside sync event now = now ≡ sync
