-- A run of the write engine: what its loads are, and how they stand in the attempts of a trace. Both are asked event by event,
-- so each prefix of a run is one.
use Rattle.std.specs.Prelude.{◌≡◌, ◌⊎◌, ℕ, List, [], ◌∷◌, ◌++◌, filter_map, Bool, true, false, Option, None, Some, Ok, Contains}
use Rattle.std.specs.List.{AllByRecursion, list_any}
use Rattle.outside.specs.Event.{is_links}
use Rattle.outside.specs.Tables.{same_id, tables_of, plan_at, shown_event}
use Rattle.outside.specs.declared.event.Event.{Event}
use Rattle.outside.specs.declared.event.Event.TheVariants as event
use Rattle.outside.specs.declared.event.Exit.{Exit}
use Rattle.outside.specs.declared.event.Exit.TheVariants.{Code}
use Rattle.outside.specs.declared.event.StreamPlan.{StreamPlan}
use Rattle.outside.specs.declared.load.Marks.{Marks}
use Rattle.outside.specs.Dock.{is_opening}
use Rattle.airbyte_message.specs.declared.stream_status.StreamStatus.TheVariants.{Complete}
use Rattle.catalog.specs.Reading.{ReadsAs}
use Rattle.catalog.specs.declared.stream.ConfStream.{ConfStream}
use Rattle.catalog.specs.declared.modes.DestMode.{DestMode}
use Rattle.catalog.specs.declared.modes.DestMode.TheVariants as dest
use Rattle.generation_rules.specs.Generations.{next_of}
use Rattle.load_rules.specs.Prefixes.{EachFits, IsPrefix}
use Rattle.load_rules.specs.Lines.{Reading, lines_read}
use Rattle.load_rules.specs.Loads.{Load, loads, store_events, tooks, held_in}
use Rattle.load_rules.specs.SafeDest.{IsSafeDest}
use Rattle.load_rules.specs.Marks.{marks_of}
use Rattle.load_rules.specs.Stores.{IsStoreRun}
use Rattle.load_rules.specs.Finished.{is_dedup, IsFinished, last_status}
use Rattle.load_rules.specs.Attempts.{Attempt, attempts, gives}

-- Loads

-- the plan has the catalog's streams, in order, each with its mode
pub record PlanFits (stream : ConfStream) (plan : StreamPlan) : Type 0 where
  pub id : plan.id ≡ stream.id
  pub dedup : plan.dedup ≡ is_dedup stream.dest

abbrev pub PlansFit : List ConfStream → List StreamPlan → Type 0
PlansFit [] [] = Unit {0}
PlansFit (stream ∷ streams) (plan ∷ plans) = PlanFits stream plan × PlansFit streams plans
PlansFit [] (plan ∷ plans) = ⊥
PlansFit (stream ∷ streams) [] = ⊥

-- A stream is shown with the floor and the top that it then has, where its source said last that it is complete, and all its
-- records are committed.
pub record ShowsComplete (read : Reading) (before : List Event) (shown : Event) (number : ℕ) : Type 0 where
  pub marks : shown ≡ shown_event (tables_of before) number
  pub plan : StreamPlan
  pub planned : plan_at (tables_of before) number ≡ Some plan
  pub load : Load
  pub older : List Load
  pub last : loads before ≡ load ∷ older
  pub complete : last_status plan.id (lines_read read (tooks load.events)) ≡ Some Complete
  pub committed_are : AllByRecursion (λ entry. same_id plan.id entry.content.id ≡ false) (held_in read load.events)

abbrev pub LoadFits : List ConfStream → Reading → List Event → Event → Type 0
LoadFits streams read before (event.Opened load moment plans) = PlansFit streams plans
LoadFits streams read before (event.Shown number floor top) = ShowsComplete read before (event.Shown number floor top) number
LoadFits streams read before event = Unit {0}

-- The loads of a store that are all by one catalog: safe, the store's events fit one another, and each load is the catalog's. It
-- speaks of a store alone, in an attempt or not.
pub record AreEngineLoads (streams : List ConfStream) (read : Reading) (trace : List Event) : Type 0 where
  pub safe : IsSafeDest streams read trace
  pub store : IsStoreRun trace
  pub fit : EachFits (LoadFits streams read) [] trace

-- Attempts

abbrev pub HasOpened : List Event → Type 0
HasOpened attempt = list_any is_opening attempt ≡ true

-- an attempt opens one load, and all that its store does stands behind that
abbrev pub OpensFirst : List Event → Event → Type 0
OpensFirst attempt (event.Opened load moment plans) = store_events attempt ≡ []
OpensFirst attempt event = is_links event ≡ false → HasOpened attempt

abbrev pub is_ended : Event → Bool
is_ended (event.Ended codes) = true
is_ended event = false

-- an event of a link, but for Saved, stands before the attempt's Ended
abbrev pub StandsBeforeEnded : List Event → Event → Type 0
StandsBeforeEnded attempt (event.Started plan) = Unit {0}
StandsBeforeEnded attempt (event.Saved text) = Unit {0}
StandsBeforeEnded attempt event = is_links event ≡ true → list_any is_ended attempt ≡ false

abbrev pub IsOverwrite : DestMode → Type 0
IsOverwrite dest.Overwrite = Unit {0}
IsOverwrite dest.Append = ⊥
IsOverwrite dest.AppendDedup = ⊥

-- The generations of a stream are those that the catalog gives it; an overwrite stream without a generation gets one above the
-- greatest that was ever opened, as generation and as minimum.
abbrev pub HasGeneration : Marks → ConfStream → StreamPlan → Option ℕ → Type 0
HasGeneration marks stream plan (Some generation) = (plan.generation ≡ generation) × (plan.minimum ≡ stream.minimum)
HasGeneration marks stream plan None =
    (IsOverwrite stream.dest × (next_of None marks.greatest ≡ Some plan.generation) × (plan.minimum ≡ plan.generation))
    ⊎ ((¬ IsOverwrite stream.dest) × (plan.generation ≡ 0) × (plan.minimum ≡ stream.minimum))

-- the catalog's stream is the one with the plan's id, wherever it stands
pub record GenerationsFit (before : List Event) (catalog : List ConfStream) (plan : StreamPlan) : Type 0 where
  pub stream : ConfStream
  pub among : Contains catalog stream
  pub same : stream.id ≡ plan.id
  pub has : HasGeneration (marks_of before plan.id) stream plan stream.generation

-- the catalog is the one that the attempt was started with
pub record OpensByCatalog (attempt : Attempt) (before : List Event) (plans : List StreamPlan) : Type 0 where
  pub catalog : List ConfStream
  pub reads : ReadsAs attempt.plan.catalog (Ok catalog)
  pub generations : AllByRecursion (GenerationsFit before catalog) plans

-- The messages that the attempt's load takes are the first of those that were given, in order and whole. (A line that the end of
-- the input cut off counts for the message that it is, if any.)
abbrev pub TakesGiven : Reading → List Event → List ℕ → Type 0
TakesGiven read attempt text = IsPrefix (filter_map read (tooks attempt ++ text ∷ [])) (filter_map read (gives attempt))

abbrev pub is_closed : Event → Bool
is_closed event.Closed = true
is_closed event = false

-- A destination that ended with code 0 has a load in its attempt, and it is finished; where its input was closed, the load took
-- every message that was given, and not its records alone.
pub record EndsWell (streams : List ConfStream) (read : Reading) (before attempt : List Event) : Type 0 where
  pub opened : HasOpened attempt
  pub finished : IsFinished streams read before
  pub took_all : list_any is_closed attempt ≡ true → filter_map read (tooks attempt) ≡ filter_map read (gives attempt)

abbrev pub EndFits : List ConfStream → Reading → List Event → List Event → Option Exit → Type 0
EndFits streams read before attempt (Some (Code code)) = code ≡ 0 → EndsWell streams read before attempt
EndFits streams read before attempt exit = Unit {0}

abbrev pub OwnFits : List ConfStream → Reading → List Event → Attempt → Event → Type 0
OwnFits streams read before attempt (event.Opened load moment plans) = OpensByCatalog attempt before plans
OwnFits streams read before attempt (event.Took text) = TakesGiven read attempt.events text
OwnFits streams read before attempt (event.Ended codes) = EndFits streams read before attempt.events codes.dest
OwnFits streams read before attempt event = Unit {0}

pub record AttemptFits (streams : List ConfStream) (read : Reading) (before : List Event) (attempt : Attempt) (next : Event) : Type 0 where
  pub opens : OpensFirst attempt.events next
  pub ends : StandsBeforeEnded attempt.events next
  pub own : OwnFits streams read before attempt next

-- Before the first Started nothing is asked here: a store may have a past.
abbrev pub RunFitsIn : List ConfStream → Reading → List Event → List Attempt → Event → Type 0
RunFitsIn streams read before [] event = Unit {0}
RunFitsIn streams read before (attempt ∷ older) event = AttemptFits streams read before attempt event

abbrev pub RunFits : List ConfStream → Reading → List Event → Event → Type 0
RunFits streams read before event = RunFitsIn streams read before (attempts before) event

pub record IsEngineRun (streams : List ConfStream) (read : Reading) (trace : List Event) : Type 0 where
  pub loads_are : AreEngineLoads streams read trace
  pub attempts_are : EachFits (RunFits streams read) [] trace
