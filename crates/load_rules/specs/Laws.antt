-- What holds of each load, of each run of the machine, and of the attempts of a trace.
use Rattle.std.specs.Prelude.{◌≡◌, ◌≢◌, ◌⊎◌, ℕ, ◌<◌, ◌^◌, List, map, filter, [], ◌∷◌, ◌++◌, length, slice_get, Some, Bool, not, true, false, Contains, ◌↔◌}
use Rattle.std.specs.List.{AllByRecursion, take_while}
use Rattle.basics.specs.declared.stream.StreamId.{StreamId}
use Rattle.outside.specs.declared.event.Event.{Event}
use Rattle.outside.specs.declared.event.Event.TheVariants as event
use Rattle.outside.specs.declared.event.RawRow.{RawRow}
use Rattle.catalog.specs.declared.stream.ConfStream.{ConfStream}
use Rattle.outside.specs.declared.event.StreamPlan.{StreamPlan}
use Rattle.outside.specs.Dock.{is_opening}
use Rattle.json_span.specs.Grammar.{Space, space_byte}
use Rattle.airbyte_message.specs.Lanes.{Lane, LaneCovers}
use Rattle.airbyte_message.specs.Messages.{IsMessage}
use Rattle.airbyte_message.specs.declared.message.Message.{Message}
use Rattle.outside.specs.Tables.{tables_of, table_in}
use Rattle.raw_tables.specs.Visible.{IsVisible}
use Rattle.dedup_merge.specs.Merges.{MergesFit, SideStands, merged_at}
use Rattle.load_rules.specs.Prefixes.{EachFits, IsPrefix}
use Rattle.load_rules.specs.Lines.{Reading, ReadsText, IsReading}
use Rattle.load_rules.specs.Taken.{Entry, entries, covers, is_in, of_lane, states}
use Rattle.load_rules.specs.Loads.{Opening, Load, loads, tooks, held_in}
use Rattle.load_rules.specs.Rows.{IsRowOf}
use Rattle.load_rules.specs.Acts.{Act, AreActs, Commits, Echoes, taken, committed, echoed}
use Rattle.load_rules.specs.SafeDest.{EchoFits, Fits, IsSafeLoad, IsSafeDest, uncommitted}
use Rattle.load_rules.specs.Marks.{IsSeenOf}
use Rattle.load_rules.specs.Finished.{is_dedup, StreamIsDone, IsFinished, IsIncomplete}
use Rattle.load_rules.specs.Stores.{CommittedFits, IsStoreRun}
use Rattle.load_rules.specs.Attempts.{Attempt, attempts, gives, gots, emits}
use Rattle.load_rules.specs.Honest.{IsHonestAttempt, IsHonest, AddsHonestly}
use Rattle.load_rules.specs.Engine.{OpensFirst, TakesGiven, IsEngineRun}
use Rattle.load_rules.specs.Machine.{Machine, Step, start, run, accepted, CommitsOwnRows, BringsOwnRows, IsDrained, flags, IsTail}

-- The machine

-- A commit behind these acts is of records of the stream with its number that are uncommitted, in order, by their sequences alone.
pub record CommitsHeld (streams : List ConfStream) (before : List Act) (number : ℕ) (rows : List RawRow) : Type 0 where
  pub stream : ConfStream
  pub configured : slice_get streams number ≡ Some stream
  pub chosen : Entry → Bool
  pub own : AllByRecursion (λ entry. entry.content.id ≡ stream.id) (filter chosen (uncommitted before))
  pub are : map (λ row. row.seq) rows ≡ map (λ entry. entry.seq) (filter chosen (uncommitted before))

-- an act may come behind these of its load, whatever else than their sequences the rows of a commit have
abbrev pub FitsInOrder : List ConfStream → List Act → Act → Type 0
FitsInOrder streams before (Commits number rows) = CommitsHeld streams before number rows
FitsInOrder streams before (Echoes state) = EchoFits before state
FitsInOrder streams before act = Unit {0}

-- Every run from the empty state, whatever its rows: each emitted state is the next of its lane, with its count, and everything
-- before it was committed earlier; each commit is of records of its stream that were accepted earlier, and none twice.
abbrev pub RunsAreOrdered : Type 0
RunsAreOrdered = (streams : List ConfStream) (steps : List Step) → EachFits (FitsInOrder streams) [] (run streams steps start).acts

-- Every run from the empty state: each emitted state is the next of its lane, with its count, and everything before it was
-- committed earlier; each commit is of rows of records that were accepted earlier, and none twice.
abbrev pub RunsAreSafe : Type 0
RunsAreSafe =
    (streams : List ConfStream) (opening : Opening) (steps : List Step)
    → CommitsOwnRows streams opening (run streams steps start).acts → EachFits (Fits streams opening) [] (run streams steps start).acts

-- A run goes on with further steps as one run.
abbrev pub RunsGrow : Type 0
RunsGrow = (streams : List ConfStream) (steps more : List Step) (m : Machine) → run streams (steps ++ more) m ≡ run streams more (run streams steps m)

-- A safe run stays safe by one step more, where what that commits are the rows of the records in its batch.
abbrev pub RunsStaySafe : Type 0
RunsStaySafe =
    (streams : List ConfStream) (opening : Opening) (steps : List Step) (step : Step)
    → EachFits (Fits streams opening) [] (run streams steps start).acts → BringsOwnRows streams opening (run streams steps start) step
    → EachFits (Fits streams opening) [] (run streams (steps ++ step ∷ []) start).acts

-- Where nothing is queued or handed out and no state is releasable, no state waits.
abbrev pub NoStateIsLeft : Type 0
NoStateIsLeft =
    (streams : List ConfStream) (steps : List Step)
    → IsDrained (run streams steps start) → (run streams steps start).waiting ≡ []

-- all that was taken is committed and echoed
pub record IsDone (acts : List Act) : Type 0 where
  pub committed_all : (seq : ℕ) → is_in seq (committed acts) ≡ is_in seq (map (λ entry. entry.seq) (entries (taken acts)))
  pub echoed_all : (lane : Lane) → echoed lane acts ≡ of_lane lane (states (taken acts))

-- Where nothing is queued or handed out and no state is releasable, each record that was taken is committed, and each lane's
-- states are echoed, in their order.
abbrev pub DrainedIsDone : Type 0
DrainedIsDone =
    (streams : List ConfStream) (steps : List Step)
    → IsDrained (run streams steps start) → IsDone (run streams steps start).acts

pub record EndAlike (first second : List Act) : Type 0 where
  pub committed_alike : (seq : ℕ) → is_in seq (committed first) ≡ is_in seq (committed second)
  pub echoed_alike : (lane : Lane) → echoed lane first ≡ echoed lane second

-- Two runs that accept the same lines and both end so have committed the same, and emitted the same for each lane, whatever
-- order their other steps took, and whatever else than their sequences the rows of each have.
abbrev pub OrderIsFree : Type 0
OrderIsFree =
    (streams : List ConfStream) (first second : List Step)
    → accepted first ≡ accepted second → IsDrained (run streams first start) → IsDrained (run streams second start)
    → EndAlike (run streams first start).acts (run streams second start).acts

-- sealed records of a stream stand in front of unsealed ones, whatever was handed out and taken back
abbrev pub SealedInFront : Type 0
SealedInFront = (streams : List ConfStream) (steps : List Step) (id : StreamId) → IsTail (flags id (run streams steps start).placed)

-- Loads

-- a lane covers a stream's records where a state of that lane covers them
abbrev pub LanesCover : Type 0
LanesCover = (lane : Lane) (stream : StreamId) → (covers lane stream ≡ true) ↔ LaneCovers lane stream

-- each prefix of what fits event by event fits, and its last event fits those before it
abbrev pub PrefixesFit : Type 0
PrefixesFit =
    (streams : List ConfStream) (opening : Opening) (front rest : List Act) (act : Act)
    → EachFits (Fits streams opening) [] (front ++ act ∷ rest) → Fits streams opening front act × EachFits (Fits streams opening) [] (front ++ act ∷ [])

abbrev pub FrontsAreSafe : Type 0
FrontsAreSafe = (streams : List ConfStream) (read : Reading) (front rest : List Event) → IsSafeDest streams read (front ++ rest) → IsSafeDest streams read front

-- a run of the engine is one in every prefix
abbrev pub FrontsAreRuns : Type 0
FrontsAreRuns = (streams : List ConfStream) (read : Reading) (front rest : List Event) → IsEngineRun streams read (front ++ rest) → IsEngineRun streams read front

-- the last load, where there is one, is safe
abbrev pub IsSafeLast : List ConfStream → Reading → List Load → Type 0
IsSafeLast streams read [] = ⊥
IsSafeLast streams read (load ∷ older) = IsSafeLoad streams read load

abbrev pub OpensNothing : List Event → Type 0
OpensNothing more = AllByRecursion (λ event. is_opening event ≡ false) more

-- a safe trace stays one where its last load goes on safely
abbrev pub StaysSafe : Type 0
StaysSafe =
    (streams : List ConfStream) (read : Reading) (trace more : List Event)
    → IsSafeDest streams read trace → OpensNothing more → IsSafeLast streams read (loads (trace ++ more)) → IsSafeDest streams read (trace ++ more)

-- a safe trace stays one where a load is opened
abbrev pub OpeningIsSafe : Type 0
OpeningIsSafe =
    (streams : List ConfStream) (read : Reading) (trace : List Event) (load moment : ℕ) (plan : List StreamPlan)
    → IsSafeDest streams read trace → IsSafeDest streams read (trace ++ event.Opened load moment plan ∷ [])

-- the records that are held by a load's events are those that are uncommitted by its acts
abbrev pub HeldAreUncommitted : Type 0
HeldAreUncommitted = (read : Reading) (acts : List Act) (events : List Event) → AreActs read acts events → held_in read events ≡ uncommitted acts

-- where the sequence of a record of a load is committed, its own row is, in a commit of its stream
pub record IsOwnRow (streams : List ConfStream) (opening : Opening) (acts : List Act) (entry : Entry) : Type 0 where
  pub number : ℕ
  pub rows : List RawRow
  pub commit : Contains acts (Commits number rows)
  pub row : RawRow
  pub among : Contains rows row
  pub is : IsRowOf streams opening number entry row

abbrev pub RowsAreOwn : Type 0
RowsAreOwn =
    (streams : List ConfStream) (opening : Opening) (acts : List Act) (entry : Entry)
    → EachFits (Fits streams opening) [] acts → Contains (entries (taken acts)) entry → is_in entry.seq (committed acts) ≡ true
    → IsOwnRow streams opening acts entry

-- the merges of a store whose events fit one another fit
abbrev pub StoreMergesFit : Type 0
StoreMergesFit = (trace : List Event) → IsStoreRun trace → MergesFit trace

-- Along a run of a store, the load's side of each stream stands with the rows that were merged into it: at each opening, commit,
-- merge and showing.
abbrev pub SidesStand : Type 0
SidesStand = (trace : List Event) (number : ℕ) → IsStoreRun trace → SideStands (tables_of trace) number (merged_at trace number)

-- Where a stream's part of a load is done, as each is in a finished load, what is visible of its table is what a reader is to see of
-- all rows that were ever committed.
abbrev pub VisibleIsSeen : Type 0
VisibleIsSeen =
    (trace : List Event) (number : ℕ) (stream : ConfStream) (rows : List RawRow)
    → IsStoreRun trace → StreamIsDone (tables_of trace) number stream
    → IsVisible (is_dedup stream.dest) (table_in (tables_of trace).streams stream.id) rows → IsSeenOf (is_dedup stream.dest) trace stream.id rows

-- A commit that keeps its load safe has the number of that load, and sequences that are new in it, whatever stands before the
-- load.
abbrev pub SafeCommitsFit : Type 0
SafeCommitsFit =
    (streams : List ConfStream) (read : Reading) (before : List Event) (number : ℕ) (rows : List RawRow)
    → IsSafeLast streams read (loads (before ++ event.Committed number rows ∷ [])) → CommittedFits before rows

-- no load is finished, and incomplete as well
abbrev pub FinishedIsComplete : Type 0
FinishedIsComplete = (streams : List ConfStream) (read : Reading) (trace : List Event) (number : ℕ) → IsFinished streams read trace → ¬ IsIncomplete streams read trace number

-- Attempts

-- A line that comes out of a pipe behind these is the next of those that were written, or a front of it, where the pipe ended within
-- the line.
pub record ComesNext (written came : List (List ℕ)) (text : List ℕ) : Type 0 where
  pub next : List ℕ
  pub rest : List (List ℕ)
  pub are : written ≡ came ++ next ∷ rest
  pub front : IsPrefix text next

-- Out of the pipe from the destination come the emitted lines, in order. (Each stands behind whole ones, so only the last may be cut.)
abbrev pub BackFits : List Event → Event → Type 0
BackFits before (event.Got text) = ComesNext (emits before) (gots before) text
BackFits before event = Unit {0}

-- Lines through two pipes: the messages that the destination takes are the first of those that were given, and what comes back was
-- emitted.
abbrev pub PipeFits : Reading → List Event → Event → Type 0
PipeFits read before (event.Took text) = TakesGiven read before text
PipeFits read before event = BackFits before event

-- the line is a message, and its last byte is no white space
pub record EndsInMessage (line : List ℕ) : Type 0 where
  pub content : Message
  pub is : IsMessage line content
  pub front : List ℕ
  pub last : ℕ
  pub spelled : line ≡ front ++ last ∷ []
  pub ends : (space : Space) → last ≢ space_byte space

-- A line that comes out of the pipe to the destination, and that is whole or cut from a message, is taken as one that was given.
abbrev pub PipedAreTaken : Type 0
PipedAreTaken =
    (read : Reading) (before : List Event) (text : List ℕ)
    → ReadsText read text → (came : ComesNext (gives before) (tooks before) text) → (text ≡ came.next) ⊎ EndsInMessage came.next → TakesGiven read before text

-- lines through two pipes, perhaps cut where these end, to a safe destination make an honest attempt; the lines that it takes are
-- fewer than a count can tell
abbrev pub PipesAreHonest : Type 0
PipesAreHonest =
    (streams : List ConfStream) (read : Reading) (attempt : Attempt)
    → IsReading read attempt.events → length (tooks attempt.events) < 2 ^ 64
    → IsSafeDest streams read attempt.events → EachFits OpensFirst [] attempt.events → EachFits (PipeFits read) [] attempt.events
    → IsHonestAttempt streams read attempt

-- An attempt of a run of the engine, by itself: a safe destination that opens one load, and does all else behind it; the messages
-- that it takes were given.
abbrev pub TakeFits : Reading → List Event → Event → Type 0
TakeFits read before (event.Took text) = TakesGiven read before text
TakeFits read before event = Unit {0}

pub record IsSafeAttempt (streams : List ConfStream) (read : Reading) (attempt : Attempt) : Type 0 where
  pub safe : IsSafeDest streams read attempt.events
  pub opens : EachFits OpensFirst [] attempt.events
  pub takes : EachFits (TakeFits read) [] attempt.events

abbrev pub AttemptsAreSafe : Type 0
AttemptsAreSafe = (streams : List ConfStream) (read : Reading) (trace : List Event) → IsEngineRun streams read trace → AllByRecursion (IsSafeAttempt streams read) (attempts trace)

abbrev pub is_started : Event → Bool
is_started (event.Started plan) = true
is_started event = false

-- what comes back in an attempt was emitted in it; the lines that it takes are fewer than a count can tell
pub record ComesBack (attempt : Attempt) : Type 0 where
  pub few : length (tooks attempt.events) < 2 ^ 64
  pub back : EachFits BackFits [] attempt.events

-- The attempts of a run of the engine are honest, where what comes back in each was emitted, perhaps cut where the pipe ends. (That
-- what each takes was given is part of the run.)
abbrev pub RunsAreHonest : Type 0
RunsAreHonest =
    (streams : List ConfStream) (read : Reading) (trace : List Event)
    → IsReading read trace → IsEngineRun streams read trace → AllByRecursion ComesBack (attempts trace) → IsHonest streams read trace

-- Where each attempt that the added events begin is honest, and nothing comes back before the first of them, the events add
-- honestly, whatever was before.
abbrev pub HonestAttemptsAdd : Type 0
HonestAttemptsAdd =
    (streams : List ConfStream) (read : Reading) (before more : List Event)
    → gots (take_while (λ event. not (is_started event)) more) ≡ [] → AllByRecursion (IsHonestAttempt streams read) (attempts more)
    → AddsHonestly streams read before more
