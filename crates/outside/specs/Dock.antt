-- What a dock tells, and what each of its calls adds.
use Rattle.std.specs.Prelude.{◌≡◌, ◌⊎◌, ℕ, ◌+◌, ◌-◌, ◌^◌, ◌<◌, ◌≤◌, min, max, List, [], ◌∷◌, ◌++◌, map, fold, length, slice_set, Bool, true, false, IsTrue, if◌then◌else◌, nat_lt, Option, None, Some, option_map, IfSome, Result, Ok, Err}
use Rattle.std.specs.List.{AllByRecursion}
use Rattle.basics.specs.Told.{told_by, told_more, Rose, RoseIf}
use Rattle.basics.specs.declared.limits.TheConstants.{LONGEST_LINE}
use Rattle.basics.specs.declared.stream.StreamId.{StreamId}
use Rattle.outside.specs.Link.{Told}
use Rattle.outside.specs.Hand.{Hand, HandMoves, IsTakenFrom}
use Rattle.outside.specs.Tables.{tables_of, side_marks_of, shown_event, same_id}
use Rattle.outside.specs.declared.dock.DockTally.{DockTally}
use Rattle.outside.specs.declared.event.Event.{Event}
use Rattle.outside.specs.declared.event.Event.TheVariants.{Opened, Took, TookEnd, Merged}
use Rattle.outside.specs.declared.event.StreamPlan.{StreamPlan}
use Rattle.outside.specs.declared.fault.Fault.{Fault}
use Rattle.outside.specs.declared.fault.Fault.TheVariants as fault
use Rattle.outside.specs.declared.link.PollKind.{PollKind}
use Rattle.outside.specs.declared.link.PollKind.TheVariants as kind
use Rattle.outside.specs.declared.link.Polled.{Polled}
use Rattle.outside.specs.declared.link.Polled.TheVariants as polled
use Rattle.outside.specs.declared.load.DockCounts.{DockCounts}
use Rattle.outside.specs.declared.load.Load.{Load}
use Rattle.outside.specs.declared.load.Unmerged.{Unmerged}
use Rattle.outside.specs.declared.table.Tables.{Tables}

-- What is seen

abbrev pub counts_of : DockTally → DockCounts
counts_of tally = record { read_faults = tally.read_faults; store_faults = tally.store_faults; write_faults = tally.write_faults; quiet = tally.quiet }

-- what is known of every dock, whether it tells its trace or not
pub record DockFace : Type 0 where
  -- the kind of the last answer of a poll, Other since the last load was opened
  pub poll : PollKind
  -- the marks of the sides of the last load's streams, one for each stream
  pub side_marks : List ℕ
  -- the input and the output, where they are in memory
  pub hand : Option Hand
  -- the moment of each load, where it is fixed
  pub moment : Option ℕ

-- what contracts see of a dock; only the trace may be untold
pub record DockSeen : Type 0 where
  pub trace : Option (List (Told Event DockTally))
  pub counts : DockTally
  pub face : DockFace
  pub rows_read : ℕ

abbrev pub event_of : Told Event DockTally → Event
event_of told = told.event

abbrev pub dock_events : DockSeen → Option (List Event)
dock_events seen = option_map (map event_of) seen.trace

-- the tables are what the events make of the empty store
abbrev pub tables : DockSeen → Option Tables
tables seen = option_map tables_of (dock_events seen)

-- What holds at every call

-- no count has fallen
pub record NoneFell (low high : DockTally) : Type 0 where
  pub read_faults : low.read_faults ≤ high.read_faults
  pub store_faults : low.store_faults ≤ high.store_faults
  pub write_faults : low.write_faults ≤ high.write_faults
  pub quiet : low.quiet ≤ high.quiet
  pub opens : low.opens ≤ high.opens

-- the event was told with counts between these
pub record IsToldBetween (low high : DockTally) (told : Told Event DockTally) : Type 0 where
  pub not_below : NoneFell low told.counts
  pub not_above : NoneFell told.counts high

-- no event was taken away, each new one is told with counts of this call, and no count has fallen
pub record DockGrew (old new : DockSeen) : Type 0 where
  pub counts : NoneFell old.counts new.counts
  pub more : List (Told Event DockTally)
  pub grew : new.trace ≡ told_more more old.trace
  pub timed : AllByRecursion (IsToldBetween old.counts new.counts) more

abbrev pub is_opening : Event → Bool
is_opening (Opened load moment plan) = true
is_opening event = false

-- The load went on by these events, and the hand with them, whatever the answer: so at Failed too, what left the input
-- was taken, and what stands in the output was emitted.
pub record DockMoves (old new : DockSeen) : Type 0 where
  pub more : List Event
  pub events : dock_events new ≡ told_more more (dock_events old)
  pub goes_on : AllByRecursion (λ event. is_opening event ≡ false) more
  pub hand : HandMoves more old.face.hand new.face.hand

-- Polls

-- whether the input has ended since the last load was opened; before the first load its end is no event
abbrev pub took_over_after : Bool → Event → Bool
took_over_after over (Opened load moment plan) = false
took_over_after over TookEnd = true
took_over_after over event = over

abbrev pub took_over : List Event → Bool
took_over events = fold took_over_after true events

-- a line or a torn piece was taken, and the first end of a load
abbrev pub TookAdds : Polled → Option (List Event) → Option (List Event) → Type 0
TookAdds (polled.Line line) before now = now ≡ told_more (Took line ∷ []) before
TookAdds (polled.Torn line) before now = now ≡ told_more (Took line ∷ []) before
TookAdds polled.TooLong before now = now ≡ before
TookAdds polled.NotYet before now = now ≡ before
TookAdds polled.End before now = now ≡ told_by (λ events. if took_over events then [] else TookEnd ∷ []) before
TookAdds polled.Failed before now = now ≡ before
TookAdds polled.NoMemory before now = now ≡ before

-- a line that a dock gives is within the limit
abbrev pub IsWithinLimit : Polled → Type 0
IsWithinLimit (polled.Line line) = length line ≤ LONGEST_LINE
IsWithinLimit (polled.Torn line) = length line ≤ LONGEST_LINE
IsWithinLimit polled.TooLong = Unit {0}
IsWithinLimit polled.NotYet = Unit {0}
IsWithinLimit polled.End = Unit {0}
IsWithinLimit polled.Failed = Unit {0}
IsWithinLimit polled.NoMemory = Unit {0}

-- Opening a store and a load

-- an opened store was counted where the call is Ok
abbrev pub OpensCount : {T : Type 0} → Result T Fault → ℕ → ℕ → Type 0
OpensCount (Ok done) before now = Rose before now
OpensCount (Err fault) before now = now ≡ before

-- no two streams of a load have one id
abbrev pub HasOtherId : StreamId → StreamPlan → Type 0
HasOtherId id plan = same_id plan.id id ≡ false

abbrev pub HasOwnIds : List StreamPlan → Type 0
HasOwnIds [] = Unit {0}
HasOwnIds (plan ∷ plans) = AllByRecursion (HasOtherId plan.id) plans × HasOwnIds plans

-- the load's number is one above the last
abbrev pub opening : ℕ → List StreamPlan → List Event → List Event
opening moment plan events = Opened ((tables_of events).load + 1) moment plan ∷ []

pub record AddsOpened (plan : List StreamPlan) (fixed : Option ℕ) (before now : Option (List Event)) : Type 0 where
  pub moment : ℕ
  pub fixed_is : IfSome fixed (λ at. moment ≡ at)
  pub added : now ≡ told_by (opening moment plan) before

pub record OpenedAs (load : Load) (plan : List StreamPlan) (fixed : Option ℕ) (before now : Option (List Event)) : Type 0 where
  pub fixed_is : IfSome fixed (λ at. load.moment ≡ at)
  pub added : now ≡ told_by (opening load.moment plan) before
  pub number : IfSome before (λ events. load.load ≡ (tables_of events).load + 1)

-- a load was opened, at the moment that is fixed where there is one; at Failed it was or was not
abbrev pub OpenAdds : Result Load Fault → List StreamPlan → Option ℕ → Option (List Event) → Option (List Event) → Type 0
OpenAdds (Ok load) plan fixed before now = OpenedAs load plan fixed before now
OpenAdds (Err fault.Failed) plan fixed before now = (now ≡ before) ⊎ AddsOpened plan fixed before now
OpenAdds (Err fault.NoMemory) plan fixed before now = now ≡ before

abbrev pub IsPlace : ℕ → Type 0
IsPlace mark = mark < 2 ^ 63

-- the streams of a load, each with the mark of its side
pub record HasStreams (plan : List StreamPlan) (marks : List ℕ) : Type 0 where
  pub one_each : length marks ≡ length plan
  pub places : AllByRecursion IsPlace marks

pub record OpensFace (plan : List StreamPlan) (before now : DockFace) : Type 0 where
  pub poll : now.poll ≡ kind.Other
  pub streams : HasStreams plan now.side_marks
  pub hand : now.hand ≡ before.hand
  pub moment : now.moment ≡ before.moment

abbrev pub OpenFace : Result Load Fault → List StreamPlan → DockFace → DockFace → Type 0
OpenFace (Ok load) plan before now = OpensFace plan before now
OpenFace (Err fault) plan before now = now ≡ before

-- Reading

-- a number that never falls, and stands still at its type's end, rose by so much
abbrev pub RoseExactlyBy : ℕ → ℕ → ℕ → Type 0
RoseExactlyBy n before now = now ≡ max before (min (before + n) (2 ^ 64 - 1))

-- what is known of a page of every dock: behind a mark, which stays where there is no row, and of at most so many rows
pub record IsPage (mark most : ℕ) (page : Unmerged) : Type 0 where
  pub place : IsPlace page.mark
  pub above : 0 < length page.rows → mark < page.mark
  pub none : length page.rows ≡ 0 → page.mark ≡ mark
  pub more : IsTrue page.more → 0 < length page.rows
  pub capped : length page.rows ≤ most

abbrev pub PageReads : Result Unmerged Fault → ℕ → ℕ → Type 0
PageReads (Ok page) before now = RoseExactlyBy (length page.rows) before now
PageReads (Err fault) before now = now ≡ before

-- at most so many rows were read
pub record ReadAtMost (n before now : ℕ) : Type 0 where
  pub kept : before ≤ now
  pub most : now ≤ before + n

-- Merging and showing

abbrev pub merged_face : {T : Type 0} → Result T Fault → ℕ → ℕ → DockFace → DockFace
merged_face (Ok done) stream mark face = record face { side_marks = slice_set face.side_marks stream mark }
merged_face (Err fault) stream mark face = face

-- a stream was shown where the call is Ok, and at Failed it was or was not
abbrev pub showing : ℕ → List Event → List Event
showing stream events = shown_event (tables_of events) stream ∷ []

abbrev pub ShowAdds : {T : Type 0} → Result T Fault → ℕ → Option (List Event) → Option (List Event) → Type 0
ShowAdds (Ok done) stream before now = now ≡ told_by (showing stream) before
ShowAdds (Err fault.Failed) stream before now = (now ≡ before) ⊎ (now ≡ told_by (showing stream) before)
ShowAdds (Err fault.NoMemory) stream before now = now ≡ before

-- The hand of a dock in memory

abbrev pub with_hand : (Hand → Hand) → DockSeen → DockSeen
with_hand change seen = record seen { face = record (seen.face) { hand = option_map change seen.face.hand } }

abbrev pub hand_left : List (List ℕ) → Hand → Hand
hand_left rest hand = record hand { output = rest }

pub record TakesLine (given : Option (List ℕ)) (hand : Hand) (old new : DockSeen) : Type 0 where
  pub rest : List (List ℕ)
  pub taken : IsTakenFrom given hand.output rest
  pub seen : new ≡ with_hand (hand_left rest) old

abbrev pub TakesFrom : Option Hand → Option (List ℕ) → DockSeen → DockSeen → Type 0
TakesFrom None given old new = new ≡ old
TakesFrom (Some hand) given old new = TakesLine given hand old new

-- the next line of the output was taken out
abbrev pub TakesOutput : Option (List ℕ) → DockSeen → DockSeen → Type 0
TakesOutput given old new = TakesFrom old.face.hand given old new
