-- What every book is: a run of the machine, and what its dock tells is the load of that run.
use Rattle.std.specs.Prelude.{◌≡◌, ◌⊎◌, ℕ, ◌+◌, ◌-◌, ◌≤◌, ◌^◌, List, [], ◌∷◌, ◌++◌, map, filter_map, length, Option, None, Some, IfSome, find}
use Rattle.std.specs.List.{AllByRecursion, list_any}
use Rattle.outside.specs.Dock.{DockSeen, dock_events, tables, took_over}
use Rattle.outside.specs.Limits.{AreLimits}
use Rattle.outside.specs.declared.event.Event.{Event}
use Rattle.outside.specs.declared.event.RawRow.{RawRow}
use Rattle.outside.specs.declared.faults.InputKind.{InputKind}
use Rattle.outside.specs.declared.faults.InputKind.TheVariants as input
use Rattle.outside.specs.declared.link.PollKind.{PollKind}
use Rattle.outside.specs.declared.link.PollKind.TheVariants as poll_kind
use Rattle.outside.specs.declared.status.Status.{Status}
use Rattle.outside.specs.declared.status.Status.TheVariants as status
use Rattle.basics.specs.declared.limits.TheConstants.{LONGEST_LINE}
use Rattle.basics.specs.declared.stream.StreamId.{StreamId}
use Rattle.json_fields.specs.Answer.{IsAnswer}
use Rattle.airbyte_message.specs.Messages.{IsMessage}
use Rattle.airbyte_message.specs.declared.message.Message.{Message}
use Rattle.catalog.specs.Configured.{AreConfigured}
use Rattle.catalog.specs.declared.stream.ConfStream.{ConfStream}
use Rattle.book_queue.specs.Content.{Held, all_of}
use Rattle.load_rules.specs.Acts.{Act, Commits, Takes, AreActs, committed, taken, state_echoed}
use Rattle.load_rules.specs.Bounded.{AreBounded, IsBounded}
use Rattle.load_rules.specs.Engine.{AreEngineLoads, PlansFit}
use Rattle.load_rules.specs.Lines.{Line, Reading, IsReading, line_read}
use Rattle.load_rules.specs.Loads.{Load, Opening, loads}
use Rattle.load_rules.specs.Machine.{Machine, Step, Accept, End, Seal, HandOut, Commit, TakeBack, Release, Turn, start, run, is_releasable}
use Rattle.load_rules.specs.Prefixes.{EachFits}
use Rattle.load_rules.specs.Taken.{entries}
use Rattle.load_rules.specs.SafeDest.{Fits, uncommitted, IsSafeDest, IsSafeLoad}
use Rattle.load_rules.specs.Stores.{IsStoreRun}
use Rattle.book_rules.specs.declared.answer.Tally.{Tally}
use Rattle.book_rules.specs.Accepts.{fault_of}
use Rattle.book_rules.specs.Holds.{Holds, is_end, lanes_among}
use Rattle.book_rules.specs.Views.{BookView, HasPlans, ids}

-- at most so many records are taken and not committed behind an act
abbrev pub HoldsFew : ℕ → List Act → Act → Type 0
HoldsFew most before act = length (uncommitted (before ++ act ∷ [])) ≤ most

abbrev pub take_of : Reading → List ℕ → Act
take_of read text = Takes (line_read read text)

-- The last load of a trace is this one: these are its acts, and behind them lines that were taken and not used.
pub record Tells (opening : Opening) (acts : List Act) (unused : List (List ℕ)) (trace : List Event) : Type 0 where
  pub load : Load
  pub older : List Load
  pub last : loads trace ≡ load ∷ older
  pub opened : load.opening ≡ opening
  pub over : took_over trace ≡ list_any is_end acts
  pub acts_are : (read : Reading) → IsReading read load.events → AreActs read (acts ++ map (take_of read) unused) load.events

-- The echoes that are counted are those that were emitted. One that could not be written may stand in the output uncounted.
abbrev pub CountsEchoes : Option Status → ℕ → ℕ → Type 0
CountsEchoes (Some status.WriteFault) counted emitted = (emitted ≡ counted) ⊎ (emitted ≡ counted + 1)
CountsEchoes broken counted emitted = emitted ≡ counted

-- What is counted, whether a book is broken or not: the lines that were taken, used or not, and the records among those that were
-- used.
pub record Tallied (tally : Tally) (next : ℕ) (acts : List Act) (unused : List (List ℕ)) : Type 0 where
  pub lines : tally.lines ≡ length (taken acts) + length unused
  pub most : tally.lines ≤ 2 ^ 32
  pub records : next ≡ length (entries (taken acts))
  pub lanes : tally.lanes ≡ lanes_among (taken acts)
  pub emitted : CountsEchoes tally.broken tally.emitted (length (filter_map state_echoed acts))
  pub ended : list_any is_end acts ≡ tally.is_ended

-- So many were committed before a commit whose rows may stand or not.
pub record StandsBehind (count : ℕ) (acts : List Act) : Type 0 where
  pub front : List Act
  pub number : ℕ
  pub rows : List RawRow
  pub splits : acts ≡ front ++ Commits number rows ∷ []
  pub count_is : length (committed front) ≡ count

abbrev pub CountsCommits : Option Status → ℕ → List Act → Type 0
CountsCommits (Some status.StoreFault) count acts = (length (committed acts) ≡ count) ⊎ StandsBehind count acts
CountsCommits broken count acts = length (committed acts) ≡ count

-- Of so many records some are held, and the others are committed; where a commit failed, its rows may stand, though they are held.
pub record CountsRecords (broken : Option Status) (next held : ℕ) (acts : List Act) : Type 0 where
  pub within : held ≤ next
  pub committed_are : CountsCommits broken (next - held) acts

-- a line that has no fault behind these
abbrev pub IsGoodLine : List StreamId → List Line → Line → Type 0
IsGoodLine ids before line = fault_of input.BadLine ids (lanes_among before) line.found ≡ None

-- the line that was taken last has this fault first
pub record IsRefused (unread kind : InputKind) (ids : List StreamId) (acts : List Act) (unused : List (List ℕ)) : Type 0 where
  pub line : List ℕ
  pub last : unused ≡ line ∷ []
  pub found : Option Message
  pub read : IsAnswer (IsMessage line) found
  pub fault : fault_of unread ids (lanes_among (taken acts)) found ≡ Some kind

-- Why a book is broken: by the first line with a fault, with its number; or by a fault of its dock, or want of memory.
abbrev pub BrokeBy : List StreamId → ℕ → PollKind → List Act → List (List ℕ) → Status → Type 0
BrokeBy ids lines poll acts unused (status.BadInput input.TooLong number) = (number ≡ lines + 1) × (unused ≡ []) × (poll ≡ poll_kind.TooLong)
BrokeBy ids lines poll acts unused (status.BadInput input.TornTail number) = (number ≡ lines) × (poll ≡ poll_kind.Torn) × IsRefused input.TornTail input.TornTail ids acts unused
BrokeBy ids lines poll acts unused (status.BadInput input.BadLine number) = (number ≡ lines) × (poll ≡ poll_kind.Line) × IsRefused input.BadLine input.BadLine ids acts unused
BrokeBy ids lines poll acts unused (status.BadInput kind number) = (number ≡ lines) × IsRefused input.BadLine kind ids acts unused
BrokeBy ids lines poll acts unused status.TooManyLines = lines ≡ 2 ^ 32
BrokeBy ids lines poll acts unused status.StoreFault = Unit {0}
BrokeBy ids lines poll acts unused status.ReadFault = Unit {0}
BrokeBy ids lines poll acts unused status.WriteFault = Unit {0}
BrokeBy ids lines poll acts unused status.NoMemory = Unit {0}
BrokeBy ids lines poll acts unused stop = ⊥

-- no line, or one where a record more may be held
abbrev pub AreUnused : ℕ → List Act → List (List ℕ) → Type 0
AreUnused slots acts [] = Unit {0}
AreUnused slots acts (line ∷ []) = length (uncommitted acts) ≤ slots
AreUnused slots acts (line ∷ next ∷ more) = ⊥

-- The machine is reached by a run, whose acts are safe and bounded, and what the dock tells is their load.
pub record Reached (book : BookView) (m : Machine) : Type 0 where
  pub steps : List Step
  pub runs : run book.catalog steps start ≡ m
  pub safe : EachFits (Fits book.catalog book.opening) [] m.acts
  pub bounded : EachFits (HoldsFew (book.limits.slots + 1)) [] m.acts
  pub unused : List (List ℕ)
  pub unused_are : AreUnused book.limits.slots m.acts unused
  pub used : book.tally.broken ≡ None → unused ≡ []
  pub told : IfSome (dock_events book.seen) (Tells book.opening m.acts unused)
  pub tallied : Tallied book.tally book.gate.next m.acts unused
  pub good : EachFits (IsGoodLine (ids book)) [] (taken m.acts)
  pub why : IfSome book.tally.broken (BrokeBy (ids book) book.tally.lines book.seen.face.poll m.acts unused)
  pub counted : CountsRecords book.tally.broken book.gate.next (length (all_of book.queue)) m.acts

-- No state that waits may go.
abbrev pub IsQuiet : Machine → Type 0
IsQuiet m = find (is_releasable m.acts) m.waiting ≡ None

-- The book is this state of the machine. Where it is not broken, so are its fields, and no releasable state waits.
pub record IsBookOf (book : BookView) (m : Machine) : Type 0 where
  pub reached : Reached book m
  pub holds : book.tally.broken ≡ None → Holds book m
  pub quiet : book.tally.broken ≡ None → IsQuiet m

-- a record that waits for room is no longer than a line may be
abbrev pub IsSmall : Option Held → Type 0
IsSmall parked = IfSome parked (λ one. length one.line ≤ LONGEST_LINE)

pub record IsBook (book : BookView) : Type 0 where
  pub configured : AreConfigured book.catalog
  pub planned : PlansFit book.catalog book.opening.plan
  pub as_many : length book.seen.face.side_marks ≡ length book.catalog
  pub listed : length book.shown ≡ length book.catalog
  pub queue_streams : book.queue.streams ≡ length book.catalog
  pub limits_are : AreLimits book.limits
  pub slots : book.queue.slots ≡ book.limits.slots
  pub bytes : book.queue.bytes ≡ book.limits.bytes
  pub batch : book.queue.batch ≡ book.limits.batch
  pub parked_small : IsSmall book.queue.parked
  pub plans : book.tally.broken ≡ None → IfSome (tables book.seen) (HasPlans book)
  pub machine : Machine
  pub is : IsBookOf book machine

-- What is promised of every book, and of each call

-- The load of a trace is the book's own. It is safe, and bounded in every prefix, by every reading that is right of its lines.
pub record LastIsSafe (book : BookView) (trace : List Event) : Type 0 where
  pub load : Load
  pub older : List Load
  pub last : loads trace ≡ load ∷ older
  pub opened : load.opening ≡ book.opening
  pub safe : (read : Reading) → IsReading read load.events → IsSafeLoad book.catalog read load
  pub bounded : (read : Reading) → IsReading read load.events → IsBounded (book.limits.slots + 1) read load

-- where the dock tells its trace, the book's own load is safe and bounded
abbrev pub OwnLoadIsSafe : BookView → Type 0
OwnLoadIsSafe book = IfSome (dock_events book.seen) (LastIsSafe book)

-- What a call leaves of the whole trace, by every reading that is right of its lines: it is safe where it was so before, and so it is
-- bounded, its store's events fit one another, and its loads are those of a run of the engine.
pub record StaySafe (streams : List ConfStream) (most : ℕ) (read : Reading) (before now : List Event) : Type 0 where
  pub safe : IsSafeDest streams read before → IsSafeDest streams read now
  pub bounded : AreBounded most read before → AreBounded most read now
  pub store : IsStoreRun before → IsStoreRun now
  pub engine : AreEngineLoads streams read before → AreEngineLoads streams read now

abbrev pub KeepsSafeOf : List ConfStream → ℕ → DockSeen → DockSeen → Type 0
KeepsSafeOf streams most old new =
    (read : Reading) (before now : List Event)
    → dock_events old ≡ Some before → dock_events new ≡ Some now → IsReading read now → StaySafe streams most read before now

abbrev pub KeepsSafe : BookView → BookView → Type 0
KeepsSafe old new = KeepsSafeOf old.catalog (old.limits.slots + 1) old.seen new.seen

-- A call leaves what the book was started with.
pub record KeepsOpened (old new : BookView) : Type 0 where
  pub catalog : new.catalog ≡ old.catalog
  pub opening : new.opening ≡ old.opening
  pub limits : new.limits ≡ old.limits

-- What a call is to the machine: accept takes at most once, then seals, then releases; pick hands out at most once; put is one commit
-- with its releases; give_back takes the batch back by its number; recall takes back; finish merges and shows.
abbrev pub IsTaking : Step → Type 0
IsTaking (Accept line) = Unit {0}
IsTaking End = Unit {0}
IsTaking step = ⊥

abbrev pub IsSealing : Step → Type 0
IsSealing (Seal id count) = Unit {0}
IsSealing step = ⊥

abbrev pub IsReleasing : Step → Type 0
IsReleasing Release = Unit {0}
IsReleasing step = ⊥

abbrev pub IsTakingBack : Step → Type 0
IsTakingBack (TakeBack id batch) = Unit {0}
IsTakingBack step = ⊥

pub record IsAcceptRun (steps : List Step) : Type 0 where
  pub takes : List Step
  pub seals : List Step
  pub frees : List Step
  pub splits : steps ≡ takes ++ (seals ++ frees)
  pub once : length takes ≤ 1
  pub taking : AllByRecursion IsTaking takes
  pub sealing : AllByRecursion IsSealing seals
  pub freeing : AllByRecursion IsReleasing frees

abbrev pub IsPickRun : List Step → Type 0
IsPickRun [] = Unit {0}
IsPickRun (HandOut id count batch ∷ []) = Unit {0}
IsPickRun steps = ⊥

abbrev pub IsPutRun : List Step → Type 0
IsPutRun [] = Unit {0}
IsPutRun (Commit number id batch rows ∷ frees) = AllByRecursion IsReleasing frees
IsPutRun steps = ⊥

abbrev pub IsGiveBackRun : ℕ → List Step → Type 0
IsGiveBackRun number [] = Unit {0}
IsGiveBackRun number (TakeBack id batch ∷ []) = batch ≡ number
IsGiveBackRun number steps = ⊥

abbrev pub IsRecallRun : List Step → Type 0
IsRecallRun steps = AllByRecursion IsTakingBack steps

-- a merge, or a stream that is shown
abbrev pub IsTurning : Step → Type 0
IsTurning Turn = Unit {0}
IsTurning step = ⊥

abbrev pub IsFinishRun : List Step → Type 0
IsFinishRun steps = AllByRecursion IsTurning steps

-- no step
abbrev pub IsNoRun : List Step → Type 0
IsNoRun [] = Unit {0}
IsNoRun (step ∷ steps) = ⊥

-- a call goes from each state of the machine that the book was to one that such a run leads to
pub record RunsTo (shape : List Step → Type 0) (old new : BookView) (m : Machine) : Type 0 where
  pub steps : List Step
  pub shaped : shape steps
  pub leads : IsBookOf new (run old.catalog steps m)

abbrev pub Runs : (List Step → Type 0) → BookView → BookView → Type 0
Runs shape old new = (m : Machine) → IsBookOf old m → RunsTo shape old new m
