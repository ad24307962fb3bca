-- What turns leave of a worker and of its link.
use Rattle.std.specs.Prelude.{◌≡◌, ◌⊎◌, ◌<◌, ◌≤◌, ℕ, ◌+◌, ◌-◌, ◌*◌, List, [], ◌++◌, Bool, true, false, ◌||◌, is_none, is_some, length, if◌then◌else◌, Option, None, Some, IsTrue, slice_get}
use Rattle.basics.specs.Told.{Rose}
use Rattle.basics.specs.declared.stream.StreamId.{StreamId}
use Rattle.outside.specs.Desk.{DeskSeen}
use Rattle.outside.specs.Link.{Seen, Told, no_codes, own_events}
use Rattle.outside.specs.declared.event.Codes.{Codes}
use Rattle.outside.specs.declared.event.Event.{Event}
use Rattle.outside.specs.declared.link.LinkCounts.{LinkCounts}
use Rattle.outside.specs.declared.status.Status.{Status}
use Rattle.outside.specs.declared.status.Status.TheVariants as status
use Rattle.sync_rules.specs.Sync.{completion}
use Rattle.attempt_turns.specs.Acts.{Act, events_in}
use Rattle.attempt_turns.specs.History.{RanSo, State}
use Rattle.attempt_turns.specs.Silence.{Waited, counted_from, left, names_source}
use Rattle.attempt_turns.specs.declared.worker.Moved.{Moved}
use Rattle.attempt_turns.specs.declared.worker.Moved.TheVariants as moved
use Rattle.attempt_turns.specs.declared.worker.Worker.{Worker}
use Rattle.attempt_close.specs.Ended.{Awaits}

-- The worker of an attempt over these streams that was just started: nothing was read, given or closed, and no code is known.
pub record Begins (ids : List StreamId) (w : Worker) (seen : Seen) : Type 0 where
  pub ids_are : w.ledger.ids ≡ ids
  pub empty : w.held ≡ None
  pub not_completing : w.is_completing ≡ false
  pub none_completed : w.completed ≡ 0
  pub opened : w.closed ≡ false
  pub reads : w.read_over ≡ false
  pub gets : w.got_over ≡ false
  pub no_code : seen.face.codes ≡ no_codes

-- the line that is held is the completion of one of these streams, the last for which it is settled
pub record HoldsCompletion (ids : List StreamId) (w : Worker) : Type 0 where
  pub number : ℕ
  pub id : StreamId
  pub at : slice_get ids number ≡ Some id
  pub is : w.held ≡ Some (completion id)
  pub made : w.completed ≡ number + 1

-- What holds of a worker over these streams, where these codes are known: completions are made and the input is closed only behind
-- the end of the source's output and where its code is known.
pub record Fits (ids : List StreamId) (w : Worker) (codes : Codes) : Type 0 where
  pub ids_are : w.ledger.ids ≡ ids
  pub own_line : w.is_completing ≡ true → HoldsCompletion ids w
  pub reads_first : w.read_over ≡ false → w.closed ≡ false
  pub closed_known : w.closed ≡ true → is_some codes.source ≡ true

-- Once the source's code is known behind the end of its output, while the destination goes on there is a line to give until the input is
-- closed.
abbrev pub IsSettled : Worker → Codes → Type 0
IsSettled w codes = w.read_over ≡ true → w.held ≡ None → is_some codes.source ≡ true → w.got_over ≡ false → w.closed ≡ true

-- one where it is not so
abbrev pub unless_so : Bool → ℕ
unless_so so = if so then 0 else 1

-- how many codes are unknown
abbrev pub unknown : Codes → ℕ
unknown codes = unless_so (is_some codes.source) + unless_so (is_some codes.dest)

-- how often a turn of an attempt may still bring something, at most
abbrev pub all_left : Worker → Codes → ℕ
all_left w codes = left w + (2 * (length w.ledger.ids - w.completed) + (unless_so w.closed + unknown codes))

-- the worker's number, its streams, and what is known of its completions and of the close of the input stay
pub record SameEnds (w now : Worker) : Type 0 where
  pub number : now.number ≡ w.number
  pub ids : now.ledger.ids ≡ w.ledger.ids
  pub completed : now.completed ≡ w.completed
  pub closed : now.closed ≡ w.closed

-- by either step
abbrev pub either : Moved → Moved → Moved
either moved.Yes next = moved.Yes
either moved.No next = next

-- the counts of both sides rose that silence names
pub record SidesWereQuiet (w : Worker) (old new : Seen) : Type 0 where
  pub dest : w.got_over ≡ false → Rose old.counts.quiet_dest new.counts.quiet_dest
  pub source : names_source w old.face.codes ≡ true → Rose old.counts.quiet_source new.counts.quiet_source

abbrev pub QuietSides : Moved → Worker → Seen → Seen → Type 0
QuietSides moved.Yes w old new = Unit {0}
QuietSides moved.No w old new = SidesWereQuiet w old new

-- of the source's side alone
abbrev pub QuietSource : Moved → Worker → Seen → Seen → Type 0
QuietSource moved.Yes w old new = Unit {0}
QuietSource moved.No w old new = names_source w old.face.codes ≡ true → Rose old.counts.quiet_source new.counts.quiet_source

-- What followed from what a turn brought was done; or nothing was to be done, and the turn waited.
pub record IsDoneWith (ids : List StreamId) (w now : Worker) (old new : Seen) : Type 0 where
  pub fits : Fits ids now new.face.codes
  pub settled : IsSettled now new.face.codes
  pub fewer : all_left now new.face.codes ≤ all_left w old.face.codes

pub record HasWaited (w now : Worker) (old new : Seen) : Type 0 where
  pub same : now ≡ w
  pub told_none : own_events new ≡ own_events old
  pub waited : Rose old.counts.waits new.counts.waits

abbrev pub Settles : Moved → List StreamId → Worker → Worker → Seen → Seen → Type 0
Settles moved.Yes ids w now old new = IsDoneWith ids w now old new
Settles moved.No ids w now old new = HasWaited w now old new

-- a way on which nothing is told where nothing was brought
abbrev pub TellsSo : Moved → List Act → Type 0
TellsSo moved.Yes acts = Unit {0}
TellsSo moved.No acts = events_in acts ≡ []

abbrev pub GoesOnSo : Moved → State → State → Seen → Seen → DeskSeen → DeskSeen → Type 0
GoesOnSo moved A B old new desk_old desk_new = RanSo (TellsSo moved) A B old new desk_old desk_new

-- A turn that brought something leaves less to come. One that did not left all as it was: no event was told and no code became known;
-- and the counts that silence names rose.
pub record Rests (w now : Worker) (old new : Seen) : Type 0 where
  pub same : now ≡ w
  pub codes : new.face.codes ≡ old.face.codes
  pub told_none : own_events new ≡ own_events old
  pub waited : Waited 1 now old.counts new

abbrev pub Turned : Moved → Worker → Worker → Seen → Seen → Type 0
Turned moved.Yes w now old new = all_left now new.face.codes < all_left w old.face.codes
Turned moved.No w now old new = Rests w now old new

-- So many quiet turns stand behind the counts at the beginning, and where a trace is told also behind those at the last event, among
-- those that were added since, that breaks silence.
pub record SilentSince (turns : ℕ) (w : Worker) (old new : Seen) : Type 0 where
  pub waited : Waited turns w old.counts new
  pub told : (before more : List (Told Event LinkCounts)) → old.trace ≡ Some before → new.trace ≡ Some (before ++ more) → Waited turns w (counted_from old.counts (Some more)) new

-- An attempt that ends as silent was so for all turns that are allowed, while the end of the destination's output or its code was
-- awaited; and its input was open where it was not closed.
pub record WasSilent (w : Worker) (old new : Seen) : Type 0 where
  pub since : SilentSince 5400 w old new
  pub awaits : Awaits w new.face.codes
  pub opened : w.closed ≡ false → IsTrue new.face.input_open

abbrev pub SilentSo : Status → Worker → Seen → Seen → Type 0
SilentSo (status.Silent waits) w old new = WasSilent w old new
SilentSo end w old new = Unit {0}

-- how many turns in a row have brought nothing, behind one more
abbrev pub quiet_after : ℕ → Moved → ℕ
quiet_after quiet moved.Yes = 0
quiet_after quiet moved.No = quiet + 1
