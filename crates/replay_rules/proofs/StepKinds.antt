-- The kinds of steps of a sync.
use Rattle.std.proofs.Common.{◌≡◌, ℕ, List, true, false, None, refl}
use Rattle.outside.specs.Event.{is_links, got_in, saved_in}
use Rattle.outside.specs.declared.event.Event.{Event}
use Rattle.outside.specs.declared.event.Event.TheVariants.{Opened, Took, TookEnd, Committed, Emitted, Merged, Shown, Started, ReadLine, ReadEnd, Given, Closed, Got, GotEnd, Saved, Ended}
use Rattle.outside.specs.declared.event.AttemptPlan.{AttemptPlan}
use Rattle.catalog.specs.declared.stream.ConfStream.{ConfStream}
use Rattle.load_rules.specs.Prefixes.{with_first}
use Rattle.load_rules.specs.Lines.{Reading}
use Rattle.load_rules.specs.Taken.{LaneState}
use Rattle.load_rules.specs.Attempts.{Attempt, attempts_after, attempt_with}
use Rattle.load_rules.specs.Laws.{is_started}
use Rattle.sync_rules.specs.Sync.{Sync, started, with_event}
use Rattle.sync_rules.specs.Steps.{Step, Starts, Saves, Gets, InAttempt}

-- a step by a store, the start of an attempt, a set that is saved, a line that comes back, or anything else that a link adds
pub data StepKind (streams : List ConfStream) (read : Reading) (P : LaneState → Type 0) (sync : Sync) (event : Event) (now : Sync) : Type 0 where
  Stores : is_links event ≡ false → is_started event ≡ false → now ≡ sync → StepKind streams read P sync event now
  Starting : (plan : AttemptPlan) → event ≡ Started plan → Starts streams sync plan → now ≡ started sync → StepKind streams read P sync event now
  Saving : (text : List ℕ) → event ≡ Saved text → Saves streams read P sync text now → StepKind streams read P sync event now
  Getting : (text : List ℕ) → event ≡ Got text → InAttempt sync.attempt (Gets read sync text now) → StepKind streams read P sync event now
  Acting : is_links event ≡ true → is_started event ≡ false → got_in event ≡ None → saved_in event ≡ None → now ≡ with_event event sync → StepKind streams read P sync event now

pub kind_of : (streams : List ConfStream) (read : Reading) (P : LaneState → Type 0) (sync : Sync) (event : Event) (now : Sync) → Step streams read P sync event now → StepKind streams read P sync event now
kind_of streams read P sync (Opened x y z) now step = Stores refl refl step
kind_of streams read P sync (Took x) now step = Stores refl refl step
kind_of streams read P sync TookEnd now step = Stores refl refl step
kind_of streams read P sync (Committed x y) now step = Stores refl refl step
kind_of streams read P sync (Emitted x) now step = Stores refl refl step
kind_of streams read P sync (Merged x y z) now step = Stores refl refl step
kind_of streams read P sync (Shown x y z) now step = Stores refl refl step
kind_of streams read P sync (Started x) now step = Starting x refl step.0 step.1
kind_of streams read P sync (ReadLine x) now step = Acting refl refl refl refl step.1
kind_of streams read P sync ReadEnd now step = Acting refl refl refl refl step.1
kind_of streams read P sync (Given x) now step = Acting refl refl refl refl step.1
kind_of streams read P sync Closed now step = Acting refl refl refl refl step.1
kind_of streams read P sync GotEnd now step = Acting refl refl refl refl step.1
kind_of streams read P sync (Ended x) now step = Acting refl refl refl refl step.1
kind_of streams read P sync (Got x) now step = Getting x refl step
kind_of streams read P sync (Saved x) now step = Saving x refl step

-- an event that starts no attempt goes on with the last
pub goes_on : (event : Event) (list : List Attempt) → is_started event ≡ false → attempts_after list event ≡ with_first (attempt_with event) list
goes_on (Opened x y z) list none = refl
goes_on (Took x) list none = refl
goes_on TookEnd list none = refl
goes_on (Committed x y) list none = refl
goes_on (Emitted x) list none = refl
goes_on (Merged x y z) list none = refl
goes_on (Shown x y z) list none = refl
goes_on (ReadLine x) list none = refl
goes_on ReadEnd list none = refl
goes_on (Given x) list none = refl
goes_on Closed list none = refl
goes_on GotEnd list none = refl
goes_on (Ended x) list none = refl
goes_on (Got x) list none = refl
goes_on (Saved x) list none = refl
goes_on (Started x) list none = absurd (let h : true ≡ false = none in cc)
