-- The attempts of a run of the engine are honest.
use Rattle.std.proofs.Common.{List, [], ◌∷◌, ◌++◌}
use Rattle.std.specs.Prelude.{fold}
use Rattle.std.specs.List.{AllByRecursion}
use Rattle.outside.specs.declared.event.Event.{Event}
use Rattle.outside.specs.declared.event.Event.TheVariants.{Opened, Took, TookEnd, Committed, Emitted, Merged, Shown, Started, ReadLine, ReadEnd, Given, Closed, Got, GotEnd, Saved, Ended}
use Rattle.catalog.specs.declared.stream.ConfStream.{ConfStream}
use Rattle.load_rules.specs.Prefixes.{EachFits, with_first}
use Rattle.load_rules.specs.Lines.{Reading, ReadsEvent, IsReading}
use Rattle.load_rules.specs.Attempts.{Attempt, attempts, attempts_after, attempt_with}
use Rattle.load_rules.specs.Honest.{IsHonestAttempt}
use Rattle.load_rules.specs.Laws.{BackFits, PipeFits, TakeFits, IsSafeAttempt, ComesBack, RunsAreHonest}
use Rattle.load_rules.proofs.TakenLists.{all_append}
use Rattle.load_rules.proofs.SafeAttempts.{attempts_are_safe}
use Rattle.load_rules.proofs.Honesty.{pipes_are_honest}

abbrev pub AreRead : Reading → List Attempt → Type 0
AreRead read list = AllByRecursion (λ attempt. IsReading read attempt.events) list

first_read : (read : Reading) (list : List Attempt) (event : Event) → AreRead read list → ReadsEvent read event → AreRead read (with_first (attempt_with event) list)
first_read read [] event each is = tt
first_read read (attempt ∷ older) event each is = (all_append (ReadsEvent read) attempt.events (event ∷ []) each.0 (is, tt), each.1)

after_read : (read : Reading) (list : List Attempt) (event : Event) → AreRead read list → ReadsEvent read event → AreRead read (attempts_after list event)
after_read read list (Started x) each is = (tt, each)
after_read read list (Opened x y z) each is = first_read read list (Opened x y z) each is
after_read read list (Took x) each is = first_read read list (Took x) each is
after_read read list TookEnd each is = first_read read list TookEnd each is
after_read read list (Committed x y) each is = first_read read list (Committed x y) each is
after_read read list (Emitted x) each is = first_read read list (Emitted x) each is
after_read read list (Merged x y z) each is = first_read read list (Merged x y z) each is
after_read read list (Shown x y z) each is = first_read read list (Shown x y z) each is
after_read read list (ReadLine x) each is = first_read read list (ReadLine x) each is
after_read read list ReadEnd each is = first_read read list ReadEnd each is
after_read read list (Given x) each is = first_read read list (Given x) each is
after_read read list Closed each is = first_read read list Closed each is
after_read read list (Got x) each is = first_read read list (Got x) each is
after_read read list GotEnd each is = first_read read list GotEnd each is
after_read read list (Saved x) each is = first_read read list (Saved x) each is
after_read read list (Ended x) each is = first_read read list (Ended x) each is

-- a reading of a trace is one of each attempt
pub attempts_read : (read : Reading) (list : List Attempt) (events : List Event) → AreRead read list → IsReading read events → AreRead read (fold attempts_after list events)
attempts_read read list [] each reading = each
attempts_read read list (event ∷ events) each reading = attempts_read read (attempts_after list event) events (after_read read list event each reading.0) reading.1

pipe_fits : (read : Reading) (before : List Event) (event : Event) → TakeFits read before event → BackFits before event → PipeFits read before event
pipe_fits read before (Took x) takes back = takes
pipe_fits read before (Opened x y z) takes back = back
pipe_fits read before TookEnd takes back = back
pipe_fits read before (Committed x y) takes back = back
pipe_fits read before (Emitted x) takes back = back
pipe_fits read before (Merged x y z) takes back = back
pipe_fits read before (Shown x y z) takes back = back
pipe_fits read before (Started x) takes back = back
pipe_fits read before (ReadLine x) takes back = back
pipe_fits read before ReadEnd takes back = back
pipe_fits read before (Given x) takes back = back
pipe_fits read before Closed takes back = back
pipe_fits read before (Got x) takes back = back
pipe_fits read before GotEnd takes back = back
pipe_fits read before (Saved x) takes back = back
pipe_fits read before (Ended x) takes back = back

pipes_fit : (read : Reading) (before events : List Event) → EachFits (TakeFits read) before events → EachFits BackFits before events → EachFits (PipeFits read) before events
pipes_fit read before [] takes back = tt
pipes_fit read before (event ∷ events) takes back = (pipe_fits read before event takes.0 back.0, pipes_fit read (before ++ event ∷ []) events takes.1 back.1)

each_honest : (streams : List ConfStream) (read : Reading) (list : List Attempt) → AreRead read list → AllByRecursion (IsSafeAttempt streams read) list → AllByRecursion ComesBack list → AllByRecursion (IsHonestAttempt streams read) list
each_honest streams read [] readings safe back = tt
each_honest streams read (attempt ∷ older) readings safe back =
    (pipes_are_honest streams read attempt readings.0 back.0.few safe.0.safe safe.0.opens (pipes_fit read [] attempt.events safe.0.takes back.0.back), each_honest streams read older readings.1 safe.1 back.1)

pub runs_are_honest : RunsAreHonest
runs_are_honest streams read trace reading runs back = each_honest streams read (attempts trace) (attempts_read read [] trace tt reading) (attempts_are_safe streams read trace runs) back
