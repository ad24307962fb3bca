-- What holds of each attempt of a trace.
use Rattle.std.proofs.Common.{◌≡◌, List, [], ◌∷◌, ◌++◌, true, false, refl, ◌∙◌, subst}
use Rattle.std.specs.Prelude.{fold}
use Rattle.std.specs.List.{AllByRecursion}
use Rattle.std.proofs.lemmas.List.Sums.{fold-append}
use Rattle.std.proofs.lemmas.Bool.{false≢true}
use Rattle.outside.specs.declared.event.AttemptPlan.{AttemptPlan}
use Rattle.outside.specs.declared.event.Event.{Event}
use Rattle.outside.specs.declared.event.Event.TheVariants.{Opened, Took, TookEnd, Committed, Emitted, Merged, Shown, Started, ReadLine, ReadEnd, Given, Closed, Got, GotEnd, Saved, Ended}
use Rattle.load_rules.specs.Prefixes.{with_first}
use Rattle.load_rules.specs.Attempts.{Attempt, attempts, attempts_after, attempt_with}
use Rattle.load_rules.specs.Laws.{is_started}
use Rattle.sync_rules.proofs.KindLemmas.{by_bool}
use Rattle.replay_rules.proofs.StepKinds.{goes_on}

pub attempts-one : (before : List Event) (event : Event) → attempts (before ++ event ∷ []) ≡ attempts_after (attempts before) event
attempts-one before event = fold-append attempts_after [] before (event ∷ [])

pub attempts-on : (before : List Event) (event : Event) → is_started event ≡ false → attempts (before ++ event ∷ []) ≡ with_first (attempt_with event) (attempts before)
attempts-on before event none = attempts-one before event ∙ goes_on event (attempts before) none

plan_of : {P : Type 0} (event : Event) → is_started event ≡ true → ((plan : AttemptPlan) → event ≡ Started plan → P) → P
plan_of (Started plan) is starts = starts plan refl
plan_of (Opened x y z) is starts = absurd (false≢true is)
plan_of (Took x) is starts = absurd (false≢true is)
plan_of TookEnd is starts = absurd (false≢true is)
plan_of (Committed x y) is starts = absurd (false≢true is)
plan_of (Emitted x) is starts = absurd (false≢true is)
plan_of (Merged x y z) is starts = absurd (false≢true is)
plan_of (Shown x y z) is starts = absurd (false≢true is)
plan_of (ReadLine x) is starts = absurd (false≢true is)
plan_of ReadEnd is starts = absurd (false≢true is)
plan_of (Given x) is starts = absurd (false≢true is)
plan_of Closed is starts = absurd (false≢true is)
plan_of GotEnd is starts = absurd (false≢true is)
plan_of (Ended x) is starts = absurd (false≢true is)
plan_of (Got x) is starts = absurd (false≢true is)
plan_of (Saved x) is starts = absurd (false≢true is)

pub by_start : {P : Type 0} (event : Event) → ((plan : AttemptPlan) → event ≡ Started plan → P) → (is_started event ≡ false → P) → P
by_start event starts goes = by_bool (is_started event) (λ is. plan_of event is starts) goes

-- what each event more keeps of an attempt held before it
pub first_back : (P : Attempt → Type 0) (event : Event) (list : List Attempt) → ((attempt : Attempt) → P (attempt_with event attempt) → P attempt) → AllByRecursion P (with_first (attempt_with event) list) → AllByRecursion P list
first_back P event [] back each = tt
first_back P event (attempt ∷ older) back each = (back attempt each.0, each.1)

pub one_back : (P : Attempt → Type 0) (event : Event) (list : List Attempt) → ((attempt : Attempt) (event : Event) → is_started event ≡ false → P (attempt_with event attempt) → P attempt) → AllByRecursion P (attempts_after list event) → AllByRecursion P list
one_back P event list back each =
    by_start event (λ plan is. (subst (λ it. AllByRecursion P (attempts_after list it)) is each).1)
    (λ none. first_back P event list (λ attempt. back attempt event none) (subst (AllByRecursion P) (goes_on event list none) each))

pub all_back : (P : Attempt → Type 0) (list : List Attempt) (events : List Event) → ((attempt : Attempt) (event : Event) → is_started event ≡ false → P (attempt_with event attempt) → P attempt) → AllByRecursion P (fold attempts_after list events) → AllByRecursion P list
all_back P list [] back each = each
all_back P list (event ∷ events) back each = one_back P event list back (all_back P (attempts_after list event) events back each)

-- of a front of a trace
pub front_back : (P : Attempt → Type 0) (front rest : List Event) → ((attempt : Attempt) (event : Event) → is_started event ≡ false → P (attempt_with event attempt) → P attempt) → AllByRecursion P (attempts (front ++ rest)) → AllByRecursion P (attempts front)
front_back P front rest back each = all_back P (attempts front) rest back (subst (AllByRecursion P) (fold-append attempts_after [] front rest) each)
