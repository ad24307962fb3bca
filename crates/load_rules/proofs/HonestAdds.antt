-- Honest attempts add honestly.
use Rattle.std.proofs.Common.{arith, ◌≡◌, List, [], ◌∷◌, ◌++◌, false, cond, refl, sym, ◌∙◌, ap, subst}
use Rattle.std.specs.Prelude.{fold, not}
use Rattle.std.specs.List.{AllByRecursion, take_while}
use Rattle.std.proofs.lemmas.List.Sums.{fold-append, take_while-cons}
use Rattle.outside.specs.declared.event.Event.{Event}
use Rattle.outside.specs.declared.event.Event.TheVariants.{Opened, Took, TookEnd, Committed, Emitted, Merged, Shown, Started, ReadLine, ReadEnd, Given, Closed, Got, GotEnd, Saved, Ended}
use Rattle.catalog.specs.declared.stream.ConfStream.{ConfStream}
use Rattle.load_rules.specs.Prefixes.{EachFits, with_first}
use Rattle.load_rules.specs.Lines.{Reading}
use Rattle.load_rules.specs.Attempts.{Attempt, attempts, attempts_after, attempt_with, attempt_events, gots}
use Rattle.load_rules.specs.Honest.{HonestFits, IsHonestAttempt, AddedFits}
use Rattle.load_rules.specs.Laws.{HonestAttemptsAdd, is_started}
use Rattle.load_rules.proofs.Fronts.{each_front, each_at}

abbrev pub AreHonest : List ConfStream → Reading → List Attempt → Type 0
AreHonest streams read list = AllByRecursion (IsHonestAttempt streams read) list

first_back : (streams : List ConfStream) (read : Reading) (event : Event) (list : List Attempt) → AreHonest streams read (with_first (attempt_with event) list) → AreHonest streams read list
first_back streams read event [] honest = tt
first_back streams read event (attempt ∷ older) honest = (each_front (HonestFits streams read) [] attempt.events (event ∷ []) honest.0, honest.1)

attempts_back : (streams : List ConfStream) (read : Reading) (list : List Attempt) (event : Event) → AreHonest streams read (attempts_after list event) → AreHonest streams read list
attempts_back streams read list (Opened x y z) honest = first_back streams read (Opened x y z) list honest
attempts_back streams read list (Took x) honest = first_back streams read (Took x) list honest
attempts_back streams read list TookEnd honest = first_back streams read TookEnd list honest
attempts_back streams read list (Committed x y) honest = first_back streams read (Committed x y) list honest
attempts_back streams read list (Emitted x) honest = first_back streams read (Emitted x) list honest
attempts_back streams read list (Merged x y z) honest = first_back streams read (Merged x y z) list honest
attempts_back streams read list (Shown x y z) honest = first_back streams read (Shown x y z) list honest
attempts_back streams read list (Started x) honest = honest.1
attempts_back streams read list (ReadLine x) honest = first_back streams read (ReadLine x) list honest
attempts_back streams read list ReadEnd honest = first_back streams read ReadEnd list honest
attempts_back streams read list (Given x) honest = first_back streams read (Given x) list honest
attempts_back streams read list Closed honest = first_back streams read Closed list honest
attempts_back streams read list (Got x) honest = first_back streams read (Got x) list honest
attempts_back streams read list GotEnd honest = first_back streams read GotEnd list honest
attempts_back streams read list (Saved x) honest = first_back streams read (Saved x) list honest
attempts_back streams read list (Ended x) honest = first_back streams read (Ended x) list honest

all_back : (streams : List ConfStream) (read : Reading) (list : List Attempt) (events : List Event) → AreHonest streams read (fold attempts_after list events) → AreHonest streams read list
all_back streams read list [] honest = honest
all_back streams read list (event ∷ events) honest = attempts_back streams read list event (all_back streams read (attempts_after list event) events honest)

-- the last attempts of both have the same events
abbrev pub AreAlike : List Attempt → List Attempt → Type 0
AreAlike (attempt ∷ older) (other ∷ others) = attempt.events ≡ other.events
AreAlike _ _ = ⊥

first_alike : (event : Event) (list own : List Attempt) → AreAlike list own → AreAlike (with_first (attempt_with event) list) (with_first (attempt_with event) own)
first_alike event [] own alike = absurd alike
first_alike event (attempt ∷ older) [] alike = absurd alike
first_alike event (attempt ∷ older) (other ∷ others) alike = ap (λ events. events ++ event ∷ []) alike

alike_after : (list own : List Attempt) (event : Event) → AreAlike list own → AreAlike (attempts_after list event) (attempts_after own event)
alike_after list own (Opened x y z) alike = first_alike (Opened x y z) list own alike
alike_after list own (Took x) alike = first_alike (Took x) list own alike
alike_after list own TookEnd alike = first_alike TookEnd list own alike
alike_after list own (Committed x y) alike = first_alike (Committed x y) list own alike
alike_after list own (Emitted x) alike = first_alike (Emitted x) list own alike
alike_after list own (Merged x y z) alike = first_alike (Merged x y z) list own alike
alike_after list own (Shown x y z) alike = first_alike (Shown x y z) list own alike
alike_after list own (Started x) alike = refl
alike_after list own (ReadLine x) alike = first_alike (ReadLine x) list own alike
alike_after list own ReadEnd alike = first_alike ReadEnd list own alike
alike_after list own (Given x) alike = first_alike (Given x) list own alike
alike_after list own Closed alike = first_alike Closed list own alike
alike_after list own (Got x) alike = first_alike (Got x) list own alike
alike_after list own GotEnd alike = first_alike GotEnd list own alike
alike_after list own (Saved x) alike = first_alike (Saved x) list own alike
alike_after list own (Ended x) alike = first_alike (Ended x) list own alike

first_fits : (streams : List ConfStream) (read : Reading) (event : Event) (list own : List Attempt) → AreAlike list own → AreHonest streams read (with_first (attempt_with event) own) → HonestFits streams read (attempt_events list) event
first_fits streams read event [] own alike honest = absurd alike
first_fits streams read event (attempt ∷ older) [] alike honest = absurd alike
first_fits streams read event (attempt ∷ older) (other ∷ others) alike honest =
    subst (λ events. HonestFits streams read events event) (sym alike) (each_at (HonestFits streams read) [] other.events [] event honest.0)

event_fits : (streams : List ConfStream) (read : Reading) (event : Event) (list own : List Attempt) → AreAlike list own → AreHonest streams read (attempts_after own event) → HonestFits streams read (attempt_events list) event
event_fits streams read (Opened x y z) list own alike honest = first_fits streams read (Opened x y z) list own alike honest
event_fits streams read (Took x) list own alike honest = first_fits streams read (Took x) list own alike honest
event_fits streams read TookEnd list own alike honest = first_fits streams read TookEnd list own alike honest
event_fits streams read (Committed x y) list own alike honest = first_fits streams read (Committed x y) list own alike honest
event_fits streams read (Emitted x) list own alike honest = first_fits streams read (Emitted x) list own alike honest
event_fits streams read (Merged x y z) list own alike honest = first_fits streams read (Merged x y z) list own alike honest
event_fits streams read (Shown x y z) list own alike honest = first_fits streams read (Shown x y z) list own alike honest
event_fits streams read (Started x) list own alike honest = tt
event_fits streams read (ReadLine x) list own alike honest = first_fits streams read (ReadLine x) list own alike honest
event_fits streams read ReadEnd list own alike honest = first_fits streams read ReadEnd list own alike honest
event_fits streams read (Given x) list own alike honest = first_fits streams read (Given x) list own alike honest
event_fits streams read Closed list own alike honest = first_fits streams read Closed list own alike honest
event_fits streams read (Got x) list own alike honest = first_fits streams read (Got x) list own alike honest
event_fits streams read GotEnd list own alike honest = first_fits streams read GotEnd list own alike honest
event_fits streams read (Saved x) list own alike honest = first_fits streams read (Saved x) list own alike honest
event_fits streams read (Ended x) list own alike honest = first_fits streams read (Ended x) list own alike honest

attempts-one : (before : List Event) (event : Event) → attempts (before ++ event ∷ []) ≡ attempts_after (attempts before) event
attempts-one before event = fold-append attempts_after [] before (event ∷ [])

add_behind : (streams : List ConfStream) (read : Reading) (before events : List Event) (own : List Attempt) → AreAlike (attempts before) own → AreHonest streams read (fold attempts_after own events) → EachFits (AddedFits streams read) before events
add_behind streams read before [] own alike honest = tt
add_behind streams read before (event ∷ events) own alike honest = (
  event_fits streams read event (attempts before) own alike (all_back streams read (attempts_after own event) events honest),
  add_behind streams read (before ++ event ∷ []) events (attempts_after own event) (subst (λ list. AreAlike list (attempts_after own event)) (sym (attempts-one before event)) (alike_after (attempts before) own event alike)) honest,
)

taken_on : (event : Event) (events : List Event) → is_started event ≡ false → gots (take_while (λ one. not (is_started one)) (event ∷ events)) ≡ [] → gots (event ∷ take_while (λ one. not (is_started one)) events) ≡ []
taken_on event events going none =
    sym (ap gots (take_while-cons (λ one. not (is_started one)) event events ∙ ap (λ b. cond (not b) (event ∷ take_while (λ one. not (is_started one)) events) []) going)) ∙ none

add_from : (streams : List ConfStream) (read : Reading) (before events : List Event) → gots (take_while (λ one. not (is_started one)) events) ≡ [] → AreHonest streams read (fold attempts_after [] events) → EachFits (AddedFits streams read) before events
add_from streams read before [] none honest = tt
add_from streams read before ((Opened x y z) ∷ events) none honest = (tt, add_from streams read (before ++ (Opened x y z) ∷ []) events (taken_on (Opened x y z) events refl none) honest)
add_from streams read before ((Took x) ∷ events) none honest = (tt, add_from streams read (before ++ (Took x) ∷ []) events (taken_on (Took x) events refl none) honest)
add_from streams read before (TookEnd ∷ events) none honest = (tt, add_from streams read (before ++ TookEnd ∷ []) events (taken_on TookEnd events refl none) honest)
add_from streams read before ((Committed x y) ∷ events) none honest = (tt, add_from streams read (before ++ (Committed x y) ∷ []) events (taken_on (Committed x y) events refl none) honest)
add_from streams read before ((Emitted x) ∷ events) none honest = (tt, add_from streams read (before ++ (Emitted x) ∷ []) events (taken_on (Emitted x) events refl none) honest)
add_from streams read before ((Merged x y z) ∷ events) none honest = (tt, add_from streams read (before ++ (Merged x y z) ∷ []) events (taken_on (Merged x y z) events refl none) honest)
add_from streams read before ((Shown x y z) ∷ events) none honest = (tt, add_from streams read (before ++ (Shown x y z) ∷ []) events (taken_on (Shown x y z) events refl none) honest)
add_from streams read before ((Started x) ∷ events) none honest =
    (tt, add_behind streams read (before ++ (Started x) ∷ []) events (record { plan = x; events = [] } ∷ []) (subst (λ list. AreAlike list (record { plan = x; events = [] } ∷ [])) (sym (attempts-one before (Started x))) refl) honest)
add_from streams read before ((ReadLine x) ∷ events) none honest = (tt, add_from streams read (before ++ (ReadLine x) ∷ []) events (taken_on (ReadLine x) events refl none) honest)
add_from streams read before (ReadEnd ∷ events) none honest = (tt, add_from streams read (before ++ ReadEnd ∷ []) events (taken_on ReadEnd events refl none) honest)
add_from streams read before ((Given x) ∷ events) none honest = (tt, add_from streams read (before ++ (Given x) ∷ []) events (taken_on (Given x) events refl none) honest)
add_from streams read before (Closed ∷ events) none honest = (tt, add_from streams read (before ++ Closed ∷ []) events (taken_on Closed events refl none) honest)
add_from streams read before ((Got x) ∷ events) none honest = absurd (grind (arith, taken_on (Got x) events refl none))
add_from streams read before (GotEnd ∷ events) none honest = (tt, add_from streams read (before ++ GotEnd ∷ []) events (taken_on GotEnd events refl none) honest)
add_from streams read before ((Saved x) ∷ events) none honest = (tt, add_from streams read (before ++ (Saved x) ∷ []) events (taken_on (Saved x) events refl none) honest)
add_from streams read before ((Ended x) ∷ events) none honest = (tt, add_from streams read (before ++ (Ended x) ∷ []) events (taken_on (Ended x) events refl none) honest)

pub honest_attempts_add : HonestAttemptsAdd
honest_attempts_add streams read before more none honest = add_from streams read before more none honest
