-- Loads of a front of a trace, and of a trace that goes on.
use Rattle.std.proofs.Common.{ℕ, arith, ◌≡◌, List, [], ◌∷◌, ◌++◌, Bool, true, false, cond, refl, sym, ◌∙◌, ap, subst}
use Rattle.std.specs.Prelude.{filter, fold, not}
use Rattle.std.specs.List.{AllByRecursion, take_while}
use Rattle.std.proofs.lemmas.List.Elements.{filter-append}
use Rattle.std.proofs.lemmas.List.Sums.{fold-append, take_while-cons}
use Rattle.std.proofs.lemmas.Bool.{false≢true}
use Rattle.outside.specs.Event.{is_links}
use Rattle.outside.specs.declared.event.Event.{Event}
use Rattle.outside.specs.declared.event.StreamPlan.{StreamPlan}
use Rattle.outside.specs.declared.event.Event.TheVariants.{Opened, Took, TookEnd, Committed, Emitted, Merged, Shown, Started, ReadLine, ReadEnd, Given, Closed, Got, GotEnd, Saved, Ended}
use Rattle.outside.specs.Dock.{is_opening}
use Rattle.catalog.specs.declared.stream.ConfStream.{ConfStream}
use Rattle.load_rules.specs.Prefixes.{EachFits, with_first}
use Rattle.load_rules.specs.Lines.{Reading}
use Rattle.load_rules.specs.Loads.{Load, loads, loads_after, with_event, store_events}
use Rattle.load_rules.specs.Acts.{Act, AreActs}
use Rattle.load_rules.specs.SafeDest.{Fits, IsSafeLoad}
use Rattle.load_rules.specs.Laws.{IsSafeLast, OpensNothing, FrontsAreSafe, StaysSafe, OpeningIsSafe}
use Rattle.load_rules.proofs.Fronts.{each_front}

-- acts of a load without its last event
record FrontActs (read : Reading) (acts : List Act) (events : List Event) : Type 0 where
  front : List Act
  act : Act
  is : acts ≡ front ++ act ∷ []
  are : AreActs read front events

acts_front : (read : Reading) (acts : List Act) (events : List Event) (last : Event) → AreActs read acts (events ++ last ∷ []) → FrontActs read acts events
acts_front read [] [] last are = absurd are
acts_front read [] (event ∷ events) last are = absurd are
acts_front read (act ∷ []) [] last are = record { front = []; act = act; is = refl; are = tt }
acts_front read (act ∷ (other ∷ more)) [] last are = absurd are.1
acts_front read (act ∷ acts) (event ∷ events) last are =
    let deeper = acts_front read acts events last are.1
    in record { front = act ∷ deeper.front; act = deeper.act; is = ap (λ list. act ∷ list) deeper.is; are = (are.0, deeper.are) }

load_front : (streams : List ConfStream) (read : Reading) (event : Event) (load : Load) → IsSafeLoad streams read (with_event event load) → IsSafeLoad streams read load
load_front streams read event load safe =
    let split = acts_front read safe.acts load.events event safe.are
    in record { acts = split.front; are = split.are; fit = each_front (Fits streams load.opening) [] split.front (split.act ∷ []) (subst (λ acts. EachFits (Fits streams load.opening) [] acts) split.is safe.fit) }

first_back : (streams : List ConfStream) (read : Reading) (event : Event) (list : List Load) → AllByRecursion (IsSafeLoad streams read) (with_first (with_event event) list) → AllByRecursion (IsSafeLoad streams read) list
first_back streams read event [] safe = tt
first_back streams read event (load ∷ older) safe = (load_front streams read event load safe.0, safe.1)

loads_back : (streams : List ConfStream) (read : Reading) (list : List Load) (event : Event) → AllByRecursion (IsSafeLoad streams read) (loads_after list event) → AllByRecursion (IsSafeLoad streams read) list
loads_back streams read list (Opened a b c) safe = safe.1
loads_back streams read list (Took a) safe = first_back streams read (Took a) list safe
loads_back streams read list TookEnd safe = first_back streams read TookEnd list safe
loads_back streams read list (Committed a b) safe = first_back streams read (Committed a b) list safe
loads_back streams read list (Emitted a) safe = first_back streams read (Emitted a) list safe
loads_back streams read list (Merged a b c) safe = first_back streams read (Merged a b c) list safe
loads_back streams read list (Shown a b c) safe = first_back streams read (Shown a b c) list safe
loads_back streams read list (Started a) safe = first_back streams read (Started a) list safe
loads_back streams read list (ReadLine a) safe = first_back streams read (ReadLine a) list safe
loads_back streams read list ReadEnd safe = first_back streams read ReadEnd list safe
loads_back streams read list (Given a) safe = first_back streams read (Given a) list safe
loads_back streams read list Closed safe = first_back streams read Closed list safe
loads_back streams read list (Got a) safe = first_back streams read (Got a) list safe
loads_back streams read list GotEnd safe = first_back streams read GotEnd list safe
loads_back streams read list (Saved a) safe = first_back streams read (Saved a) list safe
loads_back streams read list (Ended a) safe = first_back streams read (Ended a) list safe

all_back : (streams : List ConfStream) (read : Reading) (list : List Load) (events : List Event) → AllByRecursion (IsSafeLoad streams read) (fold loads_after list events) → AllByRecursion (IsSafeLoad streams read) list
all_back streams read list [] safe = safe
all_back streams read list (event ∷ events) safe = loads_back streams read list event (all_back streams read (loads_after list event) events safe)

pub loads-append : (front rest : List Event) → loads (front ++ rest) ≡ fold loads_after (loads front) (store_events rest)
loads-append front rest =
    ap (fold loads_after []) (filter-append (λ event. not (is_links event)) front rest) ∙ fold-append loads_after [] (store_events front) (store_events rest)

cons_taken : {A : Type 0} (b : Bool) (x : A) (xs ys : List A) → cond b (x ∷ xs) [] ≡ [] → cond b (x ∷ ys) [] ≡ []
cons_taken true x xs ys e = absurd (grind (arith, e))
cons_taken false x xs ys e = refl

unopened_back : (front rest : List Event) → take_while (λ event. not (is_opening event)) (front ++ rest) ≡ [] → take_while (λ event. not (is_opening event)) front ≡ []
unopened_back [] rest none = refl
unopened_back (event ∷ events) rest none =
    take_while-cons (λ one. not (is_opening one)) event events
    ∙ cons_taken (not (is_opening event)) event (take_while (λ one. not (is_opening one)) (events ++ rest)) (take_while (λ one. not (is_opening one)) events) (sym (take_while-cons (λ one. not (is_opening one)) event (events ++ rest)) ∙ none)

unopened_on : (event : Event) (events rest : List Event) → take_while (λ one. not (is_opening one)) (event ∷ events) ≡ [] → take_while (λ one. not (is_opening one)) ((event ∷ events) ++ rest) ≡ []
unopened_on event events rest none =
    take_while-cons (λ one. not (is_opening one)) event (events ++ rest)
    ∙ cons_taken (not (is_opening event)) event (take_while (λ one. not (is_opening one)) events) (take_while (λ one. not (is_opening one)) (events ++ rest)) (sym (take_while-cons (λ one. not (is_opening one)) event events) ∙ none)

pub fronts_are_safe : FrontsAreSafe
fronts_are_safe streams read front rest safe = record {
  opened = unopened_back (store_events front) (store_events rest) (subst (λ events. take_while (λ one. not (is_opening one)) events ≡ []) (filter-append (λ event. not (is_links event)) front rest) safe.opened);
  each = all_back streams read (loads front) (store_events rest) (subst (AllByRecursion (IsSafeLoad streams read)) (loads-append front rest) safe.each);
}

-- a trace that goes on without a load of its own

all_filtered : (P : Event → Type 0) (test : Event → Bool) (events : List Event) → AllByRecursion P events → AllByRecursion P (filter test events)
all_filtered P test [] all = tt
all_filtered P test (event ∷ events) all = at (test event) (all_filtered P test events all.1)
  where
    at : (b : Bool) → AllByRecursion P (filter test events) → AllByRecursion P (cond b (event ∷ filter test events) (filter test events))
    at true rest = (all.0, rest)
    at false rest = rest

pub goes_on : (list : List Load) (event : Event) → is_opening event ≡ false → loads_after list event ≡ with_first (with_event event) list
goes_on list (Opened a b c) not_opened = absurd (false≢true (sym not_opened))
goes_on list (Took a) not_opened = refl
goes_on list TookEnd not_opened = refl
goes_on list (Committed a b) not_opened = refl
goes_on list (Emitted a) not_opened = refl
goes_on list (Merged a b c) not_opened = refl
goes_on list (Shown a b c) not_opened = refl
goes_on list (Started a) not_opened = refl
goes_on list (ReadLine a) not_opened = refl
goes_on list ReadEnd not_opened = refl
goes_on list (Given a) not_opened = refl
goes_on list Closed not_opened = refl
goes_on list (Got a) not_opened = refl
goes_on list GotEnd not_opened = refl
goes_on list (Saved a) not_opened = refl
goes_on list (Ended a) not_opened = refl

-- the last load alone goes on
record GoesOn (older after : List Load) : Type 0 where
  last : Load
  is : after ≡ last ∷ older

last_goes_on : (load : Load) (older : List Load) (events : List Event) → OpensNothing events → GoesOn older (fold loads_after (load ∷ older) events)
last_goes_on load older [] opens = record { last = load; is = refl }
last_goes_on load older (event ∷ events) opens =
    let deeper = last_goes_on (with_event event load) older events opens.1
    in record { last = deeper.last; is = ap (λ list. fold loads_after list events) (goes_on (load ∷ older) event opens.0) ∙ deeper.is }

none_goes_on : (events : List Event) → OpensNothing events → fold loads_after [] events ≡ []
none_goes_on [] opens = refl
none_goes_on (event ∷ events) opens = ap (λ list. fold loads_after list events) (goes_on [] event opens.0) ∙ none_goes_on events opens.1

all_go_on : (streams : List ConfStream) (read : Reading) (list : List Load) (events : List Event) → OpensNothing events → AllByRecursion (IsSafeLoad streams read) list → IsSafeLast streams read (fold loads_after list events) → AllByRecursion (IsSafeLoad streams read) (fold loads_after list events)
all_go_on streams read [] events opens safe last = absurd (subst (IsSafeLast streams read) (none_goes_on events opens) last)
all_go_on streams read (load ∷ older) events opens safe last =
    let on = last_goes_on load older events opens
    in subst (AllByRecursion (IsSafeLoad streams read)) (sym on.is) (subst (IsSafeLast streams read) on.is last, safe.1)

-- where no load is, nothing is opened, so nothing goes on
unopened_all : (streams : List ConfStream) (read : Reading) (before events : List Event) → OpensNothing events → take_while (λ one. not (is_opening one)) before ≡ [] → IsSafeLast streams read (fold loads_after (fold loads_after [] before) events) → take_while (λ one. not (is_opening one)) (before ++ events) ≡ []
unopened_all streams read [] events opens none last = absurd (subst (IsSafeLast streams read) (none_goes_on events opens) last)
unopened_all streams read (event ∷ before) events opens none last = unopened_on event before events none

pub stays_safe : StaysSafe
stays_safe streams read trace more safe opens last =
    let opens_none = all_filtered (λ event. is_opening event ≡ false) (λ event. not (is_links event)) more opens
    in let goes = subst (IsSafeLast streams read) (loads-append trace more) last
    in record {
      opened = subst (λ events. take_while (λ one. not (is_opening one)) events ≡ []) (sym (filter-append (λ event. not (is_links event)) trace more)) (unopened_all streams read (store_events trace) (store_events more) opens_none safe.opened goes);
      each = subst (AllByRecursion (IsSafeLoad streams read)) (sym (loads-append trace more)) (all_go_on streams read (loads trace) (store_events more) opens_none safe.each goes);
    }

unopened_then : (before : List Event) (load moment : ℕ) (plan : List StreamPlan) → take_while (λ one. not (is_opening one)) before ≡ [] → take_while (λ one. not (is_opening one)) (before ++ Opened load moment plan ∷ []) ≡ []
unopened_then [] load moment plan none = refl
unopened_then (event ∷ before) load moment plan none = unopened_on event before (Opened load moment plan ∷ []) none

pub opening_is_safe : OpeningIsSafe
opening_is_safe streams read trace load moment plan safe =
    let more = Opened load moment plan ∷ [] in
    record {
      opened = subst (λ events. take_while (λ one. not (is_opening one)) events ≡ []) (sym (filter-append (λ event. not (is_links event)) trace more)) (unopened_then (store_events trace) load moment plan safe.opened);
      each = subst (AllByRecursion (IsSafeLoad streams read)) (sym (loads-append trace more)) (record { acts = []; are = tt; fit = tt }, safe.each);
    }
