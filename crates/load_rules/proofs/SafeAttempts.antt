-- Each attempt of a run of the engine is a safe destination by itself.
use Rattle.std.proofs.Common.{arith, ◌≡◌, ◌⊎◌, inl, inr, ℕ, List, [], ◌∷◌, ◌++◌, Bool, true, false, cond, refl, sym, ◌∙◌, ap, subst, append_assoc}
use Rattle.std.specs.Prelude.{filter, fold, not}
use Rattle.std.specs.List.{AllByRecursion, take_while, list_any}
use Rattle.std.proofs.lemmas.List.{append-nil}
use Rattle.std.proofs.lemmas.List.Elements.{filter-append}
use Rattle.std.proofs.lemmas.List.Sums.{fold-append, take_while-cons}
use Rattle.std.proofs.lemmas.Bool.{false≢true}
use Rattle.outside.specs.Event.{is_links}
use Rattle.outside.specs.declared.event.Event.{Event}
use Rattle.outside.specs.declared.event.Event.TheVariants.{Opened, Took, TookEnd, Committed, Emitted, Merged, Shown, Started, ReadLine, ReadEnd, Given, Closed, Got, GotEnd, Saved, Ended}
use Rattle.outside.specs.declared.event.StreamPlan.{StreamPlan}
use Rattle.outside.specs.Dock.{is_opening}
use Rattle.catalog.specs.declared.stream.ConfStream.{ConfStream}
use Rattle.load_rules.specs.Prefixes.{EachFits, with_first}
use Rattle.load_rules.specs.Lines.{Reading}
use Rattle.load_rules.specs.Loads.{Load, loads, loads_after, with_event, store_events}
use Rattle.load_rules.specs.SafeDest.{IsSafeLoad, IsSafeDest}
use Rattle.load_rules.specs.Attempts.{Attempt, attempts, attempts_after, attempt_with}
use Rattle.load_rules.specs.Engine.{OpensFirst, HasOpened, OwnFits, RunFitsIn, RunFits}
use Rattle.load_rules.specs.Laws.{TakeFits, IsSafeAttempt, AttemptsAreSafe}
use Rattle.load_rules.proofs.TakenLists.{each_more}
use Rattle.load_rules.proofs.LoadFronts.{goes_on, fronts_are_safe}

store_more : (events : List Event) (event : Event) → store_events (events ++ event ∷ []) ≡ store_events events ++ cond (not (is_links event)) (event ∷ []) []
store_more events event = filter-append (λ it. not (is_links it)) events (event ∷ [])

pub store_link : (events : List Event) (event : Event) → is_links event ≡ true → store_events (events ++ event ∷ []) ≡ store_events events
store_link events event is = store_more events event ∙ (ap (λ b. store_events events ++ cond (not b) (event ∷ []) []) is ∙ append-nil (store_events events))

pub store_own : (events : List Event) (event : Event) → is_links event ≡ false → store_events (events ++ event ∷ []) ≡ store_events events ++ event ∷ []
store_own events event is = store_more events event ∙ ap (λ b. store_events events ++ cond (not b) (event ∷ []) []) is

pub loads_link : (events : List Event) (event : Event) → is_links event ≡ true → loads (events ++ event ∷ []) ≡ loads events
loads_link events event is = ap (fold loads_after []) (store_link events event is)

pub loads_own : (events : List Event) (event : Event) → is_links event ≡ false → loads (events ++ event ∷ []) ≡ loads_after (loads events) event
loads_own events event is = ap (fold loads_after []) (store_own events event is) ∙ fold-append loads_after [] (store_events events) (event ∷ [])

-- the attempt has opened its load, which is the trace's last
pub record InLoad (events before : List Event) : Type 0 where
  pub load : Load
  pub own : loads events ≡ load ∷ []
  pub older : List Load
  pub whole : loads before ≡ load ∷ older
  pub first : Event
  pub rest : List Event
  pub stored : store_events events ≡ first ∷ rest
  pub opens : is_opening first ≡ true

abbrev pub Stage : List Event → List Event → Type 0
Stage events before = (store_events events ≡ []) ⊎ InLoad events before

stage_link : (events before : List Event) (event : Event) → is_links event ≡ true → Stage events before → Stage (events ++ event ∷ []) (before ++ event ∷ [])
stage_link events before event is (inl none) = inl (store_link events event is ∙ none)
stage_link events before event is (inr in_load) = inr (record { load = in_load.load; own = loads_link events event is ∙ in_load.own; older = in_load.older; whole = loads_link before event is ∙ in_load.whole; first = in_load.first; rest = in_load.rest; stored = store_link events event is ∙ in_load.stored; opens = in_load.opens })

stage_opened : (events before : List Event) (x y : ℕ) (z : List StreamPlan) → store_events events ≡ [] → Stage (events ++ Opened x y z ∷ []) (before ++ Opened x y z ∷ [])
stage_opened events before x y z none = inr (record {
  load = record { opening = record { load = x; moment = y; plan = z }; events = [] };
  own = ap (fold loads_after []) (store_own events (Opened x y z) refl ∙ ap (λ list. list ++ Opened x y z ∷ []) none);
  older = loads before;
  whole = loads_own before (Opened x y z) refl;
  first = Opened x y z;
  rest = [];
  stored = store_own events (Opened x y z) refl ∙ ap (λ list. list ++ Opened x y z ∷ []) none;
  opens = refl;
})

pub link_or_none : (event : Event) (events : List Event) → filter (λ it. not (is_links it)) (event ∷ events) ≡ [] → (is_links event ≡ true) × (filter (λ it. not (is_links it)) events ≡ [])
link_or_none event events none = at (is_links event) refl none
  where
    at : (b : Bool) → is_links event ≡ b → cond (not b) (event ∷ filter (λ it. not (is_links it)) events) (filter (λ it. not (is_links it)) events) ≡ [] → (is_links event ≡ true) × (filter (λ it. not (is_links it)) events ≡ [])
    at true is none = (is, none)
    at false is none = absurd (grind (arith, none))

pub link_opens_not : (event : Event) → is_links event ≡ true → is_opening event ≡ false
link_opens_not (Opened x y z) is = absurd (false≢true is)
link_opens_not (Took x) is = refl
link_opens_not TookEnd is = refl
link_opens_not (Committed x y) is = refl
link_opens_not (Emitted x) is = refl
link_opens_not (Merged x y z) is = refl
link_opens_not (Shown x y z) is = refl
link_opens_not (Started x) is = refl
link_opens_not (ReadLine x) is = refl
link_opens_not ReadEnd is = refl
link_opens_not (Given x) is = refl
link_opens_not Closed is = refl
link_opens_not (Got x) is = refl
link_opens_not GotEnd is = refl
link_opens_not (Saved x) is = refl
link_opens_not (Ended x) is = refl

pub none_opened : (events : List Event) → store_events events ≡ [] → list_any is_opening events ≡ false
none_opened [] none = refl
none_opened (event ∷ events) none =
    let parts = link_or_none event events none
    in rw (link_opens_not event parts.0, none_opened events parts.1) refl

stage_store : (events before : List Event) (event : Event) → is_links event ≡ false → is_opening event ≡ false → HasOpened events → Stage events before → Stage (events ++ event ∷ []) (before ++ event ∷ [])
stage_store events before event is other opened (inl none) = absurd (false≢true (sym (none_opened events none) ∙ opened))
stage_store events before event is other opened (inr in_load) = inr (record {
  load = with_event event in_load.load;
  own = loads_own events event is ∙ (ap (λ list. loads_after list event) in_load.own ∙ goes_on (in_load.load ∷ []) event other);
  older = in_load.older;
  whole = loads_own before event is ∙ (ap (λ list. loads_after list event) in_load.whole ∙ goes_on (in_load.load ∷ in_load.older) event other);
  first = in_load.first;
  rest = in_load.rest ++ event ∷ [];
  stored = store_own events event is ∙ ap (λ list. list ++ event ∷ []) in_load.stored;
  opens = in_load.opens;
})

stage_step : (events before : List Event) (event : Event) → OpensFirst events event → Stage events before → Stage (events ++ event ∷ []) (before ++ event ∷ [])
stage_step events before (Opened x y z) opens stage = stage_opened events before x y z opens
stage_step events before (Took x) opens stage = stage_store events before (Took x) refl refl (opens refl) stage
stage_step events before TookEnd opens stage = stage_store events before TookEnd refl refl (opens refl) stage
stage_step events before (Committed x y) opens stage = stage_store events before (Committed x y) refl refl (opens refl) stage
stage_step events before (Emitted x) opens stage = stage_store events before (Emitted x) refl refl (opens refl) stage
stage_step events before (Merged x y z) opens stage = stage_store events before (Merged x y z) refl refl (opens refl) stage
stage_step events before (Shown x y z) opens stage = stage_store events before (Shown x y z) refl refl (opens refl) stage
stage_step events before (Started x) opens stage = stage_link events before (Started x) refl stage
stage_step events before (ReadLine x) opens stage = stage_link events before (ReadLine x) refl stage
stage_step events before ReadEnd opens stage = stage_link events before ReadEnd refl stage
stage_step events before (Given x) opens stage = stage_link events before (Given x) refl stage
stage_step events before Closed opens stage = stage_link events before Closed refl stage
stage_step events before (Got x) opens stage = stage_link events before (Got x) refl stage
stage_step events before GotEnd opens stage = stage_link events before GotEnd refl stage
stage_step events before (Saved x) opens stage = stage_link events before (Saved x) refl stage
stage_step events before (Ended x) opens stage = stage_link events before (Ended x) refl stage

safe_of : (streams : List ConfStream) (read : Reading) (events before : List Event) → IsSafeDest streams read before → Stage events before → IsSafeDest streams read events
safe_of streams read events before safe (inl none) = record {
  opened = ap (take_while (λ it. not (is_opening it))) none;
  each = subst (λ stored. AllByRecursion (IsSafeLoad streams read) (fold loads_after [] stored)) (sym none) tt;
}
safe_of streams read events before safe (inr in_load) = record {
  opened = ap (take_while (λ it. not (is_opening it))) in_load.stored ∙ (take_while-cons (λ it. not (is_opening it)) in_load.first in_load.rest ∙ ap (λ b. cond (not b) (in_load.first ∷ take_while (λ it. not (is_opening it)) in_load.rest) []) in_load.opens);
  each = subst (AllByRecursion (IsSafeLoad streams read)) (sym in_load.own) ((subst (AllByRecursion (IsSafeLoad streams read)) in_load.whole safe.each).0, tt);
}

take_fits : (streams : List ConfStream) (read : Reading) (before : List Event) (attempt : Attempt) (event : Event) → OwnFits streams read before attempt event → TakeFits read attempt.events event
take_fits streams read before attempt (Took x) fits = fits
take_fits streams read before attempt (Opened x y z) fits = tt
take_fits streams read before attempt TookEnd fits = tt
take_fits streams read before attempt (Committed x y) fits = tt
take_fits streams read before attempt (Emitted x) fits = tt
take_fits streams read before attempt (Merged x y z) fits = tt
take_fits streams read before attempt (Shown x y z) fits = tt
take_fits streams read before attempt (Started x) fits = tt
take_fits streams read before attempt (ReadLine x) fits = tt
take_fits streams read before attempt ReadEnd fits = tt
take_fits streams read before attempt (Given x) fits = tt
take_fits streams read before attempt Closed fits = tt
take_fits streams read before attempt (Got x) fits = tt
take_fits streams read before attempt GotEnd fits = tt
take_fits streams read before attempt (Saved x) fits = tt
take_fits streams read before attempt (Ended x) fits = tt

abbrev pub Kept : List Event → List Attempt → Type 0
Kept before [] = Unit {0}
Kept before (attempt ∷ older) = Stage attempt.events before

record Stands (streams : List ConfStream) (read : Reading) (before : List Event) (list : List Attempt) : Type 0 where
  all : AllByRecursion (IsSafeAttempt streams read) list
  kept : Kept before list

first_stands : (streams : List ConfStream) (read : Reading) (before : List Event) (event : Event) (list : List Attempt) → IsSafeDest streams read (before ++ event ∷ []) → RunFitsIn streams read before list event → Stands streams read before list → Stands streams read (before ++ event ∷ []) (with_first (attempt_with event) list)
first_stands streams read before event [] safe fits stands = record { all = tt; kept = tt }
first_stands streams read before event (attempt ∷ older) safe fits stands =
    let stage = stage_step attempt.events before event fits.opens stands.kept
    in record { all = (record { safe = safe_of streams read (attempt.events ++ event ∷ []) (before ++ event ∷ []) safe stage; opens = each_more OpensFirst [] attempt.events event stands.all.0.opens fits.opens; takes = each_more (TakeFits read) [] attempt.events event stands.all.0.takes (take_fits streams read before attempt event fits.own) }, stands.all.1); kept = stage }

event_stands : (streams : List ConfStream) (read : Reading) (before : List Event) (event : Event) (list : List Attempt) → IsSafeDest streams read (before ++ event ∷ []) → RunFitsIn streams read before list event → Stands streams read before list → Stands streams read (before ++ event ∷ []) (attempts_after list event)
event_stands streams read before (Opened x y z) list safe fits stands = first_stands streams read before (Opened x y z) list safe fits stands
event_stands streams read before (Took x) list safe fits stands = first_stands streams read before (Took x) list safe fits stands
event_stands streams read before TookEnd list safe fits stands = first_stands streams read before TookEnd list safe fits stands
event_stands streams read before (Committed x y) list safe fits stands = first_stands streams read before (Committed x y) list safe fits stands
event_stands streams read before (Emitted x) list safe fits stands = first_stands streams read before (Emitted x) list safe fits stands
event_stands streams read before (Merged x y z) list safe fits stands = first_stands streams read before (Merged x y z) list safe fits stands
event_stands streams read before (Shown x y z) list safe fits stands = first_stands streams read before (Shown x y z) list safe fits stands
event_stands streams read before (Started x) list safe fits stands = record { all = (record { safe = record { opened = refl; each = tt }; opens = tt; takes = tt }, stands.all); kept = inl refl }
event_stands streams read before (ReadLine x) list safe fits stands = first_stands streams read before (ReadLine x) list safe fits stands
event_stands streams read before ReadEnd list safe fits stands = first_stands streams read before ReadEnd list safe fits stands
event_stands streams read before (Given x) list safe fits stands = first_stands streams read before (Given x) list safe fits stands
event_stands streams read before Closed list safe fits stands = first_stands streams read before Closed list safe fits stands
event_stands streams read before (Got x) list safe fits stands = first_stands streams read before (Got x) list safe fits stands
event_stands streams read before GotEnd list safe fits stands = first_stands streams read before GotEnd list safe fits stands
event_stands streams read before (Saved x) list safe fits stands = first_stands streams read before (Saved x) list safe fits stands
event_stands streams read before (Ended x) list safe fits stands = first_stands streams read before (Ended x) list safe fits stands

attempts_from : (streams : List ConfStream) (read : Reading) (before events : List Event) → EachFits (RunFits streams read) before events → IsSafeDest streams read (before ++ events) → Stands streams read before (attempts before) → Stands streams read (before ++ events) (attempts (before ++ events))
attempts_from streams read before [] fits safe stands = subst (λ trace. Stands streams read trace (attempts trace)) (sym (append-nil before)) stands
attempts_from streams read before (event ∷ events) fits safe stands =
    let on = append_assoc before (event ∷ []) events
    in let here = fronts_are_safe streams read (before ++ event ∷ []) events (subst (IsSafeDest streams read) (sym on) safe)
    in let now = subst (Stands streams read (before ++ event ∷ [])) (sym (fold-append attempts_after [] before (event ∷ []))) (event_stands streams read before event (attempts before) here fits.0 stands)
    in subst (λ trace. Stands streams read trace (attempts trace)) on (attempts_from streams read (before ++ event ∷ []) events fits.1 (subst (IsSafeDest streams read) (sym on) safe) now)

pub attempts_are_safe : AttemptsAreSafe
attempts_are_safe streams read trace runs = (attempts_from streams read [] trace runs.attempts_are runs.loads_are.safe (record { all = tt; kept = tt })).all
