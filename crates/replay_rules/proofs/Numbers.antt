-- The loads of later attempts have greater numbers.
use Rattle.std.proofs.Common.{arith, ◌≡◌, ◌⊎◌, inl, inr, ℕ, ◌<◌, ◌≤◌, List, [], ◌∷◌, ◌++◌, map, Option, None, Some, true, false, refl, sym, ◌∙◌, ap, subst, append_assoc, append-nil}
use Rattle.std.specs.Prelude.{fold}
use Rattle.std.proofs.lemmas.Bool.{cases_Bool, false≢true}
use Rattle.outside.specs.Dock.{is_opening}
use Rattle.outside.specs.Event.{is_links}
use Rattle.outside.specs.Tables.{tables_of, tables_after, plan_at, tables_committed, tables_merged, tables_shown}
use Rattle.outside.specs.declared.event.Event.{Event}
use Rattle.outside.specs.declared.event.Event.TheVariants.{Opened, Took, TookEnd, Committed, Emitted, Merged, Shown, Started, ReadLine, ReadEnd, Given, Closed, Got, GotEnd, Saved, Ended}
use Rattle.outside.specs.declared.event.RawRow.{RawRow}
use Rattle.outside.specs.declared.event.StreamPlan.{StreamPlan}
use Rattle.outside.specs.declared.table.Tables.{Tables}
use Rattle.raw_tables.proofs.StoreLaws.{tables_more}
use Rattle.catalog.specs.declared.stream.ConfStream.{ConfStream}
use Rattle.dedup_merge.proofs.SameRowLemmas.{Has}
use Rattle.load_rules.specs.Prefixes.{EachFits, with_first}
use Rattle.load_rules.specs.Lines.{Reading}
use Rattle.load_rules.specs.Loads.{Opening, Load, loads, loads_after, with_event}
use Rattle.load_rules.specs.Stores.{StoreFits}
use Rattle.load_rules.specs.Attempts.{Attempt, attempts, attempts_after, attempt_with}
use Rattle.load_rules.specs.Engine.{RunFits, RunFitsIn}
use Rattle.load_rules.specs.Laws.{is_started}
use Rattle.load_rules.proofs.LoadFronts.{goes_on as loads_go_on}
use Rattle.load_rules.proofs.SafeAttempts.{loads_link, loads_own}
use Rattle.replay_rules.proofs.Attempts.{attempts-one, by_start}
use Rattle.replay_rules.proofs.StepKinds.{goes_on}

-- what the loads of an attempt were opened with
abbrev pub openings : List Load → List Opening
openings list = map (λ load. load.opening) list

abbrev pub opens : Attempt → List Opening
opens attempt = openings (loads attempt.events)

openings_first : (event : Event) (list : List Load) → openings (with_first (with_event event) list) ≡ openings list
openings_first event [] = refl
openings_first event (load ∷ older) = refl

opens_more : (attempt : Attempt) (event : Event) → is_opening event ≡ false → opens (attempt_with event attempt) ≡ opens attempt
opens_more attempt event none = at (cases_Bool (is_links event))
  where
    at : (is_links event ≡ true) ⊎ (is_links event ≡ false) → opens (attempt_with event attempt) ≡ opens attempt
    at (inl link) = ap openings (loads_link attempt.events event link)
    at (inr own) = ap openings (loads_own attempt.events event own ∙ loads_go_on (loads attempt.events) event none) ∙ openings_first event (loads attempt.events)

-- each load of an attempt is above those of the attempts before
abbrev pub OpensAbove : Attempt → List Attempt → Type 0
OpensAbove attempt older = (own : Opening) → Has own (opens attempt) → (other : Attempt) → Has other older → (before : Opening) → Has before (opens other) → before.load < own.load

abbrev pub LoadsRise : List Attempt → Type 0
LoadsRise [] = Unit {0}
LoadsRise (attempt ∷ older) = OpensAbove attempt older × LoadsRise older

abbrev pub Under : ℕ → List Attempt → Type 0
Under most list = (attempt : Attempt) → Has attempt list → (own : Opening) → Has own (opens attempt) → own.load ≤ most

pub record Rise (list : List Attempt) (store : Tables) : Type 0 where
  pub under : Under store.load list
  pub rise : LoadsRise list

load_committed : (store : Tables) (rows : List RawRow) (found : Option StreamPlan) → (tables_committed found rows store).load ≡ store.load
load_committed store rows None = refl
load_committed store rows (Some plan) = refl

load_merged : (store : Tables) (winners : List RawRow) (mark : ℕ) (found : Option StreamPlan) → (tables_merged found winners mark store).load ≡ store.load
load_merged store winners mark None = refl
load_merged store winners mark (Some plan) = refl

load_shown : (store : Tables) (n : ℕ) (found : Option StreamPlan) → (tables_shown found n store).load ≡ store.load
load_shown store n None = refl
load_shown store n (Some plan) = refl

load_stays : (store : Tables) (event : Event) → is_opening event ≡ false → (tables_after store event).load ≡ store.load
load_stays store (Opened x y z) none = absurd (false≢true (sym none))
load_stays store (Took x) none = refl
load_stays store TookEnd none = refl
load_stays store (Committed x y) none = load_committed store y (plan_at store x)
load_stays store (Emitted x) none = refl
load_stays store (Merged x y z) none = load_merged store y z (plan_at store x)
load_stays store (Shown x y z) none = load_shown store x (plan_at store x)
load_stays store (Started x) none = refl
load_stays store (ReadLine x) none = refl
load_stays store ReadEnd none = refl
load_stays store (Given x) none = refl
load_stays store Closed none = refl
load_stays store (Got x) none = refl
load_stays store GotEnd none = refl
load_stays store (Saved x) none = refl
load_stays store (Ended x) none = refl

-- an event that opens nothing
rise_first : (list : List Attempt) (event : Event) (store now : Tables) → is_opening event ≡ false → now.load ≡ store.load → Rise list store → Rise (with_first (attempt_with event) list) now
rise_first [] event store now none same rise = record { under = λ attempt has. absurd has; rise = tt }
rise_first (first ∷ older) event store now none same rise = record {
  under = λ attempt has own there. subst (λ n. own.load ≤ n) (sym same) (low attempt has own there);
  rise = ((λ own there other has before has_before. rise.rise.0 own (subst (Has own) (opens_more first event none) there) other has before has_before), rise.rise.1);
}
  where
    low : (attempt : Attempt) → Has attempt (attempt_with event first ∷ older) → (own : Opening) → Has own (opens attempt) → own.load ≤ store.load
    low attempt (inl is) own there = rise.under first (inl refl) own (subst (Has own) (opens_more first event none) (subst (λ (it : Attempt). Has own (opens it)) (sym is) there))
    low attempt (inr has) own there = rise.under attempt (inr has) own there

-- a load is opened, the first of its attempt
rise_opened : (first : Attempt) (older : List Attempt) (store : Tables) (x y : ℕ) (z : List StreamPlan) → loads first.events ≡ [] → store.load < x → Rise (first ∷ older) store → Rise (attempt_with (Opened x y z) first ∷ older) (tables_after store (Opened x y z))
rise_opened first older store x y z none above rise = record { under = low; rise = (high, rise.rise.1) }
  where
    own_is : (own : Opening) → Has own (opens (attempt_with (Opened x y z) first)) → own.load ≡ x
    own_is own there = at (subst (Has own) (ap openings (loads_own first.events (Opened x y z) refl ∙ ap (λ list. loads_after list (Opened x y z)) none)) there)
      where
        at : Has own (record { load = x; moment = y; plan = z } ∷ []) → own.load ≡ x
        at (inl is) = ap (λ (it : Opening). it.load) (sym is)
        at (inr nothing) = absurd nothing

    low : (attempt : Attempt) → Has attempt (attempt_with (Opened x y z) first ∷ older) → (own : Opening) → Has own (opens attempt) → own.load ≤ x
    low attempt (inl is) own there = let same = own_is own (subst (λ (it : Attempt). Has own (opens it)) (sym is) there) in omega (arith, same)
    low attempt (inr has) own there = let under = rise.under attempt (inr has) own there in omega (arith, under, above)

    high : OpensAbove (attempt_with (Opened x y z) first) older
    high own there other has before has_before = let same = own_is own there in let under = rise.under other (inr has) before has_before in omega (arith, same, under, above)

rise_event : (streams : List ConfStream) (read : Reading) (trace : List Event) (list : List Attempt) (event : Event) → is_started event ≡ false → StoreFits trace event → RunFitsIn streams read trace list event → Rise list (tables_of trace) → Rise (with_first (attempt_with event) list) (tables_after (tables_of trace) event)
rise_event streams read trace [] (Opened x y z) none store run rise = record { under = λ attempt has. absurd has; rise = tt }
rise_event streams read trace (first ∷ older) (Opened x y z) none store run rise = rise_opened first older (tables_of trace) x y z (ap (fold loads_after []) run.opens) store.later rise
rise_event streams read trace list (Took x) none store run rise = rise_first list (Took x) (tables_of trace) (tables_after (tables_of trace) (Took x)) refl (load_stays (tables_of trace) (Took x) refl) rise
rise_event streams read trace list TookEnd none store run rise = rise_first list TookEnd (tables_of trace) (tables_after (tables_of trace) TookEnd) refl (load_stays (tables_of trace) TookEnd refl) rise
rise_event streams read trace list (Committed x y) none store run rise = rise_first list (Committed x y) (tables_of trace) (tables_after (tables_of trace) (Committed x y)) refl (load_stays (tables_of trace) (Committed x y) refl) rise
rise_event streams read trace list (Emitted x) none store run rise = rise_first list (Emitted x) (tables_of trace) (tables_after (tables_of trace) (Emitted x)) refl (load_stays (tables_of trace) (Emitted x) refl) rise
rise_event streams read trace list (Merged x y z) none store run rise = rise_first list (Merged x y z) (tables_of trace) (tables_after (tables_of trace) (Merged x y z)) refl (load_stays (tables_of trace) (Merged x y z) refl) rise
rise_event streams read trace list (Shown x y z) none store run rise = rise_first list (Shown x y z) (tables_of trace) (tables_after (tables_of trace) (Shown x y z)) refl (load_stays (tables_of trace) (Shown x y z) refl) rise
rise_event streams read trace list (Started x) none store run rise = absurd (false≢true (sym none))
rise_event streams read trace list (ReadLine x) none store run rise = rise_first list (ReadLine x) (tables_of trace) (tables_after (tables_of trace) (ReadLine x)) refl (load_stays (tables_of trace) (ReadLine x) refl) rise
rise_event streams read trace list ReadEnd none store run rise = rise_first list ReadEnd (tables_of trace) (tables_after (tables_of trace) ReadEnd) refl (load_stays (tables_of trace) ReadEnd refl) rise
rise_event streams read trace list (Given x) none store run rise = rise_first list (Given x) (tables_of trace) (tables_after (tables_of trace) (Given x)) refl (load_stays (tables_of trace) (Given x) refl) rise
rise_event streams read trace list Closed none store run rise = rise_first list Closed (tables_of trace) (tables_after (tables_of trace) Closed) refl (load_stays (tables_of trace) Closed refl) rise
rise_event streams read trace list (Got x) none store run rise = rise_first list (Got x) (tables_of trace) (tables_after (tables_of trace) (Got x)) refl (load_stays (tables_of trace) (Got x) refl) rise
rise_event streams read trace list GotEnd none store run rise = rise_first list GotEnd (tables_of trace) (tables_after (tables_of trace) GotEnd) refl (load_stays (tables_of trace) GotEnd refl) rise
rise_event streams read trace list (Saved x) none store run rise = rise_first list (Saved x) (tables_of trace) (tables_after (tables_of trace) (Saved x)) refl (load_stays (tables_of trace) (Saved x) refl) rise
rise_event streams read trace list (Ended x) none store run rise = rise_first list (Ended x) (tables_of trace) (tables_after (tables_of trace) (Ended x)) refl (load_stays (tables_of trace) (Ended x) refl) rise

rise_started : (list : List Attempt) (one : Attempt) (store : Tables) → loads one.events ≡ [] → Rise list store → Rise (one ∷ list) store
rise_started list one store none rise = record { under = low; rise = ((λ own there. absurd (no_opening own there)), rise.rise) }
  where
    no_opening : (own : Opening) → Has own (opens one) → ⊥
    no_opening own there = subst (Has own) (ap openings none) there

    low : (attempt : Attempt) → Has attempt (one ∷ list) → (own : Opening) → Has own (opens attempt) → own.load ≤ store.load
    low attempt (inl is) own there = absurd (no_opening own (subst (λ (it : Attempt). Has own (opens it)) (sym is) there))
    low attempt (inr has) own there = rise.under attempt has own there

rise_one : (streams : List ConfStream) (read : Reading) (trace : List Event) (event : Event) → StoreFits trace event → RunFits streams read trace event → Rise (attempts trace) (tables_of trace) → Rise (attempts (trace ++ event ∷ [])) (tables_of (trace ++ event ∷ []))
rise_one streams read trace event store run rise =
    subst (λ tables. Rise (attempts (trace ++ event ∷ [])) tables) (sym (tables_more trace event)) (subst (λ list. Rise list (tables_after (tables_of trace) event)) (sym (attempts-one trace event))
    (by_start event (λ plan is. subst (λ it. Rise (attempts_after (attempts trace) it) (tables_after (tables_of trace) it)) (sym is) (rise_started (attempts trace) (record { plan = plan; events = [] }) (tables_of trace) refl rise))
    (λ none. subst (λ list. Rise list (tables_after (tables_of trace) event)) (sym (goes_on event (attempts trace) none)) (rise_event streams read trace (attempts trace) event none store run rise))))

rise_along : (streams : List ConfStream) (read : Reading) (before events : List Event) → EachFits StoreFits before events → EachFits (RunFits streams read) before events → Rise (attempts before) (tables_of before) → Rise (attempts (before ++ events)) (tables_of (before ++ events))
rise_along streams read before [] store run rise = subst (λ trace. Rise (attempts trace) (tables_of trace)) (sym (append-nil before)) rise
rise_along streams read before (event ∷ events) store run rise =
    subst (λ trace. Rise (attempts trace) (tables_of trace)) (append_assoc before (event ∷ []) events) (rise_along streams read (before ++ event ∷ []) events store.1 run.1 (rise_one streams read before event store.0 run.0 rise))

pub loads_rise : (streams : List ConfStream) (read : Reading) (trace : List Event) → EachFits StoreFits [] trace → EachFits (RunFits streams read) [] trace → LoadsRise (attempts trace)
loads_rise streams read trace store run = (rise_along streams read [] trace store run (record { under = λ attempt has. absurd has; rise = tt })).rise
