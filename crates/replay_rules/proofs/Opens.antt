-- The load of an attempt: where it was opened, what its plans are, and where its commits stand.
use Rattle.std.proofs.Common.{◌≡◌, ◌⊎◌, inl, inr, ℕ, zero, suc, List, [], ◌∷◌, ◌++◌, slice_get, Option, None, Some, true, false, refl, sym, ◌∙◌, ap, subst, append_assoc, append-nil}
use Rattle.std.specs.Prelude.{slice_set, fold, not, cond}
use Rattle.std.specs.List.{list_any}
use Rattle.std.proofs.lemmas.Bool.{cases_Bool, false≢true}
use Rattle.std.proofs.lemmas.List.Elements.{filter-append}
use Rattle.outside.specs.Dock.{is_opening}
use Rattle.outside.specs.Event.{is_links}
use Rattle.outside.specs.Tables.{tables_of, tables_after, plan_at, shown_plan, tables_shown, tables_committed, tables_merged}
use Rattle.outside.specs.declared.event.Event.{Event}
use Rattle.outside.specs.declared.event.Event.TheVariants.{Opened, Took, TookEnd, Committed, Emitted, Merged, Shown, Started, ReadLine, ReadEnd, Given, Closed, Got, GotEnd, Saved, Ended}
use Rattle.outside.specs.declared.event.RawRow.{RawRow}
use Rattle.outside.specs.declared.event.StreamPlan.{StreamPlan}
use Rattle.outside.specs.declared.table.Tables.{Tables}
use Rattle.raw_tables.proofs.StoreLaws.{tables_more}
use Rattle.catalog.specs.declared.stream.ConfStream.{ConfStream}
use Rattle.dedup_merge.proofs.SameRowLemmas.{Has}
use Rattle.load_rules.specs.Prefixes.{EachFits, with_first}
use Rattle.load_rules.specs.Lines.{Reading}
use Rattle.load_rules.specs.Loads.{Load, loads, loads_after, with_event, store_events}
use Rattle.load_rules.specs.Attempts.{Attempt, attempts, attempts_after, attempt_with}
use Rattle.load_rules.specs.Engine.{HasOpened, OpensByCatalog, RunFits, RunFitsIn}
use Rattle.load_rules.specs.Laws.{is_started}
use Rattle.load_rules.proofs.LoadFronts.{goes_on as loads_go_on}
use Rattle.load_rules.proofs.SafeAttempts.{loads_link, loads_own, none_opened}
use Rattle.load_rules.proofs.SideHolds.{has_cases}
use Rattle.replay_rules.proofs.Attempts.{attempts-one, by_start}
use Rattle.replay_rules.proofs.StepKinds.{goes_on}

some_is : {A : Type 0} {x y : A} → Some x ≡ Some y → x ≡ y
some_is e = cc

none_some : {A : Type 0} {x : A} → None ≡ Some x → ⊥
none_some e = cc

heads : {A : Type 0} {x y : A} {xs ys : List A} → x ∷ xs ≡ y ∷ ys → x ≡ y
heads e = cc

tails : {A : Type 0} {x y : A} {xs ys : List A} → x ∷ xs ≡ y ∷ ys → xs ≡ ys
tails e = cc

cons_none : {A : Type 0} {x : A} {xs : List A} → [] ≡ x ∷ xs → ⊥
cons_none e = cc

-- ---- the plans of a load stay, but for what is shown

pub record IsSamePlan (plan now : StreamPlan) : Type 0 where
  pub id : now.id ≡ plan.id
  pub generation : now.generation ≡ plan.generation
  pub minimum : now.minimum ≡ plan.minimum

pub record PlanNow (plans : List StreamPlan) (n : ℕ) (plan : StreamPlan) : Type 0 where
  pub now : StreamPlan
  pub named : slice_get plans n ≡ Some now
  pub same : IsSamePlan plan now

abbrev pub PlansNow : List StreamPlan → List StreamPlan → Type 0
PlansNow plans now = (n : ℕ) (plan : StreamPlan) → slice_get plans n ≡ Some plan → PlanNow now n plan

abbrev pub PlansOf : List Load → Tables → Type 0
PlansOf [] store = Unit {0}
PlansOf (load ∷ older) store = PlansNow load.opening.plan store.plan

plan_itself : (plans : List StreamPlan) → PlansNow plans plans
plan_itself plans n plan named = record { now = plan; named = named; same = record { id = refl; generation = refl; minimum = refl } }

set_now : (plans : List StreamPlan) (n j : ℕ) (x p : StreamPlan) → slice_get plans n ≡ Some x → slice_get plans j ≡ Some p → PlanNow (slice_set plans n (shown_plan x)) j p
set_now [] n j x p a b = absurd (none_some a)
set_now (plan ∷ plans) zero zero x p a b = record { now = shown_plan x; named = refl; same = (let is : x ≡ p = some_is (sym a ∙ b) in record { id = ap (λ (it : StreamPlan). it.id) is; generation = ap (λ (it : StreamPlan). it.generation) is; minimum = ap (λ (it : StreamPlan). it.minimum) is }) }
set_now (plan ∷ plans) zero (suc j) x p a b = record { now = p; named = b; same = record { id = refl; generation = refl; minimum = refl } }
set_now (plan ∷ plans) (suc n) zero x p a b = record { now = p; named = b; same = record { id = refl; generation = refl; minimum = refl } }
set_now (plan ∷ plans) (suc n) (suc j) x p a b = let deeper = set_now plans n j x p a b in record { now = deeper.now; named = deeper.named; same = deeper.same }

plans_shown : (list : List Load) (store : Tables) (n : ℕ) (found : Option StreamPlan) → plan_at store n ≡ found → PlansOf list store → PlansOf list (tables_shown found n store)
plans_shown [] store n found named plans = tt
plans_shown (load ∷ older) store n None named plans = plans
plans_shown (load ∷ older) store n (Some x) named plans = λ j plan at. (let was = plans j plan at in let now = set_now store.plan n j x was.now named was.named in record {
  now = now.now;
  named = now.named;
  same = record { id = now.same.id ∙ was.same.id; generation = now.same.generation ∙ was.same.generation; minimum = now.same.minimum ∙ was.same.minimum };
})

plans_committed : (list : List Load) (store : Tables) (rows : List RawRow) (found : Option StreamPlan) → PlansOf list store → PlansOf list (tables_committed found rows store)
plans_committed [] store rows found plans = tt
plans_committed (load ∷ older) store rows None plans = plans
plans_committed (load ∷ older) store rows (Some x) plans = plans

plans_merged : (list : List Load) (store : Tables) (winners : List RawRow) (mark : ℕ) (found : Option StreamPlan) → PlansOf list store → PlansOf list (tables_merged found winners mark store)
plans_merged [] store winners mark found plans = tt
plans_merged (load ∷ older) store winners mark None plans = plans
plans_merged (load ∷ older) store winners mark (Some x) plans = plans

plans_first : (list : List Load) (event : Event) (store : Tables) → PlansOf list store → PlansOf (with_first (with_event event) list) store
plans_first [] event store plans = tt
plans_first (load ∷ older) event store plans = plans

plans_after : (list : List Load) (store : Tables) (event : Event) → is_links event ≡ false → PlansOf list store → PlansOf (loads_after list event) (tables_after store event)
plans_after list store (Opened x y z) own plans = plan_itself z
plans_after list store (Took x) own plans = plans_first list (Took x) store plans
plans_after list store TookEnd own plans = plans_first list TookEnd store plans
plans_after list store (Committed x y) own plans = plans_first list (Committed x y) (tables_committed (plan_at store x) y store) (plans_committed list store y (plan_at store x) plans)
plans_after list store (Emitted x) own plans = plans_first list (Emitted x) store plans
plans_after list store (Merged x y z) own plans = plans_first list (Merged x y z) (tables_merged (plan_at store x) y z store) (plans_merged list store y z (plan_at store x) plans)
plans_after list store (Shown x y z) own plans = plans_first list (Shown x y z) (tables_shown (plan_at store x) x store) (plans_shown list store x (plan_at store x) refl plans)
plans_after list store (Started x) own plans = absurd (false≢true (sym own))
plans_after list store (ReadLine x) own plans = absurd (false≢true (sym own))
plans_after list store ReadEnd own plans = absurd (false≢true (sym own))
plans_after list store (Given x) own plans = absurd (false≢true (sym own))
plans_after list store Closed own plans = absurd (false≢true (sym own))
plans_after list store (Got x) own plans = absurd (false≢true (sym own))
plans_after list store GotEnd own plans = absurd (false≢true (sym own))
plans_after list store (Saved x) own plans = absurd (false≢true (sym own))
plans_after list store (Ended x) own plans = absurd (false≢true (sym own))

tables_link : (store : Tables) (event : Event) → is_links event ≡ true → tables_after store event ≡ store
tables_link store (Opened x y z) is = absurd (false≢true is)
tables_link store (Took x) is = absurd (false≢true is)
tables_link store TookEnd is = absurd (false≢true is)
tables_link store (Committed x y) is = absurd (false≢true is)
tables_link store (Emitted x) is = absurd (false≢true is)
tables_link store (Merged x y z) is = absurd (false≢true is)
tables_link store (Shown x y z) is = absurd (false≢true is)
tables_link store (Started x) is = refl
tables_link store (ReadLine x) is = refl
tables_link store ReadEnd is = refl
tables_link store (Given x) is = refl
tables_link store Closed is = refl
tables_link store (Got x) is = refl
tables_link store GotEnd is = refl
tables_link store (Saved x) is = refl
tables_link store (Ended x) is = refl

plans_more : (events : List Event) (event : Event) → PlansOf (loads events) (tables_of events) → PlansOf (loads (events ++ event ∷ [])) (tables_of (events ++ event ∷ []))
plans_more events event plans = subst (PlansOf (loads (events ++ event ∷ []))) (sym (tables_more events event)) (at (cases_Bool (is_links event)))
  where
    at : (is_links event ≡ true) ⊎ (is_links event ≡ false) → PlansOf (loads (events ++ event ∷ [])) (tables_after (tables_of events) event)
    at (inl link) = subst (λ list. PlansOf list (tables_after (tables_of events) event)) (sym (loads_link events event link)) (subst (PlansOf (loads events)) (sym (tables_link (tables_of events) event link)) plans)
    at (inr own) = subst (λ list. PlansOf list (tables_after (tables_of events) event)) (sym (loads_own events event own)) (plans_after (loads events) (tables_of events) event own plans)

-- what holds at first and goes on by each event, holds of a trace
pub along : (P : List Event → Type 0) → ((events : List Event) (event : Event) → P events → P (events ++ event ∷ [])) → (before rest : List Event) → P before → P (before ++ rest)
along P step before [] here = subst P (sym (append-nil before)) here
along P step before (event ∷ rest) here = subst P (append_assoc before (event ∷ []) rest) (along P step (before ++ event ∷ []) rest (step before event here))

pub plans_of : (trace : List Event) → PlansOf (loads trace) (tables_of trace)
plans_of trace = along (λ events. PlansOf (loads events) (tables_of events)) plans_more [] trace tt

-- ---- where a commit stands

pub record CommitsAt (trace : List Event) (load : Load) (older : List Load) (number : ℕ) (rows : List RawRow) : Type 0 where
  pub before : List Event
  pub behind : List Event
  pub splits : trace ≡ before ++ Committed number rows ∷ behind
  pub none : list_any is_opening behind ≡ false
  pub there : Load
  pub loads_are : loads before ≡ there ∷ older
  pub opening : there.opening ≡ load.opening

abbrev pub CommitsStand : List Event → Type 0
CommitsStand trace = (load : Load) (older : List Load) → loads trace ≡ load ∷ older → (number : ℕ) (rows : List RawRow) → Has (Committed number rows) load.events → CommitsAt trace load older number rows

any_none : (xs : List Event) (event : Event) → list_any is_opening xs ≡ false → is_opening event ≡ false → list_any is_opening (xs ++ event ∷ []) ≡ false
any_none [] event none own = rw own refl
any_none (x ∷ xs) event none own = at (cases_Bool (is_opening x)) (λ rest. any_none xs event rest own)
  where
    at : (is_opening x ≡ true) ⊎ (is_opening x ≡ false) → (list_any is_opening xs ≡ false → list_any is_opening (xs ++ event ∷ []) ≡ false) → list_any is_opening ((x ∷ xs) ++ event ∷ []) ≡ false
    at (inl is) deeper = absurd (false≢true (sym none ∙ rw is refl))
    at (inr is) deeper = rw is (deeper (rw is at none))

commits_on : (trace : List Event) (event : Event) (load now : Load) (older : List Load) (number : ℕ) (rows : List RawRow) → is_opening event ≡ false → load.opening ≡ now.opening → CommitsAt trace load older number rows → CommitsAt (trace ++ event ∷ []) now older number rows
commits_on trace event load now older number rows own same at = record {
  before = at.before;
  behind = at.behind ++ event ∷ [];
  splits = ap (λ list. list ++ event ∷ []) at.splits ∙ append_assoc at.before (Committed number rows ∷ at.behind) (event ∷ []);
  none = any_none at.behind event at.none own;
  there = at.there;
  loads_are = at.loads_are;
  opening = at.opening ∙ same;
}

link_opens : (event : Event) → is_links event ≡ true → is_opening event ≡ false
link_opens (Opened x y z) is = absurd (false≢true is)
link_opens (Took x) is = absurd (false≢true is)
link_opens TookEnd is = absurd (false≢true is)
link_opens (Committed x y) is = absurd (false≢true is)
link_opens (Emitted x) is = absurd (false≢true is)
link_opens (Merged x y z) is = absurd (false≢true is)
link_opens (Shown x y z) is = absurd (false≢true is)
link_opens (Started x) is = refl
link_opens (ReadLine x) is = refl
link_opens ReadEnd is = refl
link_opens (Given x) is = refl
link_opens Closed is = refl
link_opens (Got x) is = refl
link_opens GotEnd is = refl
link_opens (Saved x) is = refl
link_opens (Ended x) is = refl

own_opens : (event : Event) → is_links event ≡ false → (is_opening event ≡ false) ⊎ ((list : List Load) (load : Load) (older : List Load) → loads_after list event ≡ load ∷ older → load.events ≡ [])
own_opens (Opened x y z) own = inr (λ list load older is. ap (λ (it : Load). it.events) (sym (heads is)))
own_opens (Took x) own = inl refl
own_opens TookEnd own = inl refl
own_opens (Committed x y) own = inl refl
own_opens (Emitted x) own = inl refl
own_opens (Merged x y z) own = inl refl
own_opens (Shown x y z) own = inl refl
own_opens (Started x) own = absurd (false≢true (sym own))
own_opens (ReadLine x) own = absurd (false≢true (sym own))
own_opens ReadEnd own = absurd (false≢true (sym own))
own_opens (Given x) own = absurd (false≢true (sym own))
own_opens Closed own = absurd (false≢true (sym own))
own_opens (Got x) own = absurd (false≢true (sym own))
own_opens GotEnd own = absurd (false≢true (sym own))
own_opens (Saved x) own = absurd (false≢true (sym own))
own_opens (Ended x) own = absurd (false≢true (sym own))

first_commits : (trace : List Event) (event : Event) (list : List Load) → loads trace ≡ list → is_opening event ≡ false → CommitsStand trace → (load : Load) (older : List Load) → with_first (with_event event) list ≡ load ∷ older → (number : ℕ) (rows : List RawRow) → Has (Committed number rows) load.events → CommitsAt (trace ++ event ∷ []) load older number rows
first_commits trace event [] are own stand load older is number rows has = absurd (cons_none is)
first_commits trace event (first ∷ others) are own stand load older is number rows has =
    subst (λ list. CommitsAt (trace ++ event ∷ []) load list number rows) (tails is)
    (at (has_cases (Committed number rows) first.events (event ∷ []) (subst (λ (it : Load). Has (Committed number rows) it.events) (sym (heads is)) has)))
  where
    opening : first.opening ≡ load.opening
    opening = ap (λ (it : Load). it.opening) (heads is)

    at : Has (Committed number rows) first.events ⊎ Has (Committed number rows) (event ∷ []) → CommitsAt (trace ++ event ∷ []) load others number rows
    at (inl old) = commits_on trace event first load others number rows own opening (stand first others are number rows old)
    at (inr (inl same)) = record { before = trace; behind = []; splits = ap (λ it. trace ++ it ∷ []) same; none = refl; there = first; loads_are = are; opening = opening }
    at (inr (inr none)) = absurd none

commits_more : (trace : List Event) (event : Event) → CommitsStand trace → CommitsStand (trace ++ event ∷ [])
commits_more trace event stand load older is number rows has = at (cases_Bool (is_links event))
  where
    of_store : is_links event ≡ false → (is_opening event ≡ false) ⊎ ((list : List Load) (load : Load) (older : List Load) → loads_after list event ≡ load ∷ older → load.events ≡ []) → CommitsAt (trace ++ event ∷ []) load older number rows
    of_store own (inr opens) = absurd (subst (Has (Committed number rows)) (opens (loads trace) load older (sym (loads_own trace event own) ∙ is)) has)
    of_store own (inl none) = first_commits trace event (loads trace) refl none stand load older (sym (loads_go_on (loads trace) event none) ∙ (sym (loads_own trace event own) ∙ is)) number rows has

    at : (is_links event ≡ true) ⊎ (is_links event ≡ false) → CommitsAt (trace ++ event ∷ []) load older number rows
    at (inl link) = commits_on trace event load load older number rows (link_opens event link) refl (stand load older (sym (loads_link trace event link) ∙ is) number rows has)
    at (inr own) = of_store own (own_opens event own)

pub commits_stand : (trace : List Event) → CommitsStand trace
commits_stand trace = along CommitsStand commits_more [] trace (λ load older is number rows has. absurd (cons_none is))

-- ---- the load of the last attempt

store_link : (events : List Event) (event : Event) → is_links event ≡ true → store_events (events ++ event ∷ []) ≡ store_events events
store_link events event is = filter-append (λ it. not (is_links it)) events (event ∷ []) ∙ (ap (λ b. store_events events ++ cond (not b) (event ∷ []) []) is ∙ append-nil (store_events events))

-- it is the last of the trace, and it was opened by the catalog that the attempt was started with
pub record InLoad (attempt : Attempt) (trace : List Event) : Type 0 where
  pub load : Load
  pub own : loads attempt.events ≡ load ∷ []
  pub older : List Load
  pub whole : loads trace ≡ load ∷ older
  pub opener : Attempt
  pub same : opener.plan ≡ attempt.plan
  pub before : List Event
  pub opens : OpensByCatalog opener before load.opening.plan

abbrev pub MayHaveLoad : Attempt → List Event → Type 0
MayHaveLoad attempt trace = (store_events attempt.events ≡ []) ⊎ InLoad attempt trace

abbrev pub HasLoad : List Attempt → List Event → Type 0
HasLoad [] trace = Unit {0}
HasLoad (attempt ∷ older) trace = MayHaveLoad attempt trace

load_link : (attempt : Attempt) (trace : List Event) (event : Event) → is_links event ≡ true → MayHaveLoad attempt trace → MayHaveLoad (attempt_with event attempt) (trace ++ event ∷ [])
load_link attempt trace event link (inl none) = inl (store_link attempt.events event link ∙ none)
load_link attempt trace event link (inr in_load) = inr (record {
  load = in_load.load;
  own = loads_link attempt.events event link ∙ in_load.own;
  older = in_load.older;
  whole = loads_link trace event link ∙ in_load.whole;
  opener = in_load.opener;
  same = in_load.same;
  before = in_load.before;
  opens = in_load.opens;
})

load_store : (attempt : Attempt) (trace : List Event) (event : Event) → is_links event ≡ false → is_opening event ≡ false → HasOpened attempt.events → MayHaveLoad attempt trace → MayHaveLoad (attempt_with event attempt) (trace ++ event ∷ [])
load_store attempt trace event own none opened (inl empty) = absurd (false≢true (sym (none_opened attempt.events empty) ∙ opened))
load_store attempt trace event own none opened (inr in_load) = inr (record {
  load = with_event event in_load.load;
  own = loads_own attempt.events event own ∙ (ap (λ list. loads_after list event) in_load.own ∙ loads_go_on (in_load.load ∷ []) event none);
  older = in_load.older;
  whole = loads_own trace event own ∙ (ap (λ list. loads_after list event) in_load.whole ∙ loads_go_on (in_load.load ∷ in_load.older) event none);
  opener = in_load.opener;
  same = in_load.same;
  before = in_load.before;
  opens = in_load.opens;
})

load_step : (streams : List ConfStream) (read : Reading) (attempt : Attempt) (older : List Attempt) (trace : List Event) (event : Event) → is_started event ≡ false → RunFitsIn streams read trace (attempt ∷ older) event → MayHaveLoad attempt trace → MayHaveLoad (attempt_with event attempt) (trace ++ event ∷ [])
load_step streams read attempt older trace (Opened x y z) none fits may = inr (record {
  load = record { opening = record { load = x; moment = y; plan = z }; events = [] };
  own = loads_own attempt.events (Opened x y z) refl ∙ ap (λ stored. loads_after (fold loads_after [] stored) (Opened x y z)) fits.opens;
  older = loads trace;
  whole = loads_own trace (Opened x y z) refl;
  opener = attempt;
  same = refl;
  before = trace;
  opens = fits.own;
})
load_step streams read attempt older trace (Took x) none fits may = load_store attempt trace (Took x) refl refl (fits.opens refl) may
load_step streams read attempt older trace TookEnd none fits may = load_store attempt trace TookEnd refl refl (fits.opens refl) may
load_step streams read attempt older trace (Committed x y) none fits may = load_store attempt trace (Committed x y) refl refl (fits.opens refl) may
load_step streams read attempt older trace (Emitted x) none fits may = load_store attempt trace (Emitted x) refl refl (fits.opens refl) may
load_step streams read attempt older trace (Merged x y z) none fits may = load_store attempt trace (Merged x y z) refl refl (fits.opens refl) may
load_step streams read attempt older trace (Shown x y z) none fits may = load_store attempt trace (Shown x y z) refl refl (fits.opens refl) may
load_step streams read attempt older trace (Started x) none fits may = absurd (false≢true (sym none))
load_step streams read attempt older trace (ReadLine x) none fits may = load_link attempt trace (ReadLine x) refl may
load_step streams read attempt older trace ReadEnd none fits may = load_link attempt trace ReadEnd refl may
load_step streams read attempt older trace (Given x) none fits may = load_link attempt trace (Given x) refl may
load_step streams read attempt older trace Closed none fits may = load_link attempt trace Closed refl may
load_step streams read attempt older trace (Got x) none fits may = load_link attempt trace (Got x) refl may
load_step streams read attempt older trace GotEnd none fits may = load_link attempt trace GotEnd refl may
load_step streams read attempt older trace (Saved x) none fits may = load_link attempt trace (Saved x) refl may
load_step streams read attempt older trace (Ended x) none fits may = load_link attempt trace (Ended x) refl may

first_load : (streams : List ConfStream) (read : Reading) (list : List Attempt) (trace : List Event) (event : Event) → is_started event ≡ false → RunFitsIn streams read trace list event → HasLoad list trace → HasLoad (with_first (attempt_with event) list) (trace ++ event ∷ [])
first_load streams read [] trace event none fits has = tt
first_load streams read (attempt ∷ older) trace event none fits has = load_step streams read attempt older trace event none fits has

one_load : (streams : List ConfStream) (read : Reading) (trace : List Event) (event : Event) → RunFits streams read trace event → HasLoad (attempts trace) trace → HasLoad (attempts (trace ++ event ∷ [])) (trace ++ event ∷ [])
one_load streams read trace event fits has =
    subst (λ list. HasLoad list (trace ++ event ∷ [])) (sym (attempts-one trace event))
    (by_start event (λ plan is. subst (λ it. HasLoad (attempts_after (attempts trace) it) (trace ++ event ∷ [])) (sym is) (inl refl))
    (λ none. subst (λ list. HasLoad list (trace ++ event ∷ [])) (sym (goes_on event (attempts trace) none)) (first_load streams read (attempts trace) trace event none fits has)))

loads_along : (streams : List ConfStream) (read : Reading) (before events : List Event) → EachFits (RunFits streams read) before events → HasLoad (attempts before) before → HasLoad (attempts (before ++ events)) (before ++ events)
loads_along streams read before [] fits has = subst (λ trace. HasLoad (attempts trace) trace) (sym (append-nil before)) has
loads_along streams read before (event ∷ events) fits has =
    subst (λ trace. HasLoad (attempts trace) trace) (append_assoc before (event ∷ []) events) (loads_along streams read (before ++ event ∷ []) events fits.1 (one_load streams read before event fits.0 has))

pub has_load : (streams : List ConfStream) (read : Reading) (trace : List Event) → EachFits (RunFits streams read) [] trace → HasLoad (attempts trace) trace
has_load streams read trace fits = loads_along streams read [] trace fits tt
