-- What an attempt that ends well has read, given and committed.
use Rattle.std.proofs.Common.{◌≡◌, ◌⊎◌, inl, inr, ℕ, List, [], ◌∷◌, ◌++◌, Option, None, Some, Bool, true, false, refl, sym, ◌∙◌, ap, subst, append_assoc, append-nil}
use Rattle.std.specs.Prelude.{filter, fold, not, option_map, ◌||◌}
use Rattle.std.specs.List.{AllByRecursion, list_any}
use Rattle.std.proofs.lemmas.Bool.{false≢true}
use Rattle.std.proofs.lemmas.List.Elements.{filter_map-append}
use Rattle.std.proofs.lemmas.List.Folds.{list_any-append}
use Rattle.outside.specs.Event.{read_in, given_in, read_over_after}
use Rattle.outside.specs.declared.event.Codes.{Codes}
use Rattle.outside.specs.declared.event.Event.{Event}
use Rattle.outside.specs.declared.event.Event.TheVariants.{Opened, Took, TookEnd, Committed, Emitted, Merged, Shown, Started, ReadLine, ReadEnd, Given, Closed, Got, GotEnd, Saved, Ended}
use Rattle.outside.specs.declared.event.Exit.TheVariants.{Code}
use Rattle.outside.specs.declared.event.RawRow.{RawRow}
use Rattle.catalog.specs.declared.stream.ConfStream.{ConfStream}
use Rattle.dedup_merge.proofs.SameRowLemmas.{Has, has_from, has_to}
use Rattle.load_rules.specs.Prefixes.{EachFits, with_first}
use Rattle.load_rules.specs.Lines.{Reading, lines_read}
use Rattle.load_rules.specs.Taken.{Entry, entries, is_in, LaneState}
use Rattle.load_rules.specs.Loads.{Load, loads, tooks, held_in}
use Rattle.load_rules.specs.Acts.{Act, Commits, IsAct, AreActs, taken, committed}
use Rattle.load_rules.specs.SafeDest.{uncommitted, IsSafeLoad}
use Rattle.load_rules.specs.Attempts.{Attempt, attempts, attempts_after, attempt_with, reads, gives}
use Rattle.load_rules.specs.Honest.{IsCommitted}
use Rattle.load_rules.specs.Engine.{is_ended, is_closed, StandsBeforeEnded, OpensFirst, RunFits, RunFitsIn, AttemptFits, IsEngineRun}
use Rattle.load_rules.specs.Engine as engine
use Rattle.load_rules.specs.Laws.{is_started, IsSafeAttempt}
use Rattle.load_rules.proofs.Held.{held_are_uncommitted}
use Rattle.load_rules.proofs.OwnRows.{rows_are_own}
use Rattle.load_rules.proofs.Pipes.{acts_taken, MayLoad, may_load}
use Rattle.load_rules.proofs.SafeAttempts.{attempts_are_safe, none_opened}
use Rattle.load_rules.proofs.RunFronts.{fronts_are_runs}
use Rattle.load_rules.proofs.Twins.{entries_alike, messages_read}
use Rattle.sync_rules.specs.Sync.{Running, Sync, and_event}
use Rattle.sync_rules.specs.Steps.{Step, InAttempt, ReadsOn, Gets}
use Rattle.sync_rules.specs.SafeSync.{Asked, Goes, IsAsked}
use Rattle.sync_rules.proofs.KindLemmas.{by_bool, has_parts, or_left, or_right}
use Rattle.replay_rules.proofs.Attempts.{attempts-one, by_start}
use Rattle.replay_rules.proofs.Committed.{committed_on}
use Rattle.replay_rules.proofs.Opens.{MayHaveLoad, HasLoad, has_load}
use Rattle.replay_rules.proofs.StepKinds.{goes_on}

heads : {A : Type 0} {x y : A} {xs ys : List A} → x ∷ xs ≡ y ∷ ys → x ≡ y
heads e = cc

-- ---- no line is read behind the end of the source's output

abbrev pub NoneLate : Bool → List Event → Type 0
NoneLate over [] = Unit {0}
NoneLate over (event ∷ events) = (over ≡ true → reads (event ∷ []) ≡ []) × NoneLate (read_over_after over event) events

late_more : (over : Bool) (events : List Event) (event : Event) → NoneLate over events → (fold read_over_after over events ≡ true → reads (event ∷ []) ≡ []) → NoneLate over (events ++ event ∷ [])
late_more over [] event none own = (own, tt)
late_more over (first ∷ events) event none own = (none.0, late_more (read_over_after over first) events event none.1 own)

pub late_behind : (over : Bool) (front rest : List Event) → NoneLate over (front ++ rest) → NoneLate (fold read_over_after over front) rest
late_behind over [] rest none = none
late_behind over (event ∷ front) rest none = late_behind (read_over_after over event) front rest none.1

over_stays : (event : Event) → is_started event ≡ false → read_over_after true event ≡ true
over_stays (Opened x y z) none = refl
over_stays (Took x) none = refl
over_stays TookEnd none = refl
over_stays (Committed x y) none = refl
over_stays (Emitted x) none = refl
over_stays (Merged x y z) none = refl
over_stays (Shown x y z) none = refl
over_stays (Started x) none = absurd (false≢true (sym none))
over_stays (ReadLine x) none = refl
over_stays ReadEnd none = refl
over_stays (Given x) none = refl
over_stays Closed none = refl
over_stays (Got x) none = refl
over_stays GotEnd none = refl
over_stays (Saved x) none = refl
over_stays (Ended x) none = refl

none_first : (a b : Bool) → (a || b) ≡ false → a ≡ false
none_first true b is = is
none_first false b is = refl

none_rest : (a b : Bool) → (a || b) ≡ false → b ≡ false
none_rest true b is = absurd (false≢true (sym is))
none_rest false b is = is

pub late_none : (events : List Event) → list_any is_started events ≡ false → NoneLate true events → reads events ≡ []
late_none [] none late = refl
late_none (event ∷ events) none late =
    filter_map-append read_in (event ∷ []) events
    ∙ (ap (λ first. first ++ reads events) (late.0 refl) ∙ late_none events (none_rest (is_started event) (list_any is_started events) none) (subst (λ over. NoneLate over events) (over_stays event (none_first (is_started event) (list_any is_started events) none)) late.1))

pub over_all : (events : List Event) → list_any is_started events ≡ false → fold read_over_after true events ≡ true
over_all [] none = refl
over_all (event ∷ events) none =
    ap (λ over. fold read_over_after over events) (over_stays event (none_first (is_started event) (list_any is_started events) none)) ∙ over_all events (none_rest (is_started event) (list_any is_started events) none)

abbrev pub LateIn : Option Running → Type 0
LateIn None = Unit {0}
LateIn (Some own) = NoneLate false own.events

late_on : (event : Event) (own : Option Running) → reads (event ∷ []) ≡ [] → LateIn own → LateIn (option_map (and_event event) own)
late_on event None quiet late = tt
late_on event (Some own) quiet late = late_more false own.events event late (λ over. quiet)

late_read : (text : List ℕ) (own : Option Running) → InAttempt own ReadsOn → LateIn own → LateIn (option_map (and_event (ReadLine text)) own)
late_read text None fits late = tt
late_read text (Some own) fits late = late_more false own.events (ReadLine text) late (λ over. absurd (false≢true (sym fits.1 ∙ over)))

late_got : (read : Reading) (sync : Sync) (text : List ℕ) (now : Sync) (own : Option Running) → InAttempt own (Gets read sync text now) → now.attempt ≡ option_map (and_event (Got text)) sync.attempt
late_got read sync text now None gets = absurd gets
late_got read sync text now (Some own) gets = ap (λ (it : Sync). it.attempt) gets.1.is

attempt_is : {x y : Sync} → x ≡ y → x.attempt ≡ y.attempt
attempt_is e = ap (λ (it : Sync). it.attempt) e

late_step : (streams : List ConfStream) (read : Reading) (P : LaneState → Type 0) (sync : Sync) (event : Event) (now : Sync) → Step streams read P sync event now → LateIn sync.attempt → LateIn now.attempt
late_step streams read P sync (Opened x y z) now step late = subst LateIn (sym (attempt_is step)) late
late_step streams read P sync (Took x) now step late = subst LateIn (sym (attempt_is step)) late
late_step streams read P sync TookEnd now step late = subst LateIn (sym (attempt_is step)) late
late_step streams read P sync (Committed x y) now step late = subst LateIn (sym (attempt_is step)) late
late_step streams read P sync (Emitted x) now step late = subst LateIn (sym (attempt_is step)) late
late_step streams read P sync (Merged x y z) now step late = subst LateIn (sym (attempt_is step)) late
late_step streams read P sync (Shown x y z) now step late = subst LateIn (sym (attempt_is step)) late
late_step streams read P sync (Started x) now step late = subst LateIn (sym (attempt_is step.1)) tt
late_step streams read P sync (ReadLine x) now step late = subst LateIn (sym (attempt_is step.1)) (late_read x sync.attempt step.0 late)
late_step streams read P sync ReadEnd now step late = subst LateIn (sym (attempt_is step.1)) (late_on ReadEnd sync.attempt refl late)
late_step streams read P sync (Given x) now step late = subst LateIn (sym (attempt_is step.1)) (late_on (Given x) sync.attempt refl late)
late_step streams read P sync Closed now step late = subst LateIn (sym (attempt_is step.1)) (late_on Closed sync.attempt refl late)
late_step streams read P sync (Got x) now step late = subst LateIn (sym (late_got read sync x now sync.attempt step)) (late_on (Got x) sync.attempt refl late)
late_step streams read P sync GotEnd now step late = subst LateIn (sym (attempt_is step.1)) (late_on GotEnd sync.attempt refl late)
late_step streams read P sync (Saved x) now step late = subst LateIn (sym (attempt_is step.is)) (late_on (Saved x) sync.attempt refl late)
late_step streams read P sync (Ended x) now step late = subst LateIn (sym (attempt_is step.1)) (late_on (Ended x) sync.attempt refl late)

pub late_along : (streams : List ConfStream) (read : Reading) (asked : Asked) (before events : List Event) (sync now : Sync) → Goes streams read asked before sync events now → LateIn sync.attempt → LateIn now.attempt
late_along streams read asked before [] sync now goes late = subst LateIn (sym (attempt_is goes)) late
late_along streams read asked before (event ∷ events) sync now (middle, step, rest) late =
    late_along streams read asked (before ++ event ∷ []) events middle now rest (late_step streams read (IsAsked streams asked before) sync event middle step late)

-- ---- attempts hold no start

abbrev pub StartsNone : Attempt → Type 0
StartsNone attempt = list_any is_started attempt.events ≡ false

starts_first : (event : Event) (list : List Attempt) → is_started event ≡ false → AllByRecursion StartsNone list → AllByRecursion StartsNone (with_first (attempt_with event) list)
starts_first event [] none each = tt
starts_first event (attempt ∷ older) none each = (list_any-append is_started attempt.events (event ∷ []) ∙ rw (each.0, none) refl, each.1)

pub starts_none : (list : List Attempt) (events : List Event) → AllByRecursion StartsNone list → AllByRecursion StartsNone (fold attempts_after list events)
starts_none list [] each = each
starts_none list (event ∷ events) each =
    starts_none (attempts_after list event) events
    (by_start event (λ plan is. subst (λ it. AllByRecursion StartsNone (attempts_after list it)) (sym is) (refl, each))
    (λ none. subst (AllByRecursion StartsNone) (sym (goes_on event list none)) (starts_first event list none each)))

-- ---- what was given is committed where the destination ended with code 0

any_has : (events : List Event) (codes : Codes) → Has (Ended codes) events → list_any is_ended events ≡ true
any_has [] codes has = absurd has
any_has (event ∷ events) codes (inl is) = or_left (is_ended event) (list_any is_ended events) (ap is_ended is)
any_has (event ∷ events) codes (inr has) = or_right (is_ended event) (list_any is_ended events) (any_has events codes has)

act_commit : (read : Reading) (number : ℕ) (rows : List RawRow) (event : Event) → IsAct read (Commits number rows) event → event ≡ Committed number rows
act_commit read number rows (Opened x y z) is = absurd is
act_commit read number rows (Took x) is = absurd is
act_commit read number rows TookEnd is = absurd is
act_commit read number rows (Committed x y) is = ap (λ n. Committed n y) is.0 ∙ ap (λ list. Committed number list) is.1
act_commit read number rows (Emitted x) is = absurd is
act_commit read number rows (Merged x y z) is = absurd is
act_commit read number rows (Shown x y z) is = absurd is
act_commit read number rows (Started x) is = absurd is
act_commit read number rows (ReadLine x) is = absurd is
act_commit read number rows ReadEnd is = absurd is
act_commit read number rows (Given x) is = absurd is
act_commit read number rows Closed is = absurd is
act_commit read number rows (Got x) is = absurd is
act_commit read number rows GotEnd is = absurd is
act_commit read number rows (Saved x) is = absurd is
act_commit read number rows (Ended x) is = absurd is

acts_commit : (read : Reading) (number : ℕ) (rows : List RawRow) (acts : List Act) (events : List Event) → AreActs read acts events → Has (Commits number rows) acts → Has (Committed number rows) events
acts_commit read number rows [] events are has = absurd has
acts_commit read number rows (act ∷ acts) [] are has = absurd are
acts_commit read number rows (act ∷ acts) (event ∷ events) are (inl is) = inl (act_commit read number rows event (subst (λ it. IsAct read it event) is are.0))
acts_commit read number rows (act ∷ acts) (event ∷ events) are (inr has) = inr (acts_commit read number rows acts events are.1 has)

none_left : (test : Entry → Bool) (list : List Entry) (entry : Entry) → filter test list ≡ [] → Has entry list → test entry ≡ false
none_left test [] entry none has = absurd has
none_left test (first ∷ more) entry none (inl is) = by_bool (test first) (λ passes. absurd (kept (rw passes at none))) (λ fails. ap test (sym is) ∙ fails)
  where
    kept : first ∷ filter test more ≡ [] → ⊥
    kept e = cc
none_left test (first ∷ more) entry none (inr has) = by_bool (test first) (λ passes. absurd (kept (rw passes at none))) (λ fails. none_left test more entry (rw fails at none) has)
  where
    kept : first ∷ filter test more ≡ [] → ⊥
    kept e = cc

not_false : (b : Bool) → not b ≡ false → b ≡ true
not_false true is = refl
not_false false is = absurd (false≢true (sym is))

-- of a load that holds nothing back each record that it took stands committed
load_commits : (streams : List ConfStream) (read : Reading) (events : List Event) (load : Load) (entry : Entry) → loads events ≡ load ∷ [] → IsSafeLoad streams read load → held_in read load.events ≡ [] → Has entry (entries (lines_read read (tooks load.events))) → IsCommitted streams events entry
load_commits streams read events load entry own safe none has =
    let took : taken safe.acts ≡ lines_read read (tooks load.events) = acts_taken read safe.acts load.events safe.are in
    let there : Has entry (entries (taken safe.acts)) = subst (λ lines. Has entry (entries lines)) (sym took) has in
    let left : uncommitted safe.acts ≡ [] = sym (held_are_uncommitted read safe.acts load.events safe.are) ∙ none in
    let done : is_in entry.seq (committed safe.acts) ≡ true = not_false (is_in entry.seq (committed safe.acts)) (none_left (λ it. not (is_in it.seq (committed safe.acts))) (entries (taken safe.acts)) entry left there) in
    let row = rows_are_own streams load.opening safe.acts entry safe.fit (has_to (entries (taken safe.acts)) entry there) done in
    record {
      load = load;
      among = has_to (loads events) load (subst (Has load) (sym own) (inl refl));
      stands = record {
        number = row.number;
        rows = row.rows;
        commit = has_to load.events (Committed row.number row.rows) (acts_commit read row.number row.rows safe.acts load.events safe.are (has_from safe.acts (Commits row.number row.rows) row.commit));
        row = row.row;
        among = row.among;
        is = row.is;
      };
    }

-- the destination has ended so
abbrev pub EndsZero : List Event → Type 0
EndsZero events = (codes : Codes) × Has (Ended codes) events × (codes.dest ≡ Some (Code 0))

-- all that was given is committed, where the destination has ended with code 0 and its input was closed
abbrev pub CommitsAll : List ConfStream → Reading → Attempt → Type 0
CommitsAll streams read attempt = EndsZero attempt.events → list_any is_closed attempt.events ≡ true → (entry : Entry) → Has entry (entries (lines_read read (gives attempt.events))) → IsCommitted streams attempt.events entry

end_commits : (streams : List ConfStream) (read : Reading) (before : List Event) (attempt : Attempt) (older : List Attempt) (entry : Entry) → IsEngineRun streams read before → attempts before ≡ attempt ∷ older → engine.EndsWell streams read before attempt.events → list_any is_closed attempt.events ≡ true → Has entry (entries (lines_read read (gives attempt.events))) → IsCommitted streams attempt.events entry
end_commits streams read before attempt older entry run are ends closed has =
    at (subst (λ list. HasLoad list before) are (has_load streams read before run.attempts_are)) (may_load attempt.events (subst (AllByRecursion (IsSafeAttempt streams read)) are (attempts_are_safe streams read before run)).0.opens)
  where
    same : entries (lines_read read (gives attempt.events)) ≡ entries (lines_read read (tooks attempt.events))
    same = entries_alike (lines_read read (gives attempt.events)) (lines_read read (tooks attempt.events)) (messages_read read (gives attempt.events) ∙ (sym (ends.took_all closed) ∙ sym (messages_read read (tooks attempt.events))))

    at : MayHaveLoad attempt before → MayLoad attempt.events → IsCommitted streams attempt.events entry
    at (inl empty) may = absurd (false≢true (sym (none_opened attempt.events empty) ∙ ends.opened))
    at (inr in_load) (inl none) = absurd (false≢true (sym (none_opened attempt.events none.stored) ∙ ends.opened))
    at (inr in_load) (inr one_is) =
        let done = ends.finished.done in
        let load_is : ends.finished.load ≡ in_load.load = heads (sym done.last ∙ in_load.whole) in
        let own_is : one_is.load ≡ in_load.load = heads (sym one_is.own ∙ in_load.own) in
        let safe = (subst (AllByRecursion (IsSafeLoad streams read)) in_load.whole run.loads_are.safe.each).0 in
        load_commits streams read attempt.events in_load.load entry in_load.own safe (subst (λ (it : Load). held_in read it.events ≡ []) load_is done.committed_are)
        (subst (Has entry) (same ∙ (ap (λ texts. entries (lines_read read texts)) one_is.tooks_are ∙ ap (λ (it : Load). entries (lines_read read (tooks it.events))) own_is)) has)

-- what comes behind an end, and an end, gives and closes nothing
pub record GivesNone (event : Event) : Type 0 where
  pub none : gives (event ∷ []) ≡ []
  pub still : is_closed event ≡ false

behind_end : (events : List Event) (event : Event) → list_any is_ended events ≡ true → StandsBeforeEnded events event → GivesNone event
behind_end events (Opened x y z) ended stands = record { none = refl; still = refl }
behind_end events (Took x) ended stands = record { none = refl; still = refl }
behind_end events TookEnd ended stands = record { none = refl; still = refl }
behind_end events (Committed x y) ended stands = record { none = refl; still = refl }
behind_end events (Emitted x) ended stands = record { none = refl; still = refl }
behind_end events (Merged x y z) ended stands = record { none = refl; still = refl }
behind_end events (Shown x y z) ended stands = record { none = refl; still = refl }
behind_end events (Started x) ended stands = record { none = refl; still = refl }
behind_end events (ReadLine x) ended stands = record { none = refl; still = refl }
behind_end events ReadEnd ended stands = record { none = refl; still = refl }
behind_end events (Given x) ended stands = absurd (false≢true (sym (stands refl) ∙ ended))
behind_end events Closed ended stands = absurd (false≢true (sym (stands refl) ∙ ended))
behind_end events (Got x) ended stands = record { none = refl; still = refl }
behind_end events GotEnd ended stands = record { none = refl; still = refl }
behind_end events (Saved x) ended stands = record { none = refl; still = refl }
behind_end events (Ended x) ended stands = record { none = refl; still = refl }

gives_same : (events : List Event) (event : Event) → GivesNone event → gives (events ++ event ∷ []) ≡ gives events
gives_same events event quiet = filter_map-append given_in events (event ∷ []) ∙ (ap (λ more. gives events ++ more) quiet.none ∙ append-nil (gives events))

closed_same : (events : List Event) (event : Event) → GivesNone event → list_any is_closed (events ++ event ∷ []) ≡ list_any is_closed events
closed_same events event quiet = list_any-append is_closed events (event ∷ []) ∙ at (list_any is_closed events)
  where
    at : (b : Bool) → (b || list_any is_closed (event ∷ [])) ≡ b
    at true = refl
    at false = rw quiet.still refl

step_commits : (streams : List ConfStream) (read : Reading) (before : List Event) (attempt : Attempt) (older : List Attempt) (event : Event) → IsEngineRun streams read before → attempts before ≡ attempt ∷ older → AttemptFits streams read before attempt event → CommitsAll streams read attempt → CommitsAll streams read (attempt_with event attempt)
step_commits streams read before attempt older event run are fits old (codes, has, zero) closed entry there = at (has_parts (Ended codes) attempt.events (event ∷ []) has)
  where
    quiet_at : GivesNone event → (list_any is_closed attempt.events ≡ true → Has entry (entries (lines_read read (gives attempt.events))) → IsCommitted streams attempt.events entry) → IsCommitted streams (attempt.events ++ event ∷ []) entry
    quiet_at quiet onward = committed_on streams attempt.events event entry (onward (sym (closed_same attempt.events event quiet) ∙ closed) (subst (λ texts. Has entry (entries (lines_read read texts))) (gives_same attempt.events event quiet) there))

    ends : event ≡ Ended codes → engine.EndsWell streams read before attempt.events
    ends is = subst (engine.EndFits streams read before attempt.events) zero (subst (engine.OwnFits streams read before attempt) is fits.own) refl

    at : Has (Ended codes) attempt.events ⊎ Has (Ended codes) (event ∷ []) → IsCommitted streams (attempt.events ++ event ∷ []) entry
    at (inl in_old) = quiet_at (behind_end attempt.events event (any_has attempt.events codes in_old) fits.ends) (λ was has. old (codes, in_old, zero) was entry has)
    at (inr (inl is)) = quiet_at (subst GivesNone (sym is) (record { none = refl; still = refl })) (λ was has. end_commits streams read before attempt older entry run are (ends is) was has)
    at (inr (inr none)) = absurd none

first_commits : (streams : List ConfStream) (read : Reading) (before : List Event) (list : List Attempt) (event : Event) → IsEngineRun streams read before → attempts before ≡ list → RunFitsIn streams read before list event → AllByRecursion (CommitsAll streams read) list → AllByRecursion (CommitsAll streams read) (with_first (attempt_with event) list)
first_commits streams read before [] event run are fits each = tt
first_commits streams read before (attempt ∷ older) event run are fits each = (step_commits streams read before attempt older event run are fits each.0, each.1)

one_commits : (streams : List ConfStream) (read : Reading) (before : List Event) (event : Event) → IsEngineRun streams read before → RunFits streams read before event → AllByRecursion (CommitsAll streams read) (attempts before) → AllByRecursion (CommitsAll streams read) (attempts (before ++ event ∷ []))
one_commits streams read before event run fits each =
    subst (AllByRecursion (CommitsAll streams read)) (sym (attempts-one before event))
    (by_start event (λ plan is. subst (λ it. AllByRecursion (CommitsAll streams read) (attempts_after (attempts before) it)) (sym is) ((λ ends. absurd ends.1), each))
    (λ none. subst (AllByRecursion (CommitsAll streams read)) (sym (goes_on event (attempts before) none)) (first_commits streams read before (attempts before) event run refl fits each)))

commits_along : (streams : List ConfStream) (read : Reading) (before events : List Event) → IsEngineRun streams read (before ++ events) → EachFits (RunFits streams read) before events → AllByRecursion (CommitsAll streams read) (attempts before) → AllByRecursion (CommitsAll streams read) (attempts (before ++ events))
commits_along streams read before [] run fits each = subst (λ trace. AllByRecursion (CommitsAll streams read) (attempts trace)) (sym (append-nil before)) each
commits_along streams read before (event ∷ events) run fits each =
    let on = append_assoc before (event ∷ []) events in
    subst (λ trace. AllByRecursion (CommitsAll streams read) (attempts trace)) on
    (commits_along streams read (before ++ event ∷ []) events (subst (IsEngineRun streams read) (sym on) run) fits.1 (one_commits streams read before event (fronts_are_runs streams read before (event ∷ events) run) fits.0 each))

pub commits_all : (streams : List ConfStream) (read : Reading) (trace : List Event) → IsEngineRun streams read trace → AllByRecursion (CommitsAll streams read) (attempts trace)
commits_all streams read trace run = commits_along streams read [] trace run run.attempts_are tt
