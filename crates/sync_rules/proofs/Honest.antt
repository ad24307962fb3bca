-- What is added plainly and honestly is added safely.
use Rattle.std.proofs.Common.{◌≡◌, ◌⊎◌, inl, inr, ℕ, List, [], ◌∷◌, ◌++◌, Bool, true, false, cond, Option, None, Some, refl, sym, ◌∙◌, ap, subst, append_assoc}
use Rattle.std.specs.Prelude.{filter, is_some, option_map, Contains}
use Rattle.std.specs.List.{AllByRecursion}
use Rattle.std.proofs.lemmas.List.{append-nil}
use Rattle.std.proofs.lemmas.List.Elements.{filter-append}
use Rattle.std.proofs.lemmas.List.Sums.{fold-append}
use Rattle.std.proofs.lemmas.Bool.{false≢true}
use Rattle.outside.specs.Event.{is_links}
use Rattle.outside.specs.declared.event.Event.{Event}
use Rattle.outside.specs.declared.event.Event.TheVariants.{Opened, Took, TookEnd, Committed, Emitted, Merged, Shown, Started, ReadLine, ReadEnd, Given, Closed, Got, GotEnd, Saved, Ended}
use Rattle.airbyte_message.specs.Lanes.{Lane}
use Rattle.catalog.specs.declared.stream.ConfStream.{ConfStream}
use Rattle.catalog.specs.declared.stream.Gen.{Gen}
use Rattle.dedup_merge.proofs.SameRowLemmas.{Has, has_from, has_to}
use Rattle.load_rules.specs.Prefixes.{EachFits, with_first}
use Rattle.load_rules.specs.Lines.{Reading, line_read}
use Rattle.load_rules.specs.Taken.{LaneState, Entry, entries, covers, states}
use Rattle.load_rules.specs.Loads.{Load, loads, loads_after, with_event as load_with}
use Rattle.load_rules.specs.Attempts.{Attempt, attempts, attempts_after, attempt_with, attempt_events, Waiting, none_given, LeavesAll, TakesState}
use Rattle.load_rules.specs.Honest.{IsCommittedIn, IsCommitted, GotFits, AddedFits}
use Rattle.load_rules.proofs.TakenLists.{all_weaker}
use Rattle.load_rules.proofs.SafeAttempts.{loads_link, loads_own}
use Rattle.sync_rules.specs.Generations.{Begins}
use Rattle.sync_rules.specs.Sync.{Running, Sync, and_event, started, Takes}
use Rattle.sync_rules.specs.Steps.{Step, Saves, Puts, Gets, InAttempt}
use Rattle.sync_rules.specs.SafeSync.{commits, nothing, Goes, IsAsked, IsCovered}
use Rattle.sync_rules.specs.Laws.{KnowsAttempt, Knows, WaysKnow, HonestIsSafe}

-- ---- what the sync knows of its last attempt

pub attempts-one : (before : List Event) (event : Event) → attempts (before ++ event ∷ []) ≡ attempts_after (attempts before) event
attempts-one before event = fold-append attempts_after [] before (event ∷ [])

-- the event starts no attempt
abbrev pub GoesOn : Event → Type 0
GoesOn event = (list : List Attempt) → attempts_after list event ≡ with_first (attempt_with event) list

own-one : (events : List Event) (event : Event) → filter is_links (events ++ event ∷ []) ≡ filter is_links events ++ cond (is_links event) (event ∷ []) []
own-one events event = filter-append is_links events (event ∷ [])

knows_own : (event : Event) (own : Option Running) (list : List Attempt) → is_links event ≡ true → KnowsAttempt own list → KnowsAttempt (option_map (and_event event) own) (with_first (attempt_with event) list)
knows_own event None [] is knows = tt
knows_own event None (attempt ∷ older) is knows = absurd knows
knows_own event (Some own) [] is knows = absurd knows
knows_own event (Some own) (attempt ∷ older) is knows =
    ap (λ list. list ++ event ∷ []) knows ∙ sym (own-one attempt.events event ∙ ap (λ b. filter is_links attempt.events ++ cond b (event ∷ []) []) is)

knows_other : (event : Event) (own : Option Running) (list : List Attempt) → is_links event ≡ false → KnowsAttempt own list → KnowsAttempt own (with_first (attempt_with event) list)
knows_other event None [] is knows = tt
knows_other event None (attempt ∷ older) is knows = absurd knows
knows_other event (Some own) [] is knows = absurd knows
knows_other event (Some own) (attempt ∷ older) is knows =
    knows ∙ sym (own-one attempt.events event ∙ (ap (λ b. filter is_links attempt.events ++ cond b (event ∷ []) []) is ∙ append-nil (filter is_links attempt.events)))

own_next : (before : List Event) (event : Event) (sync now : Sync) → is_links event ≡ true → GoesOn event → now.attempt ≡ option_map (and_event event) sync.attempt → Knows sync before → Knows now (before ++ event ∷ [])
own_next before event sync now is on attempt_is knows =
    subst (λ list. KnowsAttempt now.attempt list) (sym (attempts-one before event ∙ on (attempts before)))
    (subst (λ own. KnowsAttempt own (with_first (attempt_with event) (attempts before))) (sym attempt_is) (knows_own event sync.attempt (attempts before) is knows))

other_next : (before : List Event) (event : Event) (sync now : Sync) → is_links event ≡ false → GoesOn event → now ≡ sync → Knows sync before → Knows now (before ++ event ∷ [])
other_next before event sync now is on same knows =
    subst (λ list. KnowsAttempt now.attempt list) (sym (attempts-one before event ∙ on (attempts before)))
    (subst (λ (it : Sync). KnowsAttempt it.attempt (with_first (attempt_with event) (attempts before))) (sym same) (knows_other event sync.attempt (attempts before) is knows))

start_next : (before : List Event) (event : Event) (own : Option Running) (list : List Attempt) → attempts_after (attempts before) event ≡ list → KnowsAttempt own list → KnowsAttempt own (attempts (before ++ event ∷ []))
start_next before event own list is knows = subst (λ it. KnowsAttempt own it) (sym (attempts-one before event ∙ is)) knows

attempt_of : {x y : Sync} → x ≡ y → x.attempt ≡ y.attempt
attempt_of e = ap (λ (it : Sync). it.attempt) e

gets_is : (read : Reading) (sync : Sync) (text : List ℕ) (now : Sync) (own : Option Running) → InAttempt own (Gets read sync text now) → now.attempt ≡ option_map (and_event (Got text)) sync.attempt
gets_is read sync text now None gets = absurd gets
gets_is read sync text now (Some attempt) gets = attempt_of gets.1.is

pub knows_step : (streams : List ConfStream) (read : Reading) (P : LaneState → Type 0) (before : List Event) (sync : Sync) (event : Event) (now : Sync) → Knows sync before → Step streams read P sync event now → Knows now (before ++ event ∷ [])
knows_step streams read P before sync (Opened x y z) now knows step = other_next before (Opened x y z) sync now refl (λ list. refl) step knows
knows_step streams read P before sync (Took x) now knows step = other_next before (Took x) sync now refl (λ list. refl) step knows
knows_step streams read P before sync TookEnd now knows step = other_next before TookEnd sync now refl (λ list. refl) step knows
knows_step streams read P before sync (Committed x y) now knows step = other_next before (Committed x y) sync now refl (λ list. refl) step knows
knows_step streams read P before sync (Emitted x) now knows step = other_next before (Emitted x) sync now refl (λ list. refl) step knows
knows_step streams read P before sync (Merged x y z) now knows step = other_next before (Merged x y z) sync now refl (λ list. refl) step knows
knows_step streams read P before sync (Shown x y z) now knows step = other_next before (Shown x y z) sync now refl (λ list. refl) step knows
knows_step streams read P before sync (Started x) now knows step = subst (λ (it : Sync). KnowsAttempt it.attempt (attempts (before ++ (Started x) ∷ []))) (sym step.1) (start_next before (Started x) (started sync).attempt (record { plan = x; events = [] } ∷ attempts before) refl refl)
knows_step streams read P before sync (ReadLine x) now knows step = own_next before (ReadLine x) sync now refl (λ list. refl) (attempt_of step.1) knows
knows_step streams read P before sync ReadEnd now knows step = own_next before ReadEnd sync now refl (λ list. refl) (attempt_of step.1) knows
knows_step streams read P before sync (Given x) now knows step = own_next before (Given x) sync now refl (λ list. refl) (attempt_of step.1) knows
knows_step streams read P before sync Closed now knows step = own_next before Closed sync now refl (λ list. refl) (attempt_of step.1) knows
knows_step streams read P before sync (Got x) now knows step = own_next before (Got x) sync now refl (λ list. refl) (gets_is read sync x now sync.attempt step) knows
knows_step streams read P before sync GotEnd now knows step = own_next before GotEnd sync now refl (λ list. refl) (attempt_of step.1) knows
knows_step streams read P before sync (Saved x) now knows step = own_next before (Saved x) sync now refl (λ list. refl) (attempt_of step.is) knows
knows_step streams read P before sync (Ended x) now knows step = own_next before (Ended x) sync now refl (λ list. refl) (attempt_of step.1) knows

pub ways_know : WaysKnow
ways_know streams read asked before [] sync now knows goes = subst (λ list. Knows now list) (sym (append-nil before)) (subst (λ it. Knows it before) (sym goes) knows)
ways_know streams read asked before (event ∷ events) sync now knows (middle, step, rest) =
    subst (λ list. Knows now list) (append_assoc before (event ∷ []) events)
    (ways_know streams read asked (before ++ event ∷ []) events middle now (knows_step streams read (IsAsked streams asked before) before sync event middle knows step) rest)

-- ---- what is committed stays so

has_front : {A : Type 0} (x : A) (xs ys : List A) → Has x xs → Has x (xs ++ ys)
has_front x [] ys has = absurd has
has_front x (y ∷ xs) ys (inl is) = inl is
has_front x (y ∷ xs) ys (inr has) = inr (has_front x xs ys has)

front_contains : {A : Type 0} (x : A) (xs ys : List A) → Contains xs x → Contains (xs ++ ys) x
front_contains x xs ys there = has_to (xs ++ ys) x (has_front x xs ys (has_from xs x there))

load_more : (streams : List ConfStream) (load : Load) (event : Event) (entry : Entry) → IsCommittedIn streams load entry → IsCommittedIn streams (load_with event load) entry
load_more streams load event entry stands =
    record { number = stands.number; rows = stands.rows; commit = front_contains (Committed stands.number stands.rows) load.events (event ∷ []) stands.commit; row = stands.row; among = stands.among; is = stands.is }

record StandsIn (streams : List ConfStream) (list : List Load) (entry : Entry) : Type 0 where
  load : Load
  among : Has load list
  stands : IsCommittedIn streams load entry

first_more : (streams : List ConfStream) (list : List Load) (event : Event) (entry : Entry) → StandsIn streams list entry → StandsIn streams (with_first (load_with event) list) entry
first_more streams [] event entry stands = absurd stands.among
first_more streams (load ∷ older) event entry stands = at stands.among
  where
    at : Has stands.load (load ∷ older) → StandsIn streams (load_with event load ∷ older) entry
    at (inl is) = record { load = load_with event load; among = inl refl; stands = load_more streams load event entry (subst (λ it. IsCommittedIn streams it entry) (sym is) stands.stands) }
    at (inr has) = record { load = stands.load; among = inr has; stands = stands.stands }

after_more : (streams : List ConfStream) (list : List Load) (event : Event) (entry : Entry) → StandsIn streams list entry → StandsIn streams (loads_after list event) entry
after_more streams list (Opened x y z) entry stands = record { load = stands.load; among = inr stands.among; stands = stands.stands }
after_more streams list (Took x) entry stands = first_more streams list (Took x) entry stands
after_more streams list TookEnd entry stands = first_more streams list TookEnd entry stands
after_more streams list (Committed x y) entry stands = first_more streams list (Committed x y) entry stands
after_more streams list (Emitted x) entry stands = first_more streams list (Emitted x) entry stands
after_more streams list (Merged x y z) entry stands = first_more streams list (Merged x y z) entry stands
after_more streams list (Shown x y z) entry stands = first_more streams list (Shown x y z) entry stands
after_more streams list (Started x) entry stands = first_more streams list (Started x) entry stands
after_more streams list (ReadLine x) entry stands = first_more streams list (ReadLine x) entry stands
after_more streams list ReadEnd entry stands = first_more streams list ReadEnd entry stands
after_more streams list (Given x) entry stands = first_more streams list (Given x) entry stands
after_more streams list Closed entry stands = first_more streams list Closed entry stands
after_more streams list (Got x) entry stands = first_more streams list (Got x) entry stands
after_more streams list GotEnd entry stands = first_more streams list GotEnd entry stands
after_more streams list (Saved x) entry stands = first_more streams list (Saved x) entry stands
after_more streams list (Ended x) entry stands = first_more streams list (Ended x) entry stands

stands_in : (streams : List ConfStream) (events : List Event) (entry : Entry) → IsCommitted streams events entry → StandsIn streams (loads events) entry
stands_in streams events entry is = record { load = is.load; among = has_from (loads events) is.load is.among; stands = is.stands }

is_committed : (streams : List ConfStream) (events : List Event) (entry : Entry) → StandsIn streams (loads events) entry → IsCommitted streams events entry
is_committed streams events entry stands = record { load = stands.load; among = has_to (loads events) stands.load stands.among; stands = stands.stands }

committed_more : (streams : List ConfStream) (events : List Event) (event : Event) (entry : Entry) → IsCommitted streams events entry → IsCommitted streams (events ++ event ∷ []) entry
committed_more streams events event entry is = is_committed streams (events ++ event ∷ []) entry (at (is_links event) refl)
  where
    at : (b : Bool) → is_links event ≡ b → StandsIn streams (loads (events ++ event ∷ [])) entry
    at true link = subst (λ list. StandsIn streams list entry) (sym (loads_link events event link)) (stands_in streams events entry is)
    at false other = subst (λ list. StandsIn streams list entry) (sym (loads_own events event other)) (after_more streams (loads events) event entry (stands_in streams events entry is))

-- the events of the last attempt, behind one more
events_next : (list : List Attempt) (event : Event) → (attempt_events (with_first (attempt_with event) list) ≡ attempt_events list ++ event ∷ []) ⊎ (attempt_events (with_first (attempt_with event) list) ≡ attempt_events list)
events_next [] event = inr refl
events_next (attempt ∷ older) event = inl refl

covered_more : (streams : List ConfStream) (before : List Event) (event : Event) (state : LaneState) → GoesOn event → IsCovered streams before state → IsCovered streams (before ++ event ∷ []) state
covered_more streams before event state on is = subst (λ list. AllByRecursion (λ entry. covers state.lane entry.content.id ≡ true → IsCommitted streams (attempt_events list) entry) (entries state.before)) (sym (attempts-one before event ∙ on (attempts before))) (at (events_next (attempts before) event))
  where
    at : (attempt_events (with_first (attempt_with event) (attempts before)) ≡ attempt_events (attempts before) ++ event ∷ []) ⊎ (attempt_events (with_first (attempt_with event) (attempts before)) ≡ attempt_events (attempts before))
        → AllByRecursion (λ entry. covers state.lane entry.content.id ≡ true → IsCommitted streams (attempt_events (with_first (attempt_with event) (attempts before))) entry) (entries state.before)
    at (inl same) = all_weaker (λ entry. covers state.lane entry.content.id ≡ true → IsCommitted streams (attempt_events (attempts before)) entry) (λ entry. covers state.lane entry.content.id ≡ true → IsCommitted streams (attempt_events (with_first (attempt_with event) (attempts before))) entry) (entries state.before)
        (λ entry held covered. subst (λ events. IsCommitted streams events entry) (sym same) (committed_more streams (attempt_events (attempts before)) event entry (held covered))) is
    at (inr same) = subst (λ events. AllByRecursion (λ entry. covers state.lane entry.content.id ≡ true → IsCommitted streams events entry) (entries state.before)) (sym same) is

-- ---- what is taken by the link's own events is taken by all

leaves_whole : (read : Reading) (lane : Lane) (waiting : Waiting) (events : List Event) (left : Waiting) → LeavesAll read lane waiting (filter is_links events) left → LeavesAll read lane waiting events left
leaves_whole read lane waiting [] left leaves = leaves
leaves_whole read lane waiting ((Opened x y z) ∷ events) left leaves = (waiting, refl, leaves_whole read lane waiting events left leaves)
leaves_whole read lane waiting ((Took x) ∷ events) left leaves = (waiting, refl, leaves_whole read lane waiting events left leaves)
leaves_whole read lane waiting (TookEnd ∷ events) left leaves = (waiting, refl, leaves_whole read lane waiting events left leaves)
leaves_whole read lane waiting ((Committed x y) ∷ events) left leaves = (waiting, refl, leaves_whole read lane waiting events left leaves)
leaves_whole read lane waiting ((Emitted x) ∷ events) left leaves = (waiting, refl, leaves_whole read lane waiting events left leaves)
leaves_whole read lane waiting ((Merged x y z) ∷ events) left leaves = (waiting, refl, leaves_whole read lane waiting events left leaves)
leaves_whole read lane waiting ((Shown x y z) ∷ events) left leaves = (waiting, refl, leaves_whole read lane waiting events left leaves)
leaves_whole read lane waiting ((Started x) ∷ events) left (between, leaves, rest) = (between, leaves, leaves_whole read lane between events left rest)
leaves_whole read lane waiting ((ReadLine x) ∷ events) left (between, leaves, rest) = (between, leaves, leaves_whole read lane between events left rest)
leaves_whole read lane waiting (ReadEnd ∷ events) left (between, leaves, rest) = (between, leaves, leaves_whole read lane between events left rest)
leaves_whole read lane waiting ((Given x) ∷ events) left (between, leaves, rest) = (between, leaves, leaves_whole read lane between events left rest)
leaves_whole read lane waiting (Closed ∷ events) left (between, leaves, rest) = (between, leaves, leaves_whole read lane between events left rest)
leaves_whole read lane waiting ((Got x) ∷ events) left (between, leaves, rest) = (between, leaves, leaves_whole read lane between events left rest)
leaves_whole read lane waiting (GotEnd ∷ events) left (between, leaves, rest) = (between, leaves, leaves_whole read lane between events left rest)
leaves_whole read lane waiting ((Saved x) ∷ events) left (between, leaves, rest) = (between, leaves, leaves_whole read lane between events left rest)
leaves_whole read lane waiting ((Ended x) ∷ events) left (between, leaves, rest) = (between, leaves, leaves_whole read lane between events left rest)

takes_whole : (read : Reading) (own whole : List Event) (back taken : LaneState) → own ≡ filter is_links whole → TakesState read own back taken → TakesState read whole back taken
takes_whole read own whole back taken is takes =
    record { waiting = takes.waiting; waits = leaves_whole read back.lane none_given whole takes.waiting (subst (λ events. LeavesAll read back.lane none_given events takes.waiting) is takes.waits); rest = takes.rest; takes = takes.takes }

-- ---- what is owed is covered

none_some : {A : Type 0} {x : A} → None ≡ Some x → ⊥
none_some e = false≢true (ap is_some e)

abbrev pub Honored : List ConfStream → List Event → Option LaneState → Type 0
Honored streams before owed = (state : LaneState) → owed ≡ Some state → IsCovered streams before state

pub honored_more : (streams : List ConfStream) (before : List Event) (event : Event) (sync now : Sync) → GoesOn event → now.owed ≡ sync.owed → Honored streams before sync.owed → Honored streams (before ++ event ∷ []) now.owed
honored_more streams before event sync now on same honored state is = covered_more streams before event state on (honored state (sym same ∙ is))

pub nothing_owed : (streams : List ConfStream) (before : List Event) (now : Sync) → now.owed ≡ None → Honored streams before now.owed
nothing_owed streams before now none state is = absurd (none_some (sym none ∙ is))

pub owed_of : {x y : Sync} → x ≡ y → x.owed ≡ y.owed
owed_of e = ap (λ (it : Sync). it.owed) e

got_honored : (streams : List ConfStream) (read : Reading) (before : List Event) (text : List ℕ) (own : Running) (list : List Attempt) (owed : Option LaneState) → KnowsAttempt (Some own) list → Takes read own.events text owed
    → AllByRecursion (GotFits streams read (attempt_events list)) (states (line_read read text ∷ [])) → (state : LaneState) → owed ≡ Some state → AllByRecursion (λ entry. covers state.lane entry.content.id ≡ true → IsCommitted streams (attempt_events list) entry) (entries state.before)
got_honored streams read before text own [] owed knows takes fits state is = absurd knows
got_honored streams read before text own (attempt ∷ older) None knows takes fits state is = absurd (none_some is)
got_honored streams read before text own (attempt ∷ older) (Some taken) knows (back, are, takes) fits state is =
    let same : taken ≡ state = cc in
    subst (λ (it : LaneState). AllByRecursion (λ entry. covers it.lane entry.content.id ≡ true → IsCommitted streams attempt.events entry) (entries it.before)) same
    ((subst (AllByRecursion (GotFits streams read attempt.events)) are fits).0 taken (takes_whole read own.events attempt.events back taken knows takes))

-- ---- each step

pub saves_safe : (streams : List ConfStream) (read : Reading) (before : List Event) (sync : Sync) (text : List ℕ) (now : Sync) → Honored streams before sync.owed → Saves streams read (IsAsked streams nothing before) sync text now → Saves streams read (IsCovered streams before) sync text now
saves_safe streams read before sync text now honored saves = record { set = saves.set; text_is = saves.text_is; by = by saves.by; is = saves.is }
  where
    by : ((gens : List Gen) × Begins streams sync.set gens saves.set) ⊎ Puts streams read (IsAsked streams nothing before) sync saves.set → ((gens : List Gen) × Begins streams sync.set gens saves.set) ⊎ Puts streams read (IsCovered streams before) sync saves.set
    by (inl begins) = inl begins
    by (inr puts) = inr (record { attempt = puts.attempt; in_attempt = puts.in_attempt; state = puts.state; owed = puts.owed; passed_on = puts.passed_on; kept = puts.kept; put = puts.put; beside = honored puts.state puts.owed })

pub got_next : (streams : List ConfStream) (read : Reading) (before : List Event) (text : List ℕ) (sync now : Sync) (own : Option Running) → KnowsAttempt own (attempts before) → InAttempt own (Gets read sync text now) → AddedFits streams read before (Got text) → Honored streams (before ++ Got text ∷ []) now.owed
got_next streams read before text sync now None knows gets fits state is = absurd gets
got_next streams read before text sync now (Some own) knows gets fits state is =
    covered_more streams before (Got text) state (λ list. refl) (got_honored streams read before text own (attempts before) gets.1.owed knows gets.1.takes fits state (sym (owed_of gets.1.is) ∙ is))

pub honored_step : (streams : List ConfStream) (read : Reading) (before : List Event) (sync : Sync) (event : Event) (now : Sync) → Knows sync before → Honored streams before sync.owed → AddedFits streams read before event → Step streams read (IsAsked streams nothing before) sync event now → Honored streams (before ++ event ∷ []) now.owed
honored_step streams read before sync (Opened x y z) now knows honored fits step = honored_more streams before (Opened x y z) sync now (λ list. refl) (owed_of step) honored
honored_step streams read before sync (Took x) now knows honored fits step = honored_more streams before (Took x) sync now (λ list. refl) (owed_of step) honored
honored_step streams read before sync TookEnd now knows honored fits step = honored_more streams before TookEnd sync now (λ list. refl) (owed_of step) honored
honored_step streams read before sync (Committed x y) now knows honored fits step = honored_more streams before (Committed x y) sync now (λ list. refl) (owed_of step) honored
honored_step streams read before sync (Emitted x) now knows honored fits step = honored_more streams before (Emitted x) sync now (λ list. refl) (owed_of step) honored
honored_step streams read before sync (Merged x y z) now knows honored fits step = honored_more streams before (Merged x y z) sync now (λ list. refl) (owed_of step) honored
honored_step streams read before sync (Shown x y z) now knows honored fits step = honored_more streams before (Shown x y z) sync now (λ list. refl) (owed_of step) honored
honored_step streams read before sync (Started x) now knows honored fits step = nothing_owed streams (before ++ (Started x) ∷ []) now (owed_of step.1)
honored_step streams read before sync (ReadLine x) now knows honored fits step = honored_more streams before (ReadLine x) sync now (λ list. refl) (owed_of step.1) honored
honored_step streams read before sync ReadEnd now knows honored fits step = honored_more streams before ReadEnd sync now (λ list. refl) (owed_of step.1) honored
honored_step streams read before sync (Given x) now knows honored fits step = honored_more streams before (Given x) sync now (λ list. refl) (owed_of step.1) honored
honored_step streams read before sync Closed now knows honored fits step = honored_more streams before Closed sync now (λ list. refl) (owed_of step.1) honored
honored_step streams read before sync (Got x) now knows honored fits step = got_next streams read before x sync now sync.attempt knows step fits
honored_step streams read before sync GotEnd now knows honored fits step = honored_more streams before GotEnd sync now (λ list. refl) (owed_of step.1) honored
honored_step streams read before sync (Saved x) now knows honored fits step = nothing_owed streams (before ++ (Saved x) ∷ []) now (owed_of step.is)
honored_step streams read before sync (Ended x) now knows honored fits step = honored_more streams before (Ended x) sync now (λ list. refl) (owed_of step.1) honored

pub step_safe : (streams : List ConfStream) (read : Reading) (before : List Event) (sync : Sync) (event : Event) (now : Sync) → Honored streams before sync.owed → Step streams read (IsAsked streams nothing before) sync event now → Step streams read (IsAsked streams commits before) sync event now
step_safe streams read before sync (Opened x y z) now honored step = step
step_safe streams read before sync (Took x) now honored step = step
step_safe streams read before sync TookEnd now honored step = step
step_safe streams read before sync (Committed x y) now honored step = step
step_safe streams read before sync (Emitted x) now honored step = step
step_safe streams read before sync (Merged x y z) now honored step = step
step_safe streams read before sync (Shown x y z) now honored step = step
step_safe streams read before sync (Started x) now honored step = step
step_safe streams read before sync (ReadLine x) now honored step = step
step_safe streams read before sync ReadEnd now honored step = step
step_safe streams read before sync (Given x) now honored step = step
step_safe streams read before sync Closed now honored step = step
step_safe streams read before sync (Got x) now honored step = step
step_safe streams read before sync GotEnd now honored step = step
step_safe streams read before sync (Saved x) now honored step = saves_safe streams read before sync x now honored step
step_safe streams read before sync (Ended x) now honored step = step

safe_on : (streams : List ConfStream) (read : Reading) (before more : List Event) (sync now : Sync) → Knows sync before → Honored streams before sync.owed → Goes streams read nothing before sync more now → EachFits (AddedFits streams read) before more → Goes streams read commits before sync more now
safe_on streams read before [] sync now knows honored goes fits = goes
safe_on streams read before (event ∷ more) sync now knows honored (middle, step, rest) fits = (
  middle,
  step_safe streams read before sync event middle honored step,
  safe_on streams read (before ++ event ∷ []) more middle now (knows_step streams read (IsAsked streams nothing before) before sync event middle knows step) (honored_step streams read before sync event middle knows honored fits.0 step) rest fits.1,
)

pub honest_is_safe : HonestIsSafe
honest_is_safe streams read before more sync now knows none goes honest = safe_on streams read before more sync now knows (nothing_owed streams before sync none) goes honest
