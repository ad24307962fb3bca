-- The states that an attempt's sets take rise within each lane.
use Rattle.std.proofs.Common.{◌≡◌, ◌⊎◌, inl, inr, ℕ, List, [], ◌∷◌, ◌++◌, Option, None, Some, Bool, true, false, cond, refl, sym, ◌∙◌, ap, subst, append_assoc, append-nil}
use Rattle.std.specs.Prelude.{Ok, filter, option_map, Contains, ◌||◌}
use Rattle.std.specs.List.{AllByRecursion, list_any}
use Rattle.std.proofs.lemmas.Bool.{false≢true}
use Rattle.std.proofs.lemmas.List.Elements.{filter-append}
use Rattle.outside.specs.Event.{is_links, saved_in}
use Rattle.outside.specs.declared.event.Event.{Event}
use Rattle.outside.specs.declared.event.Event.TheVariants.{Opened, Took, TookEnd, Committed, Emitted, Merged, Shown, Started, ReadLine, ReadEnd, Given, Closed, Got, GotEnd, Saved, Ended}
use Rattle.airbyte_message.specs.Lanes.{Lane}
use Rattle.airbyte_message.specs.State.{State}
use Rattle.catalog.specs.Reading.{ids_of}
use Rattle.catalog.specs.declared.stream.ConfStream.{ConfStream}
use Rattle.catalog.specs.declared.stream.Gen.{Gen}
use Rattle.load_rules.specs.Lines.{Reading, line_read, state_in}
use Rattle.load_rules.specs.Taken.{LaneState, is_same_lane, of_lane, state_of, states}
use Rattle.load_rules.specs.Attempts.{Waiting, none_given, StateLeaves, LineLeaves, Leaves, LeavesAll, TakesState, passed}
use Rattle.load_rules.specs.Laws.{is_started}
use Rattle.load_rules.proofs.Machines.{lane_is}
use Rattle.load_rules.proofs.TakenLists.{all_append, all_weaker}
use Rattle.state_kinds.specs.Saved.{Saved as Set}
use Rattle.state_kinds.specs.Changes.{put_into}
use Rattle.sync_rules.specs.Generations.{Begins}
use Rattle.sync_rules.specs.Sync.{Running, Sync, no_sync, Takes, and_event, got}
use Rattle.sync_rules.specs.Steps.{Saves, Puts, Gets, InAttempt}
use Rattle.sync_rules.specs.SafeSync.{Asked, Goes, Leads, IsAsked}
use Rattle.sync_rules.proofs.KindLemmas.{some_is, some_none}
use Rattle.sync_rules.proofs.Rising.{taken_rise}
use Rattle.sync_rules.proofs.StoreLemmas.{store_holds}
use Rattle.sync_rules.proofs.Ways.{ways_part}
use Rattle.replay_rules.specs.Saves.{Asking, SavesFit, IsBehind, rising}
use Rattle.replay_rules.specs.Laws.{SavesFrom, SavedRise}
use Rattle.replay_rules.proofs.StepKinds.{StepKind, Stores, Starting, Saving, Getting, Acting, kind_of}
use Rattle.replay_rules.proofs.Lines.{passed_links}

-- ---- what waits in a lane is of that lane

abbrev pub AreOf : Lane → List LaneState → Type 0
AreOf lane list = AllByRecursion (λ state. is_same_lane lane state.lane ≡ true) list

pub filter_all : {A : Type 0} (test : A → Bool) (xs : List A) → AllByRecursion (λ x. test x ≡ true) (filter test xs)
filter_all test [] = tt
filter_all test (x ∷ xs) = at (test x) refl (filter_all test xs)
  where
    at : (b : Bool) → test x ≡ b → AllByRecursion (λ y. test y ≡ true) (filter test xs) → AllByRecursion (λ y. test y ≡ true) (cond b (x ∷ filter test xs) (filter test xs))
    at true is rest = (is, rest)
    at false is rest = rest

pub all_behind : {A : Type 0} (P : A → Type 0) (xs ys : List A) → AllByRecursion P (xs ++ ys) → AllByRecursion P ys
all_behind P [] ys all = all
all_behind P (x ∷ xs) ys all = all_behind P xs ys all.1

state_leaves_of : (lane : Lane) (waiting : List LaneState) (got : State) (left : List LaneState) → StateLeaves waiting got left → AreOf lane waiting → AreOf lane left
state_leaves_of lane waiting got left (inl none) are = subst (AreOf lane) (sym none.1) are
state_leaves_of lane waiting got left (inr (first, takes)) are = (all_behind (λ state. is_same_lane lane state.lane ≡ true) takes.over (first ∷ left) (subst (AreOf lane) takes.splits are)).1

line_leaves_of : (lane : Lane) (waiting list left : List LaneState) → LineLeaves waiting list left → AreOf lane waiting → AreOf lane left
line_leaves_of lane waiting [] left leaves are = subst (AreOf lane) (sym leaves) are
line_leaves_of lane waiting (back ∷ more) left (between, leaves, rest) are = line_leaves_of lane between more left rest (state_leaves_of lane waiting back.state between leaves are)

leaves_of : (read : Reading) (lane : Lane) (waiting : Waiting) (event : Event) (left : Waiting) → Leaves read lane waiting event left → AreOf lane waiting.states → AreOf lane left.states
leaves_of read lane waiting (Opened x y z) left leaves are = subst (λ (it : Waiting). AreOf lane it.states) (sym leaves) are
leaves_of read lane waiting (Took x) left leaves are = subst (λ (it : Waiting). AreOf lane it.states) (sym leaves) are
leaves_of read lane waiting TookEnd left leaves are = subst (λ (it : Waiting). AreOf lane it.states) (sym leaves) are
leaves_of read lane waiting (Committed x y) left leaves are = subst (λ (it : Waiting). AreOf lane it.states) (sym leaves) are
leaves_of read lane waiting (Emitted x) left leaves are = subst (λ (it : Waiting). AreOf lane it.states) (sym leaves) are
leaves_of read lane waiting (Merged x y z) left leaves are = subst (λ (it : Waiting). AreOf lane it.states) (sym leaves) are
leaves_of read lane waiting (Shown x y z) left leaves are = subst (λ (it : Waiting). AreOf lane it.states) (sym leaves) are
leaves_of read lane waiting (Started x) left leaves are = subst (λ (it : Waiting). AreOf lane it.states) (sym leaves) are
leaves_of read lane waiting (ReadLine x) left leaves are = subst (λ (it : Waiting). AreOf lane it.states) (sym leaves) are
leaves_of read lane waiting ReadEnd left leaves are = subst (λ (it : Waiting). AreOf lane it.states) (sym leaves) are
leaves_of read lane waiting (Given x) left leaves are = subst (λ (it : Waiting). AreOf lane it.states) (sym leaves) (all_append (λ state. is_same_lane lane state.lane ≡ true) waiting.states (of_lane lane (state_of waiting.given (state_in (line_read read x).found))) are (filter_all (λ state. is_same_lane lane state.lane) (state_of waiting.given (state_in (line_read read x).found))))
leaves_of read lane waiting Closed left leaves are = subst (λ (it : Waiting). AreOf lane it.states) (sym leaves) are
leaves_of read lane waiting (Got x) left leaves are = line_leaves_of lane waiting.states (of_lane lane (states (line_read read x ∷ []))) left.states leaves.1 are
leaves_of read lane waiting GotEnd left leaves are = subst (λ (it : Waiting). AreOf lane it.states) (sym leaves) are
leaves_of read lane waiting (Saved x) left leaves are = subst (λ (it : Waiting). AreOf lane it.states) (sym leaves) are
leaves_of read lane waiting (Ended x) left leaves are = subst (λ (it : Waiting). AreOf lane it.states) (sym leaves) are

leaves_all_of : (read : Reading) (lane : Lane) (waiting : Waiting) (events : List Event) (left : Waiting) → LeavesAll read lane waiting events left → AreOf lane waiting.states → AreOf lane left.states
leaves_all_of read lane waiting [] left leaves are = subst (λ (it : Waiting). AreOf lane it.states) (sym leaves) are
leaves_all_of read lane waiting (event ∷ events) left (between, leaves, rest) are = leaves_all_of read lane between events left rest (leaves_of read lane waiting event between leaves are)

-- a state is taken by one of its lane
taken_lane : (read : Reading) (events : List Event) (back taken : LaneState) → TakesState read events back taken → taken.lane ≡ back.lane
taken_lane read events back taken takes =
    let are = leaves_all_of read back.lane none_given events takes.waiting takes.waits tt in
    sym (lane_is back.lane taken.lane (all_behind (λ state. is_same_lane back.lane state.lane ≡ true) takes.takes.over (taken ∷ takes.rest) (subst (AreOf back.lane) takes.takes.splits are)).0)

-- ---- what an attempt's sets took

-- a line that came back within these events took the state
pub record WasTaken (read : Reading) (events : List Event) (state : LaneState) : Type 0 where
  pub front : List Event
  pub text : List ℕ
  pub back : List Event
  pub splits : events ≡ front ++ Got text ∷ back
  pub took : Takes read front text (Some state)

taken_more : (read : Reading) (events more : List Event) (state : LaneState) → WasTaken read events state → WasTaken read (events ++ more) state
taken_more read events more state was = record { front = was.front; text = was.text; back = was.back ++ more; splits = ap (λ list. list ++ more) was.splits ∙ append_assoc was.front (Got was.text ∷ was.back) more; took = was.took }

-- what is owed was taken behind all that was put
pub record OwedLast (read : Reading) (events : List Event) (taken : List LaneState) (state : LaneState) : Type 0 where
  pub front : List Event
  pub text : List ℕ
  pub back : List Event
  pub splits : events ≡ front ++ Got text ∷ back
  pub took : Takes read front text (Some state)
  pub earlier : AllByRecursion (WasTaken read front) taken

pub record Rises (read : Reading) (events : List Event) (owed : Option LaneState) (taken : List LaneState) : Type 0 where
  pub all : AllByRecursion (WasTaken read events) taken
  pub last : (state : LaneState) → owed ≡ Some state → OwedLast read events taken state

rises_more : (read : Reading) (events : List Event) (event : Event) (owed : Option LaneState) (taken : List LaneState) → Rises read events owed taken → Rises read (events ++ event ∷ []) owed taken
rises_more read events event owed taken rises = record {
  all = all_weaker (WasTaken read events) (WasTaken read (events ++ event ∷ [])) taken (λ state was. taken_more read events (event ∷ []) state was) rises.all;
  last = λ state is. (let last = rises.last state is in record {
    front = last.front;
    text = last.text;
    back = last.back ++ event ∷ [];
    splits = ap (λ list. list ++ event ∷ []) last.splits ∙ append_assoc last.front (Got last.text ∷ last.back) (event ∷ []);
    took = last.took;
    earlier = last.earlier;
  });
}

rises_got : (read : Reading) (events : List Event) (text : List ℕ) (owed : Option LaneState) (taken : List LaneState) → Takes read events text owed → AllByRecursion (WasTaken read events) taken → Rises read (events ++ Got text ∷ []) owed taken
rises_got read events text owed taken takes all = record {
  all = all_weaker (WasTaken read events) (WasTaken read (events ++ Got text ∷ [])) taken (λ state was. taken_more read events (Got text ∷ []) state was) all;
  last = λ state is. record { front = events; text = text; back = []; splits = refl; took = subst (Takes read events text) is takes; earlier = all };
}

-- each that was taken before is behind no other
behind_one : (read : Reading) (front : List Event) (text : List ℕ) (state other : LaneState) → Takes read front text (Some state) → WasTaken read front other → IsBehind state other
behind_one read front text state other (back, told, takes) was same =
    let first = was.took in
    let lane : state.lane ≡ other.lane = lane_is state.lane other.lane same in
    taken_rise read was.front was.back was.text first.0 back other state first.1
    (sym (taken_lane read front back state takes) ∙ (lane ∙ taken_lane read was.front first.0 other first.2))
    first.2
    (subst (λ events. TakesState read events back state) was.splits takes)

all_behind_it : (read : Reading) (events : List Event) (taken : List LaneState) (state : LaneState) → OwedLast read events taken state → AllByRecursion (IsBehind state) taken
all_behind_it read events taken state last = all_weaker (WasTaken read last.front) (IsBehind state) taken (λ other was. behind_one read last.front last.text state other last.took was) last.earlier

-- ---- along the attempt

-- an event that saves nothing is passed over
skips : (streams : List ConfStream) (read : Reading) (asked : Asking) (taken : List LaneState) (held : Set) (before : List Event) (event : Event) (events : List Event) → saved_in event ≡ None → SavesFit streams read asked taken held (before ++ event ∷ []) events → SavesFit streams read asked taken held before (event ∷ events)
skips streams read asked taken held before (Opened x y z) events none fits = fits
skips streams read asked taken held before (Took x) events none fits = fits
skips streams read asked taken held before TookEnd events none fits = fits
skips streams read asked taken held before (Committed x y) events none fits = fits
skips streams read asked taken held before (Emitted x) events none fits = fits
skips streams read asked taken held before (Merged x y z) events none fits = fits
skips streams read asked taken held before (Shown x y z) events none fits = fits
skips streams read asked taken held before (Started x) events none fits = fits
skips streams read asked taken held before (ReadLine x) events none fits = fits
skips streams read asked taken held before ReadEnd events none fits = fits
skips streams read asked taken held before (Given x) events none fits = fits
skips streams read asked taken held before Closed events none fits = fits
skips streams read asked taken held before (Got x) events none fits = fits
skips streams read asked taken held before GotEnd events none fits = fits
skips streams read asked taken held before (Saved x) events none fits = absurd (some_none none)
skips streams read asked taken held before (Ended x) events none fits = fits

saved_not : (event : Event) → is_links event ≡ false → saved_in event ≡ None
saved_not (Opened x y z) is = refl
saved_not (Took x) is = refl
saved_not TookEnd is = refl
saved_not (Committed x y) is = refl
saved_not (Emitted x) is = refl
saved_not (Merged x y z) is = refl
saved_not (Shown x y z) is = refl
saved_not (Started x) is = absurd (false≢true (sym is))
saved_not (ReadLine x) is = absurd (false≢true (sym is))
saved_not ReadEnd is = absurd (false≢true (sym is))
saved_not (Given x) is = absurd (false≢true (sym is))
saved_not Closed is = absurd (false≢true (sym is))
saved_not (Got x) is = absurd (false≢true (sym is))
saved_not GotEnd is = absurd (false≢true (sym is))
saved_not (Saved x) is = absurd (false≢true (sym is))
saved_not (Ended x) is = absurd (false≢true (sym is))

none_first : (a b : Bool) → (a || b) ≡ false → a ≡ false
none_first true b is = is
none_first false b is = refl

none_rest : (a b : Bool) → (a || b) ≡ false → b ≡ false
none_rest true b is = absurd (false≢true (sym is))
none_rest false b is = is

-- What is threaded along the attempt beside: the trace, the attempt's events, what is to come, and the attempt as the sync knows it.
abbrev pub Threading : Type 1
Threading = List Event → List Event → List Event → Running → Type 0

-- it goes on by each event, and what is asked of a state that is put follows from it
abbrev pub GoesWith : Threading → Type 0
GoesWith Q = (whole before : List Event) (event : Event) (rest : List Event) (own next : Running) → next.start ≡ own.start → Q whole before (event ∷ rest) own → Q (whole ++ event ∷ []) (before ++ event ∷ []) rest next

-- the attempt of the sync has done the link's events among these
abbrev pub IsRunning : Sync → List Event → Running → Type 0
IsRunning sync before own = (sync.attempt ≡ Some own) × (own.events ≡ filter is_links before)

abbrev pub PutsAs : List ConfStream → Reading → Asked → Threading → Asking → Type 0
PutsAs streams read asked Q asking =
    (whole before rest : List Event) (sync : Sync) (own : Running) (taken : List LaneState) (set : Set) → Q whole before rest own → IsRunning sync before own → Rises read own.events sync.owed taken
    → (put : Puts streams read (IsAsked streams asked whole) sync set) → asking taken set before put.state

module _ (streams : List ConfStream) (read : Reading) (asked : Asked) (asking : Asking) (Q : Threading) (goes_with : GoesWith Q) (puts_as : PutsAs streams read asked Q asking) where
  in_attempt : (own : Option Running) (running : Running) (is : Running → Type 0) → own ≡ Some running → InAttempt own is → is running
  in_attempt None running is same fits = absurd (some_none (sym same))
  in_attempt (Some own) running is same fits = subst is (some_is same) fits.1

  links_more : (before : List Event) (event : Event) → is_links event ≡ true → filter is_links before ++ event ∷ [] ≡ filter is_links (before ++ event ∷ [])
  links_more before event is = sym (filter-append is_links before (event ∷ []) ∙ ap (λ b. filter is_links before ++ cond b (event ∷ []) []) is)

  store_more : (before : List Event) (event : Event) → is_links event ≡ false → filter is_links before ≡ filter is_links (before ++ event ∷ [])
  store_more before event is = sym (filter-append is_links before (event ∷ []) ∙ (ap (λ b. filter is_links before ++ cond b (event ∷ []) []) is ∙ append-nil (filter is_links before)))

  running_on : (sync : Sync) (before : List Event) (own : Running) (event : Event) (now : Sync) → is_links event ≡ true → now.attempt ≡ option_map (and_event event) sync.attempt → IsRunning sync before own → IsRunning now (before ++ event ∷ []) (and_event event own)
  running_on sync before own event now is attempt_is runs = (attempt_is ∙ ap (option_map (and_event event)) runs.0, ap (λ list. list ++ event ∷ []) runs.1 ∙ links_more before event is)

  -- one event, where what comes behind it fits from wherever the attempt then stands
  module _ (whole before : List Event) (event : Event) (events : List Event) (sync middle : Sync) (own : Running) (taken : List LaneState)
      (first : is_started event ≡ false) (with : Q whole before (event ∷ events) own) (runs : IsRunning sync before own) (rises : Rises read own.events sync.owed taken)
      (onward : (next : Running) (taken : List LaneState) → next.start ≡ own.start → IsRunning middle (before ++ event ∷ []) next → Rises read next.events middle.owed taken → SavesFit streams read asking taken middle.set (before ++ event ∷ []) events) where
    skip : saved_in event ≡ None → middle.set ≡ sync.set → SavesFit streams read asking taken middle.set (before ++ event ∷ []) events → SavesFit streams read asking taken sync.set before (event ∷ events)
    skip quiet same fits = skips streams read asking taken sync.set before event events quiet (subst (λ set. SavesFit streams read asking taken set (before ++ event ∷ []) events) same fits)

    puts : (text : List ℕ) → event ≡ Saved text → (saves : Saves streams read (IsAsked streams asked whole) sync text middle) → SavesFit streams read asking taken sync.set before (event ∷ events)
    puts text is saves = subst (λ it. SavesFit streams read asking taken sync.set before (it ∷ events)) (sym is) (saves.set, saves.text_is, by saves.by)
      where
        set_is : middle.set ≡ saves.set
        set_is = ap (λ (it : Sync). it.set) saves.is

        runs_on : IsRunning middle (before ++ event ∷ []) (and_event event own)
        runs_on = running_on sync before own event middle (ap is_links is) (ap (λ (it : Sync). it.attempt) saves.is ∙ ap (λ it. option_map (and_event it) sync.attempt) (sym is)) runs

        owes_none : middle.owed ≡ None
        owes_none = ap (λ (it : Sync). it.owed) saves.is

        behind : (taken : List LaneState) → AllByRecursion (WasTaken read own.events) taken → SavesFit streams read asking taken saves.set (before ++ Saved text ∷ []) events
        behind taken all = subst (λ it. SavesFit streams read asking taken saves.set (before ++ it ∷ []) events) is (subst (λ set. SavesFit streams read asking taken set (before ++ event ∷ []) events) set_is (onward (and_event event own) taken refl runs_on (record {
          all = all_weaker (WasTaken read own.events) (WasTaken read (own.events ++ event ∷ [])) taken (λ state was. taken_more read own.events (event ∷ []) state was) all;
          last = λ state owed. absurd (some_none (sym owed ∙ owes_none));
        })))

        by : ((gens : List Gen) × Begins streams sync.set gens saves.set) ⊎ Puts streams read (IsAsked streams asked whole) sync saves.set
            → ((gens : List Gen) × Begins streams sync.set gens saves.set × SavesFit streams read asking taken saves.set (before ++ Saved text ∷ []) events)
            ⊎ ((state : LaneState) × Contains (states (passed (ids_of streams) read before)) state × (put_into state.state sync.set ≡ Ok saves.set) × asking taken saves.set before state × SavesFit streams read asking (taken ++ state ∷ []) saves.set (before ++ Saved text ∷ []) events)
        by (inl begins) = inl (begins.0, begins.1, behind taken rises.all)
        by (inr put) =
            let last = rises.last put.state put.owed in
            inr (
              put.state,
              subst (λ lines. Contains (states lines) put.state) (ap (λ (it : Running). passed (ids_of streams) read it.events) (some_is (sym put.in_attempt ∙ runs.0)) ∙ (ap (passed (ids_of streams) read) runs.1 ∙ passed_links (ids_of streams) read before)) put.passed_on,
              put.put,
              puts_as whole before (event ∷ events) sync own taken saves.set with runs rises put,
              behind (taken ++ put.state ∷ []) (all_append (WasTaken read own.events) taken (put.state ∷ []) rises.all (record { front = last.front; text = last.text; back = last.back; splits = last.splits; took = last.took }, tt)),
            )

    gets : (text : List ℕ) → event ≡ Got text → Gets read sync text middle own → SavesFit streams read asking taken sync.set before (event ∷ events)
    gets text is fits =
        let attempt_is : middle.attempt ≡ option_map (and_event event) sync.attempt = ap (λ (it : Sync). it.attempt) fits.is ∙ ap (λ it. option_map (and_event it) sync.attempt) (sym is) in
        skip (ap saved_in is) (ap (λ (it : Sync). it.set) fits.is)
        (onward (and_event event own) taken refl (running_on sync before own event middle (ap is_links is) attempt_is runs)
        (subst (λ owed. Rises read (own.events ++ event ∷ []) owed taken) (sym (ap (λ (it : Sync). it.owed) fits.is)) (subst (λ it. Rises read (own.events ++ it ∷ []) fits.owed taken) (sym is) (rises_got read own.events text fits.owed taken fits.takes rises.all))))

    fits_step : StepKind streams read (IsAsked streams asked whole) sync event middle → SavesFit streams read asking taken sync.set before (event ∷ events)
    fits_step (Stores store started_not same) =
        skip (saved_not event store) (ap (λ (it : Sync). it.set) same)
        (onward own taken refl (ap (λ (it : Sync). it.attempt) same ∙ runs.0, runs.1 ∙ store_more before event store) (subst (λ (it : Sync). Rises read own.events it.owed taken) (sym same) rises))
    fits_step (Starting plan is starts same) = absurd (false≢true (sym first ∙ ap is_started is))
    fits_step (Saving text is saves) = puts text is saves
    fits_step (Getting text is fits) = gets text is (in_attempt sync.attempt own (Gets read sync text middle) runs.0 fits)
    fits_step (Acting link started_not no_got quiet same) =
        skip quiet (ap (λ (it : Sync). it.set) same)
        (onward (and_event event own) taken refl (running_on sync before own event middle link (ap (λ (it : Sync). it.attempt) same) runs) (subst (λ owed. Rises read (own.events ++ event ∷ []) owed taken) (sym (ap (λ (it : Sync). it.owed) same)) (rises_more read own.events event sync.owed taken rises)))

  pub fits_along : (whole before events : List Event) (sync now : Sync) (own : Running) (taken : List LaneState) → list_any is_started events ≡ false → Q whole before events own → IsRunning sync before own → Rises read own.events sync.owed taken → Goes streams read asked whole sync events now → SavesFit streams read asking taken sync.set before events
  fits_along whole before [] sync now own taken none with runs rises goes = tt
  fits_along whole before (event ∷ events) sync now own taken none with runs rises (middle, step, rest) =
      fits_step whole before event events sync middle own taken (none_first (is_started event) (list_any is_started events) none) with runs rises
      (λ next more same runs_on rises_on. fits_along (whole ++ event ∷ []) (before ++ event ∷ []) events middle now next more (none_rest (is_started event) (list_any is_started events) none) (goes_with whole before event events own next same with) runs_on rises_on rest)
      (kind_of streams read (IsAsked streams asked whole) sync event middle step)

pub none_put : (read : Reading) (events : List Event) (owed : Option LaneState) → owed ≡ None → Rises read events owed []
none_put read events owed none = record { all = tt; last = λ state is. absurd (some_none (sym is ∙ none)) }

pub saved_rise : SavedRise
saved_rise streams read asked front plan events now none leads =
    let parted = ways_part streams read asked [] front (Started plan ∷ events) no_sync now leads in
    at parted.between parted.first parted.then
  where
    at : (between : Sync) → Leads streams read asked front between → Goes streams read asked front between (Started plan ∷ events) now → SavesFrom front (λ held. SavesFit streams read rising [] held [] events)
    at between first (middle, step, rest) = record {
      held = between.set;
      stored_is = store_holds streams read asked front between first;
      fits = subst (λ set. SavesFit streams read rising [] set [] events) (ap (λ (it : Sync). it.set) step.1)
          (fits_along streams read asked rising (λ whole before rest own. Unit {0}) (λ whole before event rest own next same with. tt)
          (λ whole before rest sync own taken set with runs rises put. all_behind_it read own.events taken put.state (rises.last put.state put.owed))
          (front ++ Started plan ∷ []) [] events middle now (record { start = between.set; events = [] }) [] none tt (ap (λ (it : Sync). it.attempt) step.1, refl)
          (none_put read [] middle.owed (ap (λ (it : Sync). it.owed) step.1)) rest);
    }
