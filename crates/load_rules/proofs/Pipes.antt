-- What a safe load echoed, and the one load of an attempt.
use Rattle.std.proofs.Common.{arith, ◌≡◌, ◌⊎◌, inl, inr, ℕ, List, [], ◌∷◌, ◌++◌, length, Some, true, false, cond, refl, sym, ◌∙◌, ap, subst, append_assoc}
use Rattle.std.specs.Prelude.{filter_map, fold, slice_get}
use Rattle.std.specs.List.{AllByRecursion}
use Rattle.std.proofs.lemmas.List.{append-nil}
use Rattle.std.proofs.lemmas.List.Elements.{filter_map-append, filter-append}
use Rattle.std.proofs.lemmas.Bool.{cases_Bool, false≢true, or_left}
use Rattle.std.proofs.lemmas.Option.{slice_get_past}
use Rattle.outside.specs.Event.{is_links, took_in, emitted_in, given_in}
use Rattle.outside.specs.declared.event.Event.{Event}
use Rattle.outside.specs.declared.event.Event.TheVariants.{Opened, Took, TookEnd, Committed, Emitted, Merged, Shown, Started, ReadLine, ReadEnd, Given, Closed, Got, GotEnd, Saved, Ended}
use Rattle.outside.specs.declared.event.StreamPlan.{StreamPlan}
use Rattle.outside.specs.Dock.{is_opening}
use Rattle.catalog.specs.declared.stream.ConfStream.{ConfStream}
use Rattle.airbyte_message.specs.Lanes.{Lane}
use Rattle.airbyte_message.specs.Echo.{IsEcho}
use Rattle.load_rules.specs.Prefixes.{EachFits, IsPrefix}
use Rattle.load_rules.specs.Lines.{Line, Reading, lines_read, state_in}
use Rattle.load_rules.specs.Taken.{LaneState, state_of, states, of_lane, is_same_lane, covered, count_of, is_in}
use Rattle.load_rules.specs.Loads.{Opening, Load, loads, loads_after, with_event, store_events, tooks}
use Rattle.load_rules.specs.Acts.{Act, Takes, Ends, Commits, Echoes, Turns, IsAct, AreActs, taken, committed, echoed, state_echoed}
use Rattle.load_rules.specs.SafeDest.{Fits}
use Rattle.load_rules.specs.Attempts.{gives, emits}
use Rattle.load_rules.specs.Engine.{OpensFirst, HasOpened}
use Rattle.load_rules.specs.Laws.{PipeFits}
use Rattle.load_rules.proofs.Machines.{taken-more, committed-more, echoed-more, states-one, is_in-append, lane_is, lane_own}
use Rattle.load_rules.proofs.SafeRuns.{slice_get-behind}
use Rattle.load_rules.proofs.LoadFronts.{goes_on}
use Rattle.load_rules.proofs.SafeAttempts.{loads_link, loads_own, store_link, store_own, none_opened}

-- The states of a lane that were echoed are its first, and what they cover is committed.
pub record EchoesStand (acts : List Act) (lane : Lane) : Type 0 where
  pub prefix : IsPrefix (echoed lane acts) (of_lane lane (states (taken acts)))
  pub done : AllByRecursion (λ state. AllByRecursion (λ seq. is_in seq (committed acts) ≡ true) (covered state)) (echoed lane acts)

in_more : (acts : List Act) (act : Act) (seq : ℕ) → is_in seq (committed acts) ≡ true → is_in seq (committed (acts ++ act ∷ [])) ≡ true
in_more acts act seq e = ap (is_in seq) (committed-more acts act) ∙ (is_in-append seq (committed acts) (committed (act ∷ [])) ∙ or_left (is_in seq (committed acts)) (is_in seq (committed (act ∷ []))) e)

seqs_more : (acts : List Act) (act : Act) (list : List ℕ) → AllByRecursion (λ seq. is_in seq (committed acts) ≡ true) list → AllByRecursion (λ seq. is_in seq (committed (acts ++ act ∷ [])) ≡ true) list
seqs_more acts act [] all = tt
seqs_more acts act (seq ∷ more) all = (in_more acts act seq all.0, seqs_more acts act more all.1)

done_more : (acts : List Act) (act : Act) (list : List LaneState) → AllByRecursion (λ state. AllByRecursion (λ seq. is_in seq (committed acts) ≡ true) (covered state)) list → AllByRecursion (λ state. AllByRecursion (λ seq. is_in seq (committed (acts ++ act ∷ [])) ≡ true) (covered state)) list
done_more acts act [] all = tt
done_more acts act (state ∷ more) all = (seqs_more acts act (covered state) all.0, done_more acts act more all.1)

all_two : {A : Type 0} (P : A → Type 0) (xs : List A) (x : A) → AllByRecursion P xs → P x → AllByRecursion P (xs ++ x ∷ [])
all_two P [] x all now = (now, tt)
all_two P (y ∷ ys) x all now = (all.0, all_two P ys x all.1 now)

stand_quiet : (acts : List Act) (act : Act) (lane : Lane) → taken (acts ++ act ∷ []) ≡ taken acts → echoed lane (acts ++ act ∷ []) ≡ echoed lane acts → EchoesStand acts lane → EchoesStand (acts ++ act ∷ []) lane
stand_quiet acts act lane same_taken same_echoed s = record {
  prefix = subst (λ front. IsPrefix front (of_lane lane (states (taken (acts ++ act ∷ []))))) (sym same_echoed) (subst (λ lines. IsPrefix (echoed lane acts) (of_lane lane (states lines))) (sym same_taken) s.prefix);
  done = subst (AllByRecursion (λ state. AllByRecursion (λ seq. is_in seq (committed (acts ++ act ∷ [])) ≡ true) (covered state))) (sym same_echoed) (done_more acts act (echoed lane acts) s.done);
}

stand_taken : (acts : List Act) (line : Line) (lane : Lane) → EchoesStand acts lane → EchoesStand (acts ++ Takes line ∷ []) lane
stand_taken acts line lane s =
    let more = state_of (taken acts) (state_in line.found)
    in let same_echoed = echoed-more lane acts (Takes line) ∙ append-nil (echoed lane acts)
    in record {
      prefix = subst (λ front. IsPrefix front (of_lane lane (states (taken (acts ++ Takes line ∷ []))))) (sym same_echoed) (s.prefix.0 ++ of_lane lane more, ap (λ lines. of_lane lane (states lines)) (taken-more acts (Takes line)) ∙ (ap (of_lane lane) (states-one (taken acts) line) ∙ (filter-append (λ state. is_same_lane lane state.lane) (states (taken acts)) more ∙ (ap (λ list. list ++ of_lane lane more) s.prefix.1 ∙ append_assoc (echoed lane acts) s.prefix.0 (of_lane lane more)))));
      done = subst (AllByRecursion (λ state. AllByRecursion (λ seq. is_in seq (committed (acts ++ Takes line ∷ [])) ≡ true) (covered state))) (sym same_echoed) (done_more acts (Takes line) (echoed lane acts) s.done);
    }

next_is : (front rest whole : List LaneState) (state : LaneState) → whole ≡ front ++ rest → slice_get whole (length front) ≡ Some state → IsPrefix (front ++ state ∷ []) whole
next_is front [] whole state is next =
    let none = ap (λ list. slice_get list (length front)) (is ∙ append-nil front) ∙ slice_get_past front (length front) (omega arith)
    in absurd (grind (arith, none, next))
next_is front (first ∷ rest) whole state is next =
    let here = ap (λ list. slice_get list (length front)) is ∙ slice_get-behind front first rest
    in let same : first ≡ state = grind (arith, here, next)
    in (rest, is ∙ (ap (λ it. front ++ it ∷ rest) same ∙ sym (append_assoc front (state ∷ []) rest)))

stand_echo : (acts : List Act) (state : LaneState) (lane : Lane) → slice_get (of_lane state.lane (states (taken acts))) (length (echoed state.lane acts)) ≡ Some state → AllByRecursion (λ seq. is_in seq (committed acts) ≡ true) (covered state) → EchoesStand acts lane → EchoesStand (acts ++ Echoes state ∷ []) lane
stand_echo acts state lane next all s = at (cases_Bool (is_same_lane lane state.lane))
  where
    own : lane ≡ state.lane → EchoesStand (acts ++ Echoes state ∷ []) state.lane
    own is =
        let old = subst (EchoesStand acts) is s
        in let grown = echoed-more state.lane acts (Echoes state) ∙ ap (λ b. echoed state.lane acts ++ cond b (state ∷ []) []) (lane_own state.lane)
        in let same_taken = taken-more acts (Echoes state) ∙ append-nil (taken acts)
        in record {
          prefix = subst (λ front. IsPrefix front (of_lane state.lane (states (taken (acts ++ Echoes state ∷ []))))) (sym grown) (subst (λ lines. IsPrefix (echoed state.lane acts ++ state ∷ []) (of_lane state.lane (states lines))) (sym same_taken) (next_is (echoed state.lane acts) old.prefix.0 (of_lane state.lane (states (taken acts))) state old.prefix.1 next));
          done = subst (AllByRecursion (λ it. AllByRecursion (λ seq. is_in seq (committed (acts ++ Echoes state ∷ [])) ≡ true) (covered it))) (sym grown) (all_two (λ it. AllByRecursion (λ seq. is_in seq (committed (acts ++ Echoes state ∷ [])) ≡ true) (covered it)) (echoed state.lane acts) state (done_more acts (Echoes state) (echoed state.lane acts) old.done) (seqs_more acts (Echoes state) (covered state) all));
        }

    at : (is_same_lane lane state.lane ≡ true) ⊎ (is_same_lane lane state.lane ≡ false) → EchoesStand (acts ++ Echoes state ∷ []) lane
    at (inl same) = subst (EchoesStand (acts ++ Echoes state ∷ [])) (sym (lane_is lane state.lane same)) (own (lane_is lane state.lane same))
    at (inr other) = stand_quiet acts (Echoes state) lane (taken-more acts (Echoes state) ∙ append-nil (taken acts)) (echoed-more lane acts (Echoes state) ∙ (ap (λ b. echoed lane acts ++ cond b (state ∷ []) []) other ∙ append-nil (echoed lane acts))) s

stand_act : (streams : List ConfStream) (opening : Opening) (acts : List Act) (act : Act) (lane : Lane) → Fits streams opening acts act → EchoesStand acts lane → EchoesStand (acts ++ act ∷ []) lane
stand_act streams opening acts (Takes line) lane fits s = stand_taken acts line lane s
stand_act streams opening acts Ends lane fits s = stand_quiet acts Ends lane (taken-more acts Ends ∙ append-nil (taken acts)) (echoed-more lane acts Ends ∙ append-nil (echoed lane acts)) s
stand_act streams opening acts (Commits number rows) lane fits s = stand_quiet acts (Commits number rows) lane (taken-more acts (Commits number rows) ∙ append-nil (taken acts)) (echoed-more lane acts (Commits number rows) ∙ append-nil (echoed lane acts)) s
stand_act streams opening acts (Echoes state) lane fits s = stand_echo acts state lane fits.next fits.committed_are s
stand_act streams opening acts Turns lane fits s = stand_quiet acts Turns lane (taken-more acts Turns ∙ append-nil (taken acts)) (echoed-more lane acts Turns ∙ append-nil (echoed lane acts)) s

stand_all : (streams : List ConfStream) (opening : Opening) (before acts : List Act) (lane : Lane) → EachFits (Fits streams opening) before acts → EchoesStand before lane → EchoesStand (before ++ acts) lane
stand_all streams opening before [] lane each s = subst (λ list. EchoesStand list lane) (sym (append-nil before)) s
stand_all streams opening before (act ∷ acts) lane each s = subst (λ list. EchoesStand list lane) (append_assoc before (act ∷ []) acts) (stand_all streams opening (before ++ act ∷ []) acts lane each.1 (stand_act streams opening before act lane each.0 s))

pub echoes_stand : (streams : List ConfStream) (opening : Opening) (acts : List Act) (lane : Lane) → EachFits (Fits streams opening) [] acts → EchoesStand acts lane
echoes_stand streams opening acts lane each = stand_all streams opening [] acts lane each (record { prefix = ([], refl); done = tt })

-- The lines of a load's acts

-- each text is the echo of the state beside it
abbrev pub AreEchoes : List LaneState → List (List ℕ) → Type 0
AreEchoes [] [] = Unit {0}
AreEchoes (state ∷ states) (text ∷ texts) = IsEcho state.state.object (count_of state) text × AreEchoes states texts
AreEchoes [] (text ∷ texts) = ⊥
AreEchoes (state ∷ states) [] = ⊥

pub acts_echoes : (read : Reading) (acts : List Act) (events : List Event) → AreActs read acts events → AreEchoes (filter_map state_echoed acts) (emits events)
acts_echoes read [] [] are = tt
acts_echoes read [] (event ∷ events) are = absurd are
acts_echoes read (act ∷ acts) [] are = absurd are
acts_echoes read (act ∷ acts) (event ∷ events) are = one_echo act event are.0 (acts_echoes read acts events are.1)
  where
    one_echo : (act : Act) (event : Event) → IsAct read act event → AreEchoes (filter_map state_echoed acts) (emits events) → AreEchoes (filter_map state_echoed (act ∷ acts)) (emits (event ∷ events))
    one_echo (Takes line) (Opened x y z) is rest = absurd is
    one_echo (Takes line) (Took x) is rest = rest
    one_echo (Takes line) TookEnd is rest = absurd is
    one_echo (Takes line) (Committed x y) is rest = absurd is
    one_echo (Takes line) (Emitted x) is rest = absurd is
    one_echo (Takes line) (Merged x y z) is rest = absurd is
    one_echo (Takes line) (Shown x y z) is rest = absurd is
    one_echo (Takes line) (Started x) is rest = absurd is
    one_echo (Takes line) (ReadLine x) is rest = absurd is
    one_echo (Takes line) ReadEnd is rest = absurd is
    one_echo (Takes line) (Given x) is rest = absurd is
    one_echo (Takes line) Closed is rest = absurd is
    one_echo (Takes line) (Got x) is rest = absurd is
    one_echo (Takes line) GotEnd is rest = absurd is
    one_echo (Takes line) (Saved x) is rest = absurd is
    one_echo (Takes line) (Ended x) is rest = absurd is
    one_echo Ends (Opened x y z) is rest = absurd is
    one_echo Ends (Took x) is rest = absurd is
    one_echo Ends TookEnd is rest = rest
    one_echo Ends (Committed x y) is rest = absurd is
    one_echo Ends (Emitted x) is rest = absurd is
    one_echo Ends (Merged x y z) is rest = absurd is
    one_echo Ends (Shown x y z) is rest = absurd is
    one_echo Ends (Started x) is rest = absurd is
    one_echo Ends (ReadLine x) is rest = absurd is
    one_echo Ends ReadEnd is rest = absurd is
    one_echo Ends (Given x) is rest = absurd is
    one_echo Ends Closed is rest = absurd is
    one_echo Ends (Got x) is rest = absurd is
    one_echo Ends GotEnd is rest = absurd is
    one_echo Ends (Saved x) is rest = absurd is
    one_echo Ends (Ended x) is rest = absurd is
    one_echo (Commits number rows) (Opened x y z) is rest = absurd is
    one_echo (Commits number rows) (Took x) is rest = absurd is
    one_echo (Commits number rows) TookEnd is rest = absurd is
    one_echo (Commits number rows) (Committed x y) is rest = rest
    one_echo (Commits number rows) (Emitted x) is rest = absurd is
    one_echo (Commits number rows) (Merged x y z) is rest = absurd is
    one_echo (Commits number rows) (Shown x y z) is rest = absurd is
    one_echo (Commits number rows) (Started x) is rest = absurd is
    one_echo (Commits number rows) (ReadLine x) is rest = absurd is
    one_echo (Commits number rows) ReadEnd is rest = absurd is
    one_echo (Commits number rows) (Given x) is rest = absurd is
    one_echo (Commits number rows) Closed is rest = absurd is
    one_echo (Commits number rows) (Got x) is rest = absurd is
    one_echo (Commits number rows) GotEnd is rest = absurd is
    one_echo (Commits number rows) (Saved x) is rest = absurd is
    one_echo (Commits number rows) (Ended x) is rest = absurd is
    one_echo (Echoes state) (Opened x y z) is rest = absurd is
    one_echo (Echoes state) (Took x) is rest = absurd is
    one_echo (Echoes state) TookEnd is rest = absurd is
    one_echo (Echoes state) (Committed x y) is rest = absurd is
    one_echo (Echoes state) (Emitted x) is rest = (is, rest)
    one_echo (Echoes state) (Merged x y z) is rest = absurd is
    one_echo (Echoes state) (Shown x y z) is rest = absurd is
    one_echo (Echoes state) (Started x) is rest = absurd is
    one_echo (Echoes state) (ReadLine x) is rest = absurd is
    one_echo (Echoes state) ReadEnd is rest = absurd is
    one_echo (Echoes state) (Given x) is rest = absurd is
    one_echo (Echoes state) Closed is rest = absurd is
    one_echo (Echoes state) (Got x) is rest = absurd is
    one_echo (Echoes state) GotEnd is rest = absurd is
    one_echo (Echoes state) (Saved x) is rest = absurd is
    one_echo (Echoes state) (Ended x) is rest = absurd is
    one_echo Turns (Opened x y z) is rest = absurd is
    one_echo Turns (Took x) is rest = absurd is
    one_echo Turns TookEnd is rest = absurd is
    one_echo Turns (Committed x y) is rest = absurd is
    one_echo Turns (Emitted x) is rest = absurd is
    one_echo Turns (Merged x y z) is rest = rest
    one_echo Turns (Shown x y z) is rest = rest
    one_echo Turns (Started x) is rest = absurd is
    one_echo Turns (ReadLine x) is rest = absurd is
    one_echo Turns ReadEnd is rest = absurd is
    one_echo Turns (Given x) is rest = absurd is
    one_echo Turns Closed is rest = absurd is
    one_echo Turns (Got x) is rest = absurd is
    one_echo Turns GotEnd is rest = absurd is
    one_echo Turns (Saved x) is rest = absurd is
    one_echo Turns (Ended x) is rest = absurd is

pub acts_taken : (read : Reading) (acts : List Act) (events : List Event) → AreActs read acts events → taken acts ≡ lines_read read (tooks events)
acts_taken read [] [] are = refl
acts_taken read [] (event ∷ events) are = absurd are
acts_taken read (act ∷ acts) [] are = absurd are
acts_taken read (act ∷ acts) (event ∷ events) are = one_taken act event are.0 (acts_taken read acts events are.1)
  where
    one_taken : (act : Act) (event : Event) → IsAct read act event → taken acts ≡ lines_read read (tooks events) → taken (act ∷ acts) ≡ lines_read read (tooks (event ∷ events))
    one_taken (Takes line) (Opened x y z) is rest = absurd is
    one_taken (Takes line) (Took x) is rest = rw (is, rest) refl
    one_taken (Takes line) TookEnd is rest = absurd is
    one_taken (Takes line) (Committed x y) is rest = absurd is
    one_taken (Takes line) (Emitted x) is rest = absurd is
    one_taken (Takes line) (Merged x y z) is rest = absurd is
    one_taken (Takes line) (Shown x y z) is rest = absurd is
    one_taken (Takes line) (Started x) is rest = absurd is
    one_taken (Takes line) (ReadLine x) is rest = absurd is
    one_taken (Takes line) ReadEnd is rest = absurd is
    one_taken (Takes line) (Given x) is rest = absurd is
    one_taken (Takes line) Closed is rest = absurd is
    one_taken (Takes line) (Got x) is rest = absurd is
    one_taken (Takes line) GotEnd is rest = absurd is
    one_taken (Takes line) (Saved x) is rest = absurd is
    one_taken (Takes line) (Ended x) is rest = absurd is
    one_taken Ends (Opened x y z) is rest = absurd is
    one_taken Ends (Took x) is rest = absurd is
    one_taken Ends TookEnd is rest = rest
    one_taken Ends (Committed x y) is rest = absurd is
    one_taken Ends (Emitted x) is rest = absurd is
    one_taken Ends (Merged x y z) is rest = absurd is
    one_taken Ends (Shown x y z) is rest = absurd is
    one_taken Ends (Started x) is rest = absurd is
    one_taken Ends (ReadLine x) is rest = absurd is
    one_taken Ends ReadEnd is rest = absurd is
    one_taken Ends (Given x) is rest = absurd is
    one_taken Ends Closed is rest = absurd is
    one_taken Ends (Got x) is rest = absurd is
    one_taken Ends GotEnd is rest = absurd is
    one_taken Ends (Saved x) is rest = absurd is
    one_taken Ends (Ended x) is rest = absurd is
    one_taken (Commits number rows) (Opened x y z) is rest = absurd is
    one_taken (Commits number rows) (Took x) is rest = absurd is
    one_taken (Commits number rows) TookEnd is rest = absurd is
    one_taken (Commits number rows) (Committed x y) is rest = rest
    one_taken (Commits number rows) (Emitted x) is rest = absurd is
    one_taken (Commits number rows) (Merged x y z) is rest = absurd is
    one_taken (Commits number rows) (Shown x y z) is rest = absurd is
    one_taken (Commits number rows) (Started x) is rest = absurd is
    one_taken (Commits number rows) (ReadLine x) is rest = absurd is
    one_taken (Commits number rows) ReadEnd is rest = absurd is
    one_taken (Commits number rows) (Given x) is rest = absurd is
    one_taken (Commits number rows) Closed is rest = absurd is
    one_taken (Commits number rows) (Got x) is rest = absurd is
    one_taken (Commits number rows) GotEnd is rest = absurd is
    one_taken (Commits number rows) (Saved x) is rest = absurd is
    one_taken (Commits number rows) (Ended x) is rest = absurd is
    one_taken (Echoes state) (Opened x y z) is rest = absurd is
    one_taken (Echoes state) (Took x) is rest = absurd is
    one_taken (Echoes state) TookEnd is rest = absurd is
    one_taken (Echoes state) (Committed x y) is rest = absurd is
    one_taken (Echoes state) (Emitted x) is rest = rest
    one_taken (Echoes state) (Merged x y z) is rest = absurd is
    one_taken (Echoes state) (Shown x y z) is rest = absurd is
    one_taken (Echoes state) (Started x) is rest = absurd is
    one_taken (Echoes state) (ReadLine x) is rest = absurd is
    one_taken (Echoes state) ReadEnd is rest = absurd is
    one_taken (Echoes state) (Given x) is rest = absurd is
    one_taken (Echoes state) Closed is rest = absurd is
    one_taken (Echoes state) (Got x) is rest = absurd is
    one_taken (Echoes state) GotEnd is rest = absurd is
    one_taken (Echoes state) (Saved x) is rest = absurd is
    one_taken (Echoes state) (Ended x) is rest = absurd is
    one_taken Turns (Opened x y z) is rest = absurd is
    one_taken Turns (Took x) is rest = absurd is
    one_taken Turns TookEnd is rest = absurd is
    one_taken Turns (Committed x y) is rest = absurd is
    one_taken Turns (Emitted x) is rest = absurd is
    one_taken Turns (Merged x y z) is rest = rest
    one_taken Turns (Shown x y z) is rest = rest
    one_taken Turns (Started x) is rest = absurd is
    one_taken Turns (ReadLine x) is rest = absurd is
    one_taken Turns ReadEnd is rest = absurd is
    one_taken Turns (Given x) is rest = absurd is
    one_taken Turns Closed is rest = absurd is
    one_taken Turns (Got x) is rest = absurd is
    one_taken Turns GotEnd is rest = absurd is
    one_taken Turns (Saved x) is rest = absurd is
    one_taken Turns (Ended x) is rest = absurd is

-- The one load of an attempt

pub record OneLoad (events : List Event) : Type 0 where
  pub load : Load
  pub own : loads events ≡ load ∷ []
  pub tooks_are : tooks events ≡ tooks load.events
  pub emits_are : emits events ≡ emits load.events

pub record NoLoad (events : List Event) : Type 0 where
  pub stored : store_events events ≡ []
  pub emits_none : emits events ≡ []
  pub tooks_none : tooks events ≡ []

abbrev pub MayLoad : List Event → Type 0
MayLoad events = NoLoad events ⊎ OneLoad events

tooks-more : (events : List Event) (event : Event) → tooks (events ++ event ∷ []) ≡ tooks events ++ tooks (event ∷ [])
tooks-more events event = filter_map-append took_in events (event ∷ [])

emits-more : (events : List Event) (event : Event) → emits (events ++ event ∷ []) ≡ emits events ++ emits (event ∷ [])
emits-more events event = filter_map-append emitted_in events (event ∷ [])

gives-more : (events : List Event) (event : Event) → gives (events ++ event ∷ []) ≡ gives events ++ gives (event ∷ [])
gives-more events event = filter_map-append given_in events (event ∷ [])

load_link : (events : List Event) (event : Event) → is_links event ≡ true → tooks (event ∷ []) ≡ [] → emits (event ∷ []) ≡ [] → MayLoad events → MayLoad (events ++ event ∷ [])
load_link events event is no_took no_emit (inl none) = inl (record { stored = store_link events event is ∙ none.stored; emits_none = emits-more events event ∙ (ap (λ list. emits events ++ list) no_emit ∙ (append-nil (emits events) ∙ none.emits_none)); tooks_none = tooks-more events event ∙ (ap (λ list. tooks events ++ list) no_took ∙ (append-nil (tooks events) ∙ none.tooks_none)) })
load_link events event is no_took no_emit (inr loaded) = inr (record { load = loaded.load; own = loads_link events event is ∙ loaded.own; tooks_are = tooks-more events event ∙ (ap (λ list. tooks events ++ list) no_took ∙ (append-nil (tooks events) ∙ loaded.tooks_are)); emits_are = emits-more events event ∙ (ap (λ list. emits events ++ list) no_emit ∙ (append-nil (emits events) ∙ loaded.emits_are)) })

load_store : (events : List Event) (event : Event) → is_links event ≡ false → is_opening event ≡ false → HasOpened events → MayLoad events → MayLoad (events ++ event ∷ [])
load_store events event is other opened (inl none) = absurd (false≢true (sym (none_opened events none.stored) ∙ opened))
load_store events event is other opened (inr loaded) = inr (record {
  load = with_event event loaded.load;
  own = loads_own events event is ∙ (ap (λ list. loads_after list event) loaded.own ∙ goes_on (loaded.load ∷ []) event other);
  tooks_are = tooks-more events event ∙ (ap (λ list. list ++ tooks (event ∷ [])) loaded.tooks_are ∙ sym (tooks-more loaded.load.events event));
  emits_are = emits-more events event ∙ (ap (λ list. list ++ emits (event ∷ [])) loaded.emits_are ∙ sym (emits-more loaded.load.events event));
})

load_opened : (events : List Event) (x y : ℕ) (z : List StreamPlan) → store_events events ≡ [] → MayLoad events → MayLoad (events ++ Opened x y z ∷ [])
load_opened events x y z none (inl nothing) = inr (record { load = record { opening = record { load = x; moment = y; plan = z }; events = [] }; own = ap (fold loads_after []) (store_own events (Opened x y z) refl ∙ ap (λ list. list ++ Opened x y z ∷ []) none); tooks_are = tooks-more events (Opened x y z) ∙ (append-nil (tooks events) ∙ nothing.tooks_none); emits_are = emits-more events (Opened x y z) ∙ (append-nil (emits events) ∙ nothing.emits_none) })
load_opened events x y z none (inr loaded) = absurd (grind (arith, sym (ap (fold loads_after []) none) ∙ loaded.own))

load_step : (events : List Event) (event : Event) → OpensFirst events event → MayLoad events → MayLoad (events ++ event ∷ [])
load_step events (Opened x y z) opens may = load_opened events x y z opens may
load_step events (Took x) opens may = load_store events (Took x) refl refl (opens refl) may
load_step events TookEnd opens may = load_store events TookEnd refl refl (opens refl) may
load_step events (Committed x y) opens may = load_store events (Committed x y) refl refl (opens refl) may
load_step events (Emitted x) opens may = load_store events (Emitted x) refl refl (opens refl) may
load_step events (Merged x y z) opens may = load_store events (Merged x y z) refl refl (opens refl) may
load_step events (Shown x y z) opens may = load_store events (Shown x y z) refl refl (opens refl) may
load_step events (Started x) opens may = load_link events (Started x) refl refl refl may
load_step events (ReadLine x) opens may = load_link events (ReadLine x) refl refl refl may
load_step events ReadEnd opens may = load_link events ReadEnd refl refl refl may
load_step events (Given x) opens may = load_link events (Given x) refl refl refl may
load_step events Closed opens may = load_link events Closed refl refl refl may
load_step events (Got x) opens may = load_link events (Got x) refl refl refl may
load_step events GotEnd opens may = load_link events GotEnd refl refl refl may
load_step events (Saved x) opens may = load_link events (Saved x) refl refl refl may
load_step events (Ended x) opens may = load_link events (Ended x) refl refl refl may

load_from : (before events : List Event) → EachFits OpensFirst before events → MayLoad before → MayLoad (before ++ events)
load_from before [] each may = subst MayLoad (sym (append-nil before)) may
load_from before (event ∷ events) each may = subst MayLoad (append_assoc before (event ∷ []) events) (load_from (before ++ event ∷ []) events each.1 (load_step before event each.0 may))

pub may_load : (events : List Event) → EachFits OpensFirst [] events → MayLoad events
may_load events each = load_from [] events each (inl (record { stored = refl; emits_none = refl; tooks_none = refl }))

-- What was taken was given

abbrev HasGiven : Reading → List Event → Type 0
HasGiven read events = IsPrefix (filter_map read (tooks events)) (filter_map read (gives events))

given_quiet : (read : Reading) (before : List Event) (event : Event) → tooks (event ∷ []) ≡ [] → gives (event ∷ []) ≡ [] → HasGiven read before → HasGiven read (before ++ event ∷ [])
given_quiet read before event no_took no_given prefix =
    let took = tooks-more before event ∙ (ap (λ more. tooks before ++ more) no_took ∙ append-nil (tooks before)) in
    let given = gives-more before event ∙ (ap (λ more. gives before ++ more) no_given ∙ append-nil (gives before)) in
    subst (λ list. IsPrefix (filter_map read list) (filter_map read (gives (before ++ event ∷ [])))) (sym took) (subst (λ list. IsPrefix (filter_map read (tooks before)) (filter_map read list)) (sym given) prefix)

given_step : (read : Reading) (before : List Event) (event : Event) → PipeFits read before event → HasGiven read before → HasGiven read (before ++ event ∷ [])
given_step read before (Took x) fits prefix =
    subst (λ list. IsPrefix (filter_map read list) (filter_map read (gives (before ++ Took x ∷ [])))) (sym (tooks-more before (Took x))) (subst (λ list. IsPrefix (filter_map read (tooks before ++ x ∷ [])) (filter_map read list)) (sym (gives-more before (Took x) ∙ append-nil (gives before))) fits)
given_step read before (Given x) fits prefix =
    subst (λ list. IsPrefix (filter_map read list) (filter_map read (gives (before ++ Given x ∷ [])))) (sym (tooks-more before (Given x) ∙ append-nil (tooks before)))
    (prefix.0 ++ filter_map read (x ∷ []), ap (filter_map read) (gives-more before (Given x)) ∙ (filter_map-append read (gives before) (x ∷ []) ∙ (ap (λ list. list ++ filter_map read (x ∷ [])) prefix.1 ∙ append_assoc (filter_map read (tooks before)) prefix.0 (filter_map read (x ∷ [])))))
given_step read before (Opened x y z) fits prefix = given_quiet read before (Opened x y z) refl refl prefix
given_step read before TookEnd fits prefix = given_quiet read before TookEnd refl refl prefix
given_step read before (Committed x y) fits prefix = given_quiet read before (Committed x y) refl refl prefix
given_step read before (Emitted x) fits prefix = given_quiet read before (Emitted x) refl refl prefix
given_step read before (Merged x y z) fits prefix = given_quiet read before (Merged x y z) refl refl prefix
given_step read before (Shown x y z) fits prefix = given_quiet read before (Shown x y z) refl refl prefix
given_step read before (Started x) fits prefix = given_quiet read before (Started x) refl refl prefix
given_step read before (ReadLine x) fits prefix = given_quiet read before (ReadLine x) refl refl prefix
given_step read before ReadEnd fits prefix = given_quiet read before ReadEnd refl refl prefix
given_step read before Closed fits prefix = given_quiet read before Closed refl refl prefix
given_step read before (Got x) fits prefix = given_quiet read before (Got x) refl refl prefix
given_step read before GotEnd fits prefix = given_quiet read before GotEnd refl refl prefix
given_step read before (Saved x) fits prefix = given_quiet read before (Saved x) refl refl prefix
given_step read before (Ended x) fits prefix = given_quiet read before (Ended x) refl refl prefix

given_from : (read : Reading) (before events : List Event) → EachFits (PipeFits read) before events → HasGiven read before → HasGiven read (before ++ events)
given_from read before [] each prefix = subst (HasGiven read) (sym (append-nil before)) prefix
given_from read before (event ∷ events) each prefix = subst (HasGiven read) (append_assoc before (event ∷ []) events) (given_from read (before ++ event ∷ []) events each.1 (given_step read before event each.0 prefix))

pub taken_given : (read : Reading) (events : List Event) → EachFits (PipeFits read) [] events → IsPrefix (filter_map read (tooks events)) (filter_map read (gives events))
taken_given read events each = given_from read [] events each ([], refl)
