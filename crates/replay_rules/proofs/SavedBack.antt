-- Each body before the place of a saved state is committed.
use Rattle.std.proofs.Common.{arith, ◌≡◌, ◌⊎◌, inl, inr, ℕ, ◌+◌, ◌-◌, ◌<◌, ◌≤◌, List, [], ◌∷◌, ◌++◌, slice_get, Some, true, refl, sym, ◌∙◌, ap, subst}
use Rattle.std.specs.Prelude.{Ok, fold, not}
use Rattle.std.specs.List.{AllByRecursion}
use Rattle.basics.specs.declared.stream.StreamId.{StreamId}
use Rattle.outside.specs.Event.{is_links}
use Rattle.outside.specs.declared.event.Event.{Event}
use Rattle.outside.specs.declared.event.Event.TheVariants.{Opened, Took, TookEnd, Committed, Emitted, Merged, Shown, Started, ReadLine, ReadEnd, Given, Closed, Got, GotEnd, Saved, Ended}
use Rattle.catalog.specs.Reading.{ids_of}
use Rattle.catalog.specs.declared.stream.ConfStream.{ConfStream}
use Rattle.dedup_merge.proofs.SameRowLemmas.{Has, has_from, has_to, has_passed}
use Rattle.load_rules.specs.Prefixes.{with_first}
use Rattle.load_rules.specs.Lines.{Reading, is_known}
use Rattle.load_rules.specs.Loads.{Load, loads, loads_after, with_event, store_events}
use Rattle.load_rules.specs.Attempts.{Attempt, attempts, attempts_after, attempt_with, passed}
use Rattle.state_kinds.specs.Saved.{Saved as Set}
use Rattle.sync_rules.specs.SafeSync.{commits}
use Rattle.sync_rules.proofs.Backs.{saved_reads_back}
use Rattle.sync_rules.proofs.KindLemmas.{all_has, has_parts, some_is}
use Rattle.replay_rules.specs.Sources.{Body, Source, lane_for, start_of, rest_of, body_told, bodies}
use Rattle.replay_rules.specs.Replayed.{IsReplayable}
use Rattle.replay_rules.specs.Laws.{IsBodyCommitted, SavedAreCommitted}
use Rattle.replay_rules.proofs.Attempts.{by_start}
use Rattle.replay_rules.proofs.Chain.{Chain, chain_of}
use Rattle.replay_rules.proofs.Committed.{Stands}
use Rattle.replay_rules.proofs.StepKinds.{goes_on}
use Rattle.replay_rules.proofs.Lines.{get_front, get_drop, nth_body}
use Rattle.replay_rules.proofs.Sets.{done, ok_is}

-- ---- the events of attempts and of loads are those of the trace

abbrev pub AreAll : (Event → Type 0) → List Event → Type 0
AreAll Q events = (event : Event) → Has event events → Q event

are_more : (Q : Event → Type 0) (events : List Event) (event : Event) → AreAll Q events → Q event → AreAll Q (events ++ event ∷ [])
are_more Q events event each own one has = on (has_parts one events (event ∷ []) has)
  where
    on : Has one events ⊎ Has one (event ∷ []) → Q one
    on (inl old) = each one old
    on (inr (inl same)) = subst Q same own
    on (inr (inr none)) = absurd none

abbrev pub EventsAre : (Event → Type 0) → Attempt → Type 0
EventsAre Q attempt = AreAll Q attempt.events

first_are : (Q : Event → Type 0) (list : List Attempt) (event : Event) → AllByRecursion (EventsAre Q) list → Q event → AllByRecursion (EventsAre Q) (with_first (attempt_with event) list)
first_are Q [] event each own = tt
first_are Q (attempt ∷ older) event each own = (are_more Q attempt.events event each.0 own, each.1)

none_are : (Q : Event → Type 0) → AreAll Q []
none_are Q event has = absurd has

one_are : (Q : Event → Type 0) (list : List Attempt) (event : Event) → AllByRecursion (EventsAre Q) list → Q event → AllByRecursion (EventsAre Q) (attempts_after list event)
one_are Q list event each own =
    by_start event (λ plan is. subst (λ it. AllByRecursion (EventsAre Q) (attempts_after list it)) (sym is) (none_are Q, each))
    (λ none. subst (AllByRecursion (EventsAre Q)) (sym (goes_on event list none)) (first_are Q list event each own))

pub attempts_are : (Q : Event → Type 0) (list : List Attempt) (events : List Event) → AllByRecursion (EventsAre Q) list → AreAll Q events → AllByRecursion (EventsAre Q) (fold attempts_after list events)
attempts_are Q list [] each all = each
attempts_are Q list (event ∷ events) each all = attempts_are Q (attempts_after list event) events (one_are Q list event each (all event (inl refl))) (λ one has. all one (inr has))

abbrev pub LoadIs : (Event → Type 0) → Load → Type 0
LoadIs Q load = AreAll Q load.events

first_load : (Q : Event → Type 0) (list : List Load) (event : Event) → AllByRecursion (LoadIs Q) list → Q event → AllByRecursion (LoadIs Q) (with_first (with_event event) list)
first_load Q [] event each own = tt
first_load Q (load ∷ older) event each own = (are_more Q load.events event each.0 own, each.1)

one_load : (Q : Event → Type 0) (list : List Load) (event : Event) → AllByRecursion (LoadIs Q) list → Q event → AllByRecursion (LoadIs Q) (loads_after list event)
one_load Q list (Opened x y z) each own = (none_are Q, each)
one_load Q list (Took x) each own = first_load Q list (Took x) each own
one_load Q list TookEnd each own = first_load Q list TookEnd each own
one_load Q list (Committed x y) each own = first_load Q list (Committed x y) each own
one_load Q list (Emitted x) each own = first_load Q list (Emitted x) each own
one_load Q list (Merged x y z) each own = first_load Q list (Merged x y z) each own
one_load Q list (Shown x y z) each own = first_load Q list (Shown x y z) each own
one_load Q list (Started x) each own = first_load Q list (Started x) each own
one_load Q list (ReadLine x) each own = first_load Q list (ReadLine x) each own
one_load Q list ReadEnd each own = first_load Q list ReadEnd each own
one_load Q list (Given x) each own = first_load Q list (Given x) each own
one_load Q list Closed each own = first_load Q list Closed each own
one_load Q list (Got x) each own = first_load Q list (Got x) each own
one_load Q list GotEnd each own = first_load Q list GotEnd each own
one_load Q list (Saved x) each own = first_load Q list (Saved x) each own
one_load Q list (Ended x) each own = first_load Q list (Ended x) each own

loads_are : (Q : Event → Type 0) (list : List Load) (events : List Event) → AllByRecursion (LoadIs Q) list → AreAll Q events → AllByRecursion (LoadIs Q) (fold loads_after list events)
loads_are Q list [] each all = each
loads_are Q list (event ∷ events) each all = loads_are Q (loads_after list event) events (one_load Q list event each (all event (inl refl))) (λ one has. all one (inr has))

pub in_load : (Q : Event → Type 0) (events : List Event) → AreAll Q events → AllByRecursion (LoadIs Q) (loads events)
in_load Q events all = loads_are Q [] (store_events events) tt (λ event has. all event (has_passed (λ it. not (is_links it)) event events has).0)

-- ---- the law

order : (a b : ℕ) → (a < b) ⊎ (b ≤ a)
order a b = grind arith

module _ (streams : List ConfStream) (read : Reading) (source : Source) (id : StreamId) (known : is_known (ids_of streams) id ≡ true) (trace : List Event) where
  body_stands : (attempt : Attempt) (set : Set) (place : ℕ) (body : Body) → AreAll (λ event. Has event trace) attempt.events
      → (rest : List Body) → rest_of source set id ≡ bodies (lane_for source id) (passed (ids_of streams) read attempt.events) ++ rest
      → start_of source set id ≤ place → slice_get (source.list (lane_for source id)) place ≡ Some body
      → Stands streams read (lane_for source id) attempt.events (place - start_of source set id) → IsBodyCommitted streams trace body
  body_stands attempt set place body events rest whole low is stands =
      let own = stands.committed in
      let load = all_has (LoadIs (λ event. Has event trace)) own.load (loads attempt.events) (in_load (λ event. Has event trace) attempt.events events) (has_from (loads attempt.events) own.load own.among) in
      record {
        entry = stands.entry;
        told = some_is (sym (get_front (bodies (lane_for source id) (passed (ids_of streams) read attempt.events)) rest (place - start_of source set id) (body_told stands.entry) (nth_body (lane_for source id) (passed (ids_of streams) read attempt.events) (place - start_of source set id) stands.entry stands.is))
            ∙ (ap (λ list. slice_get list (place - start_of source set id)) (sym whole) ∙ (get_drop (source.list (lane_for source id)) (start_of source set id) (place - start_of source set id) ∙ (ap (slice_get (source.list (lane_for source id))) from ∙ is))));
        opening = own.load.opening;
        number = own.stands.number;
        rows = own.stands.rows;
        commit = has_to trace (Committed own.stands.number own.stands.rows) (load (Committed own.stands.number own.stands.rows) (has_from own.load.events (Committed own.stands.number own.stands.rows) own.stands.commit));
        row = own.stands.row;
        among = own.stands.among;
        is = own.stands.is;
      }
    where
      from : start_of source set id + (place - start_of source set id) ≡ place
      from = omega (arith, low)

  body_back : (list : List Attempt) (next place : ℕ) (body : Body) → AllByRecursion (EventsAre (λ event. Has event trace)) list → AllByRecursion (IsReplayable (ids_of streams) read source) list
      → Chain streams read source id next list → place < next → slice_get (source.list (lane_for source id)) place ≡ Some body → IsBodyCommitted streams trace body
  body_back [] next place body events replayable chain high is = absurd (omega (arith, high, chain))
  body_back (attempt ∷ older) next place body events replayable (set, writable, states_are, covered, rest) high is = by (order place (start_of source set id)) (λ below. body_back older (start_of source set id) place body events.1 replayable.1 rest below is)
    where
      by : (place < start_of source set id) ⊎ (start_of source set id ≤ place) → (place < start_of source set id → IsBodyCommitted streams trace body) → IsBodyCommitted streams trace body
      by (inl below) deeper = deeper below
      by (inr low) deeper =
          let front = (replayable.0 set writable states_are).reads_on id known in
          body_stands attempt set place body events.0 front.0 front.1 low is (covered place low high)

pub saved_are_committed : SavedAreCommitted
saved_are_committed streams read source trace set right orderly sound reads id place body known below is =
    let leads = sound.safe.1 in
    let back = saved_reads_back streams read commits trace sound.safe.0 right orderly leads in
    let same : done set ≡ done sound.safe.0.set = back.reads.only (Ok set) reads in
    let chain = chain_of streams read source id trace sound.safe.0 orderly right sound.replayable leads in
    body_back streams read source id known trace (attempts trace) (start_of source sound.safe.0.set id) place body
    (attempts_are (λ event. Has event trace) [] trace tt (λ event has. has)) sound.replayable chain
    (subst (λ it. place < start_of source it id) (ok_is set sound.safe.0.set same) below) is
