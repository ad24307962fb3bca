-- The attempts of a sync of a source that can be replayed: each starts where the one before it left its saved state, and commits what
-- stands between.
use Rattle.std.proofs.Common.{arith, ◌≡◌, ◌⊎◌, inl, inr, ℕ, ◌-◌, ◌<◌, ◌≤◌, List, [], ◌∷◌, ◌++◌, length, slice_get, Option, None, Some, true, false, refl, sym, ◌∙◌, ap, subst, append_assoc, append-nil}
use Rattle.std.specs.Prelude.{Ok}
use Rattle.std.specs.List.{AllByRecursion}
use Rattle.std.proofs.lemmas.List.{length-map}
use Rattle.basics.specs.declared.stream.StreamId.{StreamId}
use Rattle.outside.specs.declared.event.Event.{Event}
use Rattle.airbyte_message.specs.Lanes.{Lane, one, all, lane_of}
use Rattle.catalog.specs.Reading.{ids_of}
use Rattle.catalog.specs.declared.stream.ConfStream.{ConfStream}
use Rattle.catalog.specs.declared.stream.Gen.{Gen}
use Rattle.dedup_merge.proofs.SameRowLemmas.{Has, has_from, has_passed}
use Rattle.load_rules.specs.Prefixes.{with_first}
use Rattle.load_rules.specs.Lines.{Reading, ReadsEvent, IsReading}
use Rattle.load_rules.specs.Taken.{Entry, entries, covers, LaneState, states, states_behind}
use Rattle.load_rules.specs.Attempts.{Attempt, attempts, attempts_after, attempt_with, attempt_events, passed}
use Rattle.load_rules.specs.Honest.{IsCommitted}
use Rattle.load_rules.specs.Laws.{is_started}
use Rattle.load_rules.proofs.TakenLists.{all_weaker, states-append}
use Rattle.state_kinds.specs.Saved.{Saved as Set, nothing_saved}
use Rattle.state_kinds.specs.Changes.{Given, given_of, begun, put_into}
use Rattle.state_kinds.specs.Texts.{states_text}
use Rattle.state_kinds.specs.Writable.{IsWritable}
use Rattle.sync_rules.specs.Generations.{Begins}
use Rattle.sync_rules.specs.Sync.{Running, Sync, no_sync}
use Rattle.sync_rules.specs.Steps.{Saves, Puts, Gets, InAttempt}
use Rattle.sync_rules.specs.SafeSync.{commits, Goes, Leads, IsCovered}
use Rattle.sync_rules.specs.Laws.{AreOrderly, Knows, KnowsAttempt}
use Rattle.sync_rules.proofs.Backs.{saved_reads_back}
use Rattle.sync_rules.proofs.Honest.{knows_step}
use Rattle.sync_rules.proofs.KindLemmas.{all_front, all_has, some_is, some_none}
use Rattle.sync_rules.proofs.Ways.{stays_safe}
use Rattle.replay_rules.specs.Sources.{Source, lane_for, place_of, held_in, start_of, body_told, bodies}
use Rattle.replay_rules.specs.Replayed.{IsPlaced, IsReplayable}
use Rattle.replay_rules.proofs.Attempts.{attempts-one, attempts-on, front_back}
use Rattle.replay_rules.proofs.Committed.{Stands, stands_on}
use Rattle.replay_rules.proofs.StepKinds.{StepKind, Stores, Starting, Saving, Getting, Acting, kind_of}
use Rattle.replay_rules.proofs.Lines.{At, at_of, get_has, lane_entries, nth_front, passed-append, passed_links, IsAmong, among}
use Rattle.replay_rules.proofs.Sets.{IsSameOrNone, begun_held, put_held}

-- what is needed of a replayable attempt while it goes on: where its states stand
abbrev pub IsPlacedIn : List StreamId → Reading → Source → Attempt → Type 0
IsPlacedIn ids read source attempt = (set : Set) → IsWritable set → attempt.plan.states ≡ states_text set ids → AllByRecursion (IsPlaced source set) (states (passed ids read attempt.events))

-- From the place of a saved state back: the attempts before, the last first. Each was started with a set; each body from its start up to
-- the place where it left its saved state is a record that it read and that stands committed in it.
abbrev pub Chain : List ConfStream → Reading → Source → StreamId → ℕ → List Attempt → Type 0
Chain streams read source id next [] = next ≡ 0
Chain streams read source id next (attempt ∷ older) =
    (set : Set) × IsWritable set × (attempt.plan.states ≡ states_text set (ids_of streams))
    × ((place : ℕ) → start_of source set id ≤ place → place < next → Stands streams read (lane_for source id) attempt.events (place - start_of source set id))
    × Chain streams read source id (start_of source set id) older

chain_on : (streams : List ConfStream) (read : Reading) (source : Source) (id : StreamId) (next : ℕ) (list : List Attempt) (event : Event) → Chain streams read source id next list → Chain streams read source id next (with_first (attempt_with event) list)
chain_on streams read source id next [] event chain = chain
chain_on streams read source id next (attempt ∷ older) event (set, writable, states_are, covered, rest) =
    (set, writable, states_are, (λ place low high. stands_on streams read (lane_for source id) attempt.events event (place - start_of source set id) (covered place low high)), rest)

chain_less : (streams : List ConfStream) (read : Reading) (source : Source) (id : StreamId) (next : ℕ) (list : List Attempt) → Chain streams read source id next list → Chain streams read source id 0 list
chain_less streams read source id next [] chain = refl
chain_less streams read source id next (attempt ∷ older) (set, writable, states_are, covered, rest) = (set, writable, states_are, (λ place low high. absurd (omega (arith, high))), rest)

-- a front of an attempt has its states where the attempt has
placed_back : (ids : List StreamId) (read : Reading) (source : Source) (attempt : Attempt) (event : Event) → is_started event ≡ false → IsPlacedIn ids read source (attempt_with event attempt) → IsPlacedIn ids read source attempt
placed_back ids read source attempt event none placed set writable states_are =
    let whole = ap states (passed-append ids read attempt.events (event ∷ [])) ∙ states-append [] (passed ids read attempt.events) (passed ids read (event ∷ [])) in
    all_front (IsPlaced source set) (states (passed ids read attempt.events)) (states_behind (passed ids read attempt.events) (passed ids read (event ∷ [])))
    (subst (AllByRecursion (IsPlaced source set)) whole (placed set writable states_are))

-- ---- a set is saved

module _ (streams : List ConfStream) (read : Reading) (source : Source) (id : StreamId) where
  chain_begun : (given : Given) (set : Set) (list : List Attempt) → Chain streams read source id (start_of source set id) list → Chain streams read source id (start_of source (begun given set) id) list
  chain_begun given set list chain = at (begun_held given set (lane_for source id))
    where
      at : IsSameOrNone (held_in set (lane_for source id)) (held_in (begun given set) (lane_for source id)) → Chain streams read source id (start_of source (begun given set) id) list
      at (inl none) = subst (λ next. Chain streams read source id next list) (sym (ap (place_of source) none)) (chain_less streams read source id (start_of source set id) list chain)
      at (inr same) = subst (λ next. Chain streams read source id next list) (sym (ap (place_of source) same)) chain

  -- the bodies up to the place of a state that is put are covered in the attempt
  covered_put : (attempt : Attempt) (set : Set) (state : LaneState) (place : ℕ) → IsPlaced source set state → state.lane ≡ lane_for source id → IsAmong (passed (ids_of streams) read attempt.events) state
      → AllByRecursion (λ entry. covers state.lane entry.content.id ≡ true → IsCommitted streams attempt.events entry) (entries state.before)
      → start_of source set id ≤ place → place < source.place state.state.object → Stands streams read (lane_for source id) attempt.events (place - start_of source set id)
  covered_put attempt set state place placed lane_is stands covered low high =
      found (at_of (lane_entries state.lane state.before) (place - start_of source set id) within)
    where
      start : place_of source (held_in set state.lane) ≡ start_of source set id
      start = ap (λ lane. place_of source (held_in set lane)) lane_is

      size : length (bodies state.lane state.before) ≡ length (lane_entries state.lane state.before)
      size = length-map (lane_entries state.lane state.before) body_told

      within : place - start_of source set id < length (lane_entries state.lane state.before)
      within = let most = placed.is in omega (arith, start, size, most, low, high)

      found : At (lane_entries state.lane state.before) (place - start_of source set id) → Stands streams read (lane_for source id) attempt.events (place - start_of source set id)
      found here =
          let there = has_passed (λ (entry : Entry). covers state.lane entry.content.id) here.item (entries state.before) (get_has (lane_entries state.lane state.before) (place - start_of source set id) here.item here.is) in
          record {
            entry = here.item;
            is = subst (λ lane. slice_get (lane_entries lane (passed (ids_of streams) read attempt.events)) (place - start_of source set id) ≡ Some here.item) lane_is
                (ap (λ lines. slice_get (lane_entries state.lane lines) (place - start_of source set id)) stands.splits ∙ nth_front state.lane state.before (stands.line ∷ stands.rest) (place - start_of source set id) here.item here.is);
            committed = all_has (λ entry. covers state.lane entry.content.id ≡ true → IsCommitted streams attempt.events entry) here.item (entries state.before) covered there.0 there.1;
          }

  chain_put_in : (attempt : Attempt) (older : List Attempt) (set now : Set) (state : LaneState) → IsPlacedIn (ids_of streams) read source attempt → Has state (states (passed (ids_of streams) read attempt.events))
      → AllByRecursion (λ entry. covers state.lane entry.content.id ≡ true → IsCommitted streams attempt.events entry) (entries state.before) → put_into state.state set ≡ Ok now
      → Chain streams read source id (start_of source set id) (attempt ∷ older) → Chain streams read source id (start_of source now id) (attempt ∷ older)
  chain_put_in attempt older set now state placed has covered put (own, writable, states_are, before, rest) = at (put_held state.state set now (lane_for source id) put).is
    where
      stands : IsAmong (passed (ids_of streams) read attempt.events) state
      stands = among [] (passed (ids_of streams) read attempt.events) state has

      at : (held_in now (lane_for source id) ≡ held_in set (lane_for source id)) ⊎ ((lane_of state.state.kind ≡ Some (lane_for source id)) × (held_in now (lane_for source id) ≡ Some state.state.object)) → Chain streams read source id (start_of source now id) (attempt ∷ older)
      at (inl same) = subst (λ next. Chain streams read source id next (attempt ∷ older)) (sym (ap (place_of source) same)) (own, writable, states_are, before, rest)
      at (inr new) =
          let lane_is : state.lane ≡ lane_for source id = some_is (sym stands.lane ∙ new.0) in
          subst (λ next. Chain streams read source id next (attempt ∷ older)) (sym (ap (place_of source) new.1))
          (own, writable, states_are, (λ place low high. covered_put attempt own state place (all_has (IsPlaced source own) state (states (passed (ids_of streams) read attempt.events)) (placed own writable states_are) has) lane_is stands covered low high), rest)

  chain_put : (list : List Attempt) (own : Running) (sync_own : Option Running) (set now : Set) (state : LaneState) → sync_own ≡ Some own → KnowsAttempt sync_own list → AllByRecursion (IsPlacedIn (ids_of streams) read source) list
      → Has state (states (passed (ids_of streams) read own.events))
      → AllByRecursion (λ entry. covers state.lane entry.content.id ≡ true → IsCommitted streams (attempt_events list) entry) (entries state.before) → put_into state.state set ≡ Ok now
      → Chain streams read source id (start_of source set id) list → Chain streams read source id (start_of source now id) list
  chain_put list own None set now state is knows placed has covered put chain = absurd (some_none (sym is))
  chain_put [] own (Some other) set now state is knows placed has covered put chain = absurd knows
  chain_put (attempt ∷ older) own (Some other) set now state is knows placed has covered put chain =
      chain_put_in attempt older set now state placed.0
      (subst (λ lines. Has state (states lines)) (ap (λ (it : Running). passed (ids_of streams) read it.events) (sym (some_is is)) ∙ (ap (passed (ids_of streams) read) knows ∙ passed_links (ids_of streams) read attempt.events)) has)
      covered put chain

  chain_saved : (before : List Event) (sync : Sync) (text : List ℕ) (now : Sync) → Saves streams read (IsCovered streams before) sync text now → Knows sync before → AllByRecursion (IsPlacedIn (ids_of streams) read source) (attempts before)
      → Chain streams read source id (start_of source sync.set id) (attempts before) → Chain streams read source id (start_of source now.set id) (attempts before)
  chain_saved before sync text now saves knows placed chain = subst (λ (it : Sync). Chain streams read source id (start_of source it.set id) (attempts before)) (sym saves.is) (by saves.by)
    where
      by : ((gens : List Gen) × Begins streams sync.set gens saves.set) ⊎ Puts streams read (IsCovered streams before) sync saves.set → Chain streams read source id (start_of source saves.set id) (attempts before)
      by (inl begins) = subst (λ it. Chain streams read source id (start_of source it id) (attempts before)) (sym begins.1.is) (chain_begun (given_of streams begins.0) sync.set (attempts before) chain)
      by (inr puts) = chain_put (attempts before) puts.attempt sync.attempt sync.set saves.set puts.state puts.in_attempt knows placed (has_from (states (passed (ids_of streams) read puts.attempt.events)) puts.state puts.passed_on) puts.beside puts.put chain

  -- ---- along a sync

  got_set : (sync : Sync) (text : List ℕ) (now : Sync) (own : Option Running) → InAttempt own (Gets read sync text now) → now.set ≡ sync.set
  got_set sync text now None gets = absurd gets
  got_set sync text now (Some own) gets = ap (λ (it : Sync). it.set) gets.1.is

  chain_more : (before : List Event) (sync : Sync) (event : Event) (now : Sync) → is_started event ≡ false → now.set ≡ sync.set → Chain streams read source id (start_of source sync.set id) (attempts before) → Chain streams read source id (start_of source now.set id) (attempts (before ++ event ∷ []))
  chain_more before sync event now none same chain =
      subst (λ set. Chain streams read source id (start_of source set id) (attempts (before ++ event ∷ []))) (sym same)
      (subst (Chain streams read source id (start_of source sync.set id)) (sym (attempts-on before event none)) (chain_on streams read source id (start_of source sync.set id) (attempts before) event chain))

  chain_step : (before : List Event) (sync : Sync) (event : Event) (now : Sync) → IsWritable sync.set → Knows sync before → AllByRecursion (IsPlacedIn (ids_of streams) read source) (attempts before)
      → StepKind streams read (IsCovered streams before) sync event now → Chain streams read source id (start_of source sync.set id) (attempts before) → Chain streams read source id (start_of source now.set id) (attempts (before ++ event ∷ []))
  chain_step before sync event now writable knows placed (Stores own none same) chain = chain_more before sync event now none (ap (λ (it : Sync). it.set) same) chain
  chain_step before sync event now writable knows placed (Acting own none a b same) chain = chain_more before sync event now none (ap (λ (it : Sync). it.set) same) chain
  chain_step before sync event now writable knows placed (Getting text is gets) chain = chain_more before sync event now (ap is_started is) (got_set sync text now sync.attempt gets) chain
  chain_step before sync event now writable knows placed (Saving text is saves) chain =
      subst (Chain streams read source id (start_of source now.set id)) (sym (attempts-on before event (ap is_started is))) (chain_on streams read source id (start_of source now.set id) (attempts before) event (chain_saved before sync text now saves knows placed chain))
  chain_step before sync event now writable knows placed (Starting plan is starts same) chain =
      subst (λ set. Chain streams read source id (start_of source set id) (attempts (before ++ event ∷ []))) (sym (ap (λ (it : Sync). it.set) same))
      (subst (Chain streams read source id (start_of source sync.set id)) (sym (attempts-one before event ∙ ap (attempts_after (attempts before)) is))
      (sync.set, writable, starts.states, (λ place low high. absurd (omega (arith, low, high))), chain))

  pub chain_along : (before events : List Event) (sync now : Sync) → AreOrderly streams → IsReading read (before ++ events) → AllByRecursion (IsPlacedIn (ids_of streams) read source) (attempts (before ++ events))
      → Leads streams read commits before sync → Knows sync before → Chain streams read source id (start_of source sync.set id) (attempts before) → Goes streams read commits before sync events now
      → Chain streams read source id (start_of source now.set id) (attempts (before ++ events))
  chain_along before [] sync now orderly right placed leads knows chain goes =
      subst (λ (it : Sync). Chain streams read source id (start_of source it.set id) (attempts (before ++ []))) (sym goes) (subst (λ trace. Chain streams read source id (start_of source sync.set id) (attempts trace)) (sym (append-nil before)) chain)
  chain_along before (event ∷ events) sync now orderly right placed leads knows chain (middle, step, rest) =
      let whole = append_assoc before (event ∷ []) events in
      let writable = (saved_reads_back streams read commits before sync (all_front (ReadsEvent read) before (event ∷ events) right) orderly leads).writable in
      let here = front_back (IsPlacedIn (ids_of streams) read source) before (event ∷ events) (placed_back (ids_of streams) read source) placed in
      subst (λ trace. Chain streams read source id (start_of source now.set id) (attempts trace)) whole
      (chain_along (before ++ event ∷ []) events middle now orderly (subst (IsReading read) (sym whole) right) (subst (λ trace. AllByRecursion (IsPlacedIn (ids_of streams) read source) (attempts trace)) (sym whole) placed)
      (stays_safe streams read before sync event middle leads step)
      (knows_step streams read (IsCovered streams before) before sync event middle knows step)
      (chain_step before sync event middle writable knows here (kind_of streams read (IsCovered streams before) sync event middle step) chain)
      rest)

  pub chain_of : (trace : List Event) (now : Sync) → AreOrderly streams → IsReading read trace → AllByRecursion (IsReplayable (ids_of streams) read source) (attempts trace) → Leads streams read commits trace now → Chain streams read source id (start_of source now.set id) (attempts trace)
  chain_of trace now orderly right replayable leads =
      chain_along [] trace no_sync now orderly right (all_weaker (IsReplayable (ids_of streams) read source) (IsPlacedIn (ids_of streams) read source) (attempts trace) (λ attempt is set writable states_are. (is set writable states_are).placed) replayable) refl tt (none_started (lane_for source id)) leads
    where
      none_started : (lane : Lane) → place_of source (held_in nothing_saved lane) ≡ 0
      none_started (one own) = refl
      none_started all = refl
