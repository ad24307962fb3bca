-- How sound traces go on, and their fronts.
use Rattle.std.proofs.Common.{arith, ◌≡◌, ◌⊎◌, inl, inr, ◌+◌, List, [], ◌∷◌, ◌++◌, map, length, Bool, true, false, cond, refl, sym, ◌∙◌, ap, subst, append_assoc, append-nil}
use Rattle.std.specs.Prelude.{fold, filter, filter_map, not}
use Rattle.std.specs.List.{AllByRecursion, list_any, take_while}
use Rattle.std.proofs.lemmas.Bool.{false≢true}
use Rattle.std.proofs.lemmas.List.{map-append}
use Rattle.std.proofs.lemmas.List.Elements.{filter_map-append}
use Rattle.std.proofs.lemmas.List.Sums.{fold-append, take_while-cons}
use Rattle.basics.specs.declared.stream.StreamId.{StreamId}
use Rattle.outside.specs.Event.{is_links, read_in, read_over, read_over_after}
use Rattle.outside.specs.declared.event.Codes.{Codes}
use Rattle.outside.specs.declared.event.Event.{Event}
use Rattle.outside.specs.declared.event.Event.TheVariants.{Opened, Took, TookEnd, Committed, Emitted, Merged, Shown, Started, ReadLine, ReadEnd, Given, Closed, Got, GotEnd, Saved, Ended}
use Rattle.airbyte_message.specs.Lanes.{Lane}
use Rattle.catalog.specs.Reading.{ids_of}
use Rattle.catalog.specs.declared.stream.ConfStream.{ConfStream}
use Rattle.dedup_merge.proofs.SameRowLemmas.{Has, has_from, has_to}
use Rattle.load_rules.specs.Prefixes.{EachFits, IsPrefix, with_first}
use Rattle.load_rules.specs.Lines.{Line, Reading, lines_read, passes}
use Rattle.load_rules.specs.Taken.{Entry, entries, entries_from, covers, states, states_behind}
use Rattle.load_rules.specs.Loads.{store_events}
use Rattle.load_rules.specs.Finished.{last_status}
use Rattle.load_rules.specs.Attempts.{Attempt, attempts, attempts_after, attempt_with, reads, passed}
use Rattle.load_rules.specs.Engine.{is_ended, StandsBeforeEnded, RunFits, RunFitsIn}
use Rattle.load_rules.specs.Laws.{is_started}
use Rattle.load_rules.proofs.Fronts.{each_at, each_front}
use Rattle.load_rules.proofs.RunFronts.{fronts_are_runs}
use Rattle.load_rules.proofs.TakenLists.{all_append, all_weaker, each_more, states-append}
use Rattle.sync_rules.specs.Sync.{Sync, no_sync}
use Rattle.sync_rules.specs.Calls.{Call, Called, Standing, CallGoes, HasStarted, called_at, standing_after, begins_next}
use Rattle.sync_rules.specs.SafeSync.{commits, nothing}
use Rattle.sync_rules.proofs.CallLemmas.{calls_lead}
use Rattle.sync_rules.proofs.Honest.{ways_know}
use Rattle.sync_rules.proofs.HonestCalls.{honest_calls_are_safe}
use Rattle.sync_rules.proofs.KindLemmas.{all_front, by_bool, has_front, has_parts, or_left, or_right}
use Rattle.sync_rules.proofs.Ways.{fronts_are_safe, ways_join}
use Rattle.replay_rules.specs.Sources.{Body, Source, lane_for, rest_of, body_told, bodies}
use Rattle.replay_rules.specs.Replayed.{IsFine, IsPlaced, IsReadOut, IsReplayable}
use Rattle.replay_rules.specs.Sound.{BeginsUnopened}
use Rattle.replay_rules.specs.Laws.{CallsStaySound, FrontsAreSound}
use Rattle.replay_rules.proofs.Attempts.{attempts-one, by_start, front_back}
use Rattle.replay_rules.proofs.StepKinds.{goes_on}
use Rattle.replay_rules.proofs.Lines.{lane_entries, lane_entries-append, passed-append}

-- ---- events that say nothing of the source

pub record IsQuiet (event : Event) : Type 0 where
  pub reads_none : filter_map read_in (event ∷ []) ≡ []
  pub over : (is : Bool) → read_over_after is event ≡ is
  pub ended : is_ended event ≡ false

passed_quiet : (ids : List StreamId) (read : Reading) (events : List Event) (event : Event) → IsQuiet event → passed ids read (events ++ event ∷ []) ≡ passed ids read events
passed_quiet ids read events event quiet =
    passed-append ids read events (event ∷ [])
    ∙ (ap (λ texts. passed ids read events ++ filter (λ line. passes ids line.found) (lines_read read texts)) quiet.reads_none ∙ append-nil (passed ids read events))

reads_quiet : (events : List Event) (event : Event) → IsQuiet event → reads (events ++ event ∷ []) ≡ reads events
reads_quiet events event quiet = filter_map-append read_in events (event ∷ []) ∙ (ap (λ texts. reads events ++ texts) quiet.reads_none ∙ append-nil (reads events))

over_quiet : (events : List Event) (event : Event) → IsQuiet event → read_over (events ++ event ∷ []) ≡ read_over events
over_quiet events event quiet = fold-append read_over_after false events (event ∷ []) ∙ quiet.over (read_over events)

ended_in : (event : Event) (codes : Codes) → is_ended event ≡ false → event ≡ Ended codes → ⊥
ended_in event codes none is = false≢true (sym none ∙ ap is_ended is)

ended_any : (events : List Event) (codes : Codes) → Has (Ended codes) events → list_any is_ended events ≡ true
ended_any [] codes has = absurd has
ended_any (event ∷ events) codes (inl is) = or_left (is_ended event) (list_any is_ended events) (ap is_ended is)
ended_any (event ∷ events) codes (inr has) = or_right (is_ended event) (list_any is_ended events) (ended_any events codes has)

-- read out with the event more is read out without it, and the other way round
read_out_back : (ids : List StreamId) (read : Reading) (lane : Lane) (events : List Event) (event : Event) → IsQuiet event → IsReadOut ids read lane (events ++ event ∷ []) → IsReadOut ids read lane events
read_out_back ids read lane events event quiet out = record {
  over = sym (over_quiet events event quiet) ∙ out.over;
  codes = out.codes;
  ended = has_to events (Ended out.codes) (at (has_parts (Ended out.codes) events (event ∷ []) (has_from (events ++ event ∷ []) (Ended out.codes) out.ended)));
  code = out.code;
  fine = λ id known covered. subst (λ texts. IsFine (last_status id (lines_read read texts))) (reads_quiet events event quiet) (out.fine id known covered);
}
  where
    at : Has (Ended out.codes) events ⊎ Has (Ended out.codes) (event ∷ []) → Has (Ended out.codes) events
    at (inl has) = has
    at (inr (inl is)) = absurd (ended_in event out.codes quiet.ended is)
    at (inr (inr none)) = absurd none

read_out_on : (ids : List StreamId) (read : Reading) (lane : Lane) (events : List Event) (event : Event) → IsQuiet event → IsReadOut ids read lane events → IsReadOut ids read lane (events ++ event ∷ [])
read_out_on ids read lane events event quiet out = record {
  over = over_quiet events event quiet ∙ out.over;
  codes = out.codes;
  ended = has_to (events ++ event ∷ []) (Ended out.codes) (has_front (Ended out.codes) events (event ∷ []) (has_from events (Ended out.codes) out.ended));
  code = out.code;
  fine = λ id known covered. subst (λ texts. IsFine (last_status id (lines_read read texts))) (sym (reads_quiet events event quiet)) (out.fine id known covered);
}

quiet_on : (ids : List StreamId) (read : Reading) (source : Source) (attempt : Attempt) (event : Event) → IsQuiet event → IsReplayable ids read source attempt → IsReplayable ids read source (attempt_with event attempt)
quiet_on ids read source attempt event quiet replayable set writable states_are =
    let is = replayable set writable states_are in
    let same = sym (passed_quiet ids read attempt.events event quiet) in
    record {
      reads_on = λ id known. subst (λ lines. IsPrefix (bodies (lane_for source id) lines) (rest_of source set id)) same (is.reads_on id known);
      placed = subst (λ lines. AllByRecursion (IsPlaced source set) (states lines)) same is.placed;
      whole = λ id known out. subst (λ lines. bodies (lane_for source id) lines ≡ rest_of source set id) same (is.whole id known (read_out_back ids read (lane_for source id) attempt.events event quiet out));
    }

-- ---- fronts

-- nothing but sets that are saved and a store's events stands behind an attempt's end
abbrev pub EndsOnce : Attempt → Type 0
EndsOnce attempt = EachFits StandsBeforeEnded [] attempt.events

first_ends : (streams : List ConfStream) (read : Reading) (before : List Event) (list : List Attempt) (event : Event) → RunFitsIn streams read before list event → AllByRecursion EndsOnce list → AllByRecursion EndsOnce (with_first (attempt_with event) list)
first_ends streams read before [] event fits each = tt
first_ends streams read before (attempt ∷ older) event fits each = (each_more StandsBeforeEnded [] attempt.events event each.0 fits.ends, each.1)

one_ends : (streams : List ConfStream) (read : Reading) (before : List Event) (event : Event) → RunFits streams read before event → AllByRecursion EndsOnce (attempts before) → AllByRecursion EndsOnce (attempts (before ++ event ∷ []))
one_ends streams read before event fits each =
    subst (AllByRecursion EndsOnce) (sym (attempts-one before event))
    (by_start event (λ plan is. subst (λ it. AllByRecursion EndsOnce (attempts_after (attempts before) it)) (sym is) (tt, each))
    (λ none. subst (AllByRecursion EndsOnce) (sym (goes_on event (attempts before) none)) (first_ends streams read before (attempts before) event fits each)))

all_end : (streams : List ConfStream) (read : Reading) (before events : List Event) → EachFits (RunFits streams read) before events → AllByRecursion EndsOnce (attempts before) → AllByRecursion EndsOnce (attempts (before ++ events))
all_end streams read before [] fits each = subst (λ trace. AllByRecursion EndsOnce (attempts trace)) (sym (append-nil before)) each
all_end streams read before (event ∷ events) fits each =
    subst (λ trace. AllByRecursion EndsOnce (attempts trace)) (append_assoc before (event ∷ []) events)
    (all_end streams read (before ++ event ∷ []) events fits.1 (one_ends streams read before event fits.0 each))

-- behind an attempt's end each event is quiet
quiet_behind : (events : List Event) (event : Event) → is_started event ≡ false → list_any is_ended events ≡ true → StandsBeforeEnded events event → IsQuiet event
quiet_behind events (Opened x y z) none ended stands = record { reads_none = refl; over = λ is. refl; ended = refl }
quiet_behind events (Took x) none ended stands = record { reads_none = refl; over = λ is. refl; ended = refl }
quiet_behind events TookEnd none ended stands = record { reads_none = refl; over = λ is. refl; ended = refl }
quiet_behind events (Committed x y) none ended stands = record { reads_none = refl; over = λ is. refl; ended = refl }
quiet_behind events (Emitted x) none ended stands = record { reads_none = refl; over = λ is. refl; ended = refl }
quiet_behind events (Merged x y z) none ended stands = record { reads_none = refl; over = λ is. refl; ended = refl }
quiet_behind events (Shown x y z) none ended stands = record { reads_none = refl; over = λ is. refl; ended = refl }
quiet_behind events (Saved x) none ended stands = record { reads_none = refl; over = λ is. refl; ended = refl }
quiet_behind events (Started x) none ended stands = absurd (false≢true (sym none))
quiet_behind events (ReadLine x) none ended stands = absurd (false≢true (sym (stands refl) ∙ ended))
quiet_behind events ReadEnd none ended stands = absurd (false≢true (sym (stands refl) ∙ ended))
quiet_behind events (Given x) none ended stands = absurd (false≢true (sym (stands refl) ∙ ended))
quiet_behind events Closed none ended stands = absurd (false≢true (sym (stands refl) ∙ ended))
quiet_behind events (Got x) none ended stands = absurd (false≢true (sym (stands refl) ∙ ended))
quiet_behind events GotEnd none ended stands = absurd (false≢true (sym (stands refl) ∙ ended))
quiet_behind events (Ended x) none ended stands = absurd (false≢true (sym (stands refl) ∙ ended))

bodies_front : (lane : Lane) (xs ys : List Line) (whole : List Body) → IsPrefix (bodies lane (xs ++ ys)) whole → IsPrefix (bodies lane xs) whole
bodies_front lane xs ys whole (rest, is) =
    let more = filter (λ (entry : Entry). covers lane entry.content.id) (entries_from (0 + length (entries xs)) ys) in
    let parted : bodies lane (xs ++ ys) ≡ bodies lane xs ++ map body_told more = ap (map body_told) (lane_entries-append lane xs ys) ∙ map-append body_told (lane_entries lane xs) more in
    (map body_told more ++ rest, is ∙ (ap (λ list. list ++ rest) parted ∙ append_assoc (bodies lane xs) (map body_told more) rest))

abbrev pub IsReplayableOnce : List StreamId → Reading → Source → Attempt → Type 0
IsReplayableOnce ids read source attempt = IsReplayable ids read source attempt × EndsOnce attempt

once_back : (ids : List StreamId) (read : Reading) (source : Source) (attempt : Attempt) (event : Event) → is_started event ≡ false → IsReplayableOnce ids read source (attempt_with event attempt) → IsReplayableOnce ids read source attempt
once_back ids read source attempt event none (replayable, once) = (back, each_front StandsBeforeEnded [] attempt.events (event ∷ []) once)
  where
    back : IsReplayable ids read source attempt
    back set writable states_are =
        let is = replayable set writable states_are in
        let parted = passed-append ids read attempt.events (event ∷ []) in
        record {
          reads_on = λ id known. bodies_front (lane_for source id) (passed ids read attempt.events) (passed ids read (event ∷ [])) (rest_of source set id) (subst (λ lines. IsPrefix (bodies (lane_for source id) lines) (rest_of source set id)) parted (is.reads_on id known));
          placed = all_front (IsPlaced source set) (states (passed ids read attempt.events)) (states_behind (passed ids read attempt.events) (passed ids read (event ∷ [])))
              (subst (AllByRecursion (IsPlaced source set)) (ap states parted ∙ states-append [] (passed ids read attempt.events) (passed ids read (event ∷ []))) is.placed);
          whole = λ id known out. (
              let quiet = quiet_behind attempt.events event none (ended_any attempt.events out.codes (has_from attempt.events (Ended out.codes) out.ended)) (each_at StandsBeforeEnded [] attempt.events [] event once) in
              ap (bodies (lane_for source id)) (sym (passed_quiet ids read attempt.events event quiet)) ∙ is.whole id known (read_out_on ids read (lane_for source id) attempt.events event quiet out));
        }

unopened_front : (front rest : List Event) → BeginsUnopened (front ++ rest) → BeginsUnopened front
unopened_front [] rest none = refl
unopened_front (event ∷ front) rest none = by_bool (is_started event) starts (goes (unopened_front front rest))
  where
    cut : (events : List Event) (b : Bool) → is_started event ≡ b → take_while (λ it. not (is_started it)) (event ∷ events) ≡ cond (not b) (event ∷ take_while (λ it. not (is_started it)) events) []
    cut events b is = take_while-cons (λ it. not (is_started it)) event events ∙ ap (λ b. cond (not b) (event ∷ take_while (λ it. not (is_started it)) events) []) is

    starts : is_started event ≡ true → BeginsUnopened (event ∷ front)
    starts is = ap store_events (cut front true is)

    deeper : (BeginsUnopened (front ++ rest) → BeginsUnopened front) → (b : Bool) → not (is_links event) ≡ b → cond b (event ∷ store_events (take_while (λ it. not (is_started it)) (front ++ rest))) (store_events (take_while (λ it. not (is_started it)) (front ++ rest))) ≡ [] → cond b (event ∷ store_events (take_while (λ it. not (is_started it)) front)) (store_events (take_while (λ it. not (is_started it)) front)) ≡ []
    deeper rest_is true is none = absurd (let h = none in cc)
    deeper rest_is false is none = rest_is none

    goes : (BeginsUnopened (front ++ rest) → BeginsUnopened front) → is_started event ≡ false → BeginsUnopened (event ∷ front)
    goes rest_is is = ap store_events (cut front false is) ∙ deeper rest_is (not (is_links event)) refl (sym (ap store_events (cut (front ++ rest) false is)) ∙ none)

pub fronts_are_sound : FrontsAreSound
fronts_are_sound streams read source front rest sound = record {
  unopened = unopened_front front rest sound.unopened;
  safe = fronts_are_safe streams read front rest sound.safe;
  engine = fronts_are_runs streams read front rest sound.engine;
  replayable = all_weaker (IsReplayableOnce (ids_of streams) read source) (IsReplayable (ids_of streams) read source) (attempts front) (λ attempt both. both.0)
      (front_back (IsReplayableOnce (ids_of streams) read source) front rest (once_back (ids_of streams) read source) (both (attempts (front ++ rest)) sound.replayable (all_end streams read [] (front ++ rest) sound.engine.attempts_are tt)));
}
  where
    both : (list : List Attempt) → AllByRecursion (IsReplayable (ids_of streams) read source) list → AllByRecursion EndsOnce list → AllByRecursion (IsReplayableOnce (ids_of streams) read source) list
    both [] first second = tt
    both (attempt ∷ older) first second = ((first.0, second.0), both older first.1 second.1)

-- ---- calls

-- the attempts that were there before go on behind those that are started
fold_behind : (attempt : Attempt) (list old : List Attempt) (events : List Event) → fold attempts_after (attempt ∷ (list ++ old)) events ≡ fold attempts_after (attempt ∷ list) events ++ old
fold_behind attempt list old [] = refl
fold_behind attempt list old ((Opened x y z) ∷ events) = fold_behind (attempt_with (Opened x y z) attempt) list old events
fold_behind attempt list old ((Took x) ∷ events) = fold_behind (attempt_with (Took x) attempt) list old events
fold_behind attempt list old (TookEnd ∷ events) = fold_behind (attempt_with TookEnd attempt) list old events
fold_behind attempt list old ((Committed x y) ∷ events) = fold_behind (attempt_with (Committed x y) attempt) list old events
fold_behind attempt list old ((Emitted x) ∷ events) = fold_behind (attempt_with (Emitted x) attempt) list old events
fold_behind attempt list old ((Merged x y z) ∷ events) = fold_behind (attempt_with (Merged x y z) attempt) list old events
fold_behind attempt list old ((Shown x y z) ∷ events) = fold_behind (attempt_with (Shown x y z) attempt) list old events
fold_behind attempt list old (Started x ∷ events) = fold_behind (record { plan = x; events = [] }) (attempt ∷ list) old events
fold_behind attempt list old ((ReadLine x) ∷ events) = fold_behind (attempt_with (ReadLine x) attempt) list old events
fold_behind attempt list old (ReadEnd ∷ events) = fold_behind (attempt_with ReadEnd attempt) list old events
fold_behind attempt list old ((Given x) ∷ events) = fold_behind (attempt_with (Given x) attempt) list old events
fold_behind attempt list old (Closed ∷ events) = fold_behind (attempt_with Closed attempt) list old events
fold_behind attempt list old ((Got x) ∷ events) = fold_behind (attempt_with (Got x) attempt) list old events
fold_behind attempt list old (GotEnd ∷ events) = fold_behind (attempt_with GotEnd attempt) list old events
fold_behind attempt list old ((Saved x) ∷ events) = fold_behind (attempt_with (Saved x) attempt) list old events
fold_behind attempt list old ((Ended x) ∷ events) = fold_behind (attempt_with (Ended x) attempt) list old events

first_quiet : (ids : List StreamId) (read : Reading) (source : Source) (list : List Attempt) (event : Event) → IsQuiet event → AllByRecursion (IsReplayable ids read source) list → AllByRecursion (IsReplayable ids read source) (with_first (attempt_with event) list)
first_quiet ids read source [] event quiet each = tt
first_quiet ids read source (attempt ∷ older) event quiet each = (quiet_on ids read source attempt event quiet each.0, each.1)

not_started : (called : Called) → called.number ≡ 0 → HasStarted called → ⊥
not_started called none has = omega (arith, none, has)

number_same : (sync : Sync) (called : Called) (b : Bool) → (cond b (record called { begun = called.begun + 1 }) called).number ≡ called.number
number_same sync called true = refl
number_same sync called false = refl

module _ (call : Call) (streams : List ConfStream) (read : Reading) (source : Source) where
  all_added : (before events : List Event) (here there : Standing) (list : List Attempt) → here.called.number ≡ 0 → CallGoes call streams read nothing before here events there
      → AllByRecursion (IsReplayable (ids_of streams) read source) list → AllByRecursion (IsReplayable (ids_of streams) read source) (fold attempts_after [] events) → AllByRecursion (IsReplayable (ids_of streams) read source) (fold attempts_after list events)
  all_added before [] here there list none goes old new = old
  all_added before ((Opened x y z) ∷ events) here there list none (middle, step, fits, rest) old new = all_added (before ++ (Opened x y z) ∷ []) events (standing_after here (Opened x y z) middle) there (with_first (attempt_with (Opened x y z)) list) none rest (first_quiet (ids_of streams) read source list (Opened x y z) (record { reads_none = refl; over = λ is. refl; ended = refl }) old) new
  all_added before ((Took x) ∷ events) here there list none (middle, step, fits, rest) old new = all_added (before ++ (Took x) ∷ []) events (standing_after here (Took x) middle) there (with_first (attempt_with (Took x)) list) none rest (first_quiet (ids_of streams) read source list (Took x) (record { reads_none = refl; over = λ is. refl; ended = refl }) old) new
  all_added before (TookEnd ∷ events) here there list none (middle, step, fits, rest) old new = all_added (before ++ TookEnd ∷ []) events (standing_after here TookEnd middle) there (with_first (attempt_with TookEnd) list) none rest (first_quiet (ids_of streams) read source list TookEnd (record { reads_none = refl; over = λ is. refl; ended = refl }) old) new
  all_added before ((Committed x y) ∷ events) here there list none (middle, step, fits, rest) old new = all_added (before ++ (Committed x y) ∷ []) events (standing_after here (Committed x y) middle) there (with_first (attempt_with (Committed x y)) list) none rest (first_quiet (ids_of streams) read source list (Committed x y) (record { reads_none = refl; over = λ is. refl; ended = refl }) old) new
  all_added before ((Emitted x) ∷ events) here there list none (middle, step, fits, rest) old new = all_added (before ++ (Emitted x) ∷ []) events (standing_after here (Emitted x) middle) there (with_first (attempt_with (Emitted x)) list) none rest (first_quiet (ids_of streams) read source list (Emitted x) (record { reads_none = refl; over = λ is. refl; ended = refl }) old) new
  all_added before ((Merged x y z) ∷ events) here there list none (middle, step, fits, rest) old new = all_added (before ++ (Merged x y z) ∷ []) events (standing_after here (Merged x y z) middle) there (with_first (attempt_with (Merged x y z)) list) none rest (first_quiet (ids_of streams) read source list (Merged x y z) (record { reads_none = refl; over = λ is. refl; ended = refl }) old) new
  all_added before ((Shown x y z) ∷ events) here there list none (middle, step, fits, rest) old new = all_added (before ++ (Shown x y z) ∷ []) events (standing_after here (Shown x y z) middle) there (with_first (attempt_with (Shown x y z)) list) none rest (first_quiet (ids_of streams) read source list (Shown x y z) (record { reads_none = refl; over = λ is. refl; ended = refl }) old) new
  all_added before (Saved x ∷ events) here there list none (middle, step, fits, rest) old new = all_added (before ++ Saved x ∷ []) events (standing_after here (Saved x) middle) there (with_first (attempt_with (Saved x)) list) (number_same here.sync here.called (begins_next here.called here.sync) ∙ none) rest (first_quiet (ids_of streams) read source list (Saved x) (record { reads_none = refl; over = λ is. refl; ended = refl }) old) new
  all_added before (Started x ∷ events) here there list none (middle, step, fits, rest) old new =
      subst (AllByRecursion (IsReplayable (ids_of streams) read source)) (sym (fold_behind (record { plan = x; events = [] }) [] list events))
      (all_append (IsReplayable (ids_of streams) read source) (fold attempts_after (record { plan = x; events = [] } ∷ []) events) list new old)
  all_added before ((ReadLine x) ∷ events) here there list none (middle, step, fits, rest) old new = absurd (not_started here.called none fits)
  all_added before (ReadEnd ∷ events) here there list none (middle, step, fits, rest) old new = absurd (not_started here.called none fits)
  all_added before ((Given x) ∷ events) here there list none (middle, step, fits, rest) old new = absurd (not_started here.called none fits)
  all_added before (Closed ∷ events) here there list none (middle, step, fits, rest) old new = absurd (not_started here.called none fits)
  all_added before ((Got x) ∷ events) here there list none (middle, step, fits, rest) old new = absurd (not_started here.called none fits)
  all_added before (GotEnd ∷ events) here there list none (middle, step, fits, rest) old new = absurd (not_started here.called none fits)
  all_added before ((Ended x) ∷ events) here there list none (middle, step, fits, rest) old new = absurd (not_started here.called none fits)

pub calls_stay_sound : CallsStaySound
calls_stay_sound call streams read source before more sync there sound leads goes honest engine unopened replayable =
    let knows = ways_know streams read commits [] before no_sync sync tt leads in
    let safe = calls_lead call streams read commits before more (called_at sync) there (honest_calls_are_safe call streams read before more sync there knows goes honest) in
    record {
      unopened = unopened;
      safe = (there.sync, ways_join streams read commits [] before more no_sync sync there.sync leads safe);
      engine = engine;
      replayable = subst (AllByRecursion (IsReplayable (ids_of streams) read source)) (sym (fold-append attempts_after [] before more))
          (all_added call streams read source before more (called_at sync) there (attempts before) refl goes sound.replayable replayable);
    }
