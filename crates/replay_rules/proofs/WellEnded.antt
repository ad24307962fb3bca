-- Behind an attempt that ends well each body of the source has a latest copy.
use Rattle.std.proofs.Common.{arith, ◌≡◌, ℕ, ◌+◌, ◌-◌, ◌<◌, ◌≤◌, List, [], ◌∷◌, ◌++◌, length, Option, None, Some, Bool, true, false, cond, refl, sym, ◌∙◌, ap, subst, append_assoc, append-nil}
use Rattle.std.specs.Prelude.{filter, fold, ◌||◌}
use Rattle.std.specs.List.{AllByRecursion, list_any}
use Rattle.std.proofs.lemmas.Bool.{false≢true}
use Rattle.std.proofs.lemmas.List.{length-drop, length-map, map-append}
use Rattle.std.proofs.lemmas.List.Elements.{filter_map-append}
use Rattle.std.proofs.lemmas.List.Folds.{list_any-append}
use Rattle.std.proofs.lemmas.List.Sums.{fold-append}
use Rattle.basics.specs.declared.stream.StreamId.{StreamId}
use Rattle.outside.specs.Event.{is_links, read_in, given_in, read_over, read_over_after}
use Rattle.outside.specs.declared.event.Event.{Event}
use Rattle.outside.specs.declared.event.Event.TheVariants.{Opened, Took, TookEnd, Committed, Emitted, Merged, Shown, Started, ReadLine, ReadEnd, Given, Closed, Got, GotEnd, Saved, Ended}
use Rattle.catalog.specs.Reading.{ids_of}
use Rattle.catalog.specs.declared.stream.ConfStream.{ConfStream}
use Rattle.dedup_merge.proofs.SameRowLemmas.{Has, has_from, has_passed}
use Rattle.load_rules.specs.Lines.{Line, Reading, line_read, lines_read, passes, is_known}
use Rattle.load_rules.specs.Taken.{Entry, entries, entries_from, covers}
use Rattle.load_rules.specs.Attempts.{Attempt, attempts, reads, gives, passed}
use Rattle.load_rules.specs.Engine.{is_closed}
use Rattle.load_rules.specs.Laws.{is_started}
use Rattle.load_rules.proofs.SafeAttempts.{attempts_are_safe}
use Rattle.load_rules.proofs.TakenLists.{entries-append}
use Rattle.state_kinds.specs.Saved.{Saved as Set}
use Rattle.sync_rules.specs.Sync.{Running, no_sync, texts, completions}
use Rattle.sync_rules.specs.SafeSync.{commits}
use Rattle.sync_rules.specs.Laws.{KnowsAttempt}
use Rattle.sync_rules.proofs.Honest.{ways_know}
use Rattle.sync_rules.proofs.KindLemmas.{any_back, any_filter, by_bool, has_front}
use Rattle.replay_rules.specs.Sources.{Source, lane_for, start_of, rest_of, body_told, bodies}
use Rattle.replay_rules.specs.Replayed.{IsReadOut, IsReplayable}
use Rattle.replay_rules.specs.Ends.{EndsWell}
use Rattle.replay_rules.specs.Sound.{IsSound}
use Rattle.replay_rules.specs.Laws.{AllAreLatest}
use Rattle.replay_rules.proofs.Chain.{Chain, chain_of}
use Rattle.replay_rules.proofs.Committed.{Stands}
use Rattle.replay_rules.proofs.Latest.{tried, latest_in}
use Rattle.replay_rules.proofs.Lines.{At, at_of, get_has, lane_entries, passed_links}
use Rattle.replay_rules.proofs.Numbers.{loads_rise}
use Rattle.replay_rules.proofs.Settled.{NoneLate, late_behind, late_none, over_all, LateIn, late_along, StartsNone, starts_none, CommitsAll, commits_all}

none_rest : (a b : Bool) → (a || b) ≡ false → b ≡ false
none_rest true b is = absurd (false≢true (sym is))
none_rest false b is = is

pub gives_links : (events : List Event) → gives (filter is_links events) ≡ gives events
gives_links [] = refl
gives_links ((Opened x y z) ∷ events) = gives_links events
gives_links ((Took x) ∷ events) = gives_links events
gives_links (TookEnd ∷ events) = gives_links events
gives_links ((Committed x y) ∷ events) = gives_links events
gives_links ((Emitted x) ∷ events) = gives_links events
gives_links ((Merged x y z) ∷ events) = gives_links events
gives_links ((Shown x y z) ∷ events) = gives_links events
gives_links ((Started x) ∷ events) = gives_links events
gives_links ((ReadLine x) ∷ events) = gives_links events
gives_links (ReadEnd ∷ events) = gives_links events
gives_links (Given x ∷ events) = ap (λ texts. x ∷ texts) (gives_links events)
gives_links (Closed ∷ events) = gives_links events
gives_links ((Got x) ∷ events) = gives_links events
gives_links (GotEnd ∷ events) = gives_links events
gives_links ((Saved x) ∷ events) = gives_links events
gives_links ((Ended x) ∷ events) = gives_links events

pub over_links : (over : Bool) (events : List Event) → fold read_over_after over (filter is_links events) ≡ fold read_over_after over events
over_links over [] = refl
over_links over ((Opened x y z) ∷ events) = over_links over events
over_links over ((Took x) ∷ events) = over_links over events
over_links over (TookEnd ∷ events) = over_links over events
over_links over ((Committed x y) ∷ events) = over_links over events
over_links over ((Emitted x) ∷ events) = over_links over events
over_links over ((Merged x y z) ∷ events) = over_links over events
over_links over ((Shown x y z) ∷ events) = over_links over events
over_links over ((Started x) ∷ events) = over_links (read_over_after over (Started x)) events
over_links over ((ReadLine x) ∷ events) = over_links (read_over_after over (ReadLine x)) events
over_links over (ReadEnd ∷ events) = over_links (read_over_after over ReadEnd) events
over_links over ((Given x) ∷ events) = over_links (read_over_after over (Given x)) events
over_links over (Closed ∷ events) = over_links (read_over_after over Closed) events
over_links over ((Got x) ∷ events) = over_links (read_over_after over (Got x)) events
over_links over (GotEnd ∷ events) = over_links (read_over_after over GotEnd) events
over_links over ((Saved x) ∷ events) = over_links (read_over_after over (Saved x)) events
over_links over ((Ended x) ∷ events) = over_links (read_over_after over (Ended x)) events

pub reread : (read : Reading) (test : Line → Bool) (list : List (List ℕ)) → lines_read read (texts (filter test (lines_read read list))) ≡ filter test (lines_read read list)
reread read test [] = refl
reread read test (text ∷ list) = at (test (line_read read text)) (reread read test list)
  where
    at : (b : Bool) → lines_read read (texts (filter test (lines_read read list))) ≡ filter test (lines_read read list) → lines_read read (texts (cond b (line_read read text ∷ filter test (lines_read read list)) (filter test (lines_read read list)))) ≡ cond b (line_read read text ∷ filter test (lines_read read list)) (filter test (lines_read read list))
    at true rest = ap (λ lines. line_read read text ∷ lines) rest
    at false rest = rest

-- what the attempt has done beside its store's events
late_of : (own : Option Running) (attempt : Attempt) (older : List Attempt) → KnowsAttempt own (attempt ∷ older) → LateIn own → NoneLate false (filter is_links attempt.events)
late_of None attempt older knows late = absurd knows
late_of (Some own) attempt older knows late = subst (NoneLate false) knows late

module _ (streams : List ConfStream) (read : Reading) (source : Source) (trace : List Event) (sound : IsSound streams read source trace) (ends : EndsWell (ids_of streams) read trace) where
  starts : list_any is_started ends.attempt.events ≡ false
  starts = (subst (AllByRecursion StartsNone) ends.last (starts_none [] trace tt)).0

  abbrev front : List Event
  front = ends.through.front

  abbrev behind : List Event
  behind = Closed ∷ ends.through.back

  parts : filter is_links ends.attempt.events ≡ front ++ behind
  parts = ends.through.closes

  over_front : read_over front ≡ true
  over_front = ends.through.read_all

  starts_behind : list_any is_started behind ≡ false
  starts_behind = none_rest (list_any is_started front) (list_any is_started behind) (sym (list_any-append is_started front behind) ∙ (ap (list_any is_started) (sym parts) ∙ by_bool (list_any is_started (filter is_links ends.attempt.events)) (λ some. absurd (false≢true (sym starts ∙ any_filter is_started is_links ends.attempt.events some))) (λ none. none)))

  late : NoneLate false (filter is_links ends.attempt.events)
  late = late_of sound.safe.0.attempt ends.attempt ends.older (subst (KnowsAttempt sound.safe.0.attempt) ends.last (ways_know streams read commits [] trace no_sync sound.safe.0 tt sound.safe.1)) (late_along streams read commits [] trace no_sync sound.safe.0 sound.safe.1 tt)

  none_behind : reads behind ≡ []
  none_behind = late_none behind starts_behind (subst (λ over. NoneLate over behind) over_front (late_behind false front behind (subst (NoneLate false) parts late)))

  passed_front : passed (ids_of streams) read front ≡ passed (ids_of streams) read ends.attempt.events
  passed_front =
      ap (λ texts. filter (λ line. passes (ids_of streams) line.found) (lines_read read texts)) (sym (append-nil (reads front)) ∙ (ap (λ more. reads front ++ more) (sym none_behind) ∙ (sym (filter_map-append read_in front behind) ∙ ap reads (sym parts))))
      ∙ passed_links (ids_of streams) read ends.attempt.events

  closed : list_any is_closed ends.attempt.events ≡ true
  closed = any_filter is_closed is_links ends.attempt.events (ap (list_any is_closed) parts ∙ any_back is_closed front behind refl)

  over : read_over ends.attempt.events ≡ true
  over = sym (over_links false ends.attempt.events) ∙ (ap read_over parts ∙ (fold-append read_over_after false front behind ∙ (ap (λ b. fold read_over_after b behind) over_front ∙ over_all behind starts_behind)))

  -- each line that was passed on was given
  given_has : (entry : Entry) → Has entry (entries (passed (ids_of streams) read ends.attempt.events)) → Has entry (entries (lines_read read (gives ends.attempt.events)))
  given_has entry has =
      let more : List (List ℕ) = completions (ids_of streams) read front ++ gives behind in
      let all : gives ends.attempt.events ≡ texts (passed (ids_of streams) read front) ++ (completions (ids_of streams) read front ++ gives behind) =
      sym (gives_links ends.attempt.events) ∙ (ap gives parts ∙ (filter_map-append given_in front behind ∙ (ap (λ list. list ++ gives behind) ends.through.gave_all ∙ append_assoc (texts (passed (ids_of streams) read front)) (completions (ids_of streams) read front) (gives behind)))) in
      let lines : lines_read read (gives ends.attempt.events) ≡ passed (ids_of streams) read ends.attempt.events ++ lines_read read more =
      ap (lines_read read) all ∙ (map-append (line_read read) (texts (passed (ids_of streams) read front)) more ∙ ap (λ list. list ++ lines_read read more) (reread read (λ line. passes (ids_of streams) line.found) (reads front) ∙ passed_front)) in
      subst (λ list. Has entry (entries list)) (sym lines)
      (subst (Has entry) (sym (entries-append 0 (passed (ids_of streams) read ends.attempt.events) (lines_read read more)))
      (has_front entry (entries (passed (ids_of streams) read ends.attempt.events)) (entries_from (0 + length (entries (passed (ids_of streams) read ends.attempt.events))) (lines_read read more)) has))

  module _ (id : StreamId) (known : is_known (ids_of streams) id ≡ true) where
    read_out : IsReadOut (ids_of streams) read (lane_for source id) ends.attempt.events
    read_out = record { over = over; codes = ends.codes; ended = ends.ended; code = ends.source; fine = λ other is covered. ends.fine other is }

    covered_all : (set : Set) → bodies (lane_for source id) (passed (ids_of streams) read ends.attempt.events) ≡ rest_of source set id
        → (place : ℕ) → start_of source set id ≤ place → place < length (source.list (lane_for source id)) → Stands streams read (lane_for source id) ends.attempt.events (place - start_of source set id)
    covered_all set whole place low high = at (at_of (lane_entries (lane_for source id) (passed (ids_of streams) read ends.attempt.events)) (place - start_of source set id) within)
      where
        within : place - start_of source set id < length (lane_entries (lane_for source id) (passed (ids_of streams) read ends.attempt.events))
        within =
            let a = length-map (lane_entries (lane_for source id) (passed (ids_of streams) read ends.attempt.events)) body_told in
            let b = ap length whole in
            let c = length-drop (start_of source set id) (source.list (lane_for source id)) in
            omega (arith, a, b, c, low, high)

        at : At (lane_entries (lane_for source id) (passed (ids_of streams) read ends.attempt.events)) (place - start_of source set id) → Stands streams read (lane_for source id) ends.attempt.events (place - start_of source set id)
        at found =
            let all = (subst (AllByRecursion (CommitsAll streams read)) ends.last (commits_all streams read trace sound.engine)).0 in
            let there = (has_passed (λ (entry : Entry). covers (lane_for source id) entry.content.id) found.item (entries (passed (ids_of streams) read ends.attempt.events)) (get_has (lane_entries (lane_for source id) (passed (ids_of streams) read ends.attempt.events)) (place - start_of source set id) found.item found.is)).0 in
            record {
              entry = found.item;
              is = found.is;
              committed = all (ends.codes, has_from ends.attempt.events (Ended ends.codes) ends.ended, ends.dest) closed found.item (given_has found.item there);
            }

    chain_whole : (next : ℕ) → Chain streams read source id next (ends.attempt ∷ ends.older) → AllByRecursion (IsReplayable (ids_of streams) read source) (ends.attempt ∷ ends.older) → Chain streams read source id (length (source.list (lane_for source id))) (ends.attempt ∷ ends.older)
    chain_whole next (set, writable, states_are, covered, rest) replayable =
        (set, writable, states_are, covered_all set ((replayable.0 set writable states_are).whole id known read_out), rest)

pub all_are_latest : AllAreLatest
all_are_latest streams read source trace right orderly sound ends id known =
    let chain = chain_of streams read source id trace sound.safe.0 orderly right sound.replayable sound.safe.1 in
    let whole = chain_whole streams read source trace sound ends id known (start_of source sound.safe.0.set id) (subst (Chain streams read source id (start_of source sound.safe.0.set id)) ends.last chain) (subst (AllByRecursion (IsReplayable (ids_of streams) read source)) ends.last sound.replayable) in
    latest_in streams read source id trace (length (source.list (lane_for source id)))
    (tried streams read source id (attempts trace) (length (source.list (lane_for source id))) (subst (Chain streams read source id (length (source.list (lane_for source id)))) (sym ends.last) whole))
    (attempts_are_safe streams read trace sound.engine) (loads_rise streams read trace sound.engine.loads_are.store sound.engine.attempts_are)
