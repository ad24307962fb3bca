-- Every committed row of a stream stands at a place of the stream's list.
use Rattle.std.proofs.Common.{◌≡◌, inl, inr, ℕ, zero, suc, ◌+◌, List, [], ◌∷◌, map, slice_get, Some, Bool, true, false, cond, refl, sym, ◌∙◌, ap, subst}
use Rattle.std.specs.Prelude.{fold}
use Rattle.basics.specs.declared.stream.StreamId.{StreamId}
use Rattle.outside.proofs.TableLaws.{id_own}
use Rattle.outside.specs.declared.event.Event.{Event}
use Rattle.outside.specs.declared.event.Event.TheVariants.{Committed}
use Rattle.outside.specs.declared.event.RawRow.{RawRow}
use Rattle.airbyte_message.specs.Lanes.{one, all}
use Rattle.catalog.specs.Reading.{ids_of}
use Rattle.catalog.specs.declared.stream.ConfStream.{ConfStream}
use Rattle.dedup_merge.proofs.SameRowLemmas.{Has, has_from, has_kept, has_to}
use Rattle.load_rules.specs.Lines.{Reading, IsReading, ReadsEvent, lines_read, is_known}
use Rattle.load_rules.specs.Taken.{entries, covers}
use Rattle.load_rules.specs.Loads.{Load, loads, loads_after, tooks}
use Rattle.load_rules.specs.SafeDest.{IsSafeLoad}
use Rattle.load_rules.specs.Attempts.{attempts, passed}
use Rattle.load_rules.specs.Laws.{IsSafeAttempt}
use Rattle.load_rules.proofs.Pipes.{MayLoad, may_load}
use Rattle.load_rules.proofs.SafeAttempts.{attempts_are_safe}
use Rattle.sync_rules.specs.Sync.{no_sync}
use Rattle.sync_rules.specs.Laws.{AreOrderly}
use Rattle.sync_rules.proofs.KindLemmas.{all_has, some_is}
use Rattle.replay_rules.specs.Sources.{Source, lane_for, start_of, body_told, bodies}
use Rattle.replay_rules.specs.Replayed.{IsReplayable}
use Rattle.replay_rules.specs.Copies.{Try, IsTry, ComesFrom, IsCommitOf}
use Rattle.replay_rules.specs.Laws.{RowsAreCopies}
use Rattle.replay_rules.proofs.Chain.{chain_of}
use Rattle.replay_rules.proofs.Latest.{tried, attempt_of}
use Rattle.replay_rules.proofs.Lines.{get_drop, get_front, lane_entries, nth_body}
use Rattle.replay_rules.proofs.RowCopies.{GivesIn, given_along, given_entry, given_from, taken_entry, load_row}
use Rattle.replay_rules.proofs.SavedBack.{AreAll, EventsAre, attempts_are}

pub has_get : {A : Type 0} (xs : List A) (x : A) → Has x xs → (n : ℕ) × (slice_get xs n ≡ Some x)
has_get [] x has = absurd has
has_get (y ∷ xs) x (inl is) = (zero, ap (λ it. Some it) is)
has_get (y ∷ xs) x (inr has) = let deeper = has_get xs x has in (suc deeper.0, deeper.1)

has_of : {A B : Type 0} (f : A → B) (x : A) (xs : List A) → Has x xs → Has (f x) (map f xs)
has_of f x [] has = absurd has
has_of f x (y ∷ xs) (inl is) = inl (ap f is)
has_of f x (y ∷ xs) (inr has) = inr (has_of f x xs has)

own_lane : (source : Source) (id : StreamId) → covers (lane_for source id) id ≡ true
own_lane source id = at source.is_global
  where
    at : (b : Bool) → covers (cond b all (one id)) id ≡ true
    at true = refl
    at false = id_own id

right_events : (read : Reading) (events : List Event) → IsReading read events → AreAll (ReadsEvent read) events
right_events read events right event has = all_has (ReadsEvent read) event events right has

-- what a load of an attempt took is what the attempt took
same_tooks : (events : List Event) (load : Load) → MayLoad events → Has load (loads events) → tooks load.events ≡ tooks events
same_tooks events load (inl none) has = absurd (subst (λ list. Has load (fold loads_after [] list)) none.stored has)
same_tooks events load (inr one_is) has = at (subst (Has load) one_is.own has)
  where
    at : Has load (one_is.load ∷ []) → tooks load.events ≡ tooks events
    at (inl is) = ap (λ (it : Load). tooks it.events) (sym is) ∙ sym one_is.tooks_are
    at (inr none) = absurd none

module _ (streams : List ConfStream) (read : Reading) (source : Source) (id : StreamId) (known : is_known (ids_of streams) id ≡ true) (orderly : AreOrderly streams) where
  row_from : (one_try : Try) (rows : List RawRow) (row : RawRow) → IsTry (ids_of streams) source id one_try → IsSafeAttempt streams read one_try.attempt → GivesIn (ids_of streams) read one_try.attempt → AreAll (ReadsEvent read) one_try.attempt.events
      → IsReplayable (ids_of streams) read source one_try.attempt → IsCommitOf streams id one_try.attempt rows → Has row rows → ComesFrom streams read source id one_try row
  row_from one_try rows row of safe given right replayable commit has =
      let in_loads = has_from (loads one_try.attempt.events) commit.load commit.in_attempt in
      let made = load_row streams read commit.load commit.number rows row (all_has (IsSafeLoad streams read) commit.load (loads one_try.attempt.events) safe.safe.each in_loads)
      (has_from commit.load.events (Committed commit.number rows) commit.commit) has in
      let took = subst (λ texts. Has made.entry (entries (lines_read read texts))) (same_tooks one_try.attempt.events commit.load (may_load one_try.attempt.events safe.opens) in_loads) made.among in
      let gave = taken_entry read one_try.attempt.events made.entry (given_from read [] one_try.attempt.events safe.takes ([], refl)) took in
      let on = given_entry (ids_of streams) read one_try.attempt made.entry orderly.names right given gave in
      let id_is : made.entry.content.id ≡ id = made.is.own ∙ (ap (λ (it : ConfStream). it.id) (some_is (sym made.is.configured ∙ commit.configured)) ∙ commit.of) in
      let lines = passed (ids_of streams) read one_try.attempt.events in
      let place = has_get (lane_entries (lane_for source id) lines) made.entry (has_kept (λ entry. covers (lane_for source id) entry.content.id) made.entry (entries lines) on (subst (λ it. covers (lane_for source id) it ≡ true) (sym id_is) (own_lane source id))) in
      let front = (replayable of.set of.writable of.states).reads_on id known in
      record {
        place = one_try.start + place.0;
        body = body_told made.entry;
        listed =
            ap (λ start. slice_get (source.list (lane_for source id)) (start + place.0)) of.start
            ∙ (sym (get_drop (source.list (lane_for source id)) (start_of source of.set id) place.0)
            ∙ (ap (λ list. slice_get list place.0) front.1 ∙ get_front (bodies (lane_for source id) lines) front.0 place.0 (body_told made.entry) (nth_body (lane_for source id) lines place.0 made.entry place.1)));
        own = id_is;
        same = made.is.is.body;
        copy = record {
          load = commit.load;
          in_attempt = commit.in_attempt;
          number = commit.number;
          rows = rows;
          commit = commit.commit;
          among = has_to rows row has;
          entry = made.entry;
          is = made.is;
          before = place.0;
          stands = place.1;
          place_is = refl;
        };
      }

pub rows_are_copies : RowsAreCopies
rows_are_copies streams read source trace right orderly sound id known =
    let chain = chain_of streams read source id trace sound.safe.0 orderly right sound.replayable sound.safe.1 in
    let found = tried streams read source id (attempts trace) (start_of source sound.safe.0.set id) chain in
    record {
      tries = found.tries;
      are = found.are;
      each = found.each;
      copies = λ one_try rows row among commit in_rows. (
          let has = has_from found.tries one_try among in
          let there : Has one_try.attempt (attempts trace) = subst (Has one_try.attempt) found.are (has_of attempt_of one_try found.tries has) in
          row_from streams read source id known orderly one_try rows row
          (all_has (IsTry (ids_of streams) source id) one_try found.tries found.each has)
          (all_has (IsSafeAttempt streams read) one_try.attempt (attempts trace) (attempts_are_safe streams read trace sound.engine) there)
          (all_has (GivesIn (ids_of streams) read) one_try.attempt (attempts trace) (given_along streams read [] trace no_sync sound.safe.0 sound.safe.1 tt tt tt) there)
          (all_has (EventsAre (ReadsEvent read)) one_try.attempt (attempts trace) (attempts_are (ReadsEvent read) [] trace tt (right_events read trace right)) there)
          (all_has (IsReplayable (ids_of streams) read source) one_try.attempt (attempts trace) sound.replayable there)
          commit (has_from rows row in_rows));
    }
