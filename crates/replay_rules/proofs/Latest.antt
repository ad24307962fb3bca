-- Of each body before the place of a saved state some copy follows every copy of every body before it.
use Rattle.std.proofs.Common.{arith, ◌≡◌, ◌⊎◌, inl, inr, ℕ, zero, suc, ◌+◌, ◌-◌, ◌<◌, ◌≤◌, List, [], ◌∷◌, map, slice_get, Some, Bool, true, false, cond, refl, sym, ◌∙◌, ap, subst}
use Rattle.std.specs.Prelude.{filter, fold}
use Rattle.std.specs.List.{AllByRecursion}
use Rattle.basics.specs.declared.stream.StreamId.{StreamId}
use Rattle.outside.specs.declared.event.Event.{Event}
use Rattle.outside.specs.declared.event.RawRow.{RawRow}
use Rattle.catalog.specs.Reading.{ids_of}
use Rattle.catalog.specs.declared.stream.ConfStream.{ConfStream}
use Rattle.dedup_merge.proofs.SameRowLemmas.{Has, has_from, has_to}
use Rattle.load_rules.specs.Prefixes.{EachFits}
use Rattle.load_rules.specs.Lines.{Reading}
use Rattle.load_rules.specs.Taken.{Entry, entries, covers}
use Rattle.load_rules.specs.Loads.{Load, loads, loads_after}
use Rattle.load_rules.specs.Attempts.{Attempt, attempts, passed}
use Rattle.load_rules.specs.Engine.{OpensFirst}
use Rattle.load_rules.specs.Laws.{IsSafeAttempt}
use Rattle.load_rules.proofs.Pipes.{MayLoad, may_load}
use Rattle.load_rules.proofs.SafeAttempts.{attempts_are_safe}
use Rattle.load_rules.proofs.TakenLists.{Numbered, numbered}
use Rattle.sync_rules.specs.SafeSync.{commits}
use Rattle.sync_rules.proofs.Backs.{saved_reads_back}
use Rattle.sync_rules.proofs.KindLemmas.{some_is, some_none}
use Rattle.replay_rules.specs.Sources.{Source, lane_for, start_of}
use Rattle.replay_rules.specs.Copies.{Try, IsTry, IsCopyOf, IsCopy, Follows, IsLatest, HasLatest}
use Rattle.replay_rules.specs.Laws.{SavedAreLatest}
use Rattle.replay_rules.proofs.Chain.{Chain, chain_of}
use Rattle.replay_rules.proofs.Committed.{Stands}
use Rattle.replay_rules.proofs.Lines.{lane_entries}
use Rattle.replay_rules.proofs.Numbers.{LoadsRise, loads_rise}
use Rattle.replay_rules.proofs.Sets.{done, ok_is}

-- ---- the sequences of a lane's records rise

abbrev pub SeqsRise : ℕ → List Entry → Type 0
SeqsRise low [] = Unit {0}
SeqsRise low (entry ∷ more) = (low ≤ entry.seq) × SeqsRise (entry.seq + 1) more

rise_lower : (low lower : ℕ) (list : List Entry) → lower ≤ low → SeqsRise low list → SeqsRise lower list
rise_lower low lower [] less rise = tt
rise_lower low lower (entry ∷ more) less rise = (let at = rise.0 in omega (arith, less, at), rise.1)

rise_filter : (test : Entry → Bool) (n : ℕ) (list : List Entry) → Numbered n list → SeqsRise n (filter test list)
rise_filter test n [] counts = tt
rise_filter test n (entry ∷ more) counts = at (test entry) (rise_filter test (n + 1) more counts.1)
  where
    is : entry.seq ≡ n
    is = counts.0

    at : (b : Bool) → SeqsRise (n + 1) (filter test more) → SeqsRise n (cond b (entry ∷ filter test more) (filter test more))
    at true rest = (omega (arith, is), subst (λ k. SeqsRise (k + 1) (filter test more)) (sym is) rest)
    at false rest = rise_lower (n + 1) n (filter test more) (omega arith) rest

rise_at : (low : ℕ) (list : List Entry) (n : ℕ) (entry : Entry) → SeqsRise low list → slice_get list n ≡ Some entry → low ≤ entry.seq
rise_at low [] n entry rise is = absurd (some_none (sym is))
rise_at low (first ∷ more) zero entry rise is = subst (λ (it : Entry). low ≤ it.seq) (some_is is) rise.0
rise_at low (first ∷ more) (suc n) entry rise is = let deeper = rise_at (first.seq + 1) more n entry rise.1 is in let here = rise.0 in omega (arith, deeper, here)

seq_less : (low : ℕ) (list : List Entry) (n k : ℕ) (entry other : Entry) → SeqsRise low list → slice_get list n ≡ Some entry → slice_get list k ≡ Some other → k < n → other.seq < entry.seq
seq_less low [] n k entry other rise is at less = absurd (some_none (sym is))
seq_less low (first ∷ more) zero k entry other rise is at less = absurd (omega (arith, less))
seq_less low (first ∷ more) (suc n) zero entry other rise is at less =
    let deeper = rise_at (first.seq + 1) more n entry rise.1 is in
    subst (λ (it : Entry). it.seq < entry.seq) (some_is at) (omega (arith, deeper))
seq_less low (first ∷ more) (suc n) (suc k) entry other rise is at less = seq_less (first.seq + 1) more n k entry other rise.1 is at (omega (arith, less))

-- ---- an attempt has one load

one_load : (events : List Event) (load other : Load) → MayLoad events → Has load (loads events) → Has other (loads events) → load ≡ other
one_load events load other (inl none) has so = absurd (subst (λ list. Has load (fold loads_after [] list)) none.stored has)
one_load events load other (inr one_is) has so = at (subst (Has load) one_is.own has) (subst (Has other) one_is.own so)
  where
    at : Has load (one_is.load ∷ []) → Has other (one_is.load ∷ []) → load ≡ other
    at (inl is) (inl same) = sym is ∙ same
    at (inr none) same = absurd none
    at (inl is) (inr none) = absurd none

has_of : {A B : Type 0} (f : A → B) (x : A) (xs : List A) → Has x xs → Has (f x) (map f xs)
has_of f x [] has = absurd has
has_of f x (y ∷ xs) (inl is) = inl (ap f is)
has_of f x (y ∷ xs) (inr has) = inr (has_of f x xs has)

order : (a b : ℕ) → (a < b) ⊎ (b ≤ a)
order a b = grind arith

abbrev pub attempt_of : Try → Attempt
attempt_of one_try = one_try.attempt

module _ (streams : List ConfStream) (read : Reading) (source : Source) (id : StreamId) where
  -- each attempt has committed what stands between its start and the next one
  abbrev pub Covered : ℕ → List Try → Type 0
  Covered next [] = next ≡ 0
  Covered next (one_try ∷ older) = ((place : ℕ) → one_try.start ≤ place → place < next → Stands streams read (lane_for source id) one_try.attempt.events (place - one_try.start)) × Covered one_try.start older

  pub record Tried (list : List Attempt) (next : ℕ) : Type 0 where
    pub tries : List Try
    pub are : map attempt_of tries ≡ list
    pub each : AllByRecursion (IsTry (ids_of streams) source id) tries
    pub covered : Covered next tries

  pub tried : (list : List Attempt) (next : ℕ) → Chain streams read source id next list → Tried list next
  tried [] next chain = record { tries = []; are = refl; each = tt; covered = chain }
  tried (attempt ∷ older) next (set, writable, states_are, covered, rest) =
      let deeper = tried older (start_of source set id) rest in
      record {
        tries = record { attempt = attempt; start = start_of source set id } ∷ deeper.tries;
        are = ap (λ list. attempt ∷ list) deeper.are;
        each = (record { set = set; writable = writable; states = states_are; start = refl }, deeper.each);
        covered = (covered, deeper.covered);
      }

  -- ---- copies

  copy_at : (one_try : Try) (place : ℕ) → one_try.start ≤ place → (stands : Stands streams read (lane_for source id) one_try.attempt.events (place - one_try.start)) → IsCopyOf streams read source id one_try place stands.committed.stands.row
  copy_at one_try place low stands = record {
    load = stands.committed.load;
    in_attempt = stands.committed.among;
    number = stands.committed.stands.number;
    rows = stands.committed.stands.rows;
    commit = stands.committed.stands.commit;
    among = stands.committed.stands.among;
    entry = stands.entry;
    is = stands.committed.stands.is;
    before = place - one_try.start;
    stands = stands.is;
    place_is = omega (arith, low);
  }

  -- in one attempt a copy of a later place follows
  same_attempt : (one_try : Try) (place earlier : ℕ) (row other : RawRow) → EachFits OpensFirst [] one_try.attempt.events → IsCopyOf streams read source id one_try place row → IsCopyOf streams read source id one_try earlier other → earlier < place → Follows row other
  same_attempt one_try place earlier row other first copy so less =
      let is = one_load one_try.attempt.events so.load copy.load (may_load one_try.attempt.events first) (has_from (loads one_try.attempt.events) so.load so.in_attempt) (has_from (loads one_try.attempt.events) copy.load copy.in_attempt) in
      let a = copy.place_is in
      let b = so.place_is in
      let lines = passed (ids_of streams) read one_try.attempt.events in
      let rises = rise_filter (λ entry. covers (lane_for source id) entry.content.id) 0 (entries lines) (numbered 0 lines) in
      let seqs = seq_less 0 (lane_entries (lane_for source id) lines) copy.before so.before copy.entry so.entry rises copy.stands so.stands (omega (arith, a, b, less)) in
      let x = copy.is.is.numbers.seq in
      let y = so.is.is.numbers.seq in
      inr (so.is.is.numbers.load ∙ (ap (λ (it : Load). it.opening.load) is ∙ sym copy.is.is.numbers.load), omega (arith, seqs, x, y))

  -- a copy of a later attempt follows
  later_attempt : (one_try earlier_try : Try) (older : List Try) (place earlier : ℕ) (row other : RawRow) → LoadsRise (map attempt_of (one_try ∷ older)) → Has earlier_try older → IsCopyOf streams read source id one_try place row → IsCopyOf streams read source id earlier_try earlier other → Follows row other
  later_attempt one_try earlier_try older place earlier row other rise has copy so =
      let less = rise.0 copy.load.opening (has_of (λ load. load.opening) copy.load (loads one_try.attempt.events) (has_from (loads one_try.attempt.events) copy.load copy.in_attempt))
      earlier_try.attempt (has_of attempt_of earlier_try older has) so.load.opening (has_of (λ load. load.opening) so.load (loads earlier_try.attempt.events) (has_from (loads earlier_try.attempt.events) so.load so.in_attempt)) in
      let x = copy.is.is.numbers.load in
      let y = so.is.is.numbers.load in
      inl (omega (arith, less, x, y))

  abbrev pub OpensOnce : Try → Type 0
  OpensOnce one_try = EachFits OpensFirst [] one_try.attempt.events

  latest_here : (one_try : Try) (older : List Try) (place : ℕ) → one_try.start ≤ place → OpensOnce one_try → LoadsRise (map attempt_of (one_try ∷ older)) → Stands streams read (lane_for source id) one_try.attempt.events (place - one_try.start) → (row : RawRow) × IsLatest streams read source id (one_try ∷ older) place row
  latest_here one_try older place low once rise stands = (stands.committed.stands.row, record { copy = record { one_try = one_try; among = has_to (one_try ∷ older) one_try (inl refl); copy = copy }; follows = follows })
    where
      copy : IsCopyOf streams read source id one_try place stands.committed.stands.row
      copy = copy_at one_try place low stands

      follows : (earlier : ℕ) (other : RawRow) → IsCopy streams read source id (one_try ∷ older) earlier other → earlier < place → Follows stands.committed.stands.row other
      follows earlier other so less = at (has_from (one_try ∷ older) so.one_try so.among)
        where
          at : Has so.one_try (one_try ∷ older) → Follows stands.committed.stands.row other
          at (inl is) = same_attempt one_try place earlier stands.committed.stands.row other once copy (subst (λ it. IsCopyOf streams read source id it earlier other) (sym is) so.copy) less
          at (inr has) = later_attempt one_try so.one_try older place earlier stands.committed.stands.row other rise has copy so.copy

  latest_before : (one_try : Try) (older : List Try) (place : ℕ) → place < one_try.start → (row : RawRow) → IsLatest streams read source id older place row → IsLatest streams read source id (one_try ∷ older) place row
  latest_before one_try older place below row latest = record {
    copy = record { one_try = latest.copy.one_try; among = has_to (one_try ∷ older) latest.copy.one_try (inr (has_from older latest.copy.one_try latest.copy.among)); copy = latest.copy.copy };
    follows = follows;
  }
    where
      follows : (earlier : ℕ) (other : RawRow) → IsCopy streams read source id (one_try ∷ older) earlier other → earlier < place → Follows row other
      follows earlier other so less = at (has_from (one_try ∷ older) so.one_try so.among)
        where
          at : Has so.one_try (one_try ∷ older) → Follows row other
          at (inl is) = absurd (let from = (subst (λ it. IsCopyOf streams read source id it earlier other) (sym is) so.copy).place_is in omega (arith, from, below, less))
          at (inr has) = latest.follows earlier other (record { one_try = so.one_try; among = has_to older so.one_try has; copy = so.copy }) less

  pub latest_of : (tries : List Try) (next : ℕ) → Covered next tries → AllByRecursion OpensOnce tries → LoadsRise (map attempt_of tries) → (place : ℕ) → place < next → (row : RawRow) × IsLatest streams read source id tries place row
  latest_of [] next covered once rise place less = absurd (omega (arith, covered, less))
  latest_of (one_try ∷ older) next covered once rise place less = at (order place one_try.start) (λ below. latest_of older one_try.start covered.1 once.1 rise.1 place below)
    where
      at : (place < one_try.start) ⊎ (one_try.start ≤ place) → (place < one_try.start → (row : RawRow) × IsLatest streams read source id older place row) → (row : RawRow) × IsLatest streams read source id (one_try ∷ older) place row
      at (inl below) deeper = let found = deeper below in (found.0, latest_before one_try older place below found.0 found.1)
      at (inr low) deeper = latest_here one_try older place low once.0 rise (covered.0 place low less)

  once_of : (tries : List Try) (list : List Attempt) → map attempt_of tries ≡ list → AllByRecursion (IsSafeAttempt streams read) list → AllByRecursion OpensOnce tries
  once_of tries list are safe = from tries (subst (AllByRecursion (IsSafeAttempt streams read)) (sym are) safe)
    where
      from : (tries : List Try) → AllByRecursion (IsSafeAttempt streams read) (map attempt_of tries) → AllByRecursion OpensOnce tries
      from [] safe = tt
      from (one_try ∷ older) safe = (safe.0.opens, from older safe.1)

  pub latest_in : (trace : List Event) (next : ℕ) → Tried (attempts trace) next → AllByRecursion (IsSafeAttempt streams read) (attempts trace) → LoadsRise (attempts trace) → HasLatest streams read source id trace next
  latest_in trace next tried safe rise = record {
    tries = tried.tries;
    are = tried.are;
    each = tried.each;
    latest = latest_of tried.tries next tried.covered (once_of tried.tries (attempts trace) tried.are safe) (subst LoadsRise (sym tried.are) rise);
  }

pub saved_are_latest : SavedAreLatest
saved_are_latest streams read source trace set right orderly sound reads id known =
    let leads = sound.safe.1 in
    let back = saved_reads_back streams read commits trace sound.safe.0 right orderly leads in
    let same : done set ≡ done sound.safe.0.set = back.reads.only (done set) reads in
    let chain = chain_of streams read source id trace sound.safe.0 orderly right sound.replayable leads in
    subst (λ it. HasLatest streams read source id trace (start_of source it id)) (sym (ok_is set sound.safe.0.set same))
    (latest_in streams read source id trace (start_of source sound.safe.0.set id) (tried streams read source id (attempts trace) (start_of source sound.safe.0.set id) chain)
    (attempts_are_safe streams read trace sound.engine) (loads_rise streams read trace sound.engine.loads_are.store sound.engine.attempts_are))
