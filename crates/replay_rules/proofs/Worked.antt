-- The worked attempts.
use Rattle.std.proofs.Common.{arith, ◌≡◌, ◌⊎◌, inl, inr, ℕ, ◌+◌, ◌≤◌, List, [], ◌∷◌, ◌++◌, Option, None, Some, Bool, true, false, refl, ap, subst}
use Rattle.std.specs.Prelude.{length}
use Rattle.std.specs.List.{AllByRecursion}
use Rattle.std.proofs.lemmas.Bool.{false≢true}
use Rattle.basics.specs.declared.stream.StreamId.{StreamId}
use Rattle.outside.proofs.TableLaws.{id_is}
use Rattle.outside.specs.declared.event.Event.{Event}
use Rattle.outside.specs.declared.event.Event.TheVariants as event
use Rattle.outside.specs.declared.event.Exit.{Exit}
use Rattle.outside.specs.declared.event.Exit.TheVariants.{Code}
use Rattle.airbyte_message.specs.Lanes.{Lane, one, all}
use Rattle.dedup_merge.proofs.SameRowLemmas.{Has, has_from, has_to}
use Rattle.load_rules.specs.Examples.{a, b}
use Rattle.load_rules.specs.Lines.{is_known, lines_read}
use Rattle.load_rules.specs.Finished.{last_status}
use Rattle.load_rules.specs.Prefixes.{IsPrefix}
use Rattle.load_rules.specs.Attempts.{passed, reads as reads_of}
use Rattle.state_kinds.specs.Saved.{nothing_saved}
use Rattle.sync_rules.specs.Examples.{held_a, held_all}
use Rattle.sync_rules.proofs.KindLemmas.{or_cases}
use Rattle.replay_rules.specs.Sources.{Body, Source, lane_for, rest_of, bodies}
use Rattle.replay_rules.specs.Replayed.{IsFine, IsReadOut}
use Rattle.replay_rules.specs.Sound.{BeginsUnopened, IsSound}
use Rattle.replay_rules.specs.Whole.{IsWhole}
use Rattle.sync_rules.specs.Sync.{no_sync}
use Rattle.replay_rules.specs.Examples.{tell, source_a, source_none, dedup_a, lines, ended, body, ReadsA, ReadsBoth, ReplaysAsWorked}

known_a : (id : StreamId) → is_known (a ∷ []) id ≡ true → a ≡ id
known_a id known = id_is a id (one_is (or_cases _ false known))
  where
    one_is : {x : Bool} → (x ≡ true) ⊎ (false ≡ true) → x ≡ true
    one_is (inl is) = is
    one_is (inr none) = absurd (false≢true none)

-- what holds of `a` holds of each configured stream
for_a : (P : StreamId → Type 0) → P a → (id : StreamId) → is_known (a ∷ []) id ≡ true → P id
for_a P own id known = subst P (known_a id known) own

-- an attempt none of whose ends has code 0 of the source reads nothing out
abbrev pub NotZero : Event → Type 0
NotZero (event.Ended codes) = codes.source ≡ Some (Code 0) → ⊥
NotZero other = Unit {0}

all_in : {A : Type 0} (P : A → Type 0) (xs : List A) (x : A) → AllByRecursion P xs → Has x xs → P x
all_in P [] x each has = absurd has
all_in P (y ∷ xs) x each (inl is) = subst P is each.0
all_in P (y ∷ xs) x each (inr has) = all_in P xs x each.1 has

not_zero : (ids : List StreamId) (lane : Lane) (events : List Event) → AllByRecursion NotZero events → IsReadOut ids tell lane events → ⊥
not_zero ids lane events each out = all_in NotZero events (event.Ended out.codes) each (has_from events (event.Ended out.codes) out.ended) out.code

abbrev no_code : Option Exit
no_code = None

none_code : no_code ≡ Some (Code 0) → ⊥
none_code e = cc

one_code : (Some (Code 1)) ≡ Some (Code 0) → ⊥
one_code e = cc

abbrev first : List ℕ → ℕ
first [] = 0
first (byte ∷ rest) = byte

abbrev byte_of : List Body → ℕ
byte_of [] = 0
byte_of (one_of ∷ rest) = first one_of.body

abbrev size_of : List Body → ℕ
size_of list = length list

dies : ReadsA (held_a 0 None) (lines (1 ∷ 3 ∷ []) ++ ended None)
dies = record {
  reads_on = for_a (λ id. IsPrefix (bodies (lane_for source_a id) (passed (a ∷ []) tell (lines (1 ∷ 3 ∷ []) ++ ended None))) (rest_of source_a (held_a 0 None) id)) (body a 2 ∷ [], refl);
  placed = (record { own = refl; is = omega arith }, tt);
  whole = for_a (λ id. IsReadOut (a ∷ []) tell (lane_for source_a id) (lines (1 ∷ 3 ∷ []) ++ ended None) → bodies (lane_for source_a id) (passed (a ∷ []) tell (lines (1 ∷ 3 ∷ []) ++ ended None)) ≡ rest_of source_a (held_a 0 None) id) (λ out. absurd (not_zero (a ∷ []) (one a) (lines (1 ∷ 3 ∷ []) ++ ended None) (tt, (tt, (tt, (none_code, tt)))) out));
}

goes_on : ReadsA (held_a 0 (Some (3 ∷ []))) (lines (2 ∷ 5 ∷ 4 ∷ []) ++ ended (Some 0))
goes_on = record {
  reads_on = for_a (λ id. IsPrefix (bodies (lane_for source_a id) (passed (a ∷ []) tell (lines (2 ∷ 5 ∷ 4 ∷ []) ++ ended (Some 0)))) (rest_of source_a (held_a 0 (Some (3 ∷ []))) id)) ([], refl);
  placed = (record { own = refl; is = omega arith }, tt);
  whole = for_a (λ id. IsReadOut (a ∷ []) tell (lane_for source_a id) (lines (2 ∷ 5 ∷ 4 ∷ []) ++ ended (Some 0)) → bodies (lane_for source_a id) (passed (a ∷ []) tell (lines (2 ∷ 5 ∷ 4 ∷ []) ++ ended (Some 0))) ≡ rest_of source_a (held_a 0 (Some (3 ∷ []))) id) (λ out. refl);
}

restarts : ReadsA (held_a 1 None) (lines (1 ∷ 3 ∷ 2 ∷ 5 ∷ 4 ∷ []) ++ ended (Some 0))
restarts = record {
  reads_on = for_a (λ id. IsPrefix (bodies (lane_for source_a id) (passed (a ∷ []) tell (lines (1 ∷ 3 ∷ 2 ∷ 5 ∷ 4 ∷ []) ++ ended (Some 0)))) (rest_of source_a (held_a 1 None) id)) ([], refl);
  placed = (record { own = refl; is = omega arith }, (record { own = refl; is = omega arith }, tt));
  whole = for_a (λ id. IsReadOut (a ∷ []) tell (lane_for source_a id) (lines (1 ∷ 3 ∷ 2 ∷ 5 ∷ 4 ∷ []) ++ ended (Some 0)) → bodies (lane_for source_a id) (passed (a ∷ []) tell (lines (1 ∷ 3 ∷ 2 ∷ 5 ∷ 4 ∷ []) ++ ended (Some 0))) ≡ rest_of source_a (held_a 1 None) id) (λ out. refl);
}

later : ReadsA (held_a 0 None) (lines (1 ∷ 2 ∷ 3 ∷ []))
later = record {
  reads_on = for_a (λ id. IsPrefix (bodies (lane_for source_a id) (passed (a ∷ []) tell (lines (1 ∷ 2 ∷ 3 ∷ [])))) (rest_of source_a (held_a 0 None) id)) ([], refl);
  placed = (record { own = refl; is = omega arith }, tt);
  whole = for_a (λ id. IsReadOut (a ∷ []) tell (lane_for source_a id) (lines (1 ∷ 2 ∷ 3 ∷ [])) → bodies (lane_for source_a id) (passed (a ∷ []) tell (lines (1 ∷ 2 ∷ 3 ∷ []))) ≡ rest_of source_a (held_a 0 None) id) (λ out. absurd (false≢true out.over));
}

cut_off : ReadsA (held_a 0 None) (lines (1 ∷ 3 ∷ 4 ∷ []) ++ ended (Some 1))
cut_off = record {
  reads_on = for_a (λ id. IsPrefix (bodies (lane_for source_a id) (passed (a ∷ []) tell (lines (1 ∷ 3 ∷ 4 ∷ []) ++ ended (Some 1)))) (rest_of source_a (held_a 0 None) id)) (body a 2 ∷ [], refl);
  placed = (record { own = refl; is = omega arith }, tt);
  whole = for_a (λ id. IsReadOut (a ∷ []) tell (lane_for source_a id) (lines (1 ∷ 3 ∷ 4 ∷ []) ++ ended (Some 1)) → bodies (lane_for source_a id) (passed (a ∷ []) tell (lines (1 ∷ 3 ∷ 4 ∷ []) ++ ended (Some 1))) ≡ rest_of source_a (held_a 0 None) id) (λ out. absurd (not_zero (a ∷ []) (one a) (lines (1 ∷ 3 ∷ 4 ∷ []) ++ ended (Some 1)) (tt, (tt, (tt, (tt, (one_code, tt))))) out));
}

stops : ReadsBoth (nothing_saved) (lines (1 ∷ 7 ∷ 6 ∷ []) ++ ended None)
stops = record {
  reads_on = λ id known. (body a 2 ∷ [], refl);
  placed = (record { own = refl; is = omega arith }, tt);
  whole = λ id known out. absurd (not_zero (a ∷ b ∷ []) all (lines (1 ∷ 7 ∷ 6 ∷ []) ++ ended None) (tt, (tt, (tt, (tt, (none_code, tt))))) out);
}

goes_on_for_all : ReadsBoth (held_all (6 ∷ [])) (lines (2 ∷ 8 ∷ []) ++ ended (Some 0))
goes_on_for_all = record {
  reads_on = λ id known. ([], refl);
  placed = (record { own = refl; is = omega arith }, tt);
  whole = λ id known out. refl;
}

too_early : ¬ ReadsA (held_a 0 None) (lines (1 ∷ 5 ∷ []))
too_early reads = absurd (let low : 2 ≤ 0 + 1 = reads.placed.0.is in omega (arith, low))

skips : ¬ ReadsA (held_a 0 None) (lines (2 ∷ []))
skips reads = let front = reads.reads_on a refl in let same : 1 ≡ 2 = ap byte_of front.1 in omega (arith, same)

starts_again : ¬ ReadsA (held_a 0 (Some (3 ∷ []))) (lines (1 ∷ []))
starts_again reads = let front = reads.reads_on a refl in let same : 2 ≡ 1 = ap byte_of front.1 in omega (arith, same)

lacks : ¬ ReadsA (held_a 0 None) (lines (1 ∷ 3 ∷ 4 ∷ []) ++ ended (Some 0))
lacks reads =
    let all = reads.whole a refl (record {
      over = refl;
      codes = record { source = Some (Code 0); dest = None };
      ended = has_to (lines (1 ∷ 3 ∷ 4 ∷ []) ++ ended (Some 0)) (event.Ended (record { source = Some (Code 0); dest = None })) (inr (inr (inr (inr (inl refl)))));
      code = refl;
      fine = λ id known covered. for_a (λ it. IsFine (last_status it (lines_read tell (reads_of (lines (1 ∷ 3 ∷ 4 ∷ []) ++ ended (Some 0)))))) refl id known;
    }) in
    let same : 1 ≡ 2 = ap size_of all in omega (arith, same)

other_kind : ¬ ReadsA (held_a 0 None) (lines (6 ∷ []))
other_kind reads = false≢true reads.placed.0.own

in_order : ¬ ReadsBoth nothing_saved (lines (7 ∷ 1 ∷ []))
in_order reads = let front = reads.reads_on a refl in let same : 1 ≡ 7 = ap byte_of front.1 in omega (arith, same)

empty : (source : Source) → IsSound (dedup_a ∷ []) tell source []
empty source = record {
  unopened = refl;
  safe = (no_sync, refl);
  engine = record { loads_are = record { safe = record { opened = refl; each = tt }; store = tt; fit = tt }; attempts_are = tt };
  replayable = tt;
}

opened : ¬ BeginsUnopened (event.Opened 1 1 [] ∷ [])
opened none = cc

none_seen : IsWhole source_none dedup_a []
none_seen = record { gen = record { generation = 0; minimum = 0 }; gen_is = refl; committed = []; are = tt; final = record { rise = tt; each = λ key. refl } }

pub replays_as_worked : ReplaysAsWorked
replays_as_worked = record {
  first = refl;
  behind = refl;
  dropped = refl;
  kept = refl;
  for_all = refl;
  dies = dies;
  goes_on = goes_on;
  restarts = restarts;
  later = later;
  too_early = too_early;
  skips = skips;
  starts_again = starts_again;
  lacks = lacks;
  cut_off = cut_off;
  other_kind = other_kind;
  stops = stops;
  goes_on_for_all = goes_on_for_all;
  in_order = in_order;
  empty = empty;
  opened = opened;
  none_seen = none_seen;
}
