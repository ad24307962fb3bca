-- The worked standings.
use Rattle.std.proofs.Common.{arith, ◌≡◌, ◌⊎◌, inl, inr, ◌<◌, ℕ, List, [], ◌∷◌, ◌++◌, Bool, true, false, Option, None, Some, refl, sym, ◌∙◌, ap, subst}
use Rattle.std.specs.Prelude.{Result, Ok, Err, is_some, fold, codes, ◌≤◌, ◌^◌}
use Rattle.std.specs.Str.{bytes_eq}
use Rattle.std.proofs.lemmas.Bool.{false≢true}
use Rattle.outside.specs.declared.event.AttemptPlan.{AttemptPlan}
use Rattle.outside.specs.declared.event.Event.{Event}
use Rattle.outside.specs.declared.event.Event.TheVariants as event
use Rattle.outside.specs.declared.event.RawRow.{RawRow}
use Rattle.json.specs.Print.{escape_byte}
use Rattle.std.specs.Fmt.{digits}
use Rattle.json.proofs.Printed.Utf8.{IsUtf8-are_ascii}
use Rattle.json_span.specs.Grammar as json
use Rattle.json_span.specs.Members.{AreMembers}
use Rattle.json_fields.specs.Fields.{line_depth}
use Rattle.catalog.specs.Written.{IsCatalogText}
use Rattle.load_rules.specs.Rows.{IsRowOf}
use Rattle.outside.specs.declared.event.Exit.{Exit}
use Rattle.outside.specs.declared.event.Exit.TheVariants.{Code, Signal}
use Rattle.outside.specs.declared.faults.StateFault.{StateFault}
use Rattle.airbyte_message.specs.Lanes.{one}
use Rattle.catalog.specs.declared.stream.ConfStream.{ConfStream}
use Rattle.catalog.specs.declared.stream.Gen.{Gen}
use Rattle.load_rules.specs.Examples.{a, b, both_streams, plan_of_a}
use Rattle.load_rules.specs.Lines.{line_read}
use Rattle.load_rules.specs.Taken.{LaneState, Entry}
use Rattle.load_rules.specs.Honest.{IsCommitted}
use Rattle.load_rules.specs.Attempts.{Waiting, none_given, with_given, attempts, attempt_events, LeavesAll, TakesState}
use Rattle.state_kinds.specs.Saved.{Saved, nothing_saved, state_of}
use Rattle.state_kinds.specs.Changes.{begun, given_of, put_into}
use Rattle.sync_rules.specs.Generations.{Begins, gens_of, Held, generations_in}
use Rattle.sync_rules.specs.Sync.{Running, Sync, Takes, completion}
use Rattle.sync_rules.specs.SafeSync.{commits, IsAsked, IsCovered}
use Rattle.sync_rules.specs.Steps.{Saves, Puts}
use Rattle.sync_rules.specs.Examples.{GenerationsAsWorked, BreachesAsWorked, SyncsAsWorked, CallsAsWorked, restarting, only_a, tell, held_a, held_all, held_both, gen, stands, begun_again, failed, state_back, died, taken_a, taken_all, written_a, catalog_text, entry_a, with_row, saved_a, first_attempt}
use Rattle.sync_rules.proofs.Rising.{leaves_all_one}
use Rattle.sync_rules.proofs.KindLemmas.{heads}

pub generations_as_worked : GenerationsAsWorked
generations_as_worked = record {
  restarts_a = refl;
  goes_on = refl;
  resumes = refl;
  untold_restarts = refl;
  first = refl;
  next = refl;
  told_greater = refl;
  last = refl;
  spent = refl;
  second_spent = refl;
  other = refl;
}

pub breaches_as_worked : BreachesAsWorked
breaches_as_worked = record {
  miscount = refl;
  right_count = refl;
  counted_anew = refl;
  mixed = refl;
  mixed_with_saved = refl;
  alone = refl;
  counted_all = refl;
  counted_both = refl;
  legacy = refl;
  unknown = refl;
  no_message = refl;
}

none_some : {A : Type 0} {x : A} → None ≡ Some x → ⊥
none_some e = false≢true (ap is_some e)

some_none : {A : Type 0} {x : A} → Some x ≡ None → ⊥
some_none e = false≢true (ap is_some (sym e))

some_is : {A : Type 0} {x y : A} → Some x ≡ Some y → x ≡ y
some_is e = cc

-- the only set that an attempt begins with
begun_is : (streams : List ConfStream) (old set : Saved) (gens known : List Gen) → gens_of old streams ≡ Some known → Begins streams old gens set → set ≡ begun (given_of streams known) old
begun_is streams old set gens known are begins = begins.is ∙ ap (λ list. begun (given_of streams list) old) (some_is (sym begins.gens_are ∙ are))

abbrev put_or : Saved → Result Saved StateFault → Saved
put_or set (Ok put) = put
put_or set (Err fault) = set

put_is : (result : Result Saved StateFault) (set : Saved) → result ≡ Ok set → put_or set result ≡ set
put_is result set is = ap (put_or set) is

abbrev is_put : Result Saved StateFault → Bool
is_put (Ok put) = true
is_put (Err fault) = false

is_put_of : (result : Result Saved StateFault) (set : Saved) → result ≡ Ok set → is_put result ≡ true
is_put_of result set is = ap is_put is

abbrev exit_number : Option Exit → ℕ
exit_number None = 9
exit_number (Some (Code code)) = code
exit_number (Some Signal) = 9

number_is : (exit other : Option Exit) → exit ≡ other → exit_number exit ≡ exit_number other
number_is exit other is = ap exit_number is

-- what is saved is what the one or the other leaves
saved_by : (streams : List ConfStream) (Beside : LaneState → Type 0) (sync : Sync) (text : List ℕ) (now : Sync) (known : List Gen) (P : Saved → Type 0) → gens_of sync.set streams ≡ Some known
    → P (begun (given_of streams known) sync.set) → ((set : Saved) → Puts streams tell Beside sync set → P set)
    → Saves streams tell Beside sync text now → P now.set
saved_by streams Beside sync text now known P are begins puts saves = subst (λ (it : Sync). P it.set) (sym saves.is) (by saves.by)
  where
    by : ((gens : List Gen) × Begins streams sync.set gens saves.set) ⊎ Puts streams tell Beside sync saves.set → P saves.set
    by (inl begun_so) = subst P (sym (begun_is streams sync.set saves.set begun_so.0 known are begun_so.1)) begins
    by (inr put_so) = puts saves.set put_so

-- the state that is put is the one that is owed
put_of : (old set : Saved) (state taken : LaneState) → Some taken ≡ Some state → put_into state.state old ≡ Ok set → put_into taken.state old ≡ Ok set
put_of old set state taken owed put = subst (λ (it : LaneState). put_into it.state old ≡ Ok set) (sym (some_is owed)) put

abbrev last_held : List Held → ℕ
last_held held = fold (λ number it. it.generation) 0 held

one_zero : (m n : ℕ) → m ≡ n → m ≡ 1 → n ≡ 0 → ⊥
one_zero m n same one_is zero_is = omega (arith, same, one_is, zero_is)

generation_is : (own : Running) (start : Saved) (held : List Held) → Some (record { start = start; events = state_back }) ≡ Some own → held ≡ generations_in own.start → held ≡ generations_in start
generation_is own start held same kept = kept ∙ ap (λ (it : Running). generations_in it.start) (sym (some_is same))

none_committed : (plan : AttemptPlan) (entry : Entry) → IsCommitted only_a (attempt_events (attempts (event.Started plan ∷ state_back))) entry → ⊥
none_committed plan entry is = (let within : is.among.0 < 0 = is.among.1 in omega (arith, within))

nil_cons : {A : Type 0} {x : A} {xs : List A} → [] ≡ x ∷ xs → ⊥
nil_cons e = grind (arith, e)

abbrev back : LaneState
back = record { lane = one a; state = taken_a.state; before = [] }

abbrev first_given : Waiting
first_given = with_given (one a) (line_read tell (1 ∷ [])) none_given

ended_ill : (is : ((rest : List (List ℕ)) × ([] ≡ (completion a ∷ []) ++ rest)) ⊎ (failed.source ≡ Some (Code 0))) → ⊥
ended_ill (inl prefix) = nil_cons prefix.1
ended_ill (inr code) = one_zero (exit_number failed.source) (exit_number (Some (Code 0))) (number_is failed.source (Some (Code 0)) code) refl refl

abbrev second_given : Waiting
second_given = with_given (one a) (line_read tell (2 ∷ [])) first_given

takes_a : TakesState tell (event.ReadLine (1 ∷ []) ∷ event.ReadLine (2 ∷ []) ∷ event.Given (1 ∷ []) ∷ event.Given (2 ∷ []) ∷ []) back taken_a
takes_a = record {
  waiting = second_given;
  waits = (none_given, refl, (none_given, refl, (first_given, refl, (second_given, refl, refl))));
  rest = [];
  takes = record { over = []; splits = refl; others = tt; same = (refl, refl) };
}

taken_leaves : LeavesAll tell (one a) none_given state_back (record { given = second_given.given; states = [] })
taken_leaves = (
  none_given,
  refl,
  (
    none_given,
    refl,
    (
      first_given,
      refl,
      (
        second_given,
        refl,
        (
          record { given = second_given.given; states = [] },
          (refl, ([], inr (taken_a, record { over = []; splits = refl; others = tt; same = (refl, refl) }), refl)),
          refl,
        ),
      ),
    ),
  ),
)

-- where no state waits, none is taken
none_in : {A : Type 0} (over : List A) (first : A) (rest : List A) → [] ≡ over ++ first ∷ rest → ⊥
none_in [] first rest is = nil_cons is
none_in (x ∷ over) first rest is = nil_cons is

none_taken : (events : List Event) (left : Waiting) → LeavesAll tell (one a) none_given events left → left.states ≡ [] → (owed : Option LaneState) → Takes tell events (2 ∷ []) owed → owed ≡ None
none_taken events left leaves none None takes = refl
none_taken events left leaves none (Some taken) (got, are, takes) = absurd (none_in takes.takes.over taken takes.rest (sym none ∙ (ap (λ (it : Waiting). it.states) same ∙ takes.takes.splits)))
  where
    lane_is : got.lane ≡ one a
    lane_is = ap (λ (it : LaneState). it.lane) (sym (heads are))

    same : left ≡ takes.waiting
    same = leaves_all_one tell (one a) none_given events left takes.waiting leaves (subst (λ lane. LeavesAll tell lane none_given events takes.waiting) lane_is takes.waits)

-- spent generations begin nothing, and nothing is owed
spent_by : (set : Saved) → ((gens : List Gen) × Begins (restarting a ∷ []) (held_a (2 ^ 62) None) gens set) ⊎ Puts (restarting a ∷ []) tell (λ state. Unit {0}) (stands (held_a (2 ^ 62) None) [] None) set → ⊥
spent_by set (inl begins) = none_some begins.1.gens_are
spent_by set (inr puts) = none_some puts.owed

-- the catalog's text
no_members : AreMembers line_depth (codes "{}") []
no_members = record {
  deep = 1;
  within = omega arith;
  object = record { before = []; value = json.empty_object []; after = []; spells = record { utf8 = IsUtf8-are_ascii (codes "{}") refl; object = tt; spelled = refl }; deepest = refl; places = refl };
}

catalog_is : IsCatalogText written_a (gen 0 ∷ []) catalog_text
unfolding escape_byte digits
catalog_is = record {
  many = refl;
  entries = codes "{\"generation_id\":0,\"minimum_generation_id\":0}" ∷ [];
  are = (record { members = []; are = no_members; kept = []; keeps = refl; is = refl }, tt);
  is = refl;
}

row_stands : (row : RawRow) → IsRowOf only_a (record { load = 1; moment = 1; plan = plan_of_a 0 0 false ∷ [] }) 0 entry_a row → IsCommitted only_a (with_row row) entry_a
row_stands row is = record {
  load = record { opening = record { load = 1; moment = 1; plan = plan_of_a 0 0 false ∷ [] }; events = event.Took (1 ∷ []) ∷ event.Committed 0 (row ∷ []) ∷ [] };
  among = (0, omega arith, refl);
  stands = record { number = 0; rows = row ∷ []; commit = (1, omega arith, refl); row = row; among = (0, omega arith, refl); is = is };
}

pub syncs_as_worked : SyncsAsWorked
syncs_as_worked = record {
  leads = (
    stands (held_a 0 None) (event.ReadLine (1 ∷ []) ∷ []) None,
    ((refl, refl), refl),
    (
      stands (held_a 0 None) (event.ReadLine (1 ∷ []) ∷ event.ReadLine (2 ∷ []) ∷ []) None,
      ((refl, refl), refl),
      (
        stands (held_a 0 None) (event.ReadLine (1 ∷ []) ∷ event.ReadLine (2 ∷ []) ∷ event.Given (1 ∷ []) ∷ []) None,
        ((refl, record { input_open = refl; unbroken = (refl, (refl, tt)); next = ((2 ∷ []) ∷ [], refl) }), refl),
        (
          stands (held_a 0 None) (event.ReadLine (1 ∷ []) ∷ event.ReadLine (2 ∷ []) ∷ event.Given (1 ∷ []) ∷ event.Given (2 ∷ []) ∷ []) None,
          ((refl, record { input_open = refl; unbroken = (refl, (refl, tt)); next = ([], refl) }), refl),
          (
            stands (held_a 0 None) state_back (Some taken_a),
            (
              refl,
              record {
                going = refl;
                none_owed = refl;
                owed = Some taken_a;
                takes = (
                  back,
                  refl,
                  takes_a,
                );
                is = refl;
              },
            ),
            (
              stands (held_a 0 None) died (Some taken_a),
              ((refl, inl ([], refl)), refl),
              (
                begun_again (held_a 0 None) (held_a 1 None) died,
                record { set = held_a 1 None; text_is = refl; by = inl (gen 1 ∷ [], record { gens_are = refl; is = refl }); is = refl },
                refl,
              ),
            ),
          ),
        ),
      ),
    ),
  );
  dropped_stays = λ text now fits. saved_by (restarting a ∷ []) (λ state. Unit {0}) (begun_again (held_a 0 None) (held_a 1 None) died) text now (gen 2 ∷ []) (λ set. set ≡ held_a 2 None) refl refl (λ set puts. absurd (none_some puts.owed)) fits;
  put_once = record {
    set = held_a 0 (Some (2 ∷ []));
    text_is = refl;
    by = inr (record { attempt = record { start = held_a 0 None; events = state_back }; in_attempt = refl; state = taken_a; owed = refl; passed_on = (0, omega arith, refl); kept = refl; put = refl; beside = tt });
    is = refl;
  };
  saved_first = λ now step. some_none step.1.none_owed;
  behind_end = λ now step. false≢true (sym step.0.0);
  stores_own = refl;
  completes = ((refl, record { input_open = refl; unbroken = tt; next = ([], refl) }), refl);
  too_early = λ now step. nil_cons step.0.1.next.1;
  not_failed = λ now step. ended_ill step.0.1;
  refused_line = λ now step. some_none step.0.1.unbroken.1.1.0;
  before_it = ((refl, record { input_open = refl; unbroken = (refl, (refl, tt)); next = ((1 ∷ []) ∷ [], refl) }), refl);
  log_line = λ now step. nil_cons step.0.1.next.1;
  other_generation = λ text now fits. saved_by (restarting a ∷ []) (λ state. Unit {0}) (record (stands (held_a 0 None) state_back (Some taken_a)) { set = held_a 1 None }) text now (gen 2 ∷ []) (λ set. set ≡ held_a 2 None) refl refl
      (λ set puts. absurd (one_zero (last_held (generations_in (held_a 1 None))) (last_held (generations_in (held_a 0 None))) (ap last_held (generation_is puts.attempt (held_a 0 None) (generations_in (held_a 1 None)) puts.in_attempt puts.kept)) refl refl)) fits;
  uncommitted = λ plan text now fits. saved_by only_a (IsAsked only_a commits (event.Started plan ∷ state_back)) (stands (held_a 0 None) state_back (Some taken_a)) text now (gen 0 ∷ []) (λ set. set ≡ held_a 0 None) refl refl
      (λ set puts. absurd (let beside : IsCovered only_a (event.Started plan ∷ state_back) taken_a = subst (IsCovered only_a (event.Started plan ∷ state_back)) (sym (some_is puts.owed)) puts.beside in none_committed plan (record { seq = 0; content = record { id = a; body = []; emitted_at = 1; meta = None } }) (beside.0 refl))) fits;
  other_kind = λ text now fits. saved_by only_a (λ state. Unit {0}) (stands (held_a 0 (Some (2 ∷ []))) [] (Some taken_all)) text now (gen 0 ∷ []) (λ set. set ≡ held_a 0 (Some (2 ∷ []))) refl refl
      (λ set puts. absurd (false≢true (is_put_of (put_into taken_all.state (held_a 0 (Some (2 ∷ [])))) set (put_of (held_a 0 (Some (2 ∷ []))) set puts.state taken_all puts.owed puts.put)))) fits;
  keeps_b = λ text now fits. saved_by both_streams (λ state. Unit {0}) (stands (held_both None (Some (7 ∷ []))) state_back (Some taken_a)) text now (gen 0 ∷ gen 0 ∷ []) (λ set. state_of set.entries b ≡ Some (7 ∷ [])) refl refl
      (λ set puts. subst (λ (it : Saved). state_of it.entries b ≡ Some (7 ∷ [])) (put_is (put_into taken_a.state (held_both None (Some (7 ∷ [])))) set (put_of (held_both None (Some (7 ∷ []))) set puts.state taken_a puts.owed puts.put)) refl) fits;
  goes_on = (record { saved = refl; gens = gen 0 ∷ []; begins = record { gens_are = refl; is = refl }; catalog = catalog_is; states = refl }, refl);
  without_states = λ now step. false≢true (sym (ap (bytes_eq (91 ∷ 2 ∷ 93 ∷ [])) (sym step.0.states)));
  not_begun = λ now step. false≢true step.0.saved;
  first_begin = record { set = held_a 0 None; text_is = refl; by = inl (gen 0 ∷ [], record { gens_are = refl; is = refl }); is = refl };
  spent = λ text now fits. spent_by fits.set fits.by;
  keeps_outside = λ text now fits. saved_by only_a (λ state. Unit {0}) (stands (held_both None (Some (7 ∷ []))) [] None) text now (gen 0 ∷ []) (λ set. set ≡ held_both None (Some (7 ∷ []))) refl refl (λ set puts. absurd (none_some puts.owed)) fits;
  put_for_all = record {
    set = held_all (4 ∷ []);
    text_is = refl;
    by = inr (record { attempt = record { start = held_a 0 None; events = event.ReadLine (4 ∷ []) ∷ [] }; in_attempt = refl; state = taken_all; owed = refl; passed_on = (0, omega arith, refl); kept = refl; put = refl; beside = tt });
    is = refl;
  };
  old_state = λ now step. ap (λ (it : Sync). it.owed) step.1.is ∙ none_taken [] none_given refl refl step.1.owed step.1.takes;
  back_twice = λ now step. ap (λ (it : Sync). it.owed) step.1.is ∙ none_taken state_back (record { given = second_given.given; states = [] }) taken_leaves refl step.1.owed step.1.takes;
  committed = λ row is. record {
    set = held_a 0 (Some (2 ∷ []));
    text_is = refl;
    by = inr (record { attempt = record { start = held_a 0 None; events = state_back }; in_attempt = refl; state = taken_a; owed = refl; passed_on = (0, omega arith, refl); kept = refl; put = refl; beside = (λ covers_it. row_stands row is, tt) });
    is = refl;
  };
}

one_less : 1 < 1 → ⊥
one_less h = omega (arith, h)

two_one : (m n : ℕ) → m ≡ n → m ≡ 2 → n ≡ 1 → ⊥
two_one m n same two_is one_is = omega (arith, same, two_is, one_is)

three_two : 3 ≤ 2 → ⊥
three_two h = omega (arith, h)

none_less : 0 < 0 → ⊥
none_less h = omega (arith, h)

-- the set with the state, and behind the beginning of the second attempt
abbrev put_a : Sync
put_a = record { set = held_a 0 (Some (2 ∷ [])); previous = held_a 0 None; is_begun = true; owed = None; attempt = Some (record { start = held_a 0 None; events = state_back ++ saved_a (Some (2 ∷ [])) ∷ [] }) }

abbrev begun_again_a : Sync
begun_again_a = record { set = held_a 0 (Some (2 ∷ [])); previous = held_a 0 (Some (2 ∷ [])); is_begun = true; owed = None; attempt = Some (record { start = held_a 0 None; events = first_attempt ++ saved_a (Some (2 ∷ [])) ∷ [] }) }

-- in the first attempt
abbrev first_at : List Event → Option LaneState → Sync
first_at events owed = record { set = held_a 0 None; previous = nothing_saved; is_begun = false; owed = owed; attempt = Some (record { start = held_a 0 None; events = events }) }

pub calls_as_worked : CallsAsWorked
calls_as_worked = record {
  two = (
    record { set = held_a 0 None; previous = nothing_saved; is_begun = true; owed = None; attempt = None },
    record { set = held_a 0 None; text_is = refl; by = inl (gen 0 ∷ [], record { gens_are = refl; is = refl }); is = refl },
    (gen 0 ∷ [], record { gens_are = refl; is = refl }),
    (
      first_at [] None,
      (record { saved = refl; gens = gen 0 ∷ []; begins = record { gens_are = refl; is = refl }; catalog = catalog_is; states = refl }, refl),
      record { counts = refl; rises = omega arith; within = omega arith; job_is = refl; store_is = refl; none_owed = refl },
      (
        first_at (event.ReadLine (1 ∷ []) ∷ []) None,
        ((refl, refl), refl),
        omega arith,
        (
          first_at (event.ReadLine (1 ∷ []) ∷ event.ReadLine (2 ∷ []) ∷ []) None,
          ((refl, refl), refl),
          omega arith,
          (
            first_at (event.ReadLine (1 ∷ []) ∷ event.ReadLine (2 ∷ []) ∷ event.Given (1 ∷ []) ∷ []) None,
            ((refl, record { input_open = refl; unbroken = (refl, (refl, tt)); next = ((2 ∷ []) ∷ [], refl) }), refl),
            omega arith,
            (
              first_at (event.ReadLine (1 ∷ []) ∷ event.ReadLine (2 ∷ []) ∷ event.Given (1 ∷ []) ∷ event.Given (2 ∷ []) ∷ []) None,
              ((refl, record { input_open = refl; unbroken = (refl, (refl, tt)); next = ([], refl) }), refl),
              omega arith,
              (
                first_at state_back (Some taken_a),
                (refl, record { going = refl; none_owed = refl; owed = Some taken_a; takes = (back, refl, takes_a); is = refl }),
                omega arith,
                (
                  put_a,
                  record {
                    set = held_a 0 (Some (2 ∷ []));
                    text_is = refl;
                    by = inr (record { attempt = record { start = held_a 0 None; events = state_back }; in_attempt = refl; state = taken_a; owed = refl; passed_on = (0, omega arith, refl); kept = refl; put = refl; beside = tt });
                    is = refl;
                  },
                  (taken_a, refl, refl),
                  (
                    record put_a { attempt = Some (record { start = held_a 0 None; events = first_attempt }) },
                    ((refl, inl ([], refl)), refl),
                    omega arith,
                    (
                      begun_again_a,
                      record { set = held_a 0 (Some (2 ∷ [])); text_is = refl; by = inl (gen 0 ∷ [], record { gens_are = refl; is = refl }); is = refl },
                      (gen 0 ∷ [], record { gens_are = refl; is = refl }),
                      (
                        stands (held_a 0 (Some (2 ∷ []))) [] None,
                        (record { saved = refl; gens = gen 0 ∷ []; begins = record { gens_are = refl; is = refl }; catalog = catalog_is; states = refl }, refl),
                        record { counts = refl; rises = omega arith; within = omega arith; job_is = refl; store_is = refl; none_owed = refl },
                        refl,
                      ),
                    ),
                  ),
                ),
              ),
            ),
          ),
        ),
      ),
    ),
  );
  owed_is_put = λ text now step. sym (put_is (put_into taken_a.state (held_a 0 None)) now.set (put_of (held_a 0 None) now.set step.0 taken_a step.1 step.2));
  old_is_left = λ text now step. begun_is only_a (held_a 0 None) now.set step.0 (gen 0 ∷ []) refl step.1;
  owed_first = λ plan now step. some_none step.none_owed;
  second = record { counts = refl; rises = omega arith; within = omega arith; job_is = refl; store_is = refl; none_owed = refl };
  anew = λ now step. one_less step.rises;
  one_more = λ now step. two_one 2 1 step.counts refl refl;
  beyond = λ now step. three_two step.within;
  older = λ now step. none_less step;
}
